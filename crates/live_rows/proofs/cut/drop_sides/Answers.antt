use Rattle.live_rows.proofs.Dropping.{loses_on}
use Rattle.live_rows.proofs.cut.drop_sides.Goals as goal

pub returns-then-a-b-clause-loses : goal.returns-then-a-b-clause-loses
returns-then-a-b-clause-loses c =
    loses_on c.args.marks.now c.drop_parent.new.marks c.drop_parent-then-a-b.new.marks c.args.alone.now.numbers c.drop_parent.new.alone.numbers c.drop_parent-then-a-b.new.alone.numbers
    c.drop_parent.ensures.loses c.drop_parent-then-a-b.ensures.loses
