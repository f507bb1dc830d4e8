use Rattle.std.proofs.Common.{[], ◌∷◌, arith}
use Rattle.gadget_maker.specs.Gadget.{row_of_pairs, pairs}
use Rattle.gadget_maker.proofs.Counting.{each_next, each_done}
use Rattle.gadget_maker.proofs.pairs.pairs.Goals as goal

pub loop-first-preserved : goal.loop-first-preserved
loop-first-preserved c =
    each_next (row_of_pairs c.args.shares) [] c.loop-first.pairs.items c.push_row.new.pairs.items c.loop-first.first c.loop-first.invariant c.in_ok-push_row.ensures

pub returns : goal.returns
unfolding pairs
returns c = each_done (row_of_pairs c.args.shares) [] c.loop-first.pairs.items c.loop-first.first c.args.shares (omega arith) c.loop-first.invariant
