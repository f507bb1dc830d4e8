use Rattle.rtlil_tree.proofs.Joins.{sliced_into, sliced_deep}
use Rattle.rtlil_tree.proofs.signals.sliced.Goals as goal

pub returns-then-depth-nesting-ge-MOST_NESTING : goal.returns-then-depth-nesting-ge-MOST_NESTING
returns-then-depth-nesting-ge-MOST_NESTING c =
    sliced_deep c.args.signals.now.items _ c.in-Some.of c.args.depth c.args.high c.args.low c.in-Some.ensures.items (rw c.nesting.ensures at c.if-depth-nesting-ge-MOST_NESTING.true)

pub returns : goal.returns
returns c =
    sliced_into c.args.signals.now.items c.pop.new.self.items c.push.new.self.items c.in-Some.of c.in_ok-of.of c.args.depth c.args.high c.args.low c.in-Some.ensures.items
    (rw c.nesting.ensures at c.if-depth-nesting-ge-MOST_NESTING.false) c.in_ok-of.ensures c.in_ok-push.ensures.items
