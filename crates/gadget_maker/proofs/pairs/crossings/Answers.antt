use Rattle.std.proofs.Common.{[], ◌∷◌, arith}
use Rattle.gadget_maker.specs.Gadget.{row_of_crossings, crossings}
use Rattle.gadget_maker.proofs.Counting.{each_next, each_done}
use Rattle.gadget_maker.proofs.pairs.crossings.Goals as goal

pub loop-first-preserved : goal.loop-first-preserved
loop-first-preserved c =
    each_next (row_of_crossings c.args.shares) [] c.loop-first.crossings.items c.push_crossings.new.crossings.items c.loop-first.first c.loop-first.invariant c.in_ok-push_crossings.ensures

pub returns : goal.returns
unfolding crossings
returns c = each_done (row_of_crossings c.args.shares) [] c.loop-first.crossings.items c.loop-first.first c.args.shares (omega arith) c.loop-first.invariant
