use Rattle.std.proofs.Common.{[], ◌∷◌, arith}
use Rattle.gadget_maker.specs.Gadget.{crossings_at}
use Rattle.gadget_maker.proofs.Counting.{each_next, each_done}
use Rattle.gadget_maker.proofs.pairs.push_crossings.Goals as goal

pub loop-second-preserved : goal.loop-second-preserved
loop-second-preserved c =
    each_next (crossings_at c.args.shares c.args.first) c.args.crossings.now.items c.loop-second.crossings.items c.push_crossing.new.crossings.items c.loop-second.second c.loop-second.invariant c.in_ok-push_crossing.ensures

pub returns : goal.returns
returns c = each_done (crossings_at c.args.shares c.args.first) c.args.crossings.now.items c.loop-second.crossings.items c.loop-second.second c.args.shares (omega arith) c.loop-second.invariant
