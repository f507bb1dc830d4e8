use Rattle.std.proofs.Common.{[], ◌∷◌, arith}
use Rattle.gadget_maker.specs.Gadget.{pair}
use Rattle.gadget_maker.proofs.Counting.{each_next, each_done}
use Rattle.gadget_maker.proofs.pairs.push_row.Goals as goal

pub loop-second-preserved : goal.loop-second-preserved
loop-second-preserved c =
    each_next (λ j. pair c.args.first j ∷ []) c.args.pairs.now.items c.loop-second.pairs.items c.push.new.self.items c.loop-second.second c.loop-second.invariant c.in_ok-push.ensures.items

pub returns : goal.returns
returns c = each_done (λ j. pair c.args.first j ∷ []) c.args.pairs.now.items c.loop-second.pairs.items c.loop-second.second c.args.shares (omega arith) c.loop-second.invariant
