use Rattle.std.proofs.Common.{◌+◌, refl}
use Rattle.glitch_cone.specs.Wires.{probe_of}
use Rattle.glitch_cone.proofs.Placed.{filled_more}
use Rattle.glitch_cone.proofs.listing.Wires.list_cycle.Goals as goal

pub loop-number-preserved : goal.loop-number-preserved
loop-number-preserved c =
    filled_more (probe_of c.args.self.now c.args.nets.now c.args.cycle c.args.is_last) _ c.loop-number.list.items c.push.new.self.items c.loop-number.number (c.loop-number.number + 1) c.in_ok-probe.field-0 refl
    c.in_ok-probe.ensures c.in_ok-push.ensures.items c.loop-number.invariant
