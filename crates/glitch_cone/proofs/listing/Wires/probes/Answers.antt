use Rattle.std.proofs.Common.{◌+◌, ◌==◌, refl}
use Rattle.glitch_cone.specs.Wires.{cycle_probes}
use Rattle.glitch_cone.proofs.Placed.{parts_more}
use Rattle.glitch_cone.proofs.listing.Wires.probes.Goals as goal

pub loop-cycle-preserved : goal.loop-cycle-preserved
loop-cycle-preserved c =
    parts_more (λ k. cycle_probes c.args.self.now c.args.nets.now k (k + 1 == c.args.cycles)) c.loop-cycle.list.items c.list_cycle.new.list.items c.loop-cycle.cycle (c.loop-cycle.cycle + 1) refl
    c.in_ok-list_cycle.ensures c.loop-cycle.invariant
