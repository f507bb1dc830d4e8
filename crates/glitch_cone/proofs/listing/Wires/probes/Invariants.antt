use Rattle.std.proofs.Common.{◌≡◌, ◌+◌, ◌==◌}
use Rattle.std.specs.List.{flat_map, range_with_len}
use Rattle.glitch_cone.specs.Wires.{cycle_probes}
use Rattle.glitch_cone.proofs.listing.Wires.probes.Given as goal

abbrev pub invariant-loop-cycle : goal.invariant-loop-cycle
invariant-loop-cycle l = l.list.items ≡ flat_map (λ c. cycle_probes l.self l.nets c (c + 1 == l.cycles)) (range_with_len 0 l.cycle)
