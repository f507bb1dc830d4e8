use Rattle.std.proofs.Common.{◌≡◌, ◌++◌, map}
use Rattle.std.specs.List.{range_with_len}
use Rattle.glitch_cone.specs.Wires.{probe_of}
use Rattle.glitch_cone.proofs.listing.Wires.list_cycle.Given as goal

abbrev pub invariant-loop-number : goal.invariant-loop-number
invariant-loop-number l = l.list.items ≡ l.initial.list.items ++ map (probe_of l.self l.nets l.cycle l.is_last) (range_with_len 0 l.number)
