use Rattle.std.proofs.Common.{◌≡◌, ◌-◌}
use Rattle.std.specs.List.{flat_map, range_with_len}
use Rattle.probe_family.specs.Roots.{roots_of_size}
use Rattle.probe_family.proofs.root_families.roots.Given as goal

abbrev pub invariant-loop-size : goal.invariant-loop-size
invariant-loop-size l = l.roots.items ≡ flat_map (roots_of_size l.instance.notion l.sets) (range_with_len 1 (l.size - 1))
