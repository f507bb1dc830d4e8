use Rattle.std.proofs.Common.{◌≡◌, ◌+◌, ◌≤◌, length, take, drop}
use Rattle.std.specs.List.{flat_map}
use Rattle.probe_family.specs.Families.{total_take}
use Rattle.probe_family.specs.Least.{least_of_part}
use Rattle.probe_family.proofs.family.Family.least.Given as goal

abbrev pub invariant-loop-part : goal.invariant-loop-part
invariant-loop-part l = record {
  taken : l.tuple.items ≡ flat_map least_of_part (take l.part-index l.part-items);
  room : length l.tuple.items + total_take (drop l.part-index l.part-items) ≤ 8;
}
