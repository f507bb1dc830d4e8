use Rattle.std.proofs.Common.{◌≡◌, ◌++◌, take}
use Rattle.std.specs.List.{slice_get}
use Rattle.bit_rows.specs.Sets.{members}
use Rattle.probe_family.proofs.family.add_least.Given as goal

abbrev pub invariant-loop-taken : goal.invariant-loop-taken
invariant-loop-taken l = record {
  taken : l.tuple.items ≡ l.initial.tuple.items ++ take l._taken (members l.part.set);
  next : l.next ≡ slice_get (members l.part.set) l._taken;
}
