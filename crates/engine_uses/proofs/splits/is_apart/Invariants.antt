use Rattle.std.proofs.Common.{take}
use Rattle.std.specs.Prelude.{All}
use Rattle.probe_family.specs.Families.{AreDisjoint}
use Rattle.engine_uses.proofs.splits.is_apart.Given as goal

abbrev pub invariant-loop-other : goal.invariant-loop-other
invariant-loop-other l = All (AreDisjoint l.part) (take l.other-index l.others)
