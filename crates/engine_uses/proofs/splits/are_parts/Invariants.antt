use Rattle.std.proofs.Common.{take}
use Rattle.std.specs.Prelude.{All}
use Rattle.probe_family.specs.Families.{IsPart}
use Rattle.engine_uses.specs.declared.splits.TheConstants.{PROBES}
use Rattle.engine_uses.proofs.splits.are_parts.Given as goal

abbrev pub invariant-loop-part : goal.invariant-loop-part
invariant-loop-part l = All (IsPart PROBES) (take l.part-index l.parts)
