use Rattle.std.proofs.Common.{◌≡◌, ℕ, ◌<◌, get_or}
use Rattle.probe_family.specs.declared.part.Part.{Part}
use Rattle.probe_family.proofs.part.are_same.Given as goal

abbrev pub invariant-loop-i : goal.invariant-loop-i
invariant-loop-i l = (k : ℕ) (d : Part) → k < l.i → get_or l.parts k d ≡ get_or l.others k d
