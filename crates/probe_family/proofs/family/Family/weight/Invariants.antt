use Rattle.std.proofs.Common.{◌≡◌, take}
use Rattle.probe_family.proofs.Weights.{ways}
use Rattle.probe_family.proofs.family.Family.weight.Given as goal

abbrev pub invariant-loop-part : goal.invariant-loop-part
invariant-loop-part l = l.weight ≡ ways (take l.part-index l.part-items) 0
