use Rattle.std.proofs.Common.{◌≡◌, take, filter}
use Rattle.probe_family.specs.Choices.{parts_of}
use Rattle.probe_family.specs.Families.{takes_some}
use Rattle.probe_family.proofs.choice.copy_taking.Given as goal

abbrev pub invariant-loop-choice : goal.invariant-loop-choice
invariant-loop-choice l = l.parts.items ≡ filter takes_some (parts_of (take l.choice-index l.choices))
