use Rattle.std.proofs.Common.{◌≡◌, take, true}
use Rattle.std.specs.List.{list_all}
use Rattle.probe_family.specs.Choices.{parts_of}
use Rattle.probe_family.specs.Families.{has_enough}
use Rattle.probe_family.proofs.choice.have_enough.Given as goal

abbrev pub invariant-loop-choice : goal.invariant-loop-choice
invariant-loop-choice l = list_all has_enough (parts_of (take l.choice-index l.choices)) ≡ true
