use Rattle.std.proofs.Common.{◌≡◌, take}
use Rattle.probe_family.specs.Choices.{parts_of}
use Rattle.family_split.specs.Sides.{split_sides}
use Rattle.family_split.proofs.sides.choose.Given as goal

abbrev pub invariant-loop-i : goal.invariant-loop-i
invariant-loop-i l = parts_of l.choices.items ≡ split_sides (take l.i l.sides) (take l.i l.numbers)
