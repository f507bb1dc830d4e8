use Rattle.std.proofs.Common.{◌≡◌, map, take}
use Rattle.family_split.specs.Sides.{sides_of}
use Rattle.family_split.proofs.sides.all_sides.Given as goal

abbrev pub invariant-loop-part : goal.invariant-loop-part
invariant-loop-part l = l.sides.items ≡ map (sides_of l.hull) (take l.part-index l.parts)
