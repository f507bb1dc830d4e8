use Rattle.std.proofs.Common.{◌≡◌, ◌++◌, length}
use Rattle.std.specs.List.{flat_map}
use Rattle.family_split.specs.Children.{child_of}
use Rattle.family_split.specs.Later.{AreInside, later, takes_of}
use Rattle.family_split.proofs.split.children.Given as goal

abbrev pub invariant-loop-parts : goal.invariant-loop-parts
invariant-loop-parts l = record {
  inside : AreInside l.parts l.numbers;
  so_far : l.children.items ++ flat_map (child_of l.family l.hull) (later l.parts l.numbers) ≡ flat_map (child_of l.family l.hull) (later l.parts (takes_of l.parts));
}

abbrev pub decreases-loop-parts : goal.decreases-loop-parts
decreases-loop-parts l = length (later l.parts l.numbers)
