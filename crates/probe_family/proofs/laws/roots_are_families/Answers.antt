use Rattle.std.proofs.lemmas.List.Elements.{All-from_recursion}
use Rattle.probe_family.specs.Families.{IsFamily}
use Rattle.probe_family.specs.Roots.{roots_of}
use Rattle.probe_family.proofs.RootTuples.{each_root, of_probes}
use Rattle.probe_family.proofs.laws.roots_are_families.Goals as goal

pub returns : goal.returns
returns c x t small = All-from_recursion (IsFamily (of_probes x)) (roots_of x t) (each_root x t small)
