use Rattle.std.proofs.Common.{◌≤◌}
use Rattle.std.proofs.lemmas.List.Elements.{All-from_recursion}
use Rattle.probe_family.specs.declared.family.Family.{Family}
use Rattle.probe_family.specs.Roots.{roots_of}
use Rattle.probe_family.proofs.RootTuples.{each_size}
use Rattle.probe_family.proofs.laws.roots_are_small.Goals as goal

pub returns : goal.returns
returns c x t = All-from_recursion (λ (root : Family). root.size ≤ t) (roots_of x t) (each_size x t)
