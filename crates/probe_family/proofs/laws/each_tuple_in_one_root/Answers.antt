use Rattle.std.proofs.Common.{◌≡◌, true}
use Rattle.std.proofs.lemmas.List.Elements.{All-from_recursion}
use Rattle.once_random.specs.Tuples.{bound_of}
use Rattle.tuple_rank.specs.Tuples.{IsTuple}
use Rattle.probe_family.specs.declared.family.Family.{Family}
use Rattle.probe_family.specs.Families.{is_tuple_of}
use Rattle.probe_family.specs.Roots.{roots_of}
use Rattle.probe_family.proofs.RootTuples.{in_one_root, each_bound, each_tuple, of_probes}
use Rattle.probe_family.proofs.laws.each_tuple_in_one_root.Goals as goal

pub returns-clause-one : goal.returns-clause-one
returns-clause-one c x t tuple is = in_one_root x t tuple is

pub returns-clause-bound : goal.returns-clause-bound
returns-clause-bound c x t tuple = All-from_recursion (λ (f : Family). is_tuple_of f tuple ≡ true → f.bound ≡ bound_of x tuple) (roots_of x t) (each_bound x tuple t)

pub returns-clause-no_other : goal.returns-clause-no_other
returns-clause-no_other c x t tuple small = All-from_recursion (λ f. is_tuple_of f tuple ≡ true → IsTuple (of_probes x) t tuple) (roots_of x t) (each_tuple x t tuple small)
