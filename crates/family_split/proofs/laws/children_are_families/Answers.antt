use Rattle.std.proofs.Common.{◌≡◌}
use Rattle.std.proofs.lemmas.List.Elements.{All-from_recursion, All-weaker}
use Rattle.probe_family.specs.declared.family.Family.{Family}
use Rattle.probe_family.specs.Families.{IsFamily}
use Rattle.family_split.specs.Children.{children_of}
use Rattle.family_split.proofs.Partition.{children_are, children_are_like, IsLike}
use Rattle.family_split.proofs.laws.children_are_families.Goals as goal

pub returns-clause-families : goal.returns-clause-families
returns-clause-families c n family hull is = All-from_recursion (IsFamily n) (children_of family hull) (children_are n family hull is)

pub returns-clause-size : goal.returns-clause-size
returns-clause-size c family hull =
    All-weaker (IsLike family) (λ (child : Family). child.size ≡ family.size) (λ child like. like.0) (children_of family hull) (All-from_recursion (IsLike family) (children_of family hull) (children_are_like family hull))

pub returns-clause-bound : goal.returns-clause-bound
returns-clause-bound c family hull =
    All-weaker (IsLike family) (λ (child : Family). child.bound ≡ family.bound) (λ child like. like.1) (children_of family hull) (All-from_recursion (IsLike family) (children_of family hull) (children_are_like family hull))
