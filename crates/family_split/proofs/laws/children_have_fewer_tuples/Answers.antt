use Rattle.std.proofs.Common.{◌<◌}
use Rattle.std.proofs.lemmas.List.Elements.{All-from_recursion}
use Rattle.probe_family.specs.Families.{weight_of}
use Rattle.family_split.specs.Children.{children_of}
use Rattle.family_split.proofs.Fewer.{children_are_lighter}
use Rattle.family_split.proofs.laws.children_have_fewer_tuples.Goals as goal

pub returns : goal.returns
returns c n family hull is inside = All-from_recursion (λ child. weight_of n child < weight_of n family) (children_of family hull) (children_are_lighter n family hull is inside)
