use Rattle.std.proofs.Common.{◌≡◌, ◌∙◌, ◌&&◌, Bool, true, false, not, ap, refl}
use Rattle.std.proofs.lemmas.List.Elements.{All-from_recursion}
use Rattle.probe_family.specs.Families.{is_tuple_of}
use Rattle.probe_family.proofs.Bits.{one_if}
use Rattle.family_split.specs.Children.{children_of}
use Rattle.family_split.proofs.Partition.{count_children, children_have}
use Rattle.family_split.proofs.laws.each_tuple_in_hull_or_one_child.Goals as goal

not_both : (a : Bool) → one_if (a && false) ≡ 0
not_both true = refl
not_both false = refl

pub returns-clause-inside : goal.returns-clause-inside
returns-clause-inside c n family hull tuple is inside =
    count_children hull tuple n family is ∙ (ap (λ b. one_if (is_tuple_of family tuple && not b)) inside ∙ not_both (is_tuple_of family tuple))

pub returns-clause-outside : goal.returns-clause-outside
returns-clause-outside c n family hull tuple is has outside =
    count_children hull tuple n family is ∙ (ap (λ b. one_if (is_tuple_of family tuple && not b)) outside ∙ ap (λ b. one_if (b && true)) has)

pub returns-clause-no_other : goal.returns-clause-no_other
returns-clause-no_other c n family hull tuple is =
    All-from_recursion (λ child. is_tuple_of child tuple ≡ true → is_tuple_of family tuple ≡ true) (children_of family hull) (children_have n family hull tuple is)
