use Rattle.std.proofs.Common.{sym, ◌∙◌, refl}
use Rattle.std.proofs.lemmas.Bool.{false_from_ne_true}
use Rattle.probe_family.specs.Least.{least_of}
use Rattle.extend_set.specs.Hull.{is_provable_within}
use Rattle.extend_set.proofs.Hulls.{hull_some, hull_none}
use Rattle.extend_set.proofs.laws.hull_is_there.Goals as goal

pub returns : goal.returns
returns c x family = (
  λ none. false_from_ne_true (is_provable_within x family.bound (least_of family)) (λ begins. let e = sym none ∙ hull_some x family _ (record { begins = begins; grows = refl }) in cc),
  hull_none x family,
)
