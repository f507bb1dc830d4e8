-- What the search cites of hulls: a hull holds the least tuple and serves each tuple inside it.
use Rattle.std.proofs.Common.{◌≡◌, ◌∙◌, ℕ, Bool, true, false, List, length, refl, sym, None, Some}
use Rattle.std.proofs.lemmas.Bool.{false_from_ne_true}
use Rattle.std.specs.List.{list_all}
use Rattle.bit_rows.specs.Sets.{is_in}
use Rattle.expr_table.specs.declared.instance.Instance.{Instance}
use Rattle.expr_table.specs.Instance.{IsFitting}
use Rattle.expr_table.specs.Table.{IsTable}
use Rattle.probe_family.specs.declared.family.Family.{Family}
use Rattle.probe_family.specs.Families.{IsFamily}
use Rattle.probe_family.specs.Least.{least_of}
use Rattle.family_split.specs.Children.{HasInside}
use Rattle.extend_set.specs.Hull.{grown, hull_of, is_provable_set, is_provable_within, numbers_of, set_with}
use Rattle.extend_set.proofs.Hulls.{hull_is, hull_some, inside_provable, least_inside, hull_length as greedy_length, hull_least as greedy_least}

module _ (x : Instance) (family : Family) where
  -- without a hull the least tuple is not provable
  pub no_hull : hull_of x family ≡ None → is_provable_within x family.bound (least_of family) ≡ false
  no_hull none =
      false_from_ne_true (is_provable_within x family.bound (least_of family)) (λ begins. let e = sym none ∙ hull_some x family _ (record { begins = begins; grows = refl }) in cc)

  pub hull_provable : (hull : List Bool) → hull_of x family ≡ Some hull → is_provable_within x family.bound (least_of family) ≡ true
  hull_provable hull found = (hull_is x family hull found).begins

  -- with it there is a hull
  pub hull_there : is_provable_within x family.bound (least_of family) ≡ true → (hull : List Bool) × (hull_of x family ≡ Some hull)
  hull_there provable =
      let hull = grown (is_provable_set x family.bound) (set_with (length x.probes) (least_of family)) (numbers_of (length x.probes) family.parts) in
      (hull, hull_some x family hull (record { begins = provable; grows = refl }))

  pub hull_length : (hull : List Bool) → hull_of x family ≡ Some hull → length hull ≡ length x.probes
  hull_length hull found = greedy_length x family hull (hull_is x family hull found)

  module _ (is : IsFamily (length x.probes) family) (hull : List Bool) (found : hull_of x family ≡ Some hull) where
    -- the least tuple lies inside
    pub hull_least : list_all (is_in hull) (least_of family) ≡ true
    hull_least = greedy_least x family hull (hull_is x family hull found) is

    pub hull_inside : HasInside hull family
    hull_inside = least_inside (length x.probes) family is hull hull_least

    -- what is provable together is provable in part
    pub hull_serves : (tuple : List ℕ) → IsTable x.table → IsFitting x → list_all (is_in hull) tuple ≡ true → is_provable_within x family.bound tuple ≡ true
    hull_serves tuple table fitting lies = inside_provable x family hull (hull_is x family hull found) is table fitting tuple lies
