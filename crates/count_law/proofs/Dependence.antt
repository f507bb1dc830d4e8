-- To depend on a set of leaves: on an empty one, and on what a simulator knows.
use Rattle.std.proofs.Common.{◌≡◌, ◌↔◌, ℕ, zero, suc, ◌+◌, ◌<◌, ◌≤◌, Bool, true, false, cond, not, ◌&&◌, ◌||◌, List, ◌∷◌, length, map, Option, None, Some, refl, sym, ap, ◌∙◌, arith, true≢false, ⊎_elim}
use Rattle.std.specs.List.{range_with_len}
use Rattle.std.specs.Option.{is_some}
use Rattle.std.proofs.lemmas.Bool.{cases_lt, cond-true, and_from, or_cases, or_left, or_right, eq-eqb, not-true}
use Rattle.std.proofs.lemmas.List.{get_or_past}
use Rattle.std.proofs.lemmas.List.FromFn.{get_or-map-range_with_len}
use Rattle.expr_table.specs.Values.{bit}
use Rattle.once_random.specs.Groups.{is_group, is_in_group, group_at}
use Rattle.once_random.proofs.Facts.{count_some}
use Rattle.count_law.specs.Simulation.{members_in, SamePublics, SameOn, DependsOn, IsSimulatable, IsIndependent, known_inputs}

-- a leaf with a group is one of those that have an entry
pub grouped-below : (groups : List (Option ℕ)) (i : ℕ) → is_some (group_at groups i) ≡ true → i < length groups
grouped-below groups i some =
    ⊎_elim (λ l. l) (λ le. absurd (true≢false (sym some ∙ ap is_some (get_or_past groups i None le)))) (cases_lt i (length groups))

in_its_group : (groups : List (Option ℕ)) (i g : ℕ) → group_at groups i ≡ Some g → is_in_group groups g i ≡ true
in_its_group groups i g is = ap (is_group g) is ∙ eq-eqb g g refl

-- a set with no leaf of any group is empty
pub no_leaf-independent : (groups : List (Option ℕ)) (count : List Bool → List Bool → ℕ) (set : ℕ → Bool) → IsSimulatable groups count set 0 → IsIndependent groups count
no_leaf-independent groups count set s inputs others o publics = s.depends_on_it inputs others o (λ i t. absurd (none i t (group_at groups i) refl)) publics
  where
    none : (i : ℕ) → set i ≡ true → (g : Option ℕ) → group_at groups i ≡ g → ⊥
    none i t None is = true≢false (sym (s.each_in_a_group i t) ∙ ap is_some is)
    none i t (Some g) is =
        let lt = grouped-below groups i (s.each_in_a_group i t) in
        let some : 1 ≤ members_in groups set g =
        count_some (λ j. is_in_group groups g j && set j) (length groups) i lt (and_from (is_in_group groups g i) (set i) (in_its_group groups i g is) t) in
        let few = s.few_of_each g in
        omega arith

-- what a simulator takes for the inputs
module _ (groups : List (Option ℕ)) (count : List Bool → List Bool → ℕ) (set : ℕ → Bool) (grouped : (i : ℕ) → set i ≡ true → is_some (group_at groups i) ≡ true) where
  abbrev is_known : ℕ → Bool
  is_known i = set i || not (is_some (group_at groups i))

  known-at : (inputs : List Bool) (i : ℕ) → i < length groups → is_known i ≡ true → bit inputs i ≡ bit (known_inputs groups set inputs) i
  known-at inputs i lt known =
      sym (get_or-map-range_with_len (λ j. cond (is_known j) (bit inputs j) false) 0 (length groups) i i false lt (omega arith) ∙ cond-true (is_known i) _ _ known)

  where_known : (b x y : Bool) → (b ≡ true → x ≡ y) → cond b x false ≡ cond b y false
  where_known true x y h = h refl
  where_known false x y h = refl

  same_range : (f g : ℕ → Bool) (a n : ℕ) → ((i : ℕ) → i < a + n → f i ≡ g i) → map f (range_with_len a n) ≡ map g (range_with_len a n)
  same_range f g a zero h = refl
  same_range f g a (suc n) h =
      let here : f a ≡ g a = h a (omega arith) in
      let rest = same_range f g (a + 1) n (λ i lt. h i (omega arith)) in
      λ i. here i ∷ rest i

  same_known : (inputs others : List Bool) → SameOn set inputs others → SamePublics groups inputs others → known_inputs groups set inputs ≡ known_inputs groups set others
  same_known inputs others on_set publics =
      same_range (λ i. cond (is_known i) (bit inputs i) false) (λ i. cond (is_known i) (bit others i) false) 0 (length groups) (λ i lt.
      where_known (is_known i) (bit inputs i) (bit others i) (λ known.
      ⊎_elim (λ t. on_set i t) (λ t. publics i (omega arith) (not-true _ t)) (or_cases (set i) (not (is_some (group_at groups i))) known)))

  pub simulator : DependsOn groups count set ↔ ((inputs o : List Bool) → count inputs o ≡ count (known_inputs groups set inputs) o)
  simulator = (
    λ depends inputs o. depends inputs (known_inputs groups set inputs) o
        (λ i t. known-at inputs i (grouped-below groups i (grouped i t)) (or_left (set i) _ t))
        (λ i lt none. known-at inputs i lt (or_right (set i) _ (ap not none))),
    λ same inputs others o on_set publics.
        same inputs o ∙ ap (λ l. count l o) (same_known inputs others on_set publics) ∙ sym (same others o),
  )
