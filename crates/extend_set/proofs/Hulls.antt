-- Hulls, and when sets of probes are provable.
use Rattle.std.proofs.Common.{◌≡◌, ◌↔◌, ℕ, zero, suc, ◌+◌, ◌<◌, ◌≤◌, Bool, true, false, cond, ◌&&◌, ◌==◌, List, [], ◌∷◌, length, slice_set, All, count_by, refl, sym, ap, ◌∙◌, arith, Some, None, ⊎_elim, true≢false}
use Rattle.std.proofs.lemmas.Bool.{cases_Bool, cases_lt, false_from_ne_true, cond-true, cond-false, and_parts, and_from, or_cases, or_left, or_right, eq-eqb, eqb-true}
use Rattle.std.proofs.lemmas.Option.{same_Some}
use Rattle.std.specs.List.{list_all, range_with_len, AllByRecursion}
use Rattle.std.proofs.lemmas.List.Elements.{All-from_recursion}
use Rattle.bit_rows.specs.Sets.{is_in, members, members_below, meet}
use Rattle.bit_rows.proofs.Facts.{is_in-below, is_in-meet, length-set_of, members_below-in, members-are_in, is_subset-each}
use Rattle.expr_table.specs.declared.instance.Instance.{Instance}
use Rattle.expr_table.specs.Instance.{IsFitting}
use Rattle.expr_table.specs.Table.{IsTable, has}
use Rattle.once_random.specs.Live.{AreAmong}
use Rattle.once_random.specs.Provable.{IsProvable}
use Rattle.once_random.specs.Tuples.{roots_of}
use Rattle.once_random.proofs.Facts.{same_tests, has-append_left, has-append_right, roots_among, roots_are_rows, provable-among, provable-same_rows, least_chain_decides}
use Rattle.probe_family.specs.declared.family.Family.{Family}
use Rattle.probe_family.specs.declared.part.Part.{Part}
use Rattle.probe_family.specs.Families.{IsFamily, is_in_part, are_taken, is_taken_from, count_in}
use Rattle.probe_family.specs.Least.{least_of}
use Rattle.probe_family.proofs.AllTuples.{least_is_tuple, tuple_of_is_tuple}
use Rattle.probe_family.proofs.Tuples.{tuple_parts, tuple_is_chosen}
use Rattle.probe_family.proofs.Rules.{are_parts}
use Rattle.probe_family.proofs.Takes.{AreBelow}
use Rattle.probe_family.proofs.Bits.{one_if, count_cons}
use Rattle.probe_family.proofs.Members.{length-members}
use Rattle.probe_family.proofs.Ranges.{count_in_fits}
use Rattle.extend_set.specs.Hull.{IsMonotone, is_met_by, is_provable_within, is_provable_set, set_with, numbers_of, grown, hull_by, hull_of}
use Rattle.extend_set.specs.Growth.{IsGrownTo, IsKeptBySubsets, with_numbers, without_run}
use Rattle.extend_set.proofs.RunSets.{all_has, of-from, of-parts, numbers_alone}
use Rattle.extend_set.proofs.Greedy.{range-has, filter-has, filter-parts, length-grown, grown-keeps, grown-parts, grown-fits, grown-maximal}

-- ---- members as a list

members_below-has : (xs : List Bool) (n q : ℕ) → q < n → is_in xs q ≡ true → has (members_below xs n) q ≡ true
members_below-has xs zero q lt h = absurd (omega arith)
members_below-has xs (suc n) q lt h =
    ⊎_elim
    (λ before. has-append_left (members_below xs n) (cond (is_in xs n) (n ∷ []) []) q (members_below-has xs n q before h))
    (λ past.
    let here : n ≡ q = omega arith in
    ap (λ ns. has ns q) (members_below-in xs n (ap (is_in xs) here ∙ h))
    ∙ has-append_right (members_below xs n) (n ∷ []) q (or_left (n == q) (has [] q) (eq-eqb n q here)))
    (cases_lt q n)

pub members-has : (xs : List Bool) (q : ℕ) → is_in xs q ≡ true → has (members xs) q ≡ true
members-has xs q h = members_below-has xs (length xs) q (is_in-below xs q h) h

pub members-in : (xs : List Bool) (q : ℕ) → has (members xs) q ≡ true → is_in xs q ≡ true
members-in xs q h = all_has (λ p. is_in xs p ≡ true) (members xs) (members-are_in xs) q h

-- numbers that all are in a set are among its members
pub all_among : (xs : List Bool) (ns : List ℕ) → list_all (is_in xs) ns ≡ true → AreAmong ns (members xs)
all_among xs [] all q h = absurd (true≢false (sym h))
all_among xs (n ∷ ns) all q h =
    let parts = and_parts (is_in xs n) (list_all (is_in xs) ns) all in
    ⊎_elim
    (λ here. members-has xs q (ap (is_in xs) (sym (eqb-true n q here)) ∙ parts.0))
    (λ later. all_among xs ns parts.1 q later)
    (or_cases (n == q) (has ns q) h)

-- what some numbers meet together fewer meet, and so do sets
pub kept_by : (meets : List ℕ → Bool) → IsMonotone meets → IsKeptBySubsets (is_met_by meets)
kept_by meets monotone some all sub h = monotone (members some) (members all) (λ q is. members-has all q (is_subset-each some all sub q (members-in some q is))) h

-- ---- provable sets

module _ (x : Instance) (m : ℕ) where
  -- the set of a tuple's numbers is as provable as the tuple
  pub set_is_tuple : (n : ℕ) (tuple : List ℕ) → All (λ p. p < n) tuple → is_provable_set x m (set_with n tuple) ≡ is_provable_within x m tuple
  set_is_tuple n tuple below =
      let ms = members (set_with n tuple) in
      let there : AreAmong tuple (members (set_with n tuple)) = λ q h. members-has (set_with n tuple) q (of-from n (has tuple) q (all_has (λ p. p < n) tuple below q h) h) in
      let back : AreAmong (members (set_with n tuple)) tuple = λ q h. of-parts n (has tuple) q (members-in (set_with n tuple) q h) in
      provable-same_rows x (roots_of x ms) (roots_of x tuple) m
      (λ row. same_tests (has (roots_of x ms) row) (has (roots_of x tuple) row) (roots_among x tuple ms back row) (roots_among x ms tuple there row))

  module _ (table : IsTable x.table) (fitting : IsFitting x) where
    pub provable_is : (tuple : List ℕ) → is_provable_within x m tuple ≡ true → IsProvable x (roots_of x tuple) m
    provable_is tuple h = (least_chain_decides x (roots_of x tuple) table (roots_are_rows x fitting tuple) m).0 h

    -- what is provable is so for some of the probes
    pub provable_fewer : (some all : List ℕ) → AreAmong some all → is_provable_within x m all ≡ true → is_provable_within x m some ≡ true
    provable_fewer some all among h =
        (least_chain_decides x (roots_of x some) table (roots_are_rows x fitting some) m).1
        (provable-among x (roots_of x some) (roots_of x all) m (roots_among x all some among) (provable_is all h))

    pub provable_kept : IsKeptBySubsets (is_provable_set x m)
    provable_kept = kept_by (is_provable_within x m) provable_fewer

-- ---- the least tuple

module _ (n : ℕ) (family : Family) (is : IsFamily n family) where
  pub least_below : All (λ p. p < n) (least_of family)
  least_below = let le : family.size ≤ family.size = omega arith in (tuple_of_is_tuple n family.size family (least_of family) is le (least_is_tuple n family is)).0.below

  least_taken : are_taken family.parts (least_of family) ≡ true
  least_taken = (tuple_parts family.parts (least_of family) (least_is_tuple n family is)).1

  least_listed : list_all (is_in_part family.parts) (least_of family) ≡ true
  least_listed = (and_parts (list_all (λ part. is_taken_from part (least_of family)) family.parts) (list_all (is_in_part family.parts) (least_of family)) least_taken).1

  -- its numbers are in the parts
  pub least_in_part : (q : ℕ) → has (least_of family) q ≡ true → is_in_part family.parts q ≡ true
  least_in_part q h = each (least_of family) least_listed h
    where
      each : (ns : List ℕ) → list_all (is_in_part family.parts) ns ≡ true → has ns q ≡ true → is_in_part family.parts q ≡ true
      each [] all h = absurd (true≢false (sym h))
      each (p ∷ ps) all h =
          let parts = and_parts (is_in_part family.parts p) (list_all (is_in_part family.parts) ps) all in
          ⊎_elim (λ here. ap (is_in_part family.parts) (sym (eqb-true p q here)) ∙ parts.0) (λ later. each ps parts.1 later) (or_cases (p == q) (has ps q) h)

  -- numbers of the parts are below n
  pub part_below : (q : ℕ) → is_in_part family.parts q ≡ true → q < n
  part_below q h = each family.parts (are_parts n family is).below h
    where
      each : (parts : List Part) → AreBelow n parts → is_in_part parts q ≡ true → q < n
      each [] below h = absurd (true≢false (sym h))
      each (part ∷ parts) below h =
          ⊎_elim
          (λ here. omega (arith, is_in-below part.set q here, below.0))
          (λ later. each parts below.1 later)
          (or_cases (is_in part.set q) (is_in_part parts q) h)

  -- a set that holds it has as many numbers of each part as the part takes
  pub least_inside : (xs : List Bool) → list_all (is_in xs) (least_of family) ≡ true → All (λ (part : Part). part.take ≤ length (members (meet part.set xs))) family.parts
  least_inside xs all = All-from_recursion (λ (part : Part). part.take ≤ length (members (meet part.set xs))) family.parts (each family.parts (and_parts (list_all (λ part. is_taken_from part (least_of family)) family.parts) (list_all (is_in_part family.parts) (least_of family)) least_taken).0)
    where
      same_count : (set : List Bool) (ns : List ℕ) → list_all (is_in xs) ns ≡ true → count_in (meet set xs) ns ≡ count_in set ns
      same_count set [] all = refl
      same_count set (p ∷ ps) all =
          let parts = and_parts (is_in xs p) (list_all (is_in xs) ps) all in
          let here : is_in (meet set xs) p ≡ is_in set p = is_in-meet set xs p ∙ and_kept (is_in set p) (is_in xs p) parts.0 in
          count_cons (is_in (meet set xs)) p ps
          ∙ (ap (λ b. one_if b + count_by (is_in (meet set xs)) ps) here
          ∙ (ap (λ k. one_if (is_in set p) + k) (same_count set ps parts.1)
          ∙ sym (count_cons (is_in set) p ps)))
        where
          and_kept : (a b : Bool) → b ≡ true → (a && b) ≡ a
          and_kept true b h = h
          and_kept false b h = refl

      one : (part : Part) → is_taken_from part (least_of family) ≡ true → part.take ≤ length (members (meet part.set xs))
      one part taken =
          let counted : count_in part.set (least_of family) ≡ part.take = eqb-true (count_in part.set (least_of family)) part.take taken in
          let fit = count_in_fits (meet part.set xs) 0 n (least_of family) (tuple_is_chosen n family.parts (least_of family) (are_parts n family is) (least_is_tuple n family is)).within in
          omega (arith, fit, counted, same_count part.set (least_of family) all, length-members (meet part.set xs))

      each : (parts : List Part) → list_all (λ part. is_taken_from part (least_of family)) parts ≡ true → AllByRecursion (λ (part : Part). part.take ≤ length (members (meet part.set xs))) parts
      each [] all = tt
      each (part ∷ parts) all =
          let split = and_parts (is_taken_from part (least_of family)) (list_all (λ part. is_taken_from part (least_of family)) parts) all in
          (one part split.0, each parts split.1)

-- ---- hulls by any criterion

-- what a hull is
pub record IsGreedyBy (meets : List ℕ → Bool) (n : ℕ) (family : Family) (hull : List Bool) : Type 0 where
  pub begins : meets (least_of family) ≡ true
  pub grows : hull ≡ grown (is_met_by meets) (set_with n (least_of family)) (numbers_of n family.parts)

module _ (meets : List ℕ → Bool) (n : ℕ) (family : Family) where
  abbrev whole : List Bool
  whole = grown (is_met_by meets) (set_with n (least_of family)) (numbers_of n family.parts)

  pub by_some : (hull : List Bool) → IsGreedyBy meets n family hull → hull_by meets n family ≡ Some hull
  by_some hull is = cond-true (meets (least_of family)) (Some whole) None is.begins ∙ ap Some (sym is.grows)

  pub by_none : meets (least_of family) ≡ false → hull_by meets n family ≡ None
  by_none misfit = cond-false (meets (least_of family)) (Some whole) None misfit

  pub by_is : (hull : List Bool) → hull_by meets n family ≡ Some hull → IsGreedyBy meets n family hull
  by_is hull is =
      ⊎_elim
      (λ begins. let same : Some hull ≡ Some whole = sym is ∙ cond-true (meets (least_of family)) (Some whole) None begins in record { begins = begins; grows = same_Some hull whole same })
      (λ misfit. let none : Some hull ≡ None = sym is ∙ cond-false (meets (least_of family)) (Some whole) None misfit in absurd (cc none))
      (cases_Bool (meets (least_of family)))

  -- there is none exactly where the least tuple does not meet the criterion
  pub by_there : (hull_by meets n family ≡ None) ↔ (meets (least_of family) ≡ false)
  by_there = ((λ none. false_from_ne_true (meets (least_of family)) (λ begins. let e : None ≡ Some whole = sym none ∙ by_some whole (record { begins = begins; grows = refl }) in absurd (cc e))), by_none)

  module _ (hull : List Bool) (greedy : IsGreedyBy meets n family hull) where
    pub by_length : length hull ≡ n
    by_length =
        ap length greedy.grows
        ∙ (length-grown (is_met_by meets) (set_with n (least_of family)) (numbers_of n family.parts) ∙ length-set_of n (has (least_of family)))

    module _ (is : IsFamily n family) where
      by_has : (q : ℕ) → has (least_of family) q ≡ true → is_in hull q ≡ true
      by_has q h =
          ap (λ ys. is_in ys q) greedy.grows
          ∙ grown-keeps (is_met_by meets) (set_with n (least_of family)) (numbers_of n family.parts) q
          (of-from n (has (least_of family)) q (all_has (λ p. p < n) (least_of family) (least_below n family is) q h) h)

      -- the least tuple lies inside
      pub by_least : list_all (is_in hull) (least_of family) ≡ true
      by_least = each (least_of family) by_has
        where
          each : (ns : List ℕ) → ((q : ℕ) → has ns q ≡ true → is_in hull q ≡ true) → list_all (is_in hull) ns ≡ true
          each [] all = refl
          each (p ∷ ps) all =
              and_from (is_in hull p) (list_all (is_in hull) ps) (all p (or_left (p == p) (has ps p) (eq-eqb p p refl)))
              (each ps (λ q h. all q (or_right (p == q) (has ps q) h)))

      -- and nothing from outside the parts
      pub by_within : (q : ℕ) → is_in hull q ≡ true → is_in_part family.parts q ≡ true
      by_within q h =
          ⊎_elim
          (λ first. least_in_part n family is q (of-parts n (has (least_of family)) q first))
          (λ listed. (filter-parts (is_in_part family.parts) (range_with_len 0 n) q listed).1)
          (grown-parts (is_met_by meets) (set_with n (least_of family)) (numbers_of n family.parts) q
          (sym (ap (λ ys. is_in ys q) greedy.grows) ∙ h))

      -- the whole of it meets the criterion, where the set of the least tuple does
      pub by_whole : meets (members (set_with n (least_of family))) ≡ true → meets (members hull) ≡ true
      by_whole begun =
          ap (is_met_by meets) greedy.grows ∙ grown-fits (is_met_by meets) (set_with n (least_of family)) (numbers_of n family.parts) begun

      module _ (monotone : IsMonotone meets) where
        pub by_begun : meets (members (set_with n (least_of family))) ≡ true
        by_begun = monotone (members (set_with n (least_of family))) (least_of family) (λ q h. of-parts n (has (least_of family)) q (members-in (set_with n (least_of family)) q h)) greedy.begins

        -- so does what lies inside
        pub by_inside : (tuple : List ℕ) → list_all (is_in hull) tuple ≡ true → meets tuple ≡ true
        by_inside tuple inside = monotone tuple (members hull) (all_among hull tuple inside) (by_whole by_begun)

        -- no other number of the parts can be added
        pub by_maximal : (q : ℕ) → is_in_part family.parts q ≡ true → is_in hull q ≡ false → meets (members (slice_set hull q true)) ≡ false
        by_maximal q listed out =
            let below : q < n = part_below n family is q listed in
            let from : 0 ≤ q = omega arith in
            ap (λ ys. is_met_by meets (slice_set ys q true)) greedy.grows
            ∙ grown-maximal (is_met_by meets) (kept_by meets monotone) (set_with n (least_of family)) (numbers_of n family.parts) q
            (omega (arith, length-set_of n (has (least_of family))))
            (filter-has (is_in_part family.parts) (range_with_len 0 n) q (range-has 0 n q from (omega arith)) listed)
            (sym (ap (λ ys. is_in ys q) greedy.grows) ∙ out)

-- ---- hulls by what is provable

abbrev pub IsGreedy : Instance → Family → List Bool → Type 0
IsGreedy x family hull = IsGreedyBy (is_provable_within x family.bound) (length x.probes) family hull

module _ (x : Instance) (family : Family) where
  pub hull_some : (hull : List Bool) → IsGreedy x family hull → hull_of x family ≡ Some hull
  unfolding hull_of
  hull_some hull is = by_some (is_provable_within x family.bound) (length x.probes) family hull is

  pub hull_none : is_provable_within x family.bound (least_of family) ≡ false → hull_of x family ≡ None
  unfolding hull_of
  hull_none misfit = by_none (is_provable_within x family.bound) (length x.probes) family misfit

  pub hull_is : (hull : List Bool) → hull_of x family ≡ Some hull → IsGreedy x family hull
  unfolding hull_of
  hull_is hull is = by_is (is_provable_within x family.bound) (length x.probes) family hull is

module _ (x : Instance) (family : Family) (hull : List Bool) (greedy : IsGreedy x family hull) where
  pub hull_length : length hull ≡ length x.probes
  hull_length = by_length (is_provable_within x family.bound) (length x.probes) family hull greedy

  module _ (is : IsFamily (length x.probes) family) where
    -- the least tuple lies inside
    pub hull_least : list_all (is_in hull) (least_of family) ≡ true
    hull_least = by_least (is_provable_within x family.bound) (length x.probes) family hull greedy is

    -- and nothing from outside the parts
    pub hull_within : (q : ℕ) → is_in hull q ≡ true → is_in_part family.parts q ≡ true
    hull_within q h = by_within (is_provable_within x family.bound) (length x.probes) family hull greedy is q h

    -- the whole of it is provable
    pub hull_provable : is_provable_within x family.bound (members hull) ≡ true
    hull_provable =
        by_whole (is_provable_within x family.bound) (length x.probes) family hull greedy is
        (set_is_tuple x family.bound (length x.probes) (least_of family) (least_below (length x.probes) family is) ∙ greedy.begins)

    module _ (table : IsTable x.table) (fitting : IsFitting x) where
      -- so is what lies inside
      pub inside_provable : (tuple : List ℕ) → list_all (is_in hull) tuple ≡ true → is_provable_within x family.bound tuple ≡ true
      inside_provable tuple inside =
          by_inside (is_provable_within x family.bound) (length x.probes) family hull greedy is (provable_fewer x family.bound table fitting) tuple inside

      -- no other number of the parts can be added
      pub hull_maximal : (q : ℕ) → is_in_part family.parts q ≡ true → is_in hull q ≡ false → is_provable_set x family.bound (slice_set hull q true) ≡ false
      hull_maximal q listed out =
          by_maximal (is_provable_within x family.bound) (length x.probes) family hull greedy is (provable_fewer x family.bound table fitting) q listed out

-- ---- the call

module _ (x : Instance) (family : Family) (tuple : List ℕ) (least : tuple ≡ least_of family) where
  -- the set begins as the least tuple
  pub begun : (old new : List Bool) (n : ℕ) → n ≡ length old → length old ≡ length x.probes → new ≡ with_numbers (without_run old 0 n) tuple → new ≡ set_with (length x.probes) (least_of family)
  begun old new n all long is =
      is
      ∙ (ap (λ k. with_numbers (without_run old 0 k) tuple) all
      ∙ (numbers_alone old tuple
      ∙ (λ i. set_with (long i) (least i))))

  -- and it has grown to the hull
  pub grown_hull : (n : ℕ) (parts : List Part) (out : List Bool) → n ≡ length x.probes → parts ≡ family.parts → IsGrownTo (is_provable_set x family.bound) n parts tuple n out
      → is_provable_within x family.bound (least_of family) ≡ true → hull_of x family ≡ Some out
  grown_hull n parts out all same grew begins =
      hull_some x family out (record { begins = begins; grows = grew.stands ∙ (λ i. grown (is_provable_set x family.bound) (set_with (all i) (least i)) (numbers_of (all i) (same i))) })
