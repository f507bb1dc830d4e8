-- Each tuple is in exactly one root, and the roots are families.
use Rattle.std.proofs.Common.{◌≡◌, ℕ, zero, suc, ◌+◌, ◌-◌, ◌<◌, ◌≤◌, min, Bool, true, false, not, ◌&&◌, ◌||◌, ◌==◌, List, [], ◌∷◌, length, refl, sym, ap, ◌∙◌, arith, ⊎_elim, count_by}
use Rattle.std.proofs.lemmas.Bool.{cases_eq, cases_lt, and_parts, and_from, and_left, or_from, eq-eqb, eqb-true, ne_eqb, not-true}
use Rattle.std.proofs.lemmas.List.{length-replicate, length-map, get_or-map, get_or-replicate}
use Rattle.std.proofs.lemmas.List.Elements.{recursion_from_All}
use Rattle.std.proofs.lemmas.List.Sums.{sum_by-cons}
use Rattle.std.specs.List.{list_all, flat_map, range_with_len, AllByRecursion}
use Rattle.expr_table.specs.declared.instance.Instance.{Instance}
use Rattle.expr_table.specs.declared.instance.Notion.{Notion}
use Rattle.expr_table.specs.declared.instance.Notion.TheVariants.{Probing, Ni, Sni}
use Rattle.expr_table.specs.declared.instance.ProbeRoots.{ProbeRoots}
use Rattle.once_random.specs.Tuples.{bound_of_notion, bound_of, probe_at, internal_probes}
use Rattle.bit_rows.specs.Sets.{is_in, minus}
use Rattle.bit_rows.proofs.Facts.{is_in-below, is_in-minus, length-set_of, same_sets}
use Rattle.tuple_rank.specs.Tuples.{IsTuple}
use Rattle.tuple_rank.proofs.Order.{IsBetween, within-below, tuple-within}
use Rattle.probe_family.specs.declared.part.Part.{Part}
use Rattle.probe_family.specs.declared.family.Family.{Family}
use Rattle.probe_family.specs.Families.{count_in, is_taken_from, is_in_part, are_taken, is_tuple_over, is_tuple_of, total_take, part_of, family_over, IsFamily}
use Rattle.probe_family.specs.Roots.{all_set, internal_set, output_set, sets_of, roots_of_size, roots_of}
use Rattle.probe_family.proofs.Bits.{one_if, same_tests, count_cons, count_append}
use Rattle.probe_family.proofs.Ranges.{IsChosen, ascending-within, append_All, weaken_All}
use Rattle.probe_family.proofs.Rules.{AreParts}
use Rattle.probe_family.proofs.Tuples.{count_same, tuple_parts, tuple_is_chosen}
use Rattle.probe_family.proofs.AllTuples.{tuple_of_is_tuple}
use Rattle.probe_family.proofs.Over.{count_over, each_over, bound_over, family_over_is}

-- what holds of all that comes from each number of a range holds of all that comes from the range
pub range_All : {X : Type 0} (P : X → Type 0) (g : ℕ → List X) (a m : ℕ) → ((k : ℕ) → a ≤ k → k < a + m → AllByRecursion P (g k)) → AllByRecursion P (flat_map g (range_with_len a m))
range_All P g a zero each = tt
range_All P g a (suc m) each =
    append_All P (g a) (flat_map g (range_with_len (a + 1) m)) (each a (omega arith) (omega arith)) (range_All P g (a + 1) m (λ k from below. each k (omega arith) (omega arith)))

-- counts over what comes from a range, where only one number's list may have one that passes
module _ {X : Type 0} (p : X → Bool) (g : ℕ → List X) (v : ℕ) (w : ℕ → Bool) (each : (k : ℕ) → count_by p (g k) ≡ one_if (v == k && w k)) where
  other_none : (k : ℕ) → (v ≡ k → ⊥) → count_by p (g k) ≡ 0
  other_none k other = each k ∙ ap one_if (and_left (v == k) (w k) (ne_eqb v k other))

  pub count_outside : (a m : ℕ) → v < a → count_by p (flat_map g (range_with_len a m)) ≡ 0
  count_outside a zero past = refl
  count_outside a (suc m) past =
      count_append p (g a) (flat_map g (range_with_len (a + 1) m))
      ∙ (let here = other_none a (λ e. omega arith) in let rest = count_outside (a + 1) m (omega arith) in omega arith)

  pub count_beyond : (a m : ℕ) → a + m ≤ v → count_by p (flat_map g (range_with_len a m)) ≡ 0
  count_beyond a zero past = refl
  count_beyond a (suc m) past =
      count_append p (g a) (flat_map g (range_with_len (a + 1) m))
      ∙ (let here = other_none a (λ e. omega arith) in let rest = count_beyond (a + 1) m (omega arith) in omega arith)

  pub count_within : (a m : ℕ) → a ≤ v → v < a + m → count_by p (flat_map g (range_with_len a m)) ≡ one_if (w v)
  count_within a zero from below = absurd (omega arith)
  count_within a (suc m) from below =
      count_append p (g a) (flat_map g (range_with_len (a + 1) m))
      ∙ ⊎_elim
      (λ same.
      let here : count_by p (g a) ≡ one_if (w v) = each a ∙ (ap (λ b. one_if (b && w a)) (eq-eqb v a same) ∙ ap (λ k. one_if (w k)) (sym same)) in
      let rest = count_outside (a + 1) m (omega arith) in omega arith)
      (λ other. let here = other_none a other in let rest = count_within (a + 1) m (lt_of a v from (λ e. other (sym e))) (omega arith) in omega arith)
      (cases_eq v a)
    where
      lt_of : (x y : ℕ) → x ≤ y → (x ≡ y → ⊥) → x + 1 ≤ y
      lt_of x y le other = ⊎_elim (λ lt. omega arith) (λ ge. absurd (other (omega arith))) (cases_lt x y)

-- how many probes there are
abbrev pub of_probes : Instance → ℕ
of_probes x = length x.probes

module _ (x : Instance) where
  abbrev n : ℕ
  n = of_probes x

  abbrev whole : ℕ → List Part
  whole k = part_of k (all_set x) ∷ []

  abbrev mixed : ℕ → ℕ → List Part
  mixed k j = part_of j (internal_set x) ∷ part_of (k - j) (output_set x) ∷ []

  in_all : (p : ℕ) → p < n → is_in (all_set x) p ≡ true
  in_all p lt = get_or-replicate n p true false lt

  in_internal : (p : ℕ) → p < n → is_in (internal_set x) p ≡ not (probe_at x.probes p).output
  in_internal p lt = get_or-map (λ (probe : ProbeRoots). not probe.output) x.probes p (record { rows = []; output = false }) false lt

  in_output : (p : ℕ) → p < n → is_in (output_set x) p ≡ (probe_at x.probes p).output
  in_output p lt = get_or-map (λ (probe : ProbeRoots). probe.output) x.probes p (record { rows = []; output = false }) false lt

  parts_whole : (k : ℕ) → AreParts n (whole k)
  parts_whole k = record { apart = ((λ p is. refl), tt); below = (length-replicate n true, tt) }

  parts_mixed : (k j : ℕ) → AreParts n (mixed k j)
  parts_mixed k j = record {
    apart = (
      (λ p is.
          let lt : p < n = omega (arith, is_in-below (internal_set x) p is, length-map x.probes (λ (probe : ProbeRoots). not probe.output)) in
          or_from (is_in (output_set x) p) false (in_output p lt ∙ not-true (probe_at x.probes p).output (sym (in_internal p lt) ∙ is)) refl),
      ((λ p is. refl), tt),
    );
    below = (length-map x.probes (λ (probe : ProbeRoots). not probe.output), (length-map x.probes (λ (probe : ProbeRoots). probe.output), tt));
  }

  -- the other probes are all but those of output shares
  all_minus_output : minus (all_set x) (output_set x) ≡ internal_set x
  all_minus_output =
      same_sets (minus (all_set x) (output_set x)) (internal_set x)
      (length-set_of (length (all_set x)) _ ∙ (length-replicate n true ∙ sym (length-map x.probes (λ (probe : ProbeRoots). not probe.output))))
      (λ p lt.
      let within : p < n = omega (arith, length-set_of (length (all_set x)) (λ i. is_in (all_set x) i && not (is_in (output_set x) i)), length-replicate n true) in
      is_in-minus (all_set x) (output_set x) p
      ∙ (ap (λ b. b && not (is_in (output_set x) p)) (in_all p within)
      ∙ (ap not (in_output p within) ∙ sym (in_internal p within))))

  pub sets_are : (all internal output : List Bool) → all ≡ all_set x → output ≡ output_set x → internal ≡ minus all output → record { all = all; internal = internal; output = output } ≡ sets_of x
  sets_are all internal output all_is output_is internal_is =
      let rest : internal ≡ internal_set x = internal_is ∙ (ap (λ s. minus s output) all_is ∙ (ap (minus (all_set x)) output_is ∙ all_minus_output)) in
      ap (λ s. record { all = s; internal = internal; output = output }) all_is
      ∙ (ap (λ s. record { all = all_set x; internal = s; output = output }) rest
      ∙ ap (λ s. record { all = all_set x; internal = internal_set x; output = s }) output_is)

  module _ (t : List ℕ) where
    count_all : (c : ℕ) (t : List ℕ) → IsBetween c n t → count_in (all_set x) t ≡ length t
    count_all c [] within = refl
    count_all c (p ∷ t) within =
        count_cons (is_in (all_set x)) p t ∙ (ap (λ b. one_if b + count_in (all_set x) t) (in_all p within.1) ∙ (let rest = count_all (p + 1) t within.2 in omega arith))

    count_both : (c : ℕ) (t : List ℕ) → IsBetween c n t → count_in (internal_set x) t + count_in (output_set x) t ≡ length t
    count_both c [] within = refl
    count_both c (p ∷ t) within =
        let rest = count_both (p + 1) t within.2 in
        let i : count_in (internal_set x) (p ∷ t) ≡ one_if (not (probe_at x.probes p).output) + count_in (internal_set x) t = count_cons (is_in (internal_set x)) p t ∙ ap (λ b. one_if b + count_in (internal_set x) t) (in_internal p within.1) in
        let o : count_in (output_set x) (p ∷ t) ≡ one_if (probe_at x.probes p).output + count_in (output_set x) t = count_cons (is_in (output_set x)) p t ∙ ap (λ b. one_if b + count_in (output_set x) t) (in_output p within.1) in
        by_case (probe_at x.probes p).output _ _ _ _ _ i o rest
      where
        by_case : (b : Bool) (i i' o o' l : ℕ) → i ≡ one_if (not b) + i' → o ≡ one_if b + o' → i' + o' ≡ l → i + o ≡ suc l
        by_case true i i' o o' l e f g = omega arith
        by_case false i i' o o' l e f g = omega arith

    all_in : (parts : List Part) → ((p : ℕ) → p < n → is_in_part parts p ≡ true) → (c : ℕ) (t : List ℕ) → IsBetween c n t → list_all (is_in_part parts) t ≡ true
    all_in parts each c [] within = refl
    all_in parts each c (p ∷ t) within = and_from (is_in_part parts p) (list_all (is_in_part parts) t) (each p within.1) (all_in parts each (p + 1) t within.2)

    in_either : (k j p : ℕ) → p < n → is_in_part (mixed k j) p ≡ true
    in_either k j p lt =
        ap (λ b. b || (is_in (output_set x) p || false)) (in_internal p lt)
        ∙ (ap (λ b. not (probe_at x.probes p).output || (b || false)) (in_output p lt) ∙ by_case (probe_at x.probes p).output)
      where
        by_case : (b : Bool) → (not b || (b || false)) ≡ true
        by_case true = refl
        by_case false = refl

    module _ (within : IsBetween 0 n t) where
      over_whole : (k : ℕ) → is_tuple_over (whole k) t ≡ (length t == k && true)
      unfolding is_tuple_over
      over_whole k =
          ap (λ b. b && are_taken (whole k) t) (ascending-within 0 n t within)
          ∙ (ap (λ c. (c == k && true) && list_all (is_in_part (whole k)) t) (count_all 0 t within)
          ∙ (ap (λ b. (length t == k && true) && b) (all_in (whole k) (λ p lt. ap (λ b. b || false) (in_all p lt)) 0 t within) ∙ by_case (length t == k)))
        where
          by_case : (b : Bool) → ((b && true) && true) ≡ (b && true)
          by_case true = refl
          by_case false = refl

      over_mixed : (k j : ℕ) → is_tuple_over (mixed k j) t ≡ (count_in (internal_set x) t == j && (count_in (output_set x) t == k - j))
      unfolding is_tuple_over
      over_mixed k j =
          ap (λ b. b && are_taken (mixed k j) t) (ascending-within 0 n t within)
          ∙ (ap (λ b. (count_in (internal_set x) t == j && (count_in (output_set x) t == k - j && true)) && b) (all_in (mixed k j) (in_either k j) 0 t within)
          ∙ by_case (count_in (internal_set x) t == j) (count_in (output_set x) t == k - j))
        where
          by_case : (a b : Bool) → ((a && (b && true)) && true) ≡ (a && b)
          by_case true true = refl
          by_case true false = refl
          by_case false b = refl

      once_whole : (bound : ℕ → ℕ) (k : ℕ) → count_by (λ f. is_tuple_of f t) (family_over k (bound k) (whole k)) ≡ one_if (length t == k && true)
      once_whole bound k = count_over n k (bound k) (whole k) t (parts_whole k) ∙ ap one_if (over_whole k)

      once_mixed : (k : ℕ) → count_by (λ f. is_tuple_of f t) (roots_of_size Sni (sets_of x) k) ≡ one_if (length t == k && true)
      once_mixed k = ⊎_elim
          (λ below.
          count_within (λ f. is_tuple_of f t) (λ j. family_over k j (mixed k j)) (count_in (internal_set x) t) (λ j. count_in (output_set x) t == k - j) each 0 (k + 1) (omega arith) (omega arith)
          ∙ ap one_if (same_tests _ _
          (λ h. let e = eqb-true _ _ h in and_from (length t == k) true (eq-eqb (length t) k (omega (arith, count_both 0 t within))) refl)
          (λ h. let e = eqb-true (length t) k (and_parts (length t == k) true h).0 in eq-eqb _ _ (omega (arith, count_both 0 t within)))))
          (λ above.
          count_beyond (λ f. is_tuple_of f t) (λ j. family_over k j (mixed k j)) (count_in (internal_set x) t) (λ j. count_in (output_set x) t == k - j) each 0 (k + 1) (omega arith)
          ∙ ap one_if (sym (and_left (length t == k) true (ne_eqb (length t) k (λ e. omega (arith, count_both 0 t within))))))
          (cases_lt (count_in (internal_set x) t) (k + 1))
        where
          each : (j : ℕ) → count_by (λ f. is_tuple_of f t) (family_over k j (mixed k j)) ≡ one_if (count_in (internal_set x) t == j && (count_in (output_set x) t == k - j))
          each j = count_over n k j (mixed k j) t (parts_mixed k j) ∙ ap one_if (over_mixed k j)

      once_of_size : (notion : Notion) (k : ℕ) → count_by (λ f. is_tuple_of f t) (roots_of_size notion (sets_of x) k) ≡ one_if (length t == k && true)
      once_of_size Probing k = once_whole (λ k. 0) k
      once_of_size Ni k = once_whole (λ k. k) k
      once_of_size Sni k = once_mixed k

      pub once_in_sizes : (notion : Notion) (most : ℕ) → 1 ≤ length t → length t ≤ most → count_by (λ f. is_tuple_of f t) (flat_map (roots_of_size notion (sets_of x)) (range_with_len 1 most)) ≡ 1
      once_in_sizes notion most some few = count_within (λ f. is_tuple_of f t) (roots_of_size notion (sets_of x)) (length t) (λ k. true) (once_of_size notion) 1 most some (omega arith)

    -- the internal probes of a tuple are its numbers in the internal set
    count_internal : (t : List ℕ) → AllByRecursion (λ p. p < n) t → count_in (internal_set x) t ≡ internal_probes x t
    count_internal t below = count_same (is_in (internal_set x)) (λ p. not (probe_at x.probes p).output) t (go t below)
      where
        go : (t : List ℕ) → AllByRecursion (λ p. p < n) t → AllByRecursion (λ p. is_in (internal_set x) p ≡ not (probe_at x.probes p).output) t
        go [] below = tt
        go (p ∷ t) below = (in_internal p below.0, go t below.1)

    -- a tuple of a root has the root's bound
    bound_is : (notion : Notion) (k : ℕ) → AllByRecursion (λ (f : Family). is_tuple_of f t ≡ true → f.bound ≡ bound_of_notion notion x t) (roots_of_size notion (sets_of x) k)
    bound_is Probing k = each_over (λ f. is_tuple_of f t ≡ true → f.bound ≡ 0) k 0 (whole k) (λ enough is. refl)
    bound_is Ni k = bound_over k k (length t) (whole k) t (parts_whole k).apart (λ is.
        let chosen = tuple_is_chosen n (whole k) t (parts_whole k) is in omega (arith, chosen.size, sum_by-cons (λ (part : Part). part.take) (part_of k (all_set x)) []))
    bound_is Sni k = range_All (λ (f : Family). is_tuple_of f t ≡ true → f.bound ≡ internal_probes x t) (λ j. family_over k j (mixed k j)) 0 (k + 1) (λ j from below.
        bound_over k j (internal_probes x t) (mixed k j) t (parts_mixed k j).apart (λ is.
        let chosen : IsChosen 0 n (total_take (mixed k j)) t = tuple_is_chosen n (mixed k j) t (parts_mixed k j) is in
        let taken = (and_parts (list_all (λ part. is_taken_from part t) (mixed k j)) (list_all (is_in_part (mixed k j)) t) (tuple_parts (mixed k j) t is).1).0 in
        sym (eqb-true (count_in (internal_set x) t) j (and_parts (count_in (internal_set x) t == j) _ taken).0) ∙ count_internal t (recursion_from_All (λ p. p < n) t (within-below 0 n t chosen.within))))

    pub each_bound : (t' : ℕ) → AllByRecursion (λ (f : Family). is_tuple_of f t ≡ true → f.bound ≡ bound_of x t) (roots_of x t')
    unfolding roots_of
    each_bound t' = range_All (λ (f : Family). is_tuple_of f t ≡ true → f.bound ≡ bound_of x t) (roots_of_size x.notion (sets_of x)) 1 (min t' n) (λ k from below. bound_is x.notion k)

  roots_are : (notion : Notion) (k : ℕ) → 1 ≤ k → k ≤ 8 → AllByRecursion (IsFamily n) (roots_of_size notion (sets_of x) k)
  roots_are Probing k some few = family_over_is n k 0 (whole k) (parts_whole k) (omega arith) some few
  roots_are Ni k some few = family_over_is n k k (whole k) (parts_whole k) (omega arith) some few
  roots_are Sni k some few = range_All (IsFamily n) (λ j. family_over k j (mixed k j)) 0 (k + 1) (λ j from below.
      family_over_is n k j (mixed k j) (parts_mixed k j) (omega (arith, sum_by-cons (λ (part : Part). part.take) (part_of j (internal_set x)) (part_of (k - j) (output_set x) ∷ []), sum_by-cons (λ (part : Part). part.take) (part_of (k - j) (output_set x)) [])) some few)

  pub each_root : (t : ℕ) → t ≤ 8 → AllByRecursion (IsFamily n) (roots_of x t)
  unfolding roots_of
  each_root t small = range_All (IsFamily n) (roots_of_size x.notion (sets_of x)) 1 (min t n) (λ k from below. roots_are x.notion k from (omega arith))

  sizes_are : (notion : Notion) (k : ℕ) → AllByRecursion (λ (f : Family). f.size ≡ k) (roots_of_size notion (sets_of x) k)
  sizes_are Probing k = each_over (λ (f : Family). f.size ≡ k) k 0 (whole k) (λ enough. refl)
  sizes_are Ni k = each_over (λ (f : Family). f.size ≡ k) k k (whole k) (λ enough. refl)
  sizes_are Sni k = range_All (λ (f : Family). f.size ≡ k) (λ j. family_over k j (mixed k j)) 0 (k + 1) (λ j from below. each_over (λ (f : Family). f.size ≡ k) k j (mixed k j) (λ enough. refl))

  pub each_size : (t : ℕ) → AllByRecursion (λ (f : Family). f.size ≤ t) (roots_of x t)
  unfolding roots_of
  each_size t = range_All (λ (f : Family). f.size ≤ t) (roots_of_size x.notion (sets_of x)) 1 (min t n) (λ k from below.
      weaken_All (λ (f : Family). f.size ≡ k) (λ (f : Family). f.size ≤ t) (λ f is. omega arith) (roots_of_size x.notion (sets_of x) k) (sizes_are x.notion k))

  -- each tuple is in exactly one root
  pub in_one_root : (t : ℕ) (tuple : List ℕ) → IsTuple n t tuple → count_by (λ f. is_tuple_of f tuple) (roots_of x t) ≡ 1
  unfolding roots_of
  in_one_root t tuple is = once_in_sizes tuple (tuple-within n t tuple is) x.notion (min t n) is.some is.few

  -- the roots have no other tuples
  pub each_tuple : (t : ℕ) (tuple : List ℕ) → t ≤ 8 → AllByRecursion (λ f. is_tuple_of f tuple ≡ true → IsTuple n t tuple) (roots_of x t)
  each_tuple t tuple small = both (roots_of x t) (each_root t small) (each_size t)
    where
      both : (fs : List Family) → AllByRecursion (IsFamily n) fs → AllByRecursion (λ (f : Family). f.size ≤ t) fs → AllByRecursion (λ f. is_tuple_of f tuple ≡ true → IsTuple n t tuple) fs
      both [] are sizes = tt
      both (f ∷ fs) are sizes = ((λ is. (tuple_of_is_tuple n t f tuple are.0 sizes.0 is).0), both fs are.1 sizes.1)
