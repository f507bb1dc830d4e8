-- A set that has grown to a number, and what it has grown to next.
use Rattle.std.proofs.Common.{◌≡◌, ℕ, ◌+◌, ◌-◌, ◌<◌, ◌≤◌, Bool, true, false, List, [], ◌∷◌, ◌++◌, length, get_or, slice_set, filter, sym, ap, ◌∙◌, arith, ⊎_elim, ◌⊎◌}
use Rattle.std.proofs.lemmas.Bool.{cases_Bool, cond-true, cond-false, both_ways}
use Rattle.std.proofs.lemmas.List.Elements.{filter-append}
use Rattle.std.specs.List.{range_with_len}
use Rattle.bit_rows.specs.Sets.{is_in}
use Rattle.bit_rows.proofs.Facts.{length-set_of}
use Rattle.expr_table.specs.Table.{has}
use Rattle.probe_family.specs.declared.part.Part.{Part}
use Rattle.probe_family.specs.Families.{is_in_part}
use Rattle.extend_set.specs.Hull.{joined, grown, numbers_of, set_with}
use Rattle.extend_set.specs.Growth.{IsGrownTo, IsKeptBySubsets, AreSameFrom, with_run, with_numbers, without_run}
use Rattle.extend_set.proofs.RunSets.{all_has, of-from, of-parts, run_none, run_skip, run_more, run_shorter, run_back}
use Rattle.extend_set.proofs.Greedy.{range_append, range-parts, filter-parts, grown-append, length-grown, grown-keeps, grown-parts, grown-fits, with_all, run_is_all, grown_is_all}

-- the numbers below an end, of which those from a start on come last
pub numbers_append : (parts : List Part) (a k b : ℕ) → b ≡ a + k → numbers_of b parts ≡ numbers_of a parts ++ filter (is_in_part parts) (range_with_len a k)
numbers_append parts a k b is =
    let e : 0 + a ≡ a = omega arith in
    ap (filter (is_in_part parts)) (range_append 0 a k b is ∙ ap (λ c. range_with_len 0 a ++ range_with_len c k) e)
    ∙ filter-append (is_in_part parts) (range_with_len 0 a) (range_with_len a k)

module _ (fits : List Bool → Bool) (n : ℕ) (parts : List Part) (tuple : List ℕ) where
  -- the tuple itself, before any number has joined
  pub grown_none : IsKeptBySubsets fits → fits (set_with n tuple) ≡ true → ((k d : ℕ) → k < length tuple → get_or tuple k d < n) → (xs : List Bool) → xs ≡ set_with n tuple → IsGrownTo fits n parts tuple 0 xs
  grown_none kept begins below xs is = record { kept = kept; begins = begins; below = below; stands = is }

  module _ (start : ℕ) (xs : List Bool) (was : IsGrownTo fits n parts tuple start xs) where
    pub grown_length : length xs ≡ n
    grown_length = ap length was.stands ∙ (length-grown fits (set_with n tuple) (numbers_of start parts) ∙ length-set_of n (has tuple))

    pub grown_fits : fits xs ≡ true
    grown_fits = ap fits was.stands ∙ grown-fits fits (set_with n tuple) (numbers_of start parts) was.begins

    -- the tuple lies inside
    pub grown_keeps : (q : ℕ) → has tuple q ≡ true → is_in xs q ≡ true
    grown_keeps q h =
        ap (λ ys. is_in ys q) was.stands
        ∙ grown-keeps fits (set_with n tuple) (numbers_of start parts) q (of-from n (has tuple) q (all_has (λ p. p < n) tuple was.below q h) h)

    -- from the start on the set has no other numbers
    pub grown_only : (q : ℕ) → start ≤ q → is_in xs q ≡ true → has tuple q ≡ true
    grown_only q from h =
        ⊎_elim
        (of-parts n (has tuple) q)
        (λ listed.
        let bounds = range-parts 0 start q (filter-parts (is_in_part parts) (range_with_len 0 start) q listed).0 in
        absurd (omega (arith, bounds.1)))
        (grown-parts fits (set_with n tuple) (numbers_of start parts) q (sym (ap (λ ys. is_in ys q) was.stands) ∙ h))

    -- what was added to it is taken away again
    pub grown_back : (reach : ℕ) → with_numbers (without_run (with_run xs (is_in_part parts) start reach) start reach) tuple ≡ xs
    grown_back reach = run_back xs (is_in_part parts) tuple start reach grown_keeps grown_only

    grown_more : (k end : ℕ) → end ≡ start + k → (ys : List Bool) → ys ≡ grown fits xs (filter (is_in_part parts) (range_with_len start k)) → IsGrownTo fits n parts tuple end ys
    grown_more k end is ys grows = record {
      kept = was.kept;
      begins = was.begins;
      below = was.below;
      stands =
          let more = filter (is_in_part parts) (range_with_len start k) in
          grows
          ∙ (ap (λ zs. grown fits zs more) was.stands
          ∙ (sym (grown-append fits (set_with n tuple) (numbers_of start parts) more)
          ∙ ap (grown fits (set_with n tuple)) (sym (numbers_append parts start k end is))));
    }

    -- a run that fits as a whole joins
    pub grown_joined : (end : ℕ) (new : List Bool) → start ≤ end → end ≤ n → new ≡ with_run xs (is_in_part parts) start end → fits new ≡ true → IsGrownTo fits n parts tuple end new
    grown_joined end new le within is fit =
        let far : end ≡ start + (end - start) = omega arith in
        let all : new ≡ with_all xs (filter (is_in_part parts) (range_with_len start (end - start))) = is ∙ run_is_all xs (is_in_part parts) start (end - start) end far (omega (arith, grown_length)) in
        grown_more (end - start) end far new
        (all ∙ sym (grown_is_all fits was.kept xs (filter (is_in_part parts) (range_with_len start (end - start))) (sym (ap fits all) ∙ fit)))

    -- so does a run that adds nothing
    pub grown_same : (end : ℕ) (new : List Bool) → start ≤ end → end ≤ n → new ≡ with_run xs (is_in_part parts) start end → AreSameFrom start xs new → IsGrownTo fits n parts tuple end new
    grown_same end new le within is same =
        let nothing : new ≡ xs = run_shorter xs (is_in_part parts) start start end new is le same ∙ run_none xs (is_in_part parts) start in
        grown_joined end new le within is (ap fits nothing ∙ grown_fits)

    -- a single number that does not fit does not join
    pub grown_without : (end : ℕ) → end ≡ start + 1 → end ≤ n → fits (with_run xs (is_in_part parts) start end) ≡ false → IsGrownTo fits n parts tuple end xs
    grown_without end is within misfit = by_case (cases_Bool (is_in_part parts start))
      where
        by_case : ((is_in_part parts start ≡ true) ⊎ (is_in_part parts start ≡ false)) → IsGrownTo fits n parts tuple end xs
        by_case =
            ⊎_elim
            (λ listed.
            let added : slice_set xs start true ≡ with_run xs (is_in_part parts) start end =
            ap (λ ys. slice_set ys start true) (sym (run_none xs (is_in_part parts) start))
            ∙ run_more xs (is_in_part parts) start start end is (omega arith) (omega (arith, grown_length)) listed in
            let stays : joined fits xs start ≡ xs = cond-false (fits (slice_set xs start true)) (slice_set xs start true) xs (ap fits added ∙ misfit) in
            let one : filter (is_in_part parts) (range_with_len start 1) ≡ start ∷ [] = cond-true (is_in_part parts start) (start ∷ []) [] listed in
            grown_more 1 end is xs (sym stays ∙ ap (grown fits xs) (sym one)))
            (λ absent.
            let nothing : with_run xs (is_in_part parts) start end ≡ xs =
            sym (run_skip xs (is_in_part parts) start start end (omega arith) (λ q from below listed.
            let here : q ≡ start = omega arith in
            absurd (both_ways (is_in_part parts q) (ap (is_in_part parts) here ∙ absent) listed)))
            ∙ run_none xs (is_in_part parts) start in
            absurd (both_ways (fits xs) (sym (ap fits nothing) ∙ misfit) grown_fits))
