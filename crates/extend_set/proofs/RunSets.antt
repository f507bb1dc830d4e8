-- Sets with more numbers, with fewer, and with runs of numbers.
use Rattle.std.proofs.Common.{◌≡◌, ◌⊎◌, ℕ, zero, suc, ◌+◌, ◌<◌, ◌≤◌, Some, None, Bool, true, false, not, ◌&&◌, ◌||◌, ◌==◌, nat_lt, nat_le, List, [], ◌∷◌, ◌++◌, length, get_or, slice_set, sym, ap, ◌∙◌, subst, arith, inl, inr, ⊎_elim, true≢false}
use Rattle.std.proofs.lemmas.Bool.{and_parts, and_from, or_cases, or_left, or_right, le-leb, lt-ltb, leb-true, ltb-true, eqb-true, eq-eqb, cases_lt, cases_eq, both_ways, not-true, not_from_false, false_from_ne_true}
use Rattle.std.proofs.lemmas.List.{length-set}
use Rattle.std.specs.Option.{MatchOption}
use Rattle.bit_rows.specs.Sets.{is_in, set_of}
use Rattle.bit_rows.proofs.Facts.{IsLeastFrom, NoneFrom, first_member-from, first_member-is, next_member-is, is_in-below, is_in-set_of, is_in-set_same, is_in-set_other, length-set_of, same_sets}
use Rattle.expr_table.specs.Table.{has}
use Rattle.once_random.proofs.Facts.{same_tests, has-append, has-append_left, has-append_right}
use Rattle.extend_set.specs.Hull.{set_with}
use Rattle.extend_set.specs.Growth.{member_from, is_between, with_run, without_run, with_numbers, AreSameFrom}

-- ---- sets and their numbers

-- sets of one length with the same numbers are equal
pub equal_sets : (xs ys : List Bool) → length xs ≡ length ys → ((q : ℕ) → is_in xs q ≡ true → is_in ys q ≡ true) → ((q : ℕ) → is_in ys q ≡ true → is_in xs q ≡ true) → xs ≡ ys
equal_sets xs ys len there back = same_sets xs ys len (λ q _. same_tests (is_in xs q) (is_in ys q) (there q) (back q))

-- what a set with one more number holds
pub set-parts : (xs : List Bool) (p q : ℕ) → is_in (slice_set xs p true) q ≡ true → (q ≡ p) ⊎ (is_in xs q ≡ true)
set-parts xs p q h = ⊎_elim inl (λ other. inr (sym (is_in-set_other xs p q true other) ∙ h)) (cases_eq q p)

pub set-here : (xs : List Bool) (p q : ℕ) → q ≡ p → p < length xs → is_in (slice_set xs p true) q ≡ true
set-here xs p q is lt = subst (λ k. is_in (slice_set xs p true) k ≡ true) (sym is) (is_in-set_same xs p true lt)

pub set-keeps : (xs : List Bool) (p q : ℕ) → is_in xs q ≡ true → is_in (slice_set xs p true) q ≡ true
set-keeps xs p q h =
    ⊎_elim
    (λ is. set-here xs p q is (subst (λ k. k < length xs) is (is_in-below xs q h)))
    (λ other. is_in-set_other xs p q true other ∙ h)
    (cases_eq q p)

-- a number that passes is in the set of those that pass, and no other
pub of-from : (n : ℕ) (test : ℕ → Bool) (q : ℕ) → q < n → test q ≡ true → is_in (set_of n test) q ≡ true
of-from n test q lt h = is_in-set_of n test q lt ∙ h

pub of-below : (n : ℕ) (test : ℕ → Bool) (q : ℕ) → is_in (set_of n test) q ≡ true → q < n
of-below n test q h = let below : q < length (set_of n test) = is_in-below (set_of n test) q h in omega (arith, length-set_of n test)

pub of-parts : (n : ℕ) (test : ℕ → Bool) (q : ℕ) → is_in (set_of n test) q ≡ true → test q ≡ true
of-parts n test q h = sym (is_in-set_of n test q (of-below n test q h)) ∙ h

pub between-from : (a b q : ℕ) → a ≤ q → q < b → is_between a b q ≡ true
between-from a b q from below = and_from (nat_le a q) (nat_lt q b) (le-leb a q from) (lt-ltb q b below)

pub between-parts : (a b q : ℕ) → is_between a b q ≡ true → (a ≤ q) × (q < b)
between-parts a b q h = let parts = and_parts (nat_le a q) (nat_lt q b) h in (leb-true a q parts.0, ltb-true q b parts.1)

-- ---- the least number from a start on

member_is : (xs : List Bool) (start : ℕ) → MatchOption (member_from xs start) (NoneFrom xs start) (IsLeastFrom xs start)
member_is xs zero = subst (λ found. MatchOption found (NoneFrom xs 0) (IsLeastFrom xs 0)) (sym (first_member-from xs)) (first_member-is xs)
member_is xs (suc k) = next_member-is xs k

pub member_some : (xs : List Bool) (start p : ℕ) → Some p ≡ member_from xs start → IsLeastFrom xs start p
member_some xs start p is = subst (λ found. MatchOption found (NoneFrom xs start) (IsLeastFrom xs start)) (sym is) (member_is xs start)

pub member_none : (xs : List Bool) (start : ℕ) → None ≡ member_from xs start → NoneFrom xs start
member_none xs start is = subst (λ found. MatchOption found (NoneFrom xs start) (IsLeastFrom xs start)) (sym is) (member_is xs start)

-- ---- sets with runs

module _ (xs : List Bool) (test : ℕ → Bool) (a b : ℕ) where
  pub length-run : length (with_run xs test a b) ≡ length xs
  length-run = length-set_of (length xs) (λ p. is_in xs p || (test p && is_between a b p))

  pub run-keeps : (q : ℕ) → is_in xs q ≡ true → is_in (with_run xs test a b) q ≡ true
  run-keeps q h = of-from (length xs) (λ p. is_in xs p || (test p && is_between a b p)) q (is_in-below xs q h) (or_left (is_in xs q) (test q && is_between a b q) h)

  pub run-new : (q : ℕ) → q < length xs → test q ≡ true → a ≤ q → q < b → is_in (with_run xs test a b) q ≡ true
  run-new q lt passes from below =
      of-from (length xs) (λ p. is_in xs p || (test p && is_between a b p)) q lt
      (or_right (is_in xs q) (test q && is_between a b q) (and_from (test q) (is_between a b q) passes (between-from a b q from below)))

  pub run-below : (q : ℕ) → is_in (with_run xs test a b) q ≡ true → q < length xs
  run-below q h = of-below (length xs) (λ p. is_in xs p || (test p && is_between a b p)) q h

  pub run-parts : (q : ℕ) → is_in (with_run xs test a b) q ≡ true → (is_in xs q ≡ true) ⊎ ((test q ≡ true) × (a ≤ q) × (q < b))
  run-parts q h =
      ⊎_elim inl
      (λ new.
      let parts = and_parts (test q) (is_between a b q) new in
      let bounds = between-parts a b q parts.1 in
      inr (parts.0, bounds.0, bounds.1))
      (or_cases (is_in xs q) (test q && is_between a b q) (of-parts (length xs) (λ p. is_in xs p || (test p && is_between a b p)) q h))

-- an empty run
pub run_none : (xs : List Bool) (test : ℕ → Bool) (a : ℕ) → with_run xs test a a ≡ xs
run_none xs test a =
    equal_sets (with_run xs test a a) xs (length-run xs test a a)
    (λ q h. ⊎_elim (λ old. old) (λ (_, from, below). absurd (omega (arith, from, below))) (run-parts xs test a a q h))
    (run-keeps xs test a a)

-- a run of which no number passes
pub run_of_none : (xs : List Bool) (test : ℕ → Bool) (a b : ℕ) → ((q : ℕ) → test q ≡ false) → with_run xs test a b ≡ xs
run_of_none xs test a b none =
    equal_sets (with_run xs test a b) xs (length-run xs test a b)
    (λ q h. ⊎_elim (λ old. old) (λ (passes, _, _). absurd (both_ways (test q) (none q) passes)) (run-parts xs test a b q h))
    (run-keeps xs test a b)

module _ (xs : List Bool) (test : ℕ → Bool) (a : ℕ) where
  -- a run with the same numbers that goes further
  pub run_skip : (b c : ℕ) → b ≤ c → ((q : ℕ) → b ≤ q → q < c → test q ≡ true → is_in xs q ≡ true) → with_run xs test a b ≡ with_run xs test a c
  run_skip b c le none =
      equal_sets (with_run xs test a b) (with_run xs test a c) (length-run xs test a b ∙ sym (length-run xs test a c))
      (λ q h. ⊎_elim (run-keeps xs test a c q) (λ (passes, from, below). run-new xs test a c q (run-below xs test a b q h) passes from (omega arith)) (run-parts xs test a b q h))
      (λ q h. ⊎_elim (run-keeps xs test a b q)
      (λ (passes, from, below).
      ⊎_elim
      (λ lt. run-new xs test a b q (run-below xs test a c q h) passes from lt)
      (λ past. run-keeps xs test a b q (none q past below passes))
      (cases_lt q b))
      (run-parts xs test a c q h))

  -- one more number
  pub run_more : (p next : ℕ) → next ≡ p + 1 → a ≤ p → p < length xs → test p ≡ true → slice_set (with_run xs test a p) p true ≡ with_run xs test a next
  run_more p next is from lt passes =
      equal_sets (slice_set (with_run xs test a p) p true) (with_run xs test a next)
      (length-set (with_run xs test a p) p true ∙ (length-run xs test a p ∙ sym (length-run xs test a next)))
      (λ q h.
      ⊎_elim
      (λ here. run-new xs test a next q (omega arith) (ap test here ∙ passes) (omega arith) (omega arith))
      (λ before. ⊎_elim (run-keeps xs test a next q) (λ (t, l, u). run-new xs test a next q (run-below xs test a p q before) t l (omega arith)) (run-parts xs test a p q before))
      (set-parts (with_run xs test a p) p q h))
      (λ q h.
      let long : p < length (with_run xs test a p) = omega (arith, length-run xs test a p) in
      ⊎_elim
      (λ old. set-keeps (with_run xs test a p) p q (run-keeps xs test a p q old))
      (λ (t, l, u).
      ⊎_elim
      (λ below. set-keeps (with_run xs test a p) p q (run-new xs test a p q (run-below xs test a next q h) t l below))
      (λ past. set-here (with_run xs test a p) p q (omega arith) long)
      (cases_lt q p))
      (run-parts xs test a next q h))

  -- one run behind another
  pub run_chain : (b c : ℕ) → a ≤ b → b ≤ c → with_run (with_run xs test a b) test b c ≡ with_run xs test a c
  run_chain b c ab bc =
      let mid = with_run xs test a b in
      equal_sets (with_run mid test b c) (with_run xs test a c) (length-run mid test b c ∙ (length-run xs test a b ∙ sym (length-run xs test a c)))
      (λ q h.
      ⊎_elim
      (λ old. ⊎_elim (run-keeps xs test a c q) (λ (t, l, u). run-new xs test a c q (run-below xs test a b q old) t l (omega arith)) (run-parts xs test a b q old))
      (λ (t, l, u). let lt : q < length mid = run-below mid test b c q h in run-new xs test a c q (omega (arith, length-run xs test a b)) t (omega arith) u)
      (run-parts mid test b c q h))
      (λ q h.
      ⊎_elim
      (λ old. run-keeps mid test b c q (run-keeps xs test a b q old))
      (λ (t, l, u).
      let lt : q < length xs = run-below xs test a c q h in
      ⊎_elim
      (λ below. run-keeps mid test b c q (run-new xs test a b q lt t l below))
      (λ past. run-new mid test b c q (omega (arith, length-run xs test a b)) t past u)
      (cases_lt q b))
      (run-parts xs test a c q h))

  -- where a run adds nothing from a number on, it may end there
  pub run_reach : (r b : ℕ) → r ≤ b → AreSameFrom r xs (with_run xs test a b) → with_run xs test a r ≡ with_run xs test a b
  run_reach r b le same =
      equal_sets (with_run xs test a r) (with_run xs test a b) (length-run xs test a r ∙ sym (length-run xs test a b))
      (λ q h. ⊎_elim (run-keeps xs test a b q) (λ (t, l, u). run-new xs test a b q (run-below xs test a r q h) t l (omega arith)) (run-parts xs test a r q h))
      (λ q h.
      ⊎_elim
      (λ old. run-keeps xs test a r q old)
      (λ (t, l, u).
      ⊎_elim
      (λ below. run-new xs test a r q (run-below xs test a b q h) t l below)
      (λ past. run-keeps xs test a r q (sym (same q past) ∙ h))
      (cases_lt q r))
      (run-parts xs test a b q h))

  pub run_shorter : (r b : ℕ) (new : List Bool) → new ≡ with_run xs test a b → r ≤ b → AreSameFrom r xs new → new ≡ with_run xs test a r
  run_shorter r b new is le same = is ∙ sym (run_reach r b le (λ p from. ap (λ ys. is_in ys p) (sym is) ∙ same p from))

-- runs of two kinds of numbers
pub run_both : (xs : List Bool) (s t : ℕ → Bool) (a b : ℕ) → with_run (with_run xs s a b) t a b ≡ with_run xs (λ q. s q || t q) a b
run_both xs s t a b =
    let mid = with_run xs s a b in
    let either = λ (q : ℕ). s q || t q in
    equal_sets (with_run mid t a b) (with_run xs either a b) (length-run mid t a b ∙ (length-run xs s a b ∙ sym (length-run xs either a b)))
    (λ q h.
    ⊎_elim
    (λ old. ⊎_elim (run-keeps xs either a b q) (λ (p, l, u). run-new xs either a b q (run-below xs s a b q old) (or_left (s q) (t q) p) l u) (run-parts xs s a b q old))
    (λ (p, l, u). let lt : q < length mid = run-below mid t a b q h in run-new xs either a b q (omega (arith, length-run xs s a b)) (or_right (s q) (t q) p) l u)
    (run-parts mid t a b q h))
    (λ q h.
    ⊎_elim
    (λ old. run-keeps mid t a b q (run-keeps xs s a b q old))
    (λ (p, l, u).
    let lt : q < length xs = run-below xs either a b q h in
    ⊎_elim
    (λ first. run-keeps mid t a b q (run-new xs s a b q lt first l u))
    (λ second. run-new mid t a b q (omega (arith, length-run xs s a b)) second l u)
    (or_cases (s q) (t q) p))
    (run-parts xs either a b q h))

-- the same numbers pass
pub run_same : (xs : List Bool) (s t : ℕ → Bool) (a b : ℕ) → ((q : ℕ) → s q ≡ t q) → with_run xs s a b ≡ with_run xs t a b
run_same xs s t a b same = λ i. with_run xs (λ q. same q i) a b

-- ---- sets without runs

module _ (xs : List Bool) (a b : ℕ) where
  pub length-without : length (without_run xs a b) ≡ length xs
  length-without = length-set_of (length xs) (λ p. is_in xs p && not (is_between a b p))

  pub without-parts : (q : ℕ) → is_in (without_run xs a b) q ≡ true → (is_in xs q ≡ true) × ((q < a) ⊎ (b ≤ q))
  without-parts q h =
      let parts = and_parts (is_in xs q) (not (is_between a b q)) (of-parts (length xs) (λ p. is_in xs p && not (is_between a b p)) q h) in
      let out : is_between a b q ≡ false = not-true (is_between a b q) parts.1 in (
        parts.0,
        ⊎_elim inl (λ from. ⊎_elim (λ below. absurd (both_ways (is_between a b q) out (between-from a b q from below))) inr (cases_lt q b)) (cases_lt q a),
      )

  pub without-keeps : (q : ℕ) → is_in xs q ≡ true → ((q < a) ⊎ (b ≤ q)) → is_in (without_run xs a b) q ≡ true
  without-keeps q h outside =
      of-from (length xs) (λ p. is_in xs p && not (is_between a b p)) q (is_in-below xs q h)
      (and_from (is_in xs q) (not (is_between a b q)) h
      (not_from_false (is_between a b q) (false_from_ne_true (is_between a b q) (λ is.
      let bounds = between-parts a b q is in
      ⊎_elim (λ before. absurd (omega (arith, bounds.0))) (λ after. absurd (omega (arith, bounds.1))) outside))))

pub without_none : (xs : List Bool) (a : ℕ) → without_run xs a a ≡ xs
without_none xs a =
    equal_sets (without_run xs a a) xs (length-without xs a a)
    (λ q h. (without-parts xs a a q h).0)
    (λ q h. without-keeps xs a a q h (cases_lt q a))

-- one more number is taken out
pub without_more : (xs : List Bool) (a p next : ℕ) → next ≡ p + 1 → a ≤ p → slice_set (without_run xs a p) p false ≡ without_run xs a next
without_more xs a p next is from =
    let old = without_run xs a p in
    equal_sets (slice_set old p false) (without_run xs a next) (length-set old p false ∙ (length-without xs a p ∙ sym (length-without xs a next)))
    (λ q h.
    let long : length (slice_set old p false) ≡ length old = length-set old p false in
    let other : q ≡ p → ⊥ = λ here. (let lt : q < length (slice_set old p false) = is_in-below (slice_set old p false) q h in
    both_ways (is_in (slice_set old p false) q) (ap (is_in (slice_set old p false)) here ∙ is_in-set_same old p false (omega arith)) h) in
    let parts = without-parts xs a p q (sym (is_in-set_other old p q false other) ∙ h) in
    without-keeps xs a next q parts.0 (⊎_elim inl (λ past. inr (omega arith)) parts.1))
    (λ q h.
    let parts = without-parts xs a next q h in
    let other : q ≡ p → ⊥ = λ here. (⊎_elim (λ before. absurd (omega arith)) (λ past. absurd (omega arith)) parts.1) in
    is_in-set_other old p q false other ∙ without-keeps xs a p q parts.0 (⊎_elim inl (λ past. inr (omega arith)) parts.1))

-- ---- sets with the numbers of a list

-- what holds of each of a list's numbers holds of each that it has
pub all_has : (P : ℕ → Type 0) (ns : List ℕ) → ((k d : ℕ) → k < length ns → P (get_or ns k d)) → (q : ℕ) → has ns q ≡ true → P q
all_has P [] all q h = absurd (true≢false (sym h))
all_has P (n ∷ ns) all q h =
    ⊎_elim (λ e. subst P (eqb-true n q e) (all 0 0 (omega arith)))
    (λ e. all_has P ns (λ k d l. all (suc k) d (omega arith)) q e)
    (or_cases (n == q) (has ns q) h)

module _ (xs : List Bool) (ns : List ℕ) where
  pub length-numbers : length (with_numbers xs ns) ≡ length xs
  length-numbers = length-set_of (length xs) (λ p. is_in xs p || has ns p)

  pub numbers-keep : (q : ℕ) → is_in xs q ≡ true → is_in (with_numbers xs ns) q ≡ true
  numbers-keep q h = of-from (length xs) (λ p. is_in xs p || has ns p) q (is_in-below xs q h) (or_left (is_in xs q) (has ns q) h)

  pub numbers-new : (q : ℕ) → q < length xs → has ns q ≡ true → is_in (with_numbers xs ns) q ≡ true
  numbers-new q lt h = of-from (length xs) (λ p. is_in xs p || has ns p) q lt (or_right (is_in xs q) (has ns q) h)

  pub numbers-below : (q : ℕ) → is_in (with_numbers xs ns) q ≡ true → q < length xs
  numbers-below q h = of-below (length xs) (λ p. is_in xs p || has ns p) q h

  pub numbers-parts : (q : ℕ) → is_in (with_numbers xs ns) q ≡ true → (is_in xs q ≡ true) ⊎ (has ns q ≡ true)
  numbers-parts q h = or_cases (is_in xs q) (has ns q) (of-parts (length xs) (λ p. is_in xs p || has ns p) q h)

pub numbers_none : (xs : List Bool) → with_numbers xs [] ≡ xs
numbers_none xs =
    equal_sets (with_numbers xs []) xs (length-numbers xs [])
    (λ q h. ⊎_elim (λ old. old) (λ new. absurd (true≢false (sym new))) (numbers-parts xs [] q h))
    (numbers-keep xs [])

-- one more number of the list
pub numbers_more : (xs : List Bool) (ns more : List ℕ) (p : ℕ) → more ≡ ns ++ p ∷ [] → p < length xs → slice_set (with_numbers xs ns) p true ≡ with_numbers xs more
numbers_more xs ns more p is lt =
    let old = with_numbers xs ns in
    let long : p < length old = omega (arith, length-numbers xs ns) in
    equal_sets (slice_set old p true) (with_numbers xs more) (length-set old p true ∙ (length-numbers xs ns ∙ sym (length-numbers xs more)))
    (λ q h.
    ⊎_elim
    (λ here. numbers-new xs more q (omega arith) (ap (λ l. has l q) is ∙ has-append_right ns (p ∷ []) q (or_left (p == q) (has [] q) (eq-eqb p q (sym here)))))
    (λ before.
    ⊎_elim (numbers-keep xs more q) (λ listed. numbers-new xs more q (numbers-below xs ns q before) (ap (λ l. has l q) is ∙ has-append_left ns (p ∷ []) q listed)) (numbers-parts xs ns q before))
    (set-parts old p q h))
    (λ q h.
    ⊎_elim
    (λ before. set-keeps old p q (numbers-keep xs ns q before))
    (λ listed.
    ⊎_elim
    (λ first. set-keeps old p q (numbers-new xs ns q (numbers-below xs more q h) first))
    (λ last. ⊎_elim (λ e. set-here old p q (sym (eqb-true p q e)) long) (λ none. absurd (true≢false (sym none))) (or_cases (p == q) (has [] q) last))
    (has-append ns (p ∷ []) q (sym (ap (λ l. has l q) is) ∙ listed)))
    (numbers-parts xs more q h))

-- without any of its numbers but these, a set is the set of these
pub numbers_alone : (xs : List Bool) (ns : List ℕ) → with_numbers (without_run xs 0 (length xs)) ns ≡ set_with (length xs) ns
numbers_alone xs ns =
    let none = without_run xs 0 (length xs) in
    let long : length none ≡ length xs = length-without xs 0 (length xs) in
    equal_sets (with_numbers none ns) (set_with (length xs) ns) (length-numbers none ns ∙ (long ∙ sym (length-set_of (length xs) (has ns))))
    (λ q h.
    let lt : q < length none = numbers-below none ns q h in
    ⊎_elim
    (λ left. ⊎_elim (λ before. absurd (omega arith)) (λ past. absurd (omega arith)) (without-parts xs 0 (length xs) q left).1)
    (λ listed. of-from (length xs) (has ns) q (omega arith) listed)
    (numbers-parts none ns q h))
    (λ q h. let lt : q < length xs = of-below (length xs) (has ns) q h in numbers-new none ns q (omega arith) (of-parts (length xs) (has ns) q h))

-- A set of which only these numbers lie in a run is itself again, once the run is filled, taken out, and these numbers
-- are put in.
pub run_back : (xs : List Bool) (test : ℕ → Bool) (ns : List ℕ) (a b : ℕ) → ((q : ℕ) → has ns q ≡ true → is_in xs q ≡ true) → ((q : ℕ) → a ≤ q → is_in xs q ≡ true → has ns q ≡ true)
    → with_numbers (without_run (with_run xs test a b) a b) ns ≡ xs
run_back xs test ns a b keeps only =
    let full = with_run xs test a b in
    let none = without_run full a b in
    let long : length none ≡ length xs = length-without full a b ∙ length-run xs test a b in
    equal_sets (with_numbers none ns) xs (length-numbers none ns ∙ long)
    (λ q h.
    ⊎_elim
    (λ left.
    let parts = without-parts full a b q left in
    ⊎_elim (λ old. old) (λ (t, l, u). ⊎_elim (λ before. absurd (omega arith)) (λ past. absurd (omega arith)) parts.1) (run-parts xs test a b q parts.0))
    (keeps q)
    (numbers-parts none ns q h))
    (λ q h.
    let lt : q < length xs = is_in-below xs q h in
    ⊎_elim
    (λ before. numbers-keep none ns q (without-keeps full a b q (run-keeps xs test a b q h) (inl before)))
    (λ from. numbers-new none ns q (omega arith) (only q from h))
    (cases_lt q a))
