-- Greedy growth under a test that is kept by subsets.
use Rattle.std.proofs.Common.{◌≡◌, ◌⊎◌, ℕ, zero, suc, ◌+◌, ◌<◌, ◌≤◌, Bool, true, false, ◌==◌, List, [], ◌∷◌, ◌++◌, length, slice_set, filter, refl, sym, ap, ◌∙◌, arith, inl, inr, ⊎_elim, true≢false}
use Rattle.std.proofs.lemmas.Bool.{cases_Bool, cond-true, cond-false, cond_both, or_cases, or_left, or_right, eqb-true, eq-eqb, both_ways, false_from_ne_true}
use Rattle.std.proofs.lemmas.List.{length-set}
use Rattle.std.specs.List.{range_with_len}
use Rattle.bit_rows.specs.Sets.{is_in}
use Rattle.bit_rows.proofs.Facts.{each-is_subset}
use Rattle.expr_table.specs.Table.{has}
use Rattle.extend_set.specs.Hull.{joined, grown}
use Rattle.extend_set.specs.Growth.{IsKeptBySubsets, with_run}
use Rattle.extend_set.proofs.RunSets.{equal_sets, set-parts, set-here, set-keeps, length-run, run-keeps, run-new, run-below, run-parts}

-- ---- the numbers of a range, and those of them that pass

pub range_append : (a m k n : ℕ) → n ≡ m + k → range_with_len a n ≡ range_with_len a m ++ range_with_len (a + m) k
range_append a zero k n is = let e : n ≡ k = omega arith in let f : a + 0 ≡ a = omega arith in ap (range_with_len a) e ∙ ap (λ b. range_with_len b k) (sym f)
range_append a (suc m) k zero is = absurd (omega arith)
range_append a (suc m) k (suc n) is =
    let e : a + 1 + m ≡ a + suc m = omega arith in
    ap (λ l. a ∷ l) (range_append (a + 1) m k n (omega arith) ∙ ap (λ b. range_with_len (a + 1) m ++ range_with_len b k) e)

pub range-has : (a k q : ℕ) → a ≤ q → q < a + k → has (range_with_len a k) q ≡ true
range-has a zero q from below = absurd (omega arith)
range-has a (suc k) q from below =
    ⊎_elim
    (λ here. or_left (a == q) (has (range_with_len (a + 1) k) q) here)
    (λ other. or_right (a == q) (has (range_with_len (a + 1) k) q) (range-has (a + 1) k q (omega (arith, different other)) (omega arith)))
    (cases_Bool (a == q))
  where
    different : (a == q) ≡ false → a < q
    different other = let ne : a ≡ q → ⊥ = λ e. both_ways (a == q) other (eq-eqb a q e) in omega arith

pub range-parts : (a k q : ℕ) → has (range_with_len a k) q ≡ true → (a ≤ q) × (q < a + k)
range-parts a zero q h = absurd (true≢false (sym h))
range-parts a (suc k) q h =
    ⊎_elim
    (λ here. let e : a ≡ q = eqb-true a q here in (omega arith, omega arith))
    (λ later. let parts = range-parts (a + 1) k q later in (omega (arith, parts.0), omega (arith, parts.1)))
    (or_cases (a == q) (has (range_with_len (a + 1) k) q) h)

module _ (test : ℕ → Bool) where
  pub filter-has : (ns : List ℕ) (q : ℕ) → has ns q ≡ true → test q ≡ true → has (filter test ns) q ≡ true
  filter-has [] q h passes = h
  filter-has (n ∷ ns) q h passes =
      cond_both (test n) (n ∷ filter test ns) (filter test ns) (λ l. has l q ≡ true)
      (λ kept. ⊎_elim (or_left (n == q) (has (filter test ns) q)) (λ later. or_right (n == q) (has (filter test ns) q) (filter-has ns q later passes)) (or_cases (n == q) (has ns q) h))
      (λ left. ⊎_elim (λ here. absurd (both_ways (test n) left (ap test (eqb-true n q here) ∙ passes))) (λ later. filter-has ns q later passes) (or_cases (n == q) (has ns q) h))

  pub filter-parts : (ns : List ℕ) (q : ℕ) → has (filter test ns) q ≡ true → (has ns q ≡ true) × (test q ≡ true)
  filter-parts [] q h = absurd (true≢false (sym h))
  filter-parts (n ∷ ns) q h =
      cond_both (test n) (n ∷ filter test ns) (filter test ns) (λ l. has l q ≡ true → (has (n ∷ ns) q ≡ true) × (test q ≡ true))
      (λ kept h'.
      ⊎_elim
      (λ here. (or_left (n == q) (has ns q) here, sym (ap test (eqb-true n q here)) ∙ kept))
      (λ later. let parts = filter-parts ns q later in (or_right (n == q) (has ns q) parts.0, parts.1))
      (or_cases (n == q) (has (filter test ns) q) h'))
      (λ left h'. let parts = filter-parts ns q h' in (or_right (n == q) (has ns q) parts.0, parts.1))
      h

-- ---- growth

module _ (fits : List Bool → Bool) where
  pub grown-append : (xs : List Bool) (ps qs : List ℕ) → grown fits xs (ps ++ qs) ≡ grown fits (grown fits xs ps) qs
  grown-append xs [] qs = refl
  grown-append xs (p ∷ ps) qs = grown-append (joined fits xs p) ps qs

  length-joined : (xs : List Bool) (p : ℕ) → length (joined fits xs p) ≡ length xs
  length-joined xs p = cond_both (fits (slice_set xs p true)) (slice_set xs p true) xs (λ ys. length ys ≡ length xs) (λ _. length-set xs p true) (λ _. refl)

  pub length-grown : (xs : List Bool) (ps : List ℕ) → length (grown fits xs ps) ≡ length xs
  length-grown xs [] = refl
  length-grown xs (p ∷ ps) = length-grown (joined fits xs p) ps ∙ length-joined xs p

  joined-keeps : (xs : List Bool) (p q : ℕ) → is_in xs q ≡ true → is_in (joined fits xs p) q ≡ true
  joined-keeps xs p q h = cond_both (fits (slice_set xs p true)) (slice_set xs p true) xs (λ ys. is_in ys q ≡ true) (λ _. set-keeps xs p q h) (λ _. h)

  -- what is in the set stays in
  pub grown-keeps : (xs : List Bool) (ps : List ℕ) (q : ℕ) → is_in xs q ≡ true → is_in (grown fits xs ps) q ≡ true
  grown-keeps xs [] q h = h
  grown-keeps xs (p ∷ ps) q h = grown-keeps (joined fits xs p) ps q (joined-keeps xs p q h)

  joined-parts : (xs : List Bool) (p q : ℕ) → is_in (joined fits xs p) q ≡ true → (q ≡ p) ⊎ (is_in xs q ≡ true)
  joined-parts xs p q =
      cond_both (fits (slice_set xs p true)) (slice_set xs p true) xs (λ ys. is_in ys q ≡ true → (q ≡ p) ⊎ (is_in xs q ≡ true)) (λ _. set-parts xs p q) (λ _. inr)

  -- only the numbers that are listed join
  pub grown-parts : (xs : List Bool) (ps : List ℕ) (q : ℕ) → is_in (grown fits xs ps) q ≡ true → (is_in xs q ≡ true) ⊎ (has ps q ≡ true)
  grown-parts xs [] q h = inl h
  grown-parts xs (p ∷ ps) q h =
      ⊎_elim
      (λ early. ⊎_elim (λ here. inr (or_left (p == q) (has ps q) (eq-eqb p q (sym here)))) inl (joined-parts xs p q early))
      (λ later. inr (or_right (p == q) (has ps q) later))
      (grown-parts (joined fits xs p) ps q h)

  -- what fits grows into what fits
  pub grown-fits : (xs : List Bool) (ps : List ℕ) → fits xs ≡ true → fits (grown fits xs ps) ≡ true
  grown-fits xs [] h = h
  grown-fits xs (p ∷ ps) h =
      grown-fits (joined fits xs p) ps (cond_both (fits (slice_set xs p true)) (slice_set xs p true) xs (λ ys. fits ys ≡ true) (λ fit. fit) (λ _. h))

  module _ (kept : IsKeptBySubsets fits) where
    pub fits-fewer : (some all : List Bool) → ((q : ℕ) → is_in some q ≡ true → is_in all q ≡ true) → fits all ≡ true → fits some ≡ true
    fits-fewer some all each h = kept some all (each-is_subset some all each) h

    -- a number that did not fit is left outside, and would not fit in the end
    misfit_stays : (xs : List Bool) (ps : List ℕ) (q : ℕ) → q < length xs → fits (slice_set xs q true) ≡ false → fits (slice_set (grown fits xs ps) q true) ≡ false
    misfit_stays xs ps q lt misfit =
        let end = grown fits xs ps in
        false_from_ne_true (fits (slice_set end q true)) (λ fit.
        both_ways (fits (slice_set xs q true)) misfit
        (fits-fewer (slice_set xs q true) (slice_set end q true)
        (λ r is.
        ⊎_elim
        (λ here. set-here end q r here (omega (arith, length-grown xs ps)))
        (λ old. set-keeps end q r (grown-keeps xs ps r old))
        (set-parts xs q r is))
        fit))

    -- a listed number outside the set could not join it
    pub grown-maximal : (xs : List Bool) (ps : List ℕ) (q : ℕ) → q < length xs → has ps q ≡ true → is_in (grown fits xs ps) q ≡ false → fits (slice_set (grown fits xs ps) q true) ≡ false
    grown-maximal xs [] q lt h out = absurd (true≢false (sym h))
    grown-maximal xs (p ∷ ps) q lt h out =
        let long : q < length (joined fits xs p) = omega (arith, length-joined xs p) in
        ⊎_elim
        (λ here.
        let e : p ≡ q = eqb-true p q here in
        ⊎_elim
        (λ fit.
        let joins : joined fits xs p ≡ slice_set xs p true = cond-true (fits (slice_set xs p true)) (slice_set xs p true) xs fit in
        let inside : is_in (joined fits xs p) q ≡ true = ap (λ ys. is_in ys q) joins ∙ set-here xs p q (sym e) (omega arith) in
        absurd (both_ways (is_in (grown fits (joined fits xs p) ps) q) out (grown-keeps (joined fits xs p) ps q inside)))
        (λ misfit.
        let stays : joined fits xs p ≡ xs = cond-false (fits (slice_set xs p true)) (slice_set xs p true) xs misfit in
        misfit_stays (joined fits xs p) ps q long
        (ap (λ ys. fits (slice_set ys q true)) stays ∙ (ap (λ r. fits (slice_set xs r true)) (sym e) ∙ misfit)))
        (cases_Bool (fits (slice_set xs p true))))
        (λ later. grown-maximal (joined fits xs p) ps q long later out)
        (or_cases (p == q) (has ps q) h)

-- ---- all of the numbers

-- the set with each of the numbers
abbrev pub with_all : List Bool → List ℕ → List Bool
with_all xs [] = xs
with_all xs (p ∷ ps) = with_all (slice_set xs p true) ps

length-all : (xs : List Bool) (ps : List ℕ) → length (with_all xs ps) ≡ length xs
length-all xs [] = refl
length-all xs (p ∷ ps) = length-all (slice_set xs p true) ps ∙ length-set xs p true

all-keeps : (xs : List Bool) (ps : List ℕ) (q : ℕ) → is_in xs q ≡ true → is_in (with_all xs ps) q ≡ true
all-keeps xs [] q h = h
all-keeps xs (p ∷ ps) q h = all-keeps (slice_set xs p true) ps q (set-keeps xs p q h)

all-new : (xs : List Bool) (ps : List ℕ) (q : ℕ) → q < length xs → has ps q ≡ true → is_in (with_all xs ps) q ≡ true
all-new xs [] q lt h = absurd (true≢false (sym h))
all-new xs (p ∷ ps) q lt h =
    ⊎_elim
    (λ here. let e : q ≡ p = sym (eqb-true p q here) in all-keeps (slice_set xs p true) ps q (set-here xs p q e (omega arith)))
    (λ later. all-new (slice_set xs p true) ps q (omega (arith, length-set xs p true)) later)
    (or_cases (p == q) (has ps q) h)

all-parts : (xs : List Bool) (ps : List ℕ) (q : ℕ) → is_in (with_all xs ps) q ≡ true → (is_in xs q ≡ true) ⊎ (has ps q ≡ true)
all-parts xs [] q h = inl h
all-parts xs (p ∷ ps) q h =
    ⊎_elim
    (λ early. ⊎_elim (λ here. inr (or_left (p == q) (has ps q) (eq-eqb p q (sym here)))) inl (set-parts xs p q early))
    (λ later. inr (or_right (p == q) (has ps q) later))
    (all-parts (slice_set xs p true) ps q h)

-- a run has each number of its range that passes
pub run_is_all : (xs : List Bool) (test : ℕ → Bool) (a k b : ℕ) → b ≡ a + k → b ≤ length xs → with_run xs test a b ≡ with_all xs (filter test (range_with_len a k))
run_is_all xs test a k b is within =
    let ps = filter test (range_with_len a k) in
    equal_sets (with_run xs test a b) (with_all xs ps) (length-run xs test a b ∙ sym (length-all xs ps))
    (λ q h.
    ⊎_elim (all-keeps xs ps q)
    (λ (passes, from, below). all-new xs ps q (run-below xs test a b q h) (filter-has test (range_with_len a k) q (range-has a k q from (omega arith)) passes))
    (run-parts xs test a b q h))
    (λ q h.
    ⊎_elim (run-keeps xs test a b q)
    (λ listed.
    let parts = filter-parts test (range_with_len a k) q listed in
    let bounds = range-parts a k q parts.0 in
    run-new xs test a b q (omega (arith, bounds.1)) parts.1 bounds.0 (omega (arith, bounds.1)))
    (all-parts xs ps q h))

-- numbers that fit all together each join
pub grown_is_all : (fits : List Bool → Bool) → IsKeptBySubsets fits → (xs : List Bool) (ps : List ℕ) → fits (with_all xs ps) ≡ true → grown fits xs ps ≡ with_all xs ps
grown_is_all fits kept xs [] h = refl
grown_is_all fits kept xs (p ∷ ps) h =
    let one : fits (slice_set xs p true) ≡ true = fits-fewer fits kept (slice_set xs p true) (with_all (slice_set xs p true) ps) (all-keeps (slice_set xs p true) ps) h in
    ap (λ ys. grown fits ys ps) (cond-true (fits (slice_set xs p true)) (slice_set xs p true) xs one) ∙ grown_is_all fits kept (slice_set xs p true) ps h
