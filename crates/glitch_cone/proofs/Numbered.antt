-- Cones as sets of numbers: the least ones, and what sources they stand for.
use Rattle.std.proofs.Common.{◌≡◌, ◌<◌, ◌≤◌, ℕ, zero, suc, ◌+◌, ◌||◌, ◌==◌, Bool, true, false, cond, List, [], ◌∷◌, length, map, get_or, All, refl, sym, ap, ◌∙◌, subst, arith, true≢false, ⊎_elim}
use Rattle.std.specs.List.{filter, range_with_len}
use Rattle.std.proofs.lemmas.Bool.{cases_eq, cond-true, cond-false, eq-eqb, eqb-true, ne_eqb, false_from_ne_true, or_cases, or_right, or_left}
use Rattle.std.proofs.lemmas.List.Folds.{list_any_at}
use Rattle.std.proofs.lemmas.List.FromFn.{fill_by_all}
use Rattle.circuit_types.specs.declared.nets.Source.{Source}
use Rattle.circuit_types.specs.declared.nets.Source.TheVariants as source
use Rattle.circuit_types.specs.Order.{has}
use Rattle.circuit_types.specs.Stable.{is_same_source, has_source}
use Rattle.glitch_cone.specs.Numbers.{AscendsFrom, IsCone, source_at}

pub same_is : (s t : Source) → is_same_source s t ≡ true → s ≡ t
same_is (source.Input a) (source.Input b) h = ap (λ n. source.Input n) (eqb-true a b h)
same_is (source.Cell j) (source.Cell k) h = ap (λ n. source.Cell n) (eqb-true j k h)
same_is source.Zero source.Zero h = refl
same_is source.One source.One h = refl
same_is source.Unknown source.Unknown h = refl
same_is source.Missing source.Missing h = refl
same_is s t h = absurd (true≢false (sym h))

pub same_refl : (s : Source) → is_same_source s s ≡ true
same_refl (source.Input a) = eq-eqb a a refl
same_refl (source.Cell k) = eq-eqb k k refl
same_refl source.Zero = refl
same_refl source.One = refl
same_refl source.Unknown = refl
same_refl source.Missing = refl

pub same_from : (s t : Source) → s ≡ t → is_same_source s t ≡ true
same_from s t e = subst (λ u. is_same_source s u ≡ true) e (same_refl s)

pub not_same : (s t : Source) → is_same_source s t ≡ false → s ≡ t → ⊥
not_same s t f e = true≢false (sym (same_from s t e) ∙ f)

-- numbers below the first are none of an ascending list's
below_none : (low : ℕ) (xs : List ℕ) (n : ℕ) → AscendsFrom low xs → n < low → has xs n ≡ false
below_none low [] n a lt = refl
below_none low (x ∷ xs) n a lt =
    let le = a.0 in
    ap (λ b. b || has xs n) (ne_eqb x n (λ e. absurd (omega arith))) ∙ below_none (x + 1) xs n a.1 (omega arith)

-- an ascending list is its numbers in a range that has them all
ascending_is : (test : ℕ → Bool) (m low : ℕ) (xs : List ℕ) → AscendsFrom low xs → ((n : ℕ) → has xs n ≡ true → n < low + m) → ((n : ℕ) → low ≤ n → n < low + m → has xs n ≡ test n)
    → xs ≡ filter test (range_with_len low m)
ascending_is test zero low [] a within each = refl
ascending_is test zero low (x ∷ xs) a within each =
    let le = a.0 in
    let lt = within x (or_left (x == x) (has xs x) (eq-eqb x x refl)) in
    absurd (omega arith)
ascending_is test (suc m) low [] a within each =
    ascending_is test m (low + 1) [] tt (λ n h. absurd (true≢false (sym h))) (λ n le lt. each n (omega arith) (omega arith))
    ∙ sym (cond-false (test low) (low ∷ filter test (range_with_len (low + 1) m)) (filter test (range_with_len (low + 1) m)) (sym (each low (omega arith) (omega arith))))
ascending_is test (suc m) low (x ∷ xs) a within each =
    ⊎_elim
    (λ e.
    let here : test low ≡ true = sym (each low (omega arith) (omega arith)) ∙ or_left (x == low) (has xs low) (eq-eqb x low e) in
    let rest = ascending_is test m (low + 1) xs
    (subst (λ n. AscendsFrom (n + 1) xs) e a.1)
    (λ n h. omega (arith, within n (or_right (x == n) (has xs n) h)))
    (λ n le lt. sym (ap (λ b. b || has xs n) (ne_eqb x n (λ f. absurd (omega arith)))) ∙ each n (omega arith) (omega arith)) in
    ap (λ n. n ∷ xs) e ∙ ap (λ ys. low ∷ ys) rest
    ∙ sym (cond-true (test low) (low ∷ filter test (range_with_len (low + 1) m)) (filter test (range_with_len (low + 1) m)) here))
    (λ other.
    let le = a.0 in
    let later : AscendsFrom (low + 1) (x ∷ xs) = (omega arith, a.1) in
    let here : test low ≡ false = sym (each low (omega arith) (omega arith)) ∙ below_none (low + 1) (x ∷ xs) low later (omega arith) in
    ascending_is test m (low + 1) (x ∷ xs) later (λ n h. omega (arith, within n h)) (λ n l lt. each n (omega arith) (omega arith))
    ∙ sym (cond-false (test low) (low ∷ filter test (range_with_len (low + 1) m)) (filter test (range_with_len (low + 1) m)) here))
    (cases_eq x low)

filter-map : (f : ℕ → Source) (test : Source → Bool) (ks : List ℕ) → filter test (map f ks) ≡ map f (filter (λ k. test (f k)) ks)
filter-map f test [] = refl
filter-map f test (k ∷ ks) = go (test (f k)) (filter-map f test ks)
  where
    go : (b : Bool) → filter test (map f ks) ≡ map f (filter (λ k. test (f k)) ks)
        → cond b (f k ∷ filter test (map f ks)) (filter test (map f ks)) ≡ map f (cond b (k ∷ filter (λ k. test (f k)) ks) (filter (λ k. test (f k)) ks))
    go true rest = ap (λ ys. f k ∷ ys) rest
    go false rest = rest

module _ (sources : List Source) where
  abbrev numbers_of : List Source → List ℕ
  numbers_of behind = filter (λ k. has_source behind (source_at sources k)) (range_with_len 0 (length sources))

  cone_is : (behind : List Source) (xs : List ℕ) → IsCone sources behind xs → xs ≡ numbers_of behind
  cone_is behind xs is =
      ascending_is (λ k. has_source behind (source_at sources k)) (length sources) 0 xs is.ascends
      (λ n h. omega (arith, is.within n h)) (λ n le lt. is.each n (omega arith))

  -- the sources of a cone
  pub cone_sources : (behind : List Source) (xs : List ℕ) → IsCone sources behind xs → map (source_at sources) xs ≡ filter (has_source behind) sources
  cone_sources behind xs is =
      ap (map (source_at sources)) (cone_is behind xs is)
      ∙ sym (filter-map (source_at sources) (has_source behind) (range_with_len 0 (length sources)))
      ∙ ap (filter (has_source behind)) (sym (fill_by_all (source_at sources) sources (length sources) source.Missing refl (λ k lt. refl)))

  pub same_cone : (behind : List Source) (xs ys : List ℕ) → IsCone sources behind xs → IsCone sources behind ys → xs ≡ ys
  same_cone behind xs ys a b = cone_is behind xs a ∙ sym (cone_is behind ys b)

  -- nothing of the list is in the set
  pub no_cone : (behind : List Source) → ((n : ℕ) → n < length sources → has_source behind (source_at sources n) ≡ false) → IsCone sources behind []
  no_cone behind none = record {
    ascends = tt;
    within = λ n h. absurd (true≢false (sym h));
    each = λ n lt. sym (none n lt);
  }

  -- one source of the list is in the set
  pub own_cone : (s : Source) (n : ℕ) → n < length sources → source_at sources n ≡ s → ((k : ℕ) → k < length sources → source_at sources k ≡ s → k ≡ n) → IsCone sources (s ∷ []) (n ∷ [])
  own_cone s n lt is one = record {
    ascends = (omega arith, tt);
    within = λ k h. ⊎_elim (λ e. let same = eqb-true n k e in omega arith) (λ f. absurd (true≢false (sym f))) (or_cases (n == k) false h);
    each = λ k l. ap (λ b. b || false) (go k l);
  }
    where
      go : (k : ℕ) → k < length sources → (n == k) ≡ is_same_source (source_at sources k) s
      go k l =
          ⊎_elim
          (λ e. eq-eqb n k e ∙ sym (same_from (source_at sources k) s (ap (source_at sources) (sym e) ∙ is)))
          (λ other. ne_eqb n k other ∙ sym (false_from_ne_true (is_same_source (source_at sources k) s) (λ h. other (sym (one k l (same_is (source_at sources k) s h))))))
          (cases_eq n k)

  pub cone_within : (behind : List Source) (xs : List ℕ) → IsCone sources behind xs → All (λ k. k < length sources) xs
  cone_within behind xs is k d lt = is.within (get_or xs k d) (list_any_at (λ m. m == get_or xs k d) xs k d lt (eq-eqb (get_or xs k d) (get_or xs k d) refl))
