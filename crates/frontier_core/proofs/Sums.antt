-- Sums over lists.
use Rattle.std.proofs.Common.{◌≡◌, ℕ, ◌+◌, ◌≤◌, List, [], ◌∷◌, map, reverse, refl, sym, ap, ◌∙◌, arith, sum_by, length}
use Rattle.std.proofs.lemmas.List.{reverse-append}
use Rattle.std.proofs.lemmas.List.Sums.{sum_by-cons, sum_by-append}
use Rattle.std.specs.List.{flat_map, AllByRecursion}

module _ {X Y : Type 0} where
  pub sum-map : (h : Y → ℕ) (f : X → Y) (xs : List X) → sum_by h (map f xs) ≡ sum_by (λ x. h (f x)) xs
  sum-map h f [] = refl
  sum-map h f (x ∷ xs) = sum_by-cons h (f x) (map f xs) ∙ (ap (λ n. h (f x) + n) (sum-map h f xs) ∙ sym (sum_by-cons (λ z. h (f z)) x xs))

  pub sum-flat_map : (h : Y → ℕ) (g : X → List Y) (xs : List X) → sum_by h (flat_map g xs) ≡ sum_by (λ x. sum_by h (g x)) xs
  sum-flat_map h g [] = refl
  sum-flat_map h g (x ∷ xs) =
      sum_by-append h (g x) (flat_map g xs) ∙ (ap (λ n. sum_by h (g x) + n) (sum-flat_map h g xs) ∙ sym (sum_by-cons (λ z. sum_by h (g z)) x xs))

module _ {X : Type 0} where
  pub sum-same : (h k : X → ℕ) (xs : List X) → AllByRecursion (λ x. h x ≡ k x) xs → sum_by h xs ≡ sum_by k xs
  sum-same h k [] all = refl
  sum-same h k (x ∷ xs) all = let here = all.0 in omega (arith, sum_by-cons h x xs, sum_by-cons k x xs, sum-same h k xs all.1)

  pub sum-zero : (h : X → ℕ) (xs : List X) → AllByRecursion (λ x. h x ≡ 0) xs → sum_by h xs ≡ 0
  sum-zero h [] all = refl
  sum-zero h (x ∷ xs) all = let here = all.0 in omega (arith, sum_by-cons h x xs, sum-zero h xs all.1)

  -- where the sum is nothing, so is each term
  pub zero-sum : (h : X → ℕ) (xs : List X) → sum_by h xs ≡ 0 → AllByRecursion (λ x. h x ≡ 0) xs
  zero-sum h [] none = tt
  zero-sum h (x ∷ xs) none = let all = sum_by-cons h x xs in (omega arith, zero-sum h xs (omega arith))

  pub sum-plus : (h k : X → ℕ) (xs : List X) → sum_by (λ x. h x + k x) xs ≡ sum_by h xs + sum_by k xs
  sum-plus h k [] = refl
  sum-plus h k (x ∷ xs) = omega (arith, sum_by-cons h x xs, sum_by-cons k x xs, sum_by-cons (λ z. h z + k z) x xs, sum-plus h k xs)

  -- each term is at most the sum
  pub terms-le : (h : X → ℕ) (xs : List X) → AllByRecursion (λ x. h x ≤ sum_by h xs) xs
  terms-le h xs = within h xs (sum_by h xs) (omega arith)
    where
      within : (h : X → ℕ) (xs : List X) (n : ℕ) → sum_by h xs ≤ n → AllByRecursion (λ x. h x ≤ n) xs
      within h [] n le = tt
      within h (x ∷ xs) n le = let all = sum_by-cons h x xs in (omega arith, within h xs n (omega arith))

  pub sum-reverse : (h : X → ℕ) (xs : List X) → sum_by h (reverse xs) ≡ sum_by h xs
  sum-reverse h [] = refl
  sum-reverse h (x ∷ xs) = omega (arith, ap (sum_by h) (reverse-append (x ∷ []) xs), sum_by-append h (reverse xs) (x ∷ []), sum_by-cons h x [], sum_by-cons h x xs, sum-reverse h xs)

  pub sum-ones : (xs : List X) → sum_by (λ x. 1) xs ≡ length xs
  sum-ones [] = refl
  sum-ones (x ∷ xs) = let one = sum_by-cons (λ (z : X). 1) x xs in let rest = sum-ones xs in omega arith
