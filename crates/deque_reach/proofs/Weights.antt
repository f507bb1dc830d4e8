-- Sums and gathered lists over the views of which one changed.
use Rattle.std.proofs.Common.{◌≡◌, ℕ, zero, suc, ◌+◌, ◌<◌, ◌≤◌, List, [], ◌∷◌, ◌++◌, All, get_or, set, length, sum_by, sym, refl, ap, subst, arith}
use Rattle.std.specs.List.{flat_map}
use Rattle.std.proofs.lemmas.List.Sums.{sum_by-cons, sum_by-append, sum_by-set, sum_by_push}
use Rattle.std.proofs.lemmas.List.Elements.{All-nil, All-cons, All-head, All-tail, All-get_or}
use mathlib.Core.Option.{some, some-injective, some-ne-none}
use lib.ListN.{get_elem?}

pub nil_of : {X : Type 0} (xs : List X) → length xs ≡ 0 → xs ≡ []
nil_of [] none = refl
nil_of (x ∷ xs) none = absurd (omega arith)

-- all of two lists put together
pub All_parts : {X : Type 0} (P : X → Type 0) (xs ys : List X) → All P (xs ++ ys) → All P xs × All P ys
All_parts P [] ys all = (All-nil P, all)
All_parts P (x ∷ xs) ys all = let rest = All_parts P xs ys (All-tail P x (xs ++ ys) all) in (All-cons P x xs (All-head P x (xs ++ ys) all) rest.0, rest.1)

pub All_one : {X : Type 0} (P : X → Type 0) (x : X) → P x → All P (x ∷ [])
All_one P x p = All-cons P x [] p (All-nil P)

module _ {A : Type 0} where
  -- a place that has an element
  at_place : (l : List A) (i : ℕ) (a : A) → get_elem? l i ≡ some a → (i < length l) × (get_or l i a ≡ a)
  at_place [] i a e = absurd (some-ne-none a (sym e))
  at_place (x ∷ xs) zero a e = (omega arith, some-injective x a e)
  at_place (x ∷ xs) (suc i) a e = let rest = at_place xs i a e in (omega arith, rest.1)

  pub All-at : (P : A → Type 0) (l : List A) (i : ℕ) (a : A) → get_elem? l i ≡ some a → All P l → P a
  All-at P l i a at all = let place = at_place l i a at in subst P place.1 (All-get_or P l i a place.0 all)

  pub sum_by-changed : (f : A → ℕ) (l : List A) (i : ℕ) (v w : A) → get_elem? l i ≡ some v → sum_by f (set l i w) + f v ≡ sum_by f l + f w
  sum_by-changed f l i v w at = let place = at_place l i v at in subst (λ (x : A). sum_by f (set l i w) + f x ≡ sum_by f l + f w) place.1 (sum_by-set f l i w v place.0)

  pub sum_by-at : (f : A → ℕ) (l : List A) (i : ℕ) (v : A) → get_elem? l i ≡ some v → f v ≤ sum_by f l
  sum_by-at f [] i v at = absurd (some-ne-none v (sym at))
  sum_by-at f (x ∷ xs) zero v at = let is : f x ≡ f v = ap f (some-injective x v at) in omega (arith, sum_by-cons f x xs)
  sum_by-at f (x ∷ xs) (suc i) v at = omega (arith, sum_by-cons f x xs, sum_by-at f xs i v at)

  sum_by-none : (parts f : A → ℕ) (l : List A) → All (λ u. parts u ≡ 0 → f u ≡ 0) l → sum_by parts l ≡ 0 → sum_by f l ≡ 0
  sum_by-none parts f [] idle none = refl
  sum_by-none parts f (x ∷ xs) idle none =
      let cons = sum_by-cons parts x xs in
      let here : f x ≡ 0 = All-head (λ u. parts u ≡ 0 → f u ≡ 0) x xs idle (omega arith) in
      let rest : sum_by f xs ≡ 0 = sum_by-none parts f xs (All-tail (λ u. parts u ≡ 0 → f u ≡ 0) x xs idle) (omega arith) in
      omega (arith, sum_by-cons f x xs)

  -- where one element has all the parts, and f is 0 of each element with none, f of all is f of that one
  pub sum_by-of_one : (parts f : A → ℕ) (l : List A) (i : ℕ) (v : A) → get_elem? l i ≡ some v → All (λ u. parts u ≡ 0 → f u ≡ 0) l → sum_by parts l ≡ parts v → sum_by f l ≡ f v
  sum_by-of_one parts f [] i v at idle whole = absurd (some-ne-none v (sym at))
  sum_by-of_one parts f (x ∷ xs) zero v at idle whole =
      let cons = sum_by-cons parts x xs in
      let is : f x ≡ f v = ap f (some-injective x v at) in
      let has : parts x ≡ parts v = ap parts (some-injective x v at) in
      let rest : sum_by f xs ≡ 0 = sum_by-none parts f xs (All-tail (λ u. parts u ≡ 0 → f u ≡ 0) x xs idle) (omega arith) in
      omega (arith, sum_by-cons f x xs)
  sum_by-of_one parts f (x ∷ xs) (suc i) v at idle whole =
      let cons = sum_by-cons parts x xs in
      let some : parts v ≤ sum_by parts xs = sum_by-at parts xs i v at in
      let here : f x ≡ 0 = All-head (λ u. parts u ≡ 0 → f u ≡ 0) x xs idle (omega arith) in
      let rest : sum_by f xs ≡ f v = sum_by-of_one parts f xs i v at (All-tail (λ u. parts u ≡ 0 → f u ≡ 0) x xs idle) (omega arith) in
      omega (arith, sum_by-cons f x xs)

  -- what the lists of all elements weigh together
  pub sum_by-flat_map : {B : Type 0} (h : B → ℕ) (f : A → List B) (l : List A) → sum_by h (flat_map f l) ≡ sum_by (λ a. sum_by h (f a)) l
  sum_by-flat_map h f [] = refl
  sum_by-flat_map h f (x ∷ xs) = omega (arith, sum_by-append h (f x) (flat_map f xs), sum_by-cons (λ a. sum_by h (f a)) x xs, sum_by-flat_map h f xs)

  pub weight-changed : {B : Type 0} (h : B → ℕ) (f : A → List B) (l : List A) (i : ℕ) (v w : A) → get_elem? l i ≡ some v
      → sum_by h (flat_map f (set l i w)) + sum_by h (f v) ≡ sum_by h (flat_map f l) + sum_by h (f w)
  weight-changed h f l i v w at = omega (arith, sum_by-flat_map h f (set l i w), sum_by-flat_map h f l, sum_by-changed (λ a. sum_by h (f a)) l i v w at)

  pub weight_push : {B : Type 0} (h : B → ℕ) (f : A → List B) (l : List A) (w : A) → sum_by h (flat_map f (l ++ w ∷ [])) ≡ sum_by h (flat_map f l) + sum_by h (f w)
  weight_push h f l w = omega (arith, sum_by-flat_map h f (l ++ w ∷ []), sum_by-flat_map h f l, sum_by_push (λ a. sum_by h (f a)) l w)
