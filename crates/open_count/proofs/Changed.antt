-- Sums, gathered lists and tests over a list of which one element changed, and the least of some ranks.
use Rattle.std.proofs.Common.{◌≡◌, ℕ, zero, suc, ◌+◌, ◌^◌, ◌<◌, ◌≤◌, ◌⊎◌, Bool, true, ◌||◌, List, [], ◌∷◌, ◌++◌, All, Contains, sum_by, get_or, set, length, min, sym, refl, ap, ◌∙◌, subst, inl, inr, ⊎_elim, arith}
use Rattle.std.specs.List.{flat_map, list_any}
use Rattle.std.proofs.lemmas.Bool.{or_left, or_right, cases_lt}
use Rattle.std.proofs.lemmas.List.Sums.{sum_by-set}
use Rattle.std.proofs.lemmas.List.Elements.{All-append, All-nil, All-cons, All-head, All-tail, All-weaker, Contains-append_left, Contains-append_right, Contains-append_cases, Contains-push}
use mathlib.Core.Option.{some, some-injective, some-ne-none}
use lib.ListN.{get_elem?}
use Rattle.open_count.specs.Views.{no_rank}
use Rattle.open_count.specs.Rule.{least_word}

-- all of two lists put together
All_parts : {X : Type 0} (P : X → Type 0) (xs ys : List X) → All P (xs ++ ys) → All P xs × All P ys
All_parts P [] ys all = (All-nil P, all)
All_parts P (x ∷ xs) ys all = let rest = All_parts P xs ys (All-tail P x (xs ++ ys) all) in (All-cons P x xs (All-head P x (xs ++ ys) all) rest.0, rest.1)

module _ {A : Type 0} where
  -- a place that has an element
  at_place : (l : List A) (i : ℕ) (a : A) → get_elem? l i ≡ some a → (i < length l) × (get_or l i a ≡ a)
  at_place [] i a e = absurd (some-ne-none a (sym e))
  at_place (x ∷ xs) zero a e = (omega arith, some-injective x a e)
  at_place (x ∷ xs) (suc i) a e = let rest = at_place xs i a e in (omega arith, rest.1)

  pub sum_by-changed : (f : A → ℕ) (l : List A) (i : ℕ) (v w : A) → get_elem? l i ≡ some v → sum_by f (set l i w) + f v ≡ sum_by f l + f w
  sum_by-changed f l i v w at = let place = at_place l i v at in subst (λ (x : A). sum_by f (set l i w) + f x ≡ sum_by f l + f w) place.1 (sum_by-set f l i w v place.0)

  pub list_any-same : (p : A → Bool) (l : List A) (i : ℕ) (v w : A) → get_elem? l i ≡ some v → p w ≡ p v → list_any p (set l i w) ≡ list_any p l
  list_any-same p [] i v w at is = refl
  list_any-same p (x ∷ xs) zero v w at is = ap (λ b. b || list_any p xs) (is ∙ ap p (sym (some-injective x v at)))
  list_any-same p (x ∷ xs) (suc i) v w at is = ap (λ b. p x || b) (list_any-same p xs i v w at is)

  pub list_any-here : (p : A → Bool) (l : List A) (i : ℕ) (v : A) → get_elem? l i ≡ some v → p v ≡ true → list_any p l ≡ true
  list_any-here p [] i v at is = absurd (some-ne-none v (sym at))
  list_any-here p (x ∷ xs) zero v at is = or_left (p x) (list_any p xs) (ap p (some-injective x v at) ∙ is)
  list_any-here p (x ∷ xs) (suc i) v at is = or_right (p x) (list_any p xs) (list_any-here p xs i v at is)

  pub list_any-changed : (p : A → Bool) (l : List A) (i : ℕ) (v w : A) → get_elem? l i ≡ some v → p w ≡ true → list_any p (set l i w) ≡ true
  list_any-changed p [] i v w at is = absurd (some-ne-none v (sym at))
  list_any-changed p (x ∷ xs) zero v w at is = or_left (p w) (list_any p xs) is
  list_any-changed p (x ∷ xs) (suc i) v w at is = or_right (p x) (list_any p (set xs i w)) (list_any-changed p xs i v w at is)

  module _ {B : Type 0} (f : A → List B) where
    pub flat_map-same : (l : List A) (i : ℕ) (v w : A) → get_elem? l i ≡ some v → f w ≡ f v → flat_map f (set l i w) ≡ flat_map f l
    flat_map-same [] i v w at is = refl
    flat_map-same (x ∷ xs) zero v w at is = ap (λ ys. ys ++ flat_map f xs) (is ∙ ap f (sym (some-injective x v at)))
    flat_map-same (x ∷ xs) (suc i) v w at is = ap (λ ys. f x ++ ys) (flat_map-same xs i v w at is)

    pub All-changed : (P : B → Type 0) (l : List A) (i : ℕ) (w : A) → All P (flat_map f l) → All P (f w) → All P (flat_map f (set l i w))
    All-changed P [] i w all here = all
    All-changed P (x ∷ xs) zero w all here = All-append P (f w) (flat_map f xs) here (All_parts P (f x) (flat_map f xs) all).1
    All-changed P (x ∷ xs) (suc i) w all here =
        let parts = All_parts P (f x) (flat_map f xs) all in
        All-append P (f x) (flat_map f (set xs i w)) parts.0 (All-changed P xs i w parts.1 here)

    pub All-of : (P : B → Type 0) (l : List A) (i : ℕ) (v : A) → get_elem? l i ≡ some v → All P (flat_map f l) → All P (f v)
    All-of P [] i v at all = absurd (some-ne-none v (sym at))
    All-of P (x ∷ xs) zero v at all = subst (λ (y : A). All P (f y)) (some-injective x v at) (All_parts P (f x) (flat_map f xs) all).0
    All-of P (x ∷ xs) (suc i) v at all = All-of P xs i v at (All_parts P (f x) (flat_map f xs) all).1

    pub Contains-of : (b : B) (l : List A) (i : ℕ) (v : A) → get_elem? l i ≡ some v → Contains (f v) b → Contains (flat_map f l) b
    Contains-of b [] i v at has = absurd (some-ne-none v (sym at))
    Contains-of b (x ∷ xs) zero v at has = Contains-append_left (f x) (flat_map f xs) b (subst (λ (y : A). Contains (f y) b) (sym (some-injective x v at)) has)
    Contains-of b (x ∷ xs) (suc i) v at has = Contains-append_right (f x) (flat_map f xs) b (Contains-of b xs i v at has)

    -- what one element gained, the list gains
    pub Contains-changed : (b : B) (l : List A) (i : ℕ) (v w : A) → get_elem? l i ≡ some v → (Contains (f v) b → Contains (f w) b) → Contains (flat_map f l) b → Contains (flat_map f (set l i w)) b
    Contains-changed b [] i v w at more has = has
    Contains-changed b (x ∷ xs) zero v w at more has = ⊎_elim
        (λ h. Contains-append_left (f w) (flat_map f xs) b (more (subst (λ (y : A). Contains (f y) b) (some-injective x v at) h)))
        (λ h. Contains-append_right (f w) (flat_map f xs) b h)
        (Contains-append_cases (f x) (flat_map f xs) b has)
    Contains-changed b (x ∷ xs) (suc i) v w at more has = ⊎_elim
        (λ h. Contains-append_left (f x) (flat_map f (set xs i w)) b h)
        (λ h. Contains-append_right (f x) (flat_map f (set xs i w)) b (Contains-changed b xs i v w at more h))
        (Contains-append_cases (f x) (flat_map f xs) b has)

    pub Contains-cases : (b : B) (l : List A) (i : ℕ) (w : A) → Contains (flat_map f (set l i w)) b → Contains (flat_map f l) b ⊎ Contains (f w) b
    Contains-cases b [] i w has = inl has
    Contains-cases b (x ∷ xs) zero w has = ⊎_elim inr (λ h. inl (Contains-append_right (f x) (flat_map f xs) b h)) (Contains-append_cases (f w) (flat_map f xs) b has)
    Contains-cases b (x ∷ xs) (suc i) w has = ⊎_elim
        (λ h. inl (Contains-append_left (f x) (flat_map f xs) b h))
        (λ h. ⊎_elim (λ t. inl (Contains-append_right (f x) (flat_map f xs) b t)) inr (Contains-cases b xs i w h))
        (Contains-append_cases (f x) (flat_map f (set xs i w)) b has)

least_bound : (xs : List ℕ) → least_word xs ≤ no_rank
least_bound [] = omega arith
least_bound (x ∷ xs) = omega (arith, least_bound xs)

least-append : (xs ys : List ℕ) → least_word (xs ++ ys) ≡ min (least_word xs) (least_word ys)
least-append [] ys = omega (arith, least_bound ys)
least-append (x ∷ xs) ys = omega (arith, least-append xs ys)

pub least-below : (xs : List ℕ) → All (λ r. least_word xs ≤ r) xs
least-below [] = All-nil (λ r. no_rank ≤ r)
least-below (x ∷ xs) = All-cons (λ r. least_word (x ∷ xs) ≤ r) x xs (omega arith) (All-weaker (λ r. least_word xs ≤ r) (λ r. least_word (x ∷ xs) ≤ r) (λ r h. omega arith) xs (least-below xs))

-- the least is one of the ranks, where there are any
pub least-is : (xs : List ℕ) → (least_word xs ≡ no_rank) ⊎ Contains xs (least_word xs)
least-is [] = inl refl
least-is (x ∷ xs) = ⊎_elim
    (λ (less : least_word xs < x).
    let is : min x (least_word xs) ≡ least_word xs = omega arith in
    ⊎_elim (λ none. inl (is ∙ none)) (λ some. inr (subst (Contains (x ∷ xs)) (sym is) (Contains-append_right (x ∷ []) xs (least_word xs) some))) (least-is xs))
    (λ (more : x ≤ least_word xs). let is : min x (least_word xs) ≡ x = omega arith in inr (subst (Contains (x ∷ xs)) (sym is) (Contains-append_left (x ∷ []) xs x (Contains-push [] x))))
    (cases_lt (least_word xs) x)

-- where one list gained a rank, the least of all falls to it at most
pub least-changed : {A : Type 0} (f : A → List ℕ) (l : List A) (i r : ℕ) (v w : A) → get_elem? l i ≡ some v → f w ≡ f v ++ r ∷ [] → r < 2 ^ 62
    → least_word (flat_map f (set l i w)) ≡ min (least_word (flat_map f l)) r
least-changed f [] i r v w at is small = absurd (some-ne-none v (sym at))
least-changed f (x ∷ xs) zero r v w at is small =
    let here : f w ≡ f x ++ r ∷ [] = is ∙ ap (λ y. f y ++ r ∷ []) (sym (some-injective x v at)) in
    rw here (omega (arith, least-append (f x ++ r ∷ []) (flat_map f xs), least-append (f x) (r ∷ []), least-append (f x) (flat_map f xs)))
least-changed f (x ∷ xs) (suc i) r v w at is small =
    omega (arith, least-append (f x) (flat_map f (set xs i w)), least-append (f x) (flat_map f xs), least-changed f xs i r v w at is small)
