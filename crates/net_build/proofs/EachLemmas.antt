-- What is true of each element, by recursion on the list.
use Rattle.std.proofs.Common.{◌≡◌, ℕ, zero, suc, ◌<◌, Bool, true, ◌⊎◌, inl, inr, ⊎_elim, List, [], ◌∷◌, ◌++◌, length, take, drop, map, filter, get_or, Some, refl, sym, subst, arith}
use Rattle.std.specs.List.{All, AllByRecursion, Any, find, flat_map, list_all}
use Rattle.std.specs.Option.{IfSome}
use Rattle.std.proofs.lemmas.Bool.{cond_both, and_parts}

abbrev pub Each : {X : Type 0} → (X → Type 0) → List X → Type 0
Each P xs = AllByRecursion P xs

pub each-append : {X : Type 0} (P : X → Type 0) (xs ys : List X) → Each P xs → Each P ys → Each P (xs ++ ys)
each-append P [] ys h k = k
each-append P (x ∷ xs) ys h k = (h.0, each-append P xs ys h.1 k)

pub each_parts : {X : Type 0} (P : X → Type 0) (xs ys : List X) → Each P (xs ++ ys) → Each P xs × Each P ys
each_parts P [] ys h = (tt, h)
each_parts P (x ∷ xs) ys h = let r = each_parts P xs ys h.1 in ((h.0, r.0), r.1)

pub each_take : {X : Type 0} (P : X → Type 0) (n : ℕ) (xs : List X) → Each P xs → Each P (take n xs)
each_take P zero xs h = tt
each_take P (suc n) [] h = tt
each_take P (suc n) (x ∷ xs) h = (h.0, each_take P n xs h.1)

pub each_drop : {X : Type 0} (P : X → Type 0) (n : ℕ) (xs : List X) → Each P xs → Each P (drop n xs)
each_drop P zero xs h = h
each_drop P (suc n) [] h = tt
each_drop P (suc n) (x ∷ xs) h = each_drop P n xs h.1

pub each_map : {X Y : Type 0} (P : Y → Type 0) (f : X → Y) (xs : List X) → Each (λ x. P (f x)) xs → Each P (map f xs)
each_map P f [] h = tt
each_map P f (x ∷ xs) h = (h.0, each_map P f xs h.1)

pub each_mapped : {X Y : Type 0} (P : Y → Type 0) (f : X → Y) (xs : List X) → Each P (map f xs) → Each (λ x. P (f x)) xs
each_mapped P f [] h = tt
each_mapped P f (x ∷ xs) h = (h.0, each_mapped P f xs h.1)

pub each_weaker : {X : Type 0} (P Q : X → Type 0) → ((x : X) → P x → Q x) → (xs : List X) → Each P xs → Each Q xs
each_weaker P Q f [] h = tt
each_weaker P Q f (x ∷ xs) h = (f x h.0, each_weaker P Q f xs h.1)

pub each_any : {X : Type 0} (P : X → Type 0) → ((x : X) → P x) → (xs : List X) → Each P xs
each_any P f [] = tt
each_any P f (x ∷ xs) = (f x, each_any P f xs)

pub each_flat : {X Y : Type 0} (P : Y → Type 0) (f : X → List Y) (xs : List X) → ((x : X) → Each P (f x)) → Each P (flat_map f xs)
each_flat P f [] h = tt
each_flat P f (x ∷ xs) h = each-append P (f x) (flat_map f xs) (h x) (each_flat P f xs h)

pub each_flat_parts : {X Y : Type 0} (P : Y → Type 0) (f : X → List Y) (xs : List X) → Each P (flat_map f xs) → Each (λ x. Each P (f x)) xs
each_flat_parts P f [] h = tt
each_flat_parts P f (x ∷ xs) h = let r = each_parts P (f x) (flat_map f xs) h in (r.0, each_flat_parts P f xs r.1)

pub each_filter : {X : Type 0} (P : X → Type 0) (p : X → Bool) (xs : List X) → Each P xs → Each P (filter p xs)
each_filter P p [] h = tt
each_filter P p (x ∷ xs) h =
    cond_both (p x) (x ∷ filter p xs) (filter p xs) (λ v. Each P v) (λ e. (h.0, each_filter P p xs h.1)) (λ e. each_filter P p xs h.1)

pub each_both : {X : Type 0} (P Q : X → Type 0) (xs : List X) → Each P xs → Each Q xs → Each (λ x. P x × Q x) xs
each_both P Q [] h k = tt
each_both P Q (x ∷ xs) h k = ((h.0, k.0), each_both P Q xs h.1 k.1)

pub each_passes : {X : Type 0} (p : X → Bool) (xs : List X) → list_all p xs ≡ true → Each (λ x. p x ≡ true) xs
each_passes p [] h = tt
each_passes p (x ∷ xs) h = let r = and_parts (p x) (list_all p xs) h in (r.0, each_passes p xs r.1)

pub each_found : {X : Type 0} (P : X → Type 0) (p : X → Bool) (xs : List X) → Each P xs → IfSome (find p xs) P
each_found P p [] h = tt
each_found P p (x ∷ xs) h =
    cond_both (p x) (Some x) (find p xs) (λ o. IfSome o P) (λ e. h.0) (λ e. each_found P p xs h.1)

-- some element, the first one or a later one
any_at : {X : Type 0} (P : X → Type 0) (x : X) (xs : List X) (k : ℕ) (y : X) → k < length (x ∷ xs) → get_or (x ∷ xs) k y ≡ y → P y → P x ⊎ Any P xs
any_at P x xs zero y h e p = inl (subst P (sym e) p)
any_at P x xs (suc k) y h e p = inr (k, y, (let z : k < length xs = omega (arith, h) in z), e, p)

pub any_cases : {X : Type 0} (P : X → Type 0) (x : X) (xs : List X) → Any P (x ∷ xs) → P x ⊎ Any P xs
any_cases P x xs a = any_at P x xs a.0 a.1 a.2 a.3 a.4

pub any_none : {X : Type 0} (P : X → Type 0) → Any P [] → ⊥
any_none P a = absurd (omega (arith, a.2))

pub any_first : {X : Type 0} (P : X → Type 0) (x : X) (xs : List X) → P x → Any P (x ∷ xs)
any_first P x xs p = (0, x, (let z : 0 < length (x ∷ xs) = omega arith in z), refl, p)

pub any_later : {X : Type 0} (P : X → Type 0) (x : X) (xs : List X) → Any P xs → Any P (x ∷ xs)
any_later P x xs a = (suc a.0, a.1, (let z : suc a.0 < length (x ∷ xs) = omega (arith, a.2) in z), a.3, a.4)

-- each element has P, and some has Q: some has both
pub any_each : {X : Type 0} (P Q : X → Type 0) (xs : List X) → Each P xs → Any Q xs → Any (λ x. P x × Q x) xs
any_each P Q [] h a = absurd (any_none Q a)
any_each P Q (x ∷ xs) h a =
    ⊎_elim (λ q. any_first (λ v. P v × Q v) x xs (h.0, q)) (λ b. any_later (λ v. P v × Q v) x xs (any_each P Q xs h.1 b)) (any_cases Q x xs a)

pub all_at : {X : Type 0} (P : X → Type 0) (xs : List X) (i : ℕ) (x : X) → All P xs → i < length xs → x ≡ get_or xs i x → P x
all_at P xs i x h lt e = subst P (sym e) (h i x lt)
