-- What is true of each element of lists that are put together.
use Rattle.std.proofs.Common.{◌≡◌, ℕ, zero, suc, ◌+◌, ◌*◌, ◌<◌, ◌≤◌, List, [], ◌∷◌, ◌++◌, length, length-append, mul-suc, arith}
use Rattle.std.specs.List.{AllByRecursion, flat_map, range_with_len}

abbrev pub Each : {X : Type 0} → (X → Type 0) → List X → Type 0
Each P xs = AllByRecursion P xs

pub each-append : {X : Type 0} (P : X → Type 0) (xs ys : List X) → Each P xs → Each P ys → Each P (xs ++ ys)
each-append P [] ys h k = k
each-append P (x ∷ xs) ys h k = (h.0, each-append P xs ys h.1 k)

pub each_weaker : {X : Type 0} (P Q : X → Type 0) → ((x : X) → P x → Q x) → (xs : List X) → Each P xs → Each Q xs
each_weaker P Q f [] h = tt
each_weaker P Q f (x ∷ xs) h = (f x h.0, each_weaker P Q f xs h.1)

pub each_flat : {X Y : Type 0} (P : X → Type 0) (Q : Y → Type 0) (f : X → List Y) → ((x : X) → P x → Each Q (f x)) → (xs : List X) → Each P xs
    → Each Q (flat_map f xs)
each_flat P Q f h [] e = tt
each_flat P Q f h (x ∷ xs) e = each-append Q (f x) (flat_map f xs) (h x e.0) (each_flat P Q f h xs e.1)

pub each_from : (P : ℕ → Type 0) (a n : ℕ) → ((k : ℕ) → a ≤ k → k < a + n → P k) → Each P (range_with_len a n)
each_from P a zero h = tt
each_from P a (suc n) h = (h a (omega arith) (omega arith), each_from P (a + 1) n (λ k low high. h k (omega arith) (omega arith)))

pub each_below : (n : ℕ) → Each (λ k. k < n) (range_with_len 0 n)
each_below n = each_from (λ k. k < n) 0 n (λ k low high. omega arith)

pub length_flat : {X Y : Type 0} (f : X → List Y) (most : ℕ) → ((x : X) → length (f x) ≤ most) → (xs : List X) → length (flat_map f xs) ≤ most * length xs
length_flat f most h [] = omega arith
length_flat f most h (x ∷ xs) =
    let e = length-append (f x) (flat_map f xs) in
    let i = length_flat f most h xs in
    let m : most * suc (length xs) ≡ most * length xs + most = mul-suc most (length xs) in
    let b = h x in
    omega arith
