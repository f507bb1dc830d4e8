-- Sums over all lists of n bits, and counts as such sums.
use Rattle.std.proofs.Common.{◌≡◌, ℕ, zero, suc, ◌+◌, ◌^◌, ◌<◌, Bool, true, false, not, cond, List, [], ◌∷◌, length, map, set, refl, sym, ap, ◌∙◌, subst, arith, true≢false}
use Rattle.std.specs.Prelude.{All, sum_by, count_by}
use Rattle.std.proofs.Math.Nat.{pow-succ'}
use Rattle.std.proofs.lemmas.List.{length-append, length-map}
use Rattle.std.proofs.lemmas.List.Sums.{sum_by-append, sum_by-cons}
use Rattle.std.proofs.lemmas.List.Elements.{All-append, All-map}
use Rattle.expr_table.specs.Values.{bit, xor}
use Rattle.count_law.specs.Counts.{assignments, are_same_bits, count}

-- the sum of f over the lists of n bits
abbrev pub total : ℕ → (List Bool → ℕ) → ℕ
total zero f = f []
total (suc n) f = total n (λ w. f (false ∷ w)) + total n (λ w. f (true ∷ w))

sum_by-map : (f : List Bool → ℕ) (g : List Bool → List Bool) (xs : List (List Bool)) → sum_by f (map g xs) ≡ sum_by (λ w. f (g w)) xs
sum_by-map f g [] = refl
sum_by-map f g (x ∷ xs) = sum_by-cons f (g x) (map g xs) ∙ ap (λ k. f (g x) + k) (sum_by-map f g xs) ∙ sym (sum_by-cons (λ w. f (g w)) x xs)

add_same : (a b c d : ℕ) → a ≡ c → b ≡ d → a + b ≡ c + d
add_same a b c d h k = omega arith

pub sum-total : (n : ℕ) (f : List Bool → ℕ) → sum_by f (assignments n) ≡ total n f
sum-total zero f = omega arith
sum-total (suc n) f =
    let zeros = map (λ w. false ∷ w) (assignments n) in
    let ones = map (λ w. true ∷ w) (assignments n) in
    sum_by-append f zeros ones
    ∙ add_same (sum_by f zeros) (sum_by f ones) (total n (λ w. f (false ∷ w))) (total n (λ w. f (true ∷ w)))
    (sum_by-map f (λ w. false ∷ w) (assignments n) ∙ sum-total n (λ w. f (false ∷ w)))
    (sum_by-map f (λ w. true ∷ w) (assignments n) ∙ sum-total n (λ w. f (true ∷ w)))

-- 1 where the observation is o, and 0 elsewhere
abbrev pub one_at : (List Bool → List Bool) → List Bool → List Bool → ℕ
one_at observe o w = cond (are_same_bits (observe w) o) 1 0

pub count-total : (n : ℕ) (observe : List Bool → List Bool) (o : List Bool) → count n observe o ≡ total n (one_at observe o)
unfolding count
count-total n observe o = sum-total n (one_at observe o)

-- only lists of n bits count
pub total-same_long : (n : ℕ) (f g : List Bool → ℕ) → ((w : List Bool) → length w ≡ n → f w ≡ g w) → total n f ≡ total n g
total-same_long zero f g h = h [] refl
total-same_long (suc n) f g h =
    add_same _ _ _ _ (total-same_long n (λ w. f (false ∷ w)) (λ w. g (false ∷ w)) (λ w l. h (false ∷ w) (ap suc l)))
    (total-same_long n (λ w. f (true ∷ w)) (λ w. g (true ∷ w)) (λ w l. h (true ∷ w) (ap suc l)))

pub total-same : (n : ℕ) (f g : List Bool → ℕ) → ((w : List Bool) → f w ≡ g w) → total n f ≡ total n g
total-same n f g h = total-same_long n f g (λ w l. h w)

swap_add : (a b c d : ℕ) → a + b + (c + d) ≡ a + c + (b + d)
swap_add a b c d = omega arith

pub total-add : (n : ℕ) (f g : List Bool → ℕ) → total n (λ w. f w + g w) ≡ total n f + total n g
total-add zero f g = refl
total-add (suc n) f g =
    add_same _ _ _ _ (total-add n (λ w. f (false ∷ w)) (λ w. g (false ∷ w))) (total-add n (λ w. f (true ∷ w)) (λ w. g (true ∷ w)))
    ∙ swap_add (total n (λ w. f (false ∷ w))) (total n (λ w. g (false ∷ w))) (total n (λ w. f (true ∷ w))) (total n (λ w. g (true ∷ w)))

-- counts of observations that are the same for each assignment
pub count-same : (n : ℕ) (f g : List Bool → List Bool) (o : List Bool) → ((w : List Bool) → f w ≡ g w) → count n f o ≡ count n g o
count-same n f g o h =
    count-total n f o ∙ total-same n (one_at f o) (one_at g o) (λ w. ap (λ (l : List Bool). cond (are_same_bits l o) 1 0) (h w)) ∙ sym (count-total n g o)

-- w with the bit at v changed where the mask is set
abbrev pub masked : ℕ → (List Bool → Bool) → List Bool → List Bool
masked v mask w = set w v (xor (bit w v) (mask w))

-- the mask does not read the bit at v
abbrev pub Ignores : ℕ → (List Bool → Bool) → Type 0
Ignores v mask = (w : List Bool) (b : Bool) → mask (set w v b) ≡ mask w

-- two values, in either order, have one sum
either_order : (f : Bool → ℕ) (a b m : Bool) → a ≡ m → b ≡ m → f a + f (not b) ≡ f false + f true
either_order f a b true p q = omega (arith, ap f p, ap (λ x. f (not x)) q)
either_order f a b false p q = omega (arith, ap f p, ap (λ x. f (not x)) q)

-- Masking one bit by what does not read it keeps each sum: at the bit's place the two values are exchanged or stay.
pub masked_total : (n v : ℕ) (mask : List Bool → Bool) (f : List Bool → ℕ) → v < n → Ignores v mask → total n (λ w. f (masked v mask w)) ≡ total n f
masked_total zero v mask f lt h = absurd (omega arith)
masked_total (suc n) zero mask f lt h =
    sym (total-add n (λ w. f (mask (false ∷ w) ∷ w)) (λ w. f (not (mask (true ∷ w)) ∷ w)))
    ∙ total-same n (λ w. f (mask (false ∷ w) ∷ w) + f (not (mask (true ∷ w)) ∷ w)) (λ w. f (false ∷ w) + f (true ∷ w))
    (λ w. either_order (λ b. f (b ∷ w)) (mask (false ∷ w)) (mask (true ∷ w)) (mask (false ∷ w)) refl (h (false ∷ w) true))
    ∙ total-add n (λ w. f (false ∷ w)) (λ w. f (true ∷ w))
masked_total (suc n) (suc v) mask f lt h =
    add_same _ _ _ _ (masked_total n v (λ w. mask (false ∷ w)) (λ w. f (false ∷ w)) (omega arith) (λ w b. h (false ∷ w) b))
    (masked_total n v (λ w. mask (true ∷ w)) (λ w. f (true ∷ w)) (omega arith) (λ w b. h (true ∷ w) b))

-- lists with the same bits
pub same_bits-exact : (bs cs : List Bool) → are_same_bits bs cs ≡ true → bs ≡ cs
same_bits-exact [] [] h = refl
same_bits-exact (false ∷ bs) (false ∷ cs) h = ap (λ (l : List Bool). false ∷ l) (same_bits-exact bs cs h)
same_bits-exact (true ∷ bs) (true ∷ cs) h = ap (λ (l : List Bool). true ∷ l) (same_bits-exact bs cs h)
same_bits-exact bs cs h = absurd (true≢false (sym h))

pub same_bits-self : (bs : List Bool) → are_same_bits bs bs ≡ true
same_bits-self [] = refl
same_bits-self (false ∷ bs) = same_bits-self bs
same_bits-self (true ∷ bs) = same_bits-self bs

pub same_bits-equal : (bs cs : List Bool) → bs ≡ cs → are_same_bits bs cs ≡ true
same_bits-equal bs cs e = subst (λ (l : List Bool). are_same_bits bs l ≡ true) e (same_bits-self bs)

-- each list of n bits is one of the assignments, once
pub long : (n : ℕ) → All (λ w. length w ≡ n) (assignments n)
long zero = first_long
  where
    first_long : All (λ (w : List Bool). length w ≡ 0) ([] ∷ [])
    first_long zero d lt = refl
    first_long (suc k) d lt = absurd (omega arith)
long (suc n) =
    All-append (λ w. length w ≡ suc n) (map (λ w. false ∷ w) (assignments n)) (map (λ w. true ∷ w) (assignments n))
    (All-map (λ w. length w ≡ suc n) (λ w. false ∷ w) (assignments n) (λ k d lt. ap suc (long n k d lt)))
    (All-map (λ w. length w ≡ suc n) (λ w. true ∷ w) (assignments n) (λ k d lt. ap suc (long n k d lt)))

pub total-none : (n : ℕ) → total n (λ w. 0) ≡ 0
total-none zero = refl
total-none (suc n) = add_same _ _ 0 0 (total-none n) (total-none n)

pub total-once : (w : List Bool) → total (length w) (λ v. cond (are_same_bits w v) 1 0) ≡ 1
total-once [] = refl
total-once (false ∷ w) = add_same _ _ 1 0 (total-once w) (total-none (length w))
total-once (true ∷ w) = add_same _ _ 0 1 (total-none (length w)) (total-once w)

pub once : (w : List Bool) → count_by (are_same_bits w) (assignments (length w)) ≡ 1
once w = sum-total (length w) (λ v. cond (are_same_bits w v) 1 0) ∙ total-once w

doubled : (n a b : ℕ) → a ≡ 2 ^ n → b ≡ 2 ^ n → a + b ≡ 2 ^ suc n
doubled n a b h k = omega (arith, pow-succ' 2 n)

pub number : (n : ℕ) → length (assignments n) ≡ 2 ^ n
number zero = refl
number (suc n) =
    length-append (map (λ w. false ∷ w) (assignments n)) (map (λ w. true ∷ w) (assignments n))
    ∙ doubled n _ _ (length-map (assignments n) (λ w. false ∷ w) ∙ number n) (length-map (assignments n) (λ w. true ∷ w) ∙ number n)

-- counts of all observations
pub total-ones : (n : ℕ) → total n (λ w. 1) ≡ 2 ^ n
total-ones zero = refl
total-ones (suc n) = doubled n _ _ (total-ones n) (total-ones n)

total-swap : (n k : ℕ) (c : List Bool → List Bool → ℕ) → total k (λ o. total n (λ w. c w o)) ≡ total n (λ w. total k (λ o. c w o))
total-swap zero k c = refl
total-swap (suc n) k c =
    total-add k (λ o. total n (λ w. c (false ∷ w) o)) (λ o. total n (λ w. c (true ∷ w) o))
    ∙ add_same _ _ _ _ (total-swap n k (λ w o. c (false ∷ w) o)) (total-swap n k (λ w o. c (true ∷ w) o))

pub counts_add_up : (n k : ℕ) (observe : List Bool → List Bool) → ((w : List Bool) → length w ≡ n → length (observe w) ≡ k)
    → sum_by (count n observe) (assignments k) ≡ 2 ^ n
counts_add_up n k observe h =
    sum-total k (count n observe)
    ∙ total-same k (count n observe) (λ o. total n (one_at observe o)) (count-total n observe)
    ∙ total-swap n k (λ w o. one_at observe o w)
    ∙ total-same_long n (λ w. total k (λ o. one_at observe o w)) (λ w. 1)
    (λ w l. subst (λ (j : ℕ). total j (λ o. cond (are_same_bits (observe w) o) 1 0) ≡ 1) (h w l) (total-once (observe w)))
    ∙ total-ones n
