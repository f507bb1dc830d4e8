-- Numbers below a number that pass a test: how many there are, and the exclusive or of them.
use Rattle.std.proofs.Common.{◌≡◌, ◌⊎◌, ℕ, zero, suc, ◌+◌, ◌<◌, Bool, true, false, if◌then◌else◌, bit_xor, refl, sym, ap, ◌∙◌, subst, arith, inl, inr, ⊎_elim}
use Rattle.std.specs.Int.Bits.{xor_assoc, xor_self, xor_zero_r}
use Rattle.std.proofs.lemmas.Nat.{xor_comm}
use Rattle.std.proofs.lemmas.Bool.{cases_Bool, cases_eq, cases_lt, cond-true, cond-false}
use Rattle.once_random.specs.Numbers.{count_below}
use Rattle.once_random.proofs.Facts.{count_below-same}
use Rattle.live_rows.specs.Shown.{mixed_below}

-- a number below n + 1 that is not n
pub less_apart : (x n : ℕ) → x < suc n → (x ≡ n → ⊥) → x < n
less_apart x n l other = ⊎_elim (λ h. h) (λ h. absurd (other (omega arith))) (cases_lt x n)

one_more : (a b c k m : ℕ) → a ≡ c → k ≡ 1 → m ≡ 0 → a + k ≡ (c + m) + 1
one_more a b c k m e f g = omega arith

same_more : (a c k m : ℕ) → a ≡ c + 1 → k ≡ m → a + k ≡ (c + m) + 1
same_more a c k m e f = omega arith

-- one number more passes
pub count_more : (f g : ℕ → Bool) (n x : ℕ) → x < n → f x ≡ false → g x ≡ true → ((i : ℕ) → i < n → (i ≡ x → ⊥) → g i ≡ f i) → count_below n g ≡ count_below n f + 1
count_more f g zero x l fails passes other = absurd (omega arith)
count_more f g (suc n) x l fails passes other =
    ⊎_elim
    (λ same. let before : count_below n g ≡ count_below n f = count_below-same n g f (λ i k. other i (omega arith) (λ e. let w : i ≡ n = e ∙ same in omega arith)) in
    one_more _ 0 _ _ _ before (cond-true (g n) 1 0 (subst (λ k. g k ≡ true) same passes)) (cond-false (f n) 1 0 (subst (λ k. f k ≡ false) same fails)))
    (λ apart. same_more _ _ _ _ (count_more f g n x (less_apart x n l apart) fails passes (λ i k. other i (omega arith)))
    (ap (λ b. if b then 1 else 0) (other n (omega arith) (λ e. apart (sym e)))))
    (cases_eq x n)

pub mixed_same : (n : ℕ) (f g : ℕ → Bool) → ((i : ℕ) → i < n → f i ≡ g i) → mixed_below n f ≡ mixed_below n g
mixed_same zero f g h = refl
mixed_same (suc n) f g h =
    ap (λ a. bit_xor a (if f n then n else 0)) (mixed_same n f g (λ i l. h i (omega arith)))
    ∙ ap (λ b. bit_xor (mixed_below n g) (if b then n else 0)) (h n (omega arith))

swapped : (a b c : ℕ) → bit_xor (bit_xor a b) c ≡ bit_xor (bit_xor a c) b
swapped a b c = xor_assoc a b c ∙ ap (bit_xor a) (xor_comm b c) ∙ sym (xor_assoc a c b)

-- one number more passes
pub mixed_more : (f g : ℕ → Bool) (n x : ℕ) → x < n → f x ≡ false → g x ≡ true → ((i : ℕ) → i < n → (i ≡ x → ⊥) → g i ≡ f i) → mixed_below n g ≡ bit_xor (mixed_below n f) x
mixed_more f g zero x l fails passes other = absurd (omega arith)
mixed_more f g (suc n) x l fails passes other =
    ⊎_elim
    (λ same. let before : mixed_below n g ≡ mixed_below n f = mixed_same n g f (λ i k. other i (omega arith) (λ e. let w : i ≡ n = e ∙ same in omega arith)) in
    ap (λ a. bit_xor a (if g n then n else 0)) before
    ∙ ap (bit_xor (mixed_below n f)) (cond-true (g n) n 0 (subst (λ k. g k ≡ true) same passes) ∙ sym same)
    ∙ ap (λ a. bit_xor a x) (sym (ap (bit_xor (mixed_below n f)) (cond-false (f n) n 0 (subst (λ k. f k ≡ false) same fails)) ∙ xor_zero_r (mixed_below n f))))
    (λ apart. ap (λ a. bit_xor a (if g n then n else 0)) (mixed_more f g n x (less_apart x n l apart) fails passes (λ i k. other i (omega arith)))
    ∙ ap (λ b. bit_xor (bit_xor (mixed_below n f) x) (if b then n else 0)) (other n (omega arith) (λ e. apart (sym e)))
    ∙ swapped (mixed_below n f) x (if f n then n else 0))
    (cases_eq x n)

-- one number fewer passes
pub mixed_less : (f g : ℕ → Bool) (n x : ℕ) → x < n → f x ≡ false → g x ≡ true → ((i : ℕ) → i < n → (i ≡ x → ⊥) → g i ≡ f i) → mixed_below n f ≡ bit_xor (mixed_below n g) x
mixed_less f g n x l fails passes other =
    sym (xor_zero_r (mixed_below n f)) ∙ ap (bit_xor (mixed_below n f)) (sym (xor_self x)) ∙ sym (xor_assoc (mixed_below n f) x x)
    ∙ ap (λ a. bit_xor a x) (sym (mixed_more f g n x l fails passes other))

split_some : (a k : ℕ) → 0 < a + k → (0 < a) ⊎ (0 < k)
split_some zero k h = inr (omega arith)
split_some (suc a) k h = inl (omega arith)

-- where the count is not 0, some number passes
pub count_exists : (test : ℕ → Bool) (n : ℕ) → 0 < count_below n test → (p : ℕ) × (p < n) × (test p ≡ true)
count_exists test zero h = absurd (omega arith)
count_exists test (suc n) h =
    ⊎_elim
    (λ l. let r = count_exists test n l in (r.0, omega (arith, r.1), r.2))
    (λ l. (n, omega arith, ⊎_elim (λ t. t) (λ f. absurd (none (test n) f l)) (cases_Bool (test n))))
    (split_some (count_below n test) (if test n then 1 else 0) h)
  where
    nothing : 0 < 0 → ⊥
    nothing l = omega arith

    none : (b : Bool) → b ≡ false → 0 < (if b then 1 else 0) → ⊥
    none b f l = nothing (subst (λ k. 0 < k) (cond-false b 1 0 f) l)
