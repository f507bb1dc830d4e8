-- The ways to choose some of the elements of a list, and the binomial numbers.
use Rattle.std.proofs.Common.{◌≡◌, ℕ, zero, suc, ◌+◌, ◌<◌, ◌≤◌, List, [], ◌∷◌, ◌++◌, length, map, refl, sym, ap, ◌∙◌, ⊎_elim, arith}
use Rattle.std.proofs.lemmas.Bool.{cases_lt}
use Rattle.std.proofs.lemmas.List.{length-append, length-map}
use Rattle.tuple_rank.specs.Choices.{choices, choose, choose_to}

-- ---- the lists

pub choices-zero : (xs : List ℕ) → choices zero xs ≡ [] ∷ []
unfolding choices
choices-zero xs = refl

pub choices-none : (k : ℕ) → choices (suc k) [] ≡ []
unfolding choices
choices-none k = refl

pub choices-more : (k x : ℕ) (xs : List ℕ) → choices (suc k) (x ∷ xs) ≡ map (λ ys. x ∷ ys) (choices k xs) ++ choices (suc k) xs
unfolding choices
choices-more k x xs = refl

-- ---- the numbers

pub choose-zero : (n : ℕ) → choose n zero ≡ 1
unfolding choose
choose-zero n = refl

pub choose-none : (k : ℕ) → choose zero (suc k) ≡ 0
unfolding choose
choose-none k = refl

pub choose-more : (n k : ℕ) → choose (suc n) (suc k) ≡ choose n k + choose n (suc k)
unfolding choose
choose-more n k = refl

pub length-choices : (k : ℕ) (xs : List ℕ) → length (choices k xs) ≡ choose (length xs) k
length-choices zero xs = ap length (choices-zero xs) ∙ sym (choose-zero (length xs))
length-choices (suc k) [] = ap length (choices-none k) ∙ sym (choose-none k)
length-choices (suc k) (x ∷ xs) =
    ap length (choices-more k x xs)
    ∙ length-append (map (λ ys. x ∷ ys) (choices k xs)) (choices (suc k) xs)
    ∙ ap (λ l. l + length (choices (suc k) xs)) (length-map (choices k xs) (λ ys. x ∷ ys) ∙ length-choices k xs)
    ∙ ap (λ l. choose (length xs) k + l) (length-choices (suc k) xs)
    ∙ sym (choose-more (length xs) k)

pub choose-past : (n k : ℕ) → n < k → choose n k ≡ 0
choose-past n zero lt = absurd (omega arith)
choose-past zero (suc k) lt = choose-none k
choose-past (suc n) (suc k) lt = choose-more n k ∙ omega (arith, choose-past n k (omega arith), choose-past n (suc k) (omega arith))

pub choose-some : (n k : ℕ) → k ≤ n → 1 ≤ choose n k
choose-some n zero le = omega (arith, choose-zero n)
choose-some zero (suc k) le = absurd (omega arith)
choose-some (suc n) (suc k) le = omega (arith, choose-more n k, choose-some n k (omega arith))

choose-step : (n k : ℕ) → choose n k ≤ choose (suc n) k
choose-step n zero = omega (arith, choose-zero n, choose-zero (suc n))
choose-step n (suc k) = omega (arith, choose-more n k)

-- more things can be chosen from in no fewer ways
pub choose-grows : (m n k : ℕ) → m ≤ n → choose m k ≤ choose n k
choose-grows m zero k le = let e : m ≡ zero = omega arith in omega (arith, ap (λ i. choose i k) e)
choose-grows m (suc n) k le =
    ⊎_elim
    (λ lt. omega (arith, choose-grows m n k (omega arith), choose-step n k))
    (λ past. let e : m ≡ suc n = omega arith in omega (arith, ap (λ i. choose i k) e))
    (cases_lt m (suc n))

pub choose_to-grows : (n s t : ℕ) → s ≤ t → choose_to n s ≤ choose_to n t
choose_to-grows n s zero le = let e : s ≡ zero = omega arith in omega (arith, ap (choose_to n) e)
choose_to-grows n s (suc t) le =
    ⊎_elim
    (λ lt. omega (arith, choose_to-grows n s t (omega arith)))
    (λ past. let e : s ≡ suc t = omega arith in omega (arith, ap (choose_to n) e))
    (cases_lt s (suc t))

-- a number of things that is chosen is one of 1 to t
pub choose-within : (n k t : ℕ) → 1 ≤ k → k ≤ t → choose n k ≤ choose_to n t
choose-within n zero t some le = absurd (omega arith)
choose-within n (suc k) t some le = omega (arith, choose_to-grows n (suc k) t le)

-- sizes past n add nothing
pub choose_to-past : (n t d : ℕ) → n ≤ t → choose_to n (t + d) ≡ choose_to n t
choose_to-past n t zero le = ap (choose_to n) (omega arith)
choose_to-past n t (suc d) le =
    let e : t + suc d ≡ suc (t + d) = omega arith in
    let past : choose n (suc (t + d)) ≡ 0 = choose-past n (suc (t + d)) (omega arith) in
    ap (choose_to n) e ∙ omega (arith, choose_to-past n t d le)
