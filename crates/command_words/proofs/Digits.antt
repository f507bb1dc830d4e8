-- Decimal digits, one more at a time.
use Rattle.std.proofs.Common.{◌≡◌, ℕ, ◌+◌, ◌-◌, ◌*◌, ◌<◌, ◌≤◌, List, [], ◌∷◌, ◌++◌, length, get_or, take, drop, ap, ◌∙◌, sym, subst, arith, fold}
use Rattle.std.proofs.lemmas.List.Sums.{fold-append}
use Rattle.std.proofs.lemmas.List.{take-append-drop, take_more, take_all}
use Rattle.command_words.specs.Numbers.{decimal}

abbrev step : ℕ → ℕ → ℕ
step n digit = 10 * n + (digit - 48)

grows-from : (n m : ℕ) (ds : List ℕ) → n ≤ m → n ≤ fold step m ds
grows-from n m [] h = h
grows-from n m (d ∷ ds) h = grows-from n (step m d) ds (omega arith)

decimal-grows : (xs ys : List ℕ) → decimal xs ≤ decimal (xs ++ ys)
decimal-grows xs ys =
    let P : ℕ → Type 0 = λ n. decimal xs ≤ n in
    subst P (sym (fold-append step 0 xs ys)) (grows-from (decimal xs) (decimal xs) ys (omega arith))

decimal-take_le : (digits : List ℕ) (k : ℕ) → decimal (take k digits) ≤ decimal digits
decimal-take_le digits k =
    let P : List ℕ → Type 0 = λ ds. decimal (take k digits) ≤ decimal ds in
    subst P (take-append-drop k digits) (decimal-grows (take k digits) (drop k digits))

pub decimal-take : (digits : List ℕ) (i : ℕ) → i < length digits → decimal (take (i + 1) digits) ≡ 10 * decimal (take i digits) + (get_or digits i 0 - 48)
decimal-take digits i h = ap decimal (take_more digits i 0 h) ∙ fold-append step 0 (take i digits) (get_or digits i 0 ∷ [])

-- once more than the most, always more
pub over : (digits : List ℕ) (most i value : ℕ) → value ≡ decimal (take i digits) → i < length digits → most < 10 * value + (get_or digits i 0 - 48) → decimal digits ≤ most → ⊥
over digits most i value is h more le =
    let next = decimal-take digits i h in
    let grows = decimal-take_le digits (i + 1) in
    omega arith

pub whole : (digits : List ℕ) (i value : ℕ) → value ≡ decimal (take i digits) → length digits ≤ i → value ≡ decimal digits
whole digits i value is end = is ∙ ap decimal (take_all i digits end)
