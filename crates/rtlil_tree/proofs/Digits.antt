-- Decimal digits, one more at a time.
use Rattle.std.proofs.Common.{◌≡◌, ℕ, ◌+◌, ◌-◌, ◌*◌, ◌<◌, ◌≤◌, List, [], ◌∷◌, ◌++◌, length, get_or, take, drop, ap, ◌∙◌, sym, subst, arith, fold, Some, None, nat_le}
use Rattle.std.proofs.lemmas.List.Sums.{fold-append}
use Rattle.std.proofs.lemmas.List.{take-append-drop, take_more, take_all}
use Rattle.std.proofs.lemmas.Bool.{le-leb, lt-leb, cond-true, cond-false}
use Rattle.rtlil_tree.specs.Lexemes.{decimal}
use Rattle.rtlil_tree.specs.Said.{natural_of}

abbrev step : ℕ → ℕ → ℕ
step n digit = 10 * n + (digit - 48)

grows_from : (n m : ℕ) (ds : List ℕ) → n ≤ m → n ≤ fold step m ds
grows_from n m [] h = h
grows_from n m (d ∷ ds) h = grows_from n (step m d) ds (omega arith)

pub decimal_grows : (xs ys : List ℕ) → decimal xs ≤ decimal (xs ++ ys)
decimal_grows xs ys =
    let P : ℕ → Type 0 = λ n. decimal xs ≤ n in
    subst P (sym (fold-append step 0 xs ys)) (grows_from (decimal xs) (decimal xs) ys (omega arith))

pub decimal_take_le : (digits : List ℕ) (k : ℕ) → decimal (take k digits) ≤ decimal digits
decimal_take_le digits k =
    let P : List ℕ → Type 0 = λ ds. decimal (take k digits) ≤ decimal ds in
    subst P (take-append-drop k digits) (decimal_grows (take k digits) (drop k digits))

pub decimal_take : (digits : List ℕ) (i : ℕ) → i < length digits → decimal (take (i + 1) digits) ≡ 10 * decimal (take i digits) + (get_or digits i 0 - 48)
decimal_take digits i h = ap decimal (take_more digits i 0 h) ∙ fold-append step 0 (take i digits) (get_or digits i 0 ∷ [])

pub too_large : (digits : List ℕ) (most k : ℕ) → most < decimal (take k digits) → natural_of digits most ≡ None
unfolding natural_of
too_large digits most k h =
    let le = decimal_take_le digits k in
    cond-false (nat_le (decimal digits) most) _ _ (lt-leb (decimal digits) most (omega arith))

pub natural_is : (digits : List ℕ) (most : ℕ) → decimal digits ≤ most → natural_of digits most ≡ Some (decimal digits)
unfolding natural_of
natural_is digits most h = cond-true (nat_le (decimal digits) most) _ _ (le-leb (decimal digits) most h)

-- what holds of the digits read so far gives the answer at the end, and where they are too large
pub natural_end : (digits : List ℕ) (most i value : ℕ) → value ≡ decimal (take i digits) → value ≤ most → length digits ≤ i → Some value ≡ natural_of digits most
natural_end digits most i value is le end =
    let all : value ≡ decimal digits = is ∙ ap decimal (take_all i digits end) in
    ap (λ n. Some n) all ∙ sym (natural_is digits most (omega arith))

pub natural_over : (digits : List ℕ) (most i value : ℕ) → value ≡ decimal (take i digits) → i < length digits → most < 10 * value + (get_or digits i 0 - 48) → None ≡ natural_of digits most
natural_over digits most i value is h over =
    let more = decimal_take digits i h in
    sym (too_large digits most (i + 1) (omega arith))
