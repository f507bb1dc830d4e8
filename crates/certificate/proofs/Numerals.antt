-- Numbers in decimal at the front of bytes.
use Rattle.std.proofs.Common.{◌≡◌, ℕ, ◌+◌, ◌<◌, ◌≤◌, ◌^◌, zero, suc, Bool, true, false, List, [], ◌∷◌, ◌++◌, length, take, drop, get_or, decimal, refl, sym, ap, ◌∙◌, subst, arith, append_assoc, length-append, Option, Some, None, SomeIff, Result, Ok, Err}
use Rattle.std.specs.Prelude.{IsTrue, IsUtf8, OkIff}
use Rattle.std.specs.List.{prefix_len}
use Rattle.std.specs.Str.Parse.{IsNumeral, AllDigits, digits_value, ParsesUnsigned}
use Rattle.std.specs.Result.{result_ok}
use Rattle.std.specs.Borrow.{Bor}
use Rattle.std.specs.Option.{MatchOption}
use Rattle.std.proofs.lemmas.Bool.{true≢false}
use Rattle.std.proofs.lemmas.Bool.Decides.{nat_tests}
use Rattle.std.proofs.lemmas.Fmt.{decimal_nonempty, decimal_digit, first_decimal, digits_decimal, digits_value-decimal, decimal-digits_value, decimal_injective, IsAscii-from_digits}
use Rattle.std.proofs.lemmas.Str.{IsUtf8-from_ascii}
use Rattle.std.proofs.lemmas.Str.Parse.{IsNumeralModel, numerals_by_value, parse_digits}
use Rattle.std.proofs.lemmas.List.{append_cancel_left, append_cancel_right, take_at, drop_at, take-append-drop}
use Rattle.rtlil_lex.specs.Bytes.{NoneOrMore, begins, is_digit}
use Rattle.rtlil_lex.proofs.FirstBytes.{digit_range}
use Rattle.rtlil_lex.proofs.Runs.{run_is, run_at, run_stops, same_cut}
use Rattle.certificate.specs.Parts.{NumberAfter, NoNumberAfter}

digit_true : (b : ℕ) → 48 ≤ b → b ≤ 57 → IsTrue (is_digit b)
digit_true b low high = grind (arith, nat_tests)

-- lists of digits, and what they stand for
own : IsNumeralModel (λ ds. NoneOrMore is_digit ds) (digits_value 10)
own =
    numerals_by_value (λ ds. NoneOrMore is_digit ds)
    (record { empty = tt; parts = λ c cs h. (digit_range c h.0, h.1); more = λ c cs k h. (digit_true c k.0 k.1, h) })

-- how digits may stand for a number: there is one, and no 0 before others
abbrev pub ArePlain : List ℕ → Type 0
ArePlain ds = (0 < length ds) × (get_or ds 0 0 ≡ 48 → length ds ≡ 1)

pub plain_decimal : (n : ℕ) → n < 2 ^ 64 → ArePlain (decimal n)
plain_decimal zero small = (decimal_nonempty 0 small, λ first. ap length (decimal_digit 0 (omega arith)))
plain_decimal (suc n) small =
    (decimal_nonempty (suc n) small, λ first. absurd (omega (arith, first, first_decimal (suc n) (omega arith) small)))

-- the digits at the front are those of the number that stands there
front : (bytes : List ℕ) (n : ℕ) (rest : List ℕ) → NumberAfter (2 ^ 64) [] bytes n rest → prefix_len is_digit bytes ≡ length (decimal n)
front bytes n rest h = ap (prefix_len is_digit) h.text ∙ run_at is_digit (decimal n) rest (digits_decimal own n h.below) h.stops

front_digits : (bytes : List ℕ) (n : ℕ) (rest : List ℕ) → NumberAfter (2 ^ 64) [] bytes n rest → take (prefix_len is_digit bytes) bytes ≡ decimal n
front_digits bytes n rest h =
    ap (λ k. take k bytes) (front bytes n rest h) ∙ ap (take (length (decimal n))) h.text ∙ take_at (decimal n) rest (length (decimal n)) refl

-- ---- what `number` answers

-- the digits are not plain
pub none_plain : (bytes ds : List ℕ) (plain : Bool) → ds ≡ take (prefix_len is_digit bytes) bytes → (ArePlain ds → IsTrue plain) → plain ≡ false → NoNumberAfter (2 ^ 64) [] bytes
none_plain bytes ds plain cut is fails = λ n rest h.
    let same : decimal n ≡ ds = sym (front_digits bytes n rest h) ∙ sym cut in
    true≢false (sym (is (subst ArePlain same (plain_decimal n h.below))) ∙ fails)

-- the digits are plain, and stand for too much
pub none_fits : (bytes ds : List ℕ) → ds ≡ take (prefix_len is_digit bytes) bytes → (digits_value 10 ds < 2 ^ 64 → ⊥) → NoNumberAfter (2 ^ 64) [] bytes
none_fits bytes ds cut large = λ n rest h.
    let same : ds ≡ decimal n = cut ∙ front_digits bytes n rest h in
    let value : digits_value 10 ds ≡ n = ap (digits_value 10) same ∙ digits_value-decimal own n h.below in
    large (omega (arith, h.below))

pub numeral : (bytes ds : List ℕ) → ds ≡ take (prefix_len is_digit bytes) bytes → ArePlain ds → IsNumeral 10 ds
numeral bytes ds cut plain =
    (plain.0, own.to ds (subst (λ (s : List ℕ). NoneOrMore is_digit s) (sym cut) (run_is is_digit bytes (prefix_len is_digit bytes) refl)))

pub number_found : (bytes ds rest : List ℕ) (n : ℕ) → ds ≡ take (prefix_len is_digit bytes) bytes → rest ≡ drop (prefix_len is_digit bytes) bytes → ArePlain ds
    → (digits_value 10 ds < 2 ^ 64) × (n ≡ digits_value 10 ds) → NumberAfter (2 ^ 64) [] bytes n rest
number_found bytes ds rest n cut left plain value =
    let digits : NoneOrMore is_digit ds = subst (λ (s : List ℕ). NoneOrMore is_digit s) (sym cut) (run_is is_digit bytes (prefix_len is_digit bytes) refl) in
    let written : decimal n ≡ ds = ap decimal value.1 ∙ decimal-digits_value own ds digits plain.0 plain.1 value.0 in
    record {
      text = sym (take-append-drop (prefix_len is_digit bytes) bytes) ∙ ap (λ s. s ++ drop (prefix_len is_digit bytes) bytes) (sym cut)
          ∙ ap (λ s. s ++ drop (prefix_len is_digit bytes) bytes) (sym written) ∙ ap (λ s. decimal n ++ s) (sym left);
      below = omega (arith, value.0, value.1);
      stops = ap (begins is_digit) left ∙ run_stops is_digit bytes (prefix_len is_digit bytes) refl;
    }

-- ---- what `value_of` answers

pub numeral_text : (ds : List ℕ) → IsNumeral 10 ds → IsUtf8 ds
numeral_text ds h = IsUtf8-from_ascii ds (IsAscii-from_digits ds h.1)

pub value_is : {E : Type 0} (ds : List ℕ) (r : Result ℕ E) → IsNumeral 10 ds → ParsesUnsigned 64 10 ds r → SomeIff (result_ok r) (digits_value 10 ds < 2 ^ 64) (digits_value 10 ds)
value_is ds r h parsed = by_cases r (parse_digits own 64 ds r parsed (own.from ds h.1))
  where
    by_cases : {E : Type 0} (r : Result ℕ E) → OkIff r ((0 < length ds) × (digits_value 10 ds < 2 ^ 64)) (digits_value 10 ds) → SomeIff (result_ok r) (digits_value 10 ds < 2 ^ 64) (digits_value 10 ds)
    by_cases (Ok n) given = (given.0.1, given.1)
    by_cases (Err e) given = λ fits. given (h.0, fits)

-- ---- a number behind a word

-- a word and a number behind it, before what is no digit, are found in one way
pub record SameNumber (n m : ℕ) (rest after : List ℕ) : Type 0 where
  pub number : n ≡ m
  pub left : rest ≡ after

pub same_number : (k l : ℕ) (word bytes : List ℕ) (n m : ℕ) (rest after : List ℕ) → k ≤ 2 ^ 64 → l ≤ 2 ^ 64
    → NumberAfter k word bytes n rest → NumberAfter l word bytes m after → SameNumber n m rest after
same_number k l word bytes n m rest after low high h g =
    let texts : decimal n ++ rest ≡ decimal m ++ after = append_cancel_left word _ _ (sym h.text ∙ g.text) in
    let first : n < 2 ^ 64 = omega (arith, h.below) in
    let second : m < 2 ^ 64 = omega (arith, g.below) in
    let cut : (length (decimal n) ≡ length (decimal m)) × (rest ≡ after) =
    same_cut is_digit (decimal n) rest (decimal m) after (digits_decimal own n first) (digits_decimal own m second) h.stops g.stops texts in
    let digits : decimal n ≡ decimal m = append_cancel_right (decimal n) (decimal m) rest (texts ∙ ap (λ s. decimal m ++ s) (sym cut.1)) in
    record { number = decimal_injective n m first second digits; left = cut.1 }

-- what is left is less
pub number_shorter : (bound : ℕ) (word bytes : List ℕ) (n : ℕ) (rest : List ℕ) → NumberAfter bound word bytes n rest → 0 < length word → length rest < length bytes
number_shorter bound word bytes n rest h some =
    omega (arith, ap length h.text, length-append word (decimal n ++ rest), length-append (decimal n) rest)

-- what is not found behind the word
pub none_behind : (bound : ℕ) (word bytes rest : List ℕ) → bytes ≡ word ++ rest → NoNumberAfter bound [] rest → NoNumberAfter bound word bytes
none_behind bound word bytes rest cut none = λ n after h.
    none n after (record { text = append_cancel_left word rest _ (sym cut ∙ h.text); below = h.below; stops = h.stops })

pub none_without : (bound : ℕ) (word bytes : List ℕ) → ((rest : List ℕ) → bytes ≡ word ++ rest → ⊥) → NoNumberAfter bound word bytes
none_without bound word bytes none = λ n after h. none _ h.text

pub found_behind : (bound : ℕ) (word bytes rest : List ℕ) (n : ℕ) (after : List ℕ) → bytes ≡ word ++ rest → NumberAfter bound [] rest n after → NumberAfter bound word bytes n after
found_behind bound word bytes rest n after cut h = record { text = cut ∙ ap (λ s. word ++ s) h.text; below = h.below; stops = h.stops }

-- what is found behind the word is what is found in what follows it
pub behind_word : (bound : ℕ) (word bytes rest : List ℕ) (r : Option (ℕ × Bor (List ℕ))) → bytes ≡ word ++ rest
    → MatchOption r (NoNumberAfter bound [] rest) (λ (found : ℕ × Bor (List ℕ)). NumberAfter bound [] rest found.0 found.1.now)
    → MatchOption r (NoNumberAfter bound word bytes) (λ (found : ℕ × Bor (List ℕ)). NumberAfter bound word bytes found.0 found.1.now)
behind_word bound word bytes rest None cut h = none_behind bound word bytes rest cut h
behind_word bound word bytes rest (Some found) cut h = found_behind bound word bytes rest found.0 found.1.now cut h

-- a number of more than 32 bits is none of at most 32
pub none_large : (word bytes : List ℕ) (n : ℕ) (rest : List ℕ) → NumberAfter (2 ^ 64) word bytes n rest → 2 ^ 32 ≤ n → NoNumberAfter (2 ^ 32) word bytes
none_large word bytes n rest h large = λ m after g.
    let same = same_number (2 ^ 64) (2 ^ 32) word bytes n m rest after (omega arith) (omega arith) h g in
    absurd (omega (arith, same.number, g.below))

pub none_small : (word bytes : List ℕ) → NoNumberAfter (2 ^ 64) word bytes → NoNumberAfter (2 ^ 32) word bytes
none_small word bytes none = λ n rest h. none n rest (record { text = h.text; below = omega (arith, h.below); stops = h.stops })

pub small_found : (word bytes : List ℕ) (n : ℕ) (rest : List ℕ) → NumberAfter (2 ^ 64) word bytes n rest → n < 2 ^ 32 → NumberAfter (2 ^ 32) word bytes n rest
small_found word bytes n rest h small = record { text = h.text; below = small; stops = h.stops }
