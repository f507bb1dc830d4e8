-- Each printed word is a token, before a space or a line feed.
use Rattle.std.proofs.Common.{◌≡◌, ℕ, ◌*◌, ◌+◌, ◌-◌, ◌<◌, ◌≤◌, ◌/◌, ◌%◌, ◌^◌, ◌==◌, false, List, [], ◌∷◌, ◌++◌, length, refl, ap, ◌∙◌, sym, subst, arith, ℤ, pos, negsuc, neg_ℤ, inl, inr, map, append_assoc, length-append, suc}
use Rattle.std.specs.Prelude.{IsTrue}
use Rattle.std.specs.List.{prefix_len}
use Rattle.std.specs.Fmt.{decimal as printed_decimal, signed_decimal}
use Rattle.std.proofs.lemmas.Fmt.{decimal_by_steps}
use Rattle.std.proofs.lemmas.Bool.{cond-false}
use Rattle.std.proofs.lemmas.Bool.Decides.{nat_tests}
use Rattle.std.proofs.lemmas.List.{drop_at}
use Rattle.std.proofs.lemmas.List.Sums.{fold-append}
use Rattle.rtlil_lex.specs.Bytes.{NoneOrMore, OneOrMore, begins, is_letter, is_digit, is_name_byte, is_bit}
use Rattle.rtlil_lex.specs.Forms.{IsId, IsLongest}
use Rattle.rtlil_lex.specs.declared.token.TokenKind.TheVariants as kind
use Rattle.rtlil_lex.proofs.Runs.{NoneOrMore-from_one, run_at}
use Rattle.rtlil_lex.proofs.Longest.{word_next, id_next}
use Rattle.rtlil_lex.proofs.Numbers.{int_next, minus_next, bits_next}
use Rattle.rtlil_lex.specs.Next.{value_len}
use Rattle.circuit_types.specs.declared.signal.Bits.{Bits}
use Rattle.circuit_types.specs.declared.signal.BitValue.{BitValue}
use Rattle.circuit_types.specs.declared.signal.BitValue.TheVariants.{Zero, One, X, Z, M, Dash}
use Rattle.rtlil_tree.specs.Lexemes.{decimal, IsInteger, bit_code, AreBits}
use Rattle.rtlil_print.specs.Printable.{IsNumber}

-- what follows goes on with no word
pub record Stops (rest : List ℕ) : Type 0 where
  pub letter : begins is_letter rest ≡ false
  pub name : begins is_name_byte rest ≡ false
  pub digit : begins is_digit rest ≡ false
  pub tick : begins (λ b. b == 39) rest ≡ false
  pub bit : begins is_bit rest ≡ false
  pub sign : begins (λ b. b == 115) rest ≡ false

pub stops_at_space : (rest : List ℕ) → Stops (32 ∷ rest)
stops_at_space rest = record { letter = refl; name = refl; digit = refl; tick = refl; bit = refl; sign = refl }

pub stops_at_feed : (rest : List ℕ) → Stops (10 ∷ rest)
stops_at_feed rest = record { letter = refl; name = refl; digit = refl; tick = refl; bit = refl; sign = refl }

-- a number in a slice is followed by a mark
pub record StopsDigits (rest : List ℕ) : Type 0 where
  pub digit : begins is_digit rest ≡ false
  pub tick : begins (λ b. b == 39) rest ≡ false

-- ---- decimal digits

digit_true : (b : ℕ) → 48 ≤ b → b ≤ 57 → IsTrue (is_digit b)
digit_true b low high = grind (arith, nat_tests)

one_more : (ds : List ℕ) (b : ℕ) → OneOrMore is_digit ds → IsTrue (is_digit b) → OneOrMore is_digit (ds ++ b ∷ [])
one_more [] b h d = absurd h
one_more (x ∷ []) b h d = (h.0, (d, tt))
one_more (x ∷ y ∷ ds) b h d = (h.0, one_more (y ∷ ds) b h.1 d)

pub record AreDigitsOf (n : ℕ) (ds : List ℕ) : Type 0 where
  pub form : OneOrMore is_digit ds
  pub value : decimal ds ≡ n

last_digit : (n : ℕ) (ds : List ℕ) → AreDigitsOf (n / 10) ds → AreDigitsOf n (ds ++ (48 + n % 10) ∷ [])
last_digit n ds h = record {
  form = one_more ds (48 + n % 10) h.form (digit_true (48 + n % 10) (omega arith) (omega arith));
  value = fold-append (λ m digit. 10 * m + (digit - 48)) 0 ds ((48 + n % 10) ∷ []) ∙ omega (arith, h.value);
}

pub digits_of : (n : ℕ) → n < 2 ^ 64 → AreDigitsOf n (printed_decimal n)
digits_of =
    decimal_by_steps AreDigitsOf
    (λ m small. record { form = (digit_true (48 + m) (omega arith) (omega arith), tt); value = omega arith })
    (λ m ds large h. last_digit m ds h)

begins_with : (ds rest : List ℕ) → OneOrMore is_digit ds → IsTrue (begins is_digit (ds ++ rest))
begins_with [] rest h = absurd h
begins_with (d ∷ ds) rest h = h.0

pub count_next : (n : ℕ) (rest : List ℕ) → n < 2 ^ 64 → StopsDigits rest → IsLongest kind.Int (length (printed_decimal n)) (printed_decimal n ++ rest)
count_next n rest small stops =
    let ds = printed_decimal n in
    let digits = digits_of n small in
    int_next (ds ++ rest) (length ds) (begins_with ds rest digits.form)
    (sym (run_at is_digit ds rest (NoneOrMore-from_one is_digit ds digits.form) stops.digit))
    (ap (begins (λ b. b == 39)) (drop_at ds rest (length ds) refl) ∙ stops.tick)

-- ---- names

pub name_next : (name rest : List ℕ) → IsId name → begins is_name_byte rest ≡ false → IsLongest kind.Id (length name) (name ++ rest)
name_next [] rest id stops = absurd id
name_next (b ∷ bs) rest id stops =
    let run = run_at is_name_byte bs rest (NoneOrMore-from_one is_name_byte bs id.1) stops in
    subst (λ n. IsLongest kind.Id n (b ∷ (bs ++ rest))) (omega arith)
    (id_next (b ∷ (bs ++ rest)) (length bs) id.0 (sym run) (some bs id.1))
  where
    some : (s : List ℕ) → OneOrMore is_name_byte s → 0 < length s
    some [] h = absurd h
    some (x ∷ xs) h = omega arith

-- ---- words

pub letters_next : (word rest : List ℕ) → OneOrMore is_letter word → begins is_letter rest ≡ false → IsLongest kind.Word (length word) (word ++ rest)
letters_next [] rest h stops = absurd h
letters_next (b ∷ bs) rest h stops =
    word_next (b ∷ (bs ++ rest)) (length (b ∷ bs)) h.0 (sym (run_at is_letter (b ∷ bs) rest h stops))

-- ---- numbers

pub stops_digits : (rest : List ℕ) → Stops rest → StopsDigits rest
stops_digits rest s = record { digit = s.digit; tick = s.tick }

some_digits : (ds : List ℕ) → OneOrMore is_digit ds → 0 < length ds
some_digits [] h = absurd h
some_digits (d ∷ ds) h = omega arith

negative_next : (n : ℕ) (rest : List ℕ) → n < 2 ^ 64 → Stops rest → IsLongest kind.Int (length (45 ∷ printed_decimal n)) (45 ∷ (printed_decimal n ++ rest))
negative_next n rest small stops =
    let ds = printed_decimal n in
    let digits = digits_of n small in
    subst (λ n. IsLongest kind.Int n (45 ∷ (ds ++ rest))) (omega arith)
    (minus_next (45 ∷ (ds ++ rest)) (length ds) refl (sym (run_at is_digit ds rest (NoneOrMore-from_one is_digit ds digits.form) stops.digit)) (some_digits ds digits.form))

pub number_next : (z : ℤ) (rest : List ℕ) → IsNumber z → Stops rest → IsLongest kind.Int (length (signed_decimal z)) (signed_decimal z ++ rest)
number_next (pos n) rest small stops = count_next n rest (omega arith) (stops_digits rest stops)
number_next (negsuc n) rest small stops = negative_next (suc n) rest (omega arith) stops

pub number_says : (z : ℤ) → IsNumber z → IsInteger z (signed_decimal z)
number_says (pos n) small =
    let digits = digits_of n (omega arith) in
    inl (digits.form, ap pos (sym digits.value), omega (arith, digits.value))
number_says (negsuc n) small =
    let digits = digits_of (suc n) (omega arith) in
    inr (printed_decimal (suc n), refl, digits.form, ap (λ m. neg_ℤ (pos m)) (sym digits.value), omega (arith, digits.value))

-- ---- bits

no_sign : (bytes : List ℕ) → begins (λ b. b == 115) bytes ≡ false → value_len bytes ≡ prefix_len is_bit bytes
no_sign [] h = refl
no_sign (b ∷ bs) h = cond-false (b == 115) _ _ h

code_no_sign : (w : BitValue) → (bit_code w == 115) ≡ false
code_no_sign Zero = refl
code_no_sign One = refl
code_no_sign X = refl
code_no_sign Z = refl
code_no_sign M = refl
code_no_sign Dash = refl

code_is_bit : (w : BitValue) → IsTrue (is_bit (bit_code w))
code_is_bit Zero = refl
code_is_bit One = refl
code_is_bit X = refl
code_is_bit Z = refl
code_is_bit M = refl
code_is_bit Dash = refl

codes_are_bits : (ws : List BitValue) → NoneOrMore is_bit (map bit_code ws)
codes_are_bits [] = tt
codes_are_bits (w ∷ ws) = (code_is_bit w, codes_are_bits ws)

codes_no_sign : (ws : List BitValue) (rest : List ℕ) → Stops rest → begins (λ b. b == 115) (map bit_code ws ++ rest) ≡ false
codes_no_sign [] rest stops = stops.sign
codes_no_sign (w ∷ ws) rest stops = code_no_sign w

abbrev pub bits_text : Bits → List ℕ
bits_text b = printed_decimal b.width ++ 39 ∷ map bit_code b.written

pub bits_longest : (b : Bits) (rest : List ℕ) → b.width ≤ 1048576 → Stops rest → IsLongest kind.Bits (length (bits_text b)) (bits_text b ++ rest)
bits_longest b rest small stops =
    let ds = printed_decimal b.width in
    let ws = map bit_code b.written in
    let digits = digits_of b.width (omega arith) in
    let value : length ws ≡ value_len (ws ++ rest) =
    sym (no_sign (ws ++ rest) (codes_no_sign b.written rest stops) ∙ run_at is_bit ws rest (codes_are_bits b.written) stops.bit) in
    let whole : bits_text b ++ rest ≡ ds ++ 39 ∷ (ws ++ rest) = append_assoc ds (39 ∷ ws) rest in
    subst (λ l. IsLongest kind.Bits (length (bits_text b)) l) (sym whole)
    (subst (λ n. IsLongest kind.Bits n (ds ++ 39 ∷ (ws ++ rest))) (omega (arith, length-append ds (39 ∷ ws)))
    (bits_next (ds ++ 39 ∷ (ws ++ rest)) (ws ++ rest) (length ds) (length ws) (begins_with ds (39 ∷ (ws ++ rest)) digits.form)
    (sym (run_at is_digit ds (39 ∷ (ws ++ rest)) (NoneOrMore-from_one is_digit ds digits.form) refl))
    (drop_at ds (39 ∷ (ws ++ rest)) (length ds) refl) value))

pub bits_say : (b : Bits) → b.width ≤ 1048576 → length b.written ≤ b.width → AreBits b (bits_text b)
bits_say b most few =
    let digits = digits_of b.width (omega arith) in
    record { digits = printed_decimal b.width; sign = []; spelled = refl; width_form = digits.form; width_is = sym digits.value; sign_form = inl refl; most = most; few = few }
