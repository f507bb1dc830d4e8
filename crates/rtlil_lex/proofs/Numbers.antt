-- The longest spelling that begins with a digit or `-`.
use Rattle.std.proofs.Common.{◌≡◌, ℕ, ◌+◌, ◌<◌, ◌≤◌, zero, suc, false, cond, not, ◌==◌, ◌⊎◌, inl, inr, List, [], ◌∷◌, ◌++◌, length, take, drop, sym, refl, ap, ◌∙◌, subst, ⊎_elim, arith, length-append, append_assoc}
use Rattle.std.specs.Prelude.{IsTrue}
use Rattle.std.specs.List.{prefix_len, list_any}
use Rattle.std.proofs.lemmas.Bool.{cases_Bool, cond-true, cond-false, false≢true, eqb-true, or_cases, or_left, or_right, cond_both, both_ways}
use Rattle.std.proofs.lemmas.List.{length-take-le, drop_at, take-append-drop}
use Rattle.std.proofs.lemmas.List.Sums.{prefix_len-le-length}
use Rattle.rtlil_lex.specs.Bytes.{NoneOrMore, OneOrMore, begins, is_digit, is_bit}
use Rattle.rtlil_lex.specs.Forms.{HasForm, IsInt, IsValue, IsLongest}
use Rattle.rtlil_lex.specs.Tokens.{IsStray}
use Rattle.rtlil_lex.specs.Next.{value_len}
use Rattle.rtlil_lex.specs.declared.token.TokenKind.{TokenKind}
use Rattle.rtlil_lex.specs.declared.token.TokenKind.TheVariants.{Int, Bits}
use Rattle.rtlil_lex.proofs.Runs.{NoneOrMore-from_one, run_is, run_some, run_has, run_longest, run_at, run_from_one, take_past, front_is}
use Rattle.rtlil_lex.proofs.FirstBytes.{kind_of, digit_kind, digit_range}
use Rattle.rtlil_lex.proofs.Longest.{longest_of, none_of, one_from}

-- A spelling that begins with a digit or `-` is bits or an integer.
number_kind : (b : ℕ) (bs : List ℕ) (kind : TokenKind) → kind_of (b ∷ bs) ≡ cond (list_any (λ x. x == 39) bs) Bits Int → kind_of (b ∷ bs) ≡ kind → (kind ≡ Bits) ⊎ (kind ≡ Int)
number_kind b bs kind number is =
    ⊎_elim
    (λ yes. inl (sym is ∙ number ∙ cond-true (list_any (λ x. x == 39) bs) _ _ yes))
    (λ fails. inr (sym is ∙ number ∙ cond-false (list_any (λ x. x == 39) bs) _ _ fails))
    (cases_Bool (list_any (λ x. x == 39) bs))

-- an integer that begins with a digit is digits
int_digits : (b : ℕ) (bs : List ℕ) → IsTrue (is_digit b) → HasForm Int (b ∷ bs) → NoneOrMore is_digit (b ∷ bs)
unfolding HasForm
int_digits b bs h form = ⊎_elim (λ digits. digits) (λ minus. absurd (omega (arith, minus.0, (digit_range b h).0))) form

-- bits are cut at the `'` behind the run of digits
bits_cut : (bytes : List ℕ) (m : ℕ) → HasForm Bits (take m bytes) → (value : List ℕ) × (m ≤ length bytes → m ≡ prefix_len is_digit bytes + 1 + length value) × IsValue value × (drop (prefix_len is_digit bytes) bytes ≡ 39 ∷ value ++ drop m bytes)
unfolding HasForm
bits_cut bytes m (width, value, e, digits, form) =
    let whole : bytes ≡ width ++ (39 ∷ value ++ drop m bytes) = front_is bytes _ m e ∙ append_assoc width (39 ∷ value) (drop m bytes) in
    let run : prefix_len is_digit bytes ≡ length width = ap (prefix_len is_digit) whole ∙ run_at is_digit width (39 ∷ value ++ drop m bytes) (NoneOrMore-from_one is_digit width digits) refl in (
      value,
      λ le. omega (arith, length-take-le m bytes le, ap length e, length-append width (39 ∷ value)),
      form,
      ap (λ n. drop n bytes) run ∙ ap (drop (length width)) whole ∙ drop_at width (39 ∷ value ++ drop m bytes) (length width) refl,
    )

value_longest : (value more : List ℕ) → IsValue value → length value ≤ value_len (value ++ more)
value_longest [] more h = omega arith
value_longest (b ∷ bs) more h =
    ⊎_elim
    (λ signed. let bits : length bs ≤ prefix_len is_bit (bs ++ more) = run_has is_bit bs more h.1 in
    subst (λ n. suc (length bs) ≤ n) (sym (cond-true (b == 115) _ _ signed)) (omega arith))
    (λ fails. let bit : IsTrue (is_bit b) = ⊎_elim (λ yes. absurd (both_ways (b == 115) fails yes)) (λ yes. yes) (or_cases _ _ h.0) in
    subst (λ n. suc (length bs) ≤ n) (sym (cond-false (b == 115) _ _ fails)) (run_has is_bit (b ∷ bs) more (bit, h.1)))
    (cases_Bool (b == 115))

value_is : (bytes : List ℕ) (n : ℕ) → n ≡ value_len bytes → IsValue (take n bytes)
value_is [] zero e = tt
value_is [] (suc n) e = tt
value_is (b ∷ bs) zero e = tt
value_is (b ∷ bs) (suc n) e =
    ⊎_elim
    (λ signed. let bits : suc n ≡ 1 + prefix_len is_bit bs = e ∙ cond-true (b == 115) _ _ signed in
    (or_left _ _ signed, run_is is_bit bs n (omega arith)))
    (λ fails. let bits : NoneOrMore is_bit (take (suc n) (b ∷ bs)) = run_is is_bit (b ∷ bs) (suc n) (e ∙ cond-false (b == 115) _ _ fails) in
    (or_right _ _ bits.0, bits.1))
    (cases_Bool (b == 115))

pub value-le : (bytes : List ℕ) → value_len bytes ≤ length bytes
value-le [] = omega arith
value-le (b ∷ bs) =
    cond_both (b == 115) _ _ (λ n. n ≤ suc (length bs)) (λ yes. omega (arith, prefix_len-le-length is_bit bs)) (λ fails. prefix_len-le-length is_bit (b ∷ bs))

-- digits, a `'` and the value behind it
pub bits_next : (bytes rest : List ℕ) (n v : ℕ) → IsTrue (begins is_digit bytes) → n ≡ prefix_len is_digit bytes → drop n bytes ≡ 39 ∷ rest → v ≡ value_len rest → IsLongest Bits (n + 1 + v) bytes
unfolding HasForm
bits_next [] rest n v h e tick size = absurd (false≢true h)
bits_next (b ∷ bs) rest n v h e tick size =
    let bytes : List ℕ = b ∷ bs in
    let whole : b ∷ bs ≡ take n (b ∷ bs) ++ 39 ∷ rest = sym (take-append-drop n (b ∷ bs)) ∙ ap (λ s. take n (b ∷ bs) ++ s) tick in
    let within : n ≤ length (b ∷ bs) = omega (arith, prefix_len-le-length is_digit (b ∷ bs)) in
    let width : length (take n (b ∷ bs)) ≡ n = length-take-le n (b ∷ bs) within in
    let value : v ≤ length rest = omega (arith, value-le rest) in
    let all : length (b ∷ bs) ≡ n + suc (length rest) = ap length whole ∙ length-append (take n (b ∷ bs)) (39 ∷ rest) ∙ ap (λ k. k + suc (length rest)) width in
    let spelled : take (n + 1 + v) (b ∷ bs) ≡ take n (b ∷ bs) ++ 39 ∷ take v rest =
    ap (take (n + 1 + v)) whole ∙ take_past (take n (b ∷ bs)) (39 ∷ rest) (suc v) (n + 1 + v) (omega arith) in
    longest_of Bits (n + 1 + v) b bs
    (omega arith)
    (take n (b ∷ bs), take v rest, spelled, (run_some is_digit (b ∷ bs) n h e).1, value_is rest v size)
    (λ other more le kind form.
    ⊎_elim
    (λ bits.
    let cut : (x : List ℕ) × (suc more ≤ length (b ∷ bs) → suc more ≡ prefix_len is_digit (b ∷ bs) + 1 + length x) × IsValue x × (drop (prefix_len is_digit (b ∷ bs)) (b ∷ bs) ≡ 39 ∷ x ++ drop (suc more) (b ∷ bs)) = bits_cut (b ∷ bs) (suc more) (subst (λ k. HasForm k (b ∷ take more bs)) bits form) in
    let same : 39 ∷ rest ≡ 39 ∷ cut.0 ++ drop (suc more) (b ∷ bs) = sym tick ∙ ap (λ k. drop k (b ∷ bs)) e ∙ cut.3 in
    let tail : rest ≡ cut.0 ++ drop (suc more) (b ∷ bs) = cc in
    let longer : length cut.0 ≤ value_len rest = subst (λ s. length cut.0 ≤ value_len s) (sym tail) (value_longest cut.0 (drop (suc more) (b ∷ bs)) cut.2) in
    let total : suc more ≡ prefix_len is_digit (b ∷ bs) + 1 + length cut.0 = cut.1 le in
    omega arith)
    (λ int.
    let most : suc more ≤ prefix_len is_digit (b ∷ bs) = run_longest is_digit (b ∷ bs) (suc more) le (int_digits b (take more bs) h (subst (λ k. HasForm k (b ∷ take more bs)) int form)) in
    omega arith)
    (number_kind b (take more bs) other (digit_kind b (take more bs) h) kind))

-- digits with no `'` behind them
pub int_next : (bytes : List ℕ) (n : ℕ) → IsTrue (begins is_digit bytes) → n ≡ prefix_len is_digit bytes → begins (λ x. x == 39) (drop n bytes) ≡ false → IsLongest Int n bytes
unfolding HasForm
int_next [] n h e tick = absurd (false≢true h)
int_next (b ∷ bs) n h e tick =
    longest_of Int n b bs
    (omega (arith, prefix_len-le-length is_digit (b ∷ bs)))
    (digits_int (take n (b ∷ bs)) (run_some is_digit (b ∷ bs) n h e).1)
    (λ other more le kind form.
    ⊎_elim
    (λ bits.
    let cut : (x : List ℕ) × (suc more ≤ length (b ∷ bs) → suc more ≡ prefix_len is_digit (b ∷ bs) + 1 + length x) × IsValue x × (drop (prefix_len is_digit (b ∷ bs)) (b ∷ bs) ≡ 39 ∷ x ++ drop (suc more) (b ∷ bs)) = bits_cut (b ∷ bs) (suc more) (subst (λ k. HasForm k (b ∷ take more bs)) bits form) in
    let same : drop n (b ∷ bs) ≡ 39 ∷ cut.0 ++ drop (suc more) (b ∷ bs) = ap (λ k. drop k (b ∷ bs)) e ∙ cut.3 in
    absurd (both_ways (begins (λ x. x == 39) (drop n (b ∷ bs))) tick (ap (begins (λ x. x == 39)) same)))
    (λ int.
    let most : suc more ≤ prefix_len is_digit (b ∷ bs) = run_longest is_digit (b ∷ bs) (suc more) le (int_digits b (take more bs) h (subst (λ k. HasForm k (b ∷ take more bs)) int form)) in
    omega arith)
    (number_kind b (take more bs) other (digit_kind b (take more bs) h) kind))
  where
    digits_int : (s : List ℕ) → OneOrMore is_digit s → IsInt s
    digits_int [] h = h
    digits_int (x ∷ xs) h = inl h

-- what begins with `-` is an integer, with digits behind it
minus_int : (b : ℕ) (bs : List ℕ) (kind : TokenKind) → b ≡ 45 → kind_of (b ∷ bs) ≡ kind → HasForm kind (b ∷ bs) → OneOrMore is_digit bs
unfolding HasForm
minus_int b bs kind minus is form =
    ⊎_elim
    (λ bits. absurd (no_width (subst (λ k. HasForm k (b ∷ bs)) bits form)))
    (λ int. ⊎_elim (λ digits. absurd (omega (arith, minus, (digit_range b digits.0).0))) (λ negative. negative.1) (int_form (subst (λ k. HasForm k (b ∷ bs)) int form)))
    (number_kind b bs kind (subst (λ x. kind_of (x ∷ bs) ≡ cond (list_any (λ x. x == 39) bs) Bits Int) (sym minus) refl) is)
  where
    int_form : HasForm Int (b ∷ bs) → OneOrMore is_digit (b ∷ bs) ⊎ ((b ≡ 45) × OneOrMore is_digit bs)
    int_form h = h

    no_width : HasForm Bits (b ∷ bs) → ⊥
    no_width h = digit_first h.0 h.1 h.2 h.3
      where
        digit_first : (width value : List ℕ) → b ∷ bs ≡ width ++ 39 ∷ value → OneOrMore is_digit width → ⊥
        digit_first [] value e h = h
        digit_first (x ∷ xs) value e h = let first : b ≡ x = cc in omega (arith, minus, (digit_range x h.0).0)

pub minus_next : (bytes : List ℕ) (n : ℕ) → IsTrue (begins (λ x. x == 45) bytes) → n ≡ prefix_len is_digit (drop 1 bytes) → 0 < n → IsLongest Int (1 + n) bytes
unfolding HasForm
minus_next [] n h e some = absurd (false≢true h)
minus_next (b ∷ bs) n h e some =
    subst (λ size. IsLongest Int size (b ∷ bs)) (omega arith)
    (longest_of Int (suc n) b bs
    (omega (arith, prefix_len-le-length is_digit bs))
    (inr (eqb-true b 45 h, one_from is_digit bs n e some))
    (λ other more le kind form.
    let digits : OneOrMore is_digit (take more bs) = minus_int b (take more bs) other (eqb-true b 45 h) kind form in
    let most : more ≤ prefix_len is_digit bs = run_longest is_digit bs more (omega arith) (NoneOrMore-from_one is_digit _ digits) in
    omega arith))

pub minus_none : (bytes : List ℕ) → IsTrue (begins (λ x. x == 45) bytes) → 0 ≡ prefix_len is_digit (drop 1 bytes) → IsStray bytes
minus_none [] h e = absurd (false≢true h)
minus_none (b ∷ bs) h e =
    let minus : b ≡ 45 = eqb-true b 45 h in
    record {
      some = omega arith;
      no_quote = subst (λ x. IsTrue (not (x == 34))) (sym minus) refl;
      none = none_of b bs (λ k more kind form. omega (arith, run_from_one is_digit bs more (minus_int b (take more bs) k minus kind form)));
    }
