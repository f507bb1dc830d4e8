-- Constants of written bits: how the reader reads one, and how it is spelled.
use Rattle.std.proofs.Common.{◌≡◌, ℕ, ◌+◌, ◌≤◌, ◌==◌, ◌||◌, not, ◌⊎◌, inl, inr, List, [], ◌∷◌, ◌++◌, length, take, drop, map, refl, ap, ◌∙◌, sym, subst, arith, Bool, true, false, cond, nat_le, nat_lt, Option, Some, None, leb-true, le-leb, lt-ltb, ne_eqb, eqb-true, length-append, drop-drop, take_at, drop_at, codes}
use Rattle.std.proofs.lemmas.Bool.{cond-true}
use Rattle.std.proofs.lemmas.List.{length-map}
use Rattle.std.specs.List.{prefix_len}
use Rattle.rtlil_lex.specs.Bytes.{NoneOrMore, OneOrMore, is_digit, is_bit}
use Rattle.rtlil_lex.specs.Forms.{IsValue, IsBits}
use Rattle.circuit_types.specs.declared.signal.BitValue.{BitValue}
use Rattle.circuit_types.specs.declared.signal.BitValue.TheVariants.{Zero, One, X, Z, M, Dash}
use Rattle.circuit_types.specs.declared.signal.Bits.{Bits}
use Rattle.circuit_types.specs.declared.signal.Value.TheVariants as value
use Rattle.rtlil_tree.specs.Lexemes.{Lexeme, constant, decimal, bit_code, AreBits}
use Rattle.rtlil_tree.specs.Said.{◌>>=◌, natural_of, is_no_quote, at_quote, without_sign, bit_of, bits, bits_of}
use Rattle.rtlil_tree.proofs.Digits.{natural_is}
use Rattle.rtlil_tree.proofs.Numbers.{natural_some, digit_from}
use Rattle.rtlil_tree.proofs.Binding.{bound, passed}

-- ---- what stands before and after the first quote

none_of_more : (digits : List ℕ) → OneOrMore is_digit digits → NoneOrMore is_digit digits
none_of_more [] h = absurd h
none_of_more (d ∷ digits) h = h

no_quote : (d : ℕ) → 48 ≤ d → is_no_quote d ≡ true
no_quote d h = ap not (ne_eqb d 39 (λ e. omega arith))

up_to_quote : (digits rest : List ℕ) → NoneOrMore is_digit digits → prefix_len is_no_quote (digits ++ 39 ∷ rest) ≡ length digits
up_to_quote [] rest h = refl
up_to_quote (d ∷ digits) rest h =
    cond-true (is_no_quote d) (1 + prefix_len is_no_quote (digits ++ 39 ∷ rest)) 0 (no_quote d (digit_from d h.0))
    ∙ ap (λ n. 1 + n) (up_to_quote digits rest h.1) ∙ omega arith

abbrev cut : List ℕ → ℕ → Option (List ℕ × List ℕ)
cut text n = cond (nat_lt n (length text)) (Some (take n text, drop (n + 1) text)) None

cut_at : (digits rest : List ℕ) → cut (digits ++ 39 ∷ rest) (length digits) ≡ Some (digits, rest)
cut_at digits rest =
    let all = length-append digits (39 ∷ rest) in
    cond-true (nat_lt (length digits) (length (digits ++ 39 ∷ rest))) _ _ (lt-ltb (length digits) (length (digits ++ 39 ∷ rest)) (omega arith))
    ∙ ap (λ l. Some (l, drop (length digits + 1) (digits ++ 39 ∷ rest))) (take_at digits (39 ∷ rest) (length digits) refl)
    ∙ ap (λ l. Some (digits, l)) (sym (drop-drop 1 (length digits) (digits ++ 39 ∷ rest)) ∙ ap (drop 1) (drop_at digits (39 ∷ rest) (length digits) refl))

at_quote_is : (digits rest : List ℕ) → OneOrMore is_digit digits → at_quote (digits ++ 39 ∷ rest) ≡ Some (digits, rest)
unfolding at_quote
at_quote_is digits rest h = ap (cut (digits ++ 39 ∷ rest)) (up_to_quote digits rest (none_of_more digits h)) ∙ cut_at digits rest

-- ---- bits and their codes

bit_back : (b : BitValue) → bit_of (bit_code b) ≡ b
bit_back Zero = refl
bit_back One = refl
bit_back X = refl
bit_back Z = refl
bit_back M = refl
bit_back Dash = refl

bits_back : (bs : List BitValue) → map bit_of (map bit_code bs) ≡ bs
bits_back [] = refl
bits_back (b ∷ bs) = ap (λ c. c ∷ map bit_of (map bit_code bs)) (bit_back b) ∙ ap (λ l. b ∷ l) (bits_back bs)

choose : (t : Bool) (x y : BitValue) (b : ℕ) → (t ≡ true → bit_code x ≡ b) → (t ≡ false → bit_code y ≡ b) → bit_code (cond t x y) ≡ b
choose true x y b h k = h refl
choose false x y b h k = k refl

or_last : (a b c d e f : Bool) → (a || b || c || d || e || f) ≡ true → a ≡ false → b ≡ false → c ≡ false → d ≡ false → e ≡ false → f ≡ true
or_last a b c d e true h p q r s t = refl
or_last true b c d e false h p q r s t = absurd cc
or_last false true c d e false h p q r s t = absurd cc
or_last false false true d e false h p q r s t = absurd cc
or_last false false false true e false h p q r s t = absurd cc
or_last false false false false true false h p q r s t = absurd cc
or_last false false false false false false h p q r s t = h

code_back : (b : ℕ) → is_bit b ≡ true → bit_code (bit_of b) ≡ b
code_back b h =
    choose (b == 48) Zero _ b (λ e. sym (eqb-true b 48 e)) (λ p.
    choose (b == 49) One _ b (λ e. sym (eqb-true b 49 e)) (λ q.
    choose (b == 120) X _ b (λ e. sym (eqb-true b 120 e)) (λ r.
    choose (b == 122) Z _ b (λ e. sym (eqb-true b 122 e)) (λ s.
    choose (b == 109) M Dash b (λ e. sym (eqb-true b 109 e)) (λ t.
    sym (eqb-true b 45 (or_last (b == 48) (b == 49) (b == 120) (b == 122) (b == 109) (b == 45) h p q r s t)))))))

codes_back : (bs : List ℕ) → NoneOrMore is_bit bs → map bit_code (map bit_of bs) ≡ bs
codes_back [] h = refl
codes_back (b ∷ bs) h = ap (λ c. c ∷ map bit_code (map bit_of bs)) (code_back b h.0) ∙ ap (λ l. b ∷ l) (codes_back bs h.1)

-- ---- the sign

unsigned : (bs : List BitValue) → without_sign (map bit_code bs) ≡ map bit_code bs
unsigned [] = refl
unsigned (Zero ∷ bs) = refl
unsigned (One ∷ bs) = refl
unsigned (X ∷ bs) = refl
unsigned (Z ∷ bs) = refl
unsigned (M ∷ bs) = refl
unsigned (Dash ∷ bs) = refl

sign_off : (sign : List ℕ) (bs : List BitValue) → (sign ≡ []) ⊎ (sign ≡ codes "s") → without_sign (sign ++ map bit_code bs) ≡ map bit_code bs
sign_off sign bs (inl e) = ap (λ l. without_sign (l ++ map bit_code bs)) e ∙ unsigned bs
sign_off sign bs (inr e) = ap (λ l. without_sign (l ++ map bit_code bs)) e

-- What stands behind a quote is a sign or none, and bits.
record Signing (text rest : List ℕ) : Type 0 where
  sign : List ℕ
  parts : text ≡ sign ++ rest
  form : (sign ≡ []) ⊎ (sign ≡ codes "s")
  are_bits : NoneOrMore is_bit rest

signing : (t : Bool) (b : ℕ) (bs : List ℕ) → (b == 115) ≡ t → (t || is_bit b) ≡ true → NoneOrMore is_bit bs → Signing (b ∷ bs) (cond t bs (b ∷ bs))
signing true b bs is h k = record { sign = codes "s"; parts = ap (λ c. c ∷ bs) (eqb-true b 115 is); form = inr refl; are_bits = k }
signing false b bs is h k = record { sign = []; parts = refl; form = inl refl; are_bits = (h, k) }

sign_of : (text : List ℕ) → IsValue text → Signing text (without_sign text)
sign_of [] h = record { sign = []; parts = refl; form = inl refl; are_bits = tt }
sign_of (b ∷ bs) h = signing (b == 115) b bs refl h.0 h.1

-- ---- constants

abbrev sized : List ℕ → ℕ → Option Lexeme
sized rest width = cond (nat_le (length (without_sign rest)) width) (Some (bits width (without_sign rest))) None

abbrev behind : Option (List ℕ × List ℕ) → Option Lexeme
behind o = o >>= λ parts. natural_of parts.0 1048576 >>= λ width. sized parts.1 width

bits_from : (digits rest : List ℕ) → OneOrMore is_digit digits → bits_of (digits ++ 39 ∷ rest) ≡ (natural_of digits 1048576 >>= λ width. sized rest width)
unfolding bits_of
bits_from digits rest h = ap behind (at_quote_is digits rest h)

sized_bits : (rest : List ℕ) (b : Bits) → without_sign rest ≡ map bit_code b.written → length b.written ≤ b.width → sized rest b.width ≡ Some (constant (value.Bits b))
sized_bits rest b is few =
    let len = length-map b.written bit_code in
    ap (λ l. cond (nat_le (length l) b.width) (Some (bits b.width l)) None) is
    ∙ cond-true (nat_le (length (map bit_code b.written)) b.width) _ _ (le-leb (length (map bit_code b.written)) b.width (omega arith))
    ∙ ap (λ l. Some (constant (value.Bits (record { width = b.width; written = l })))) (bits_back b.written)

pub bits_read : (b : Bits) (text : List ℕ) → AreBits b text → bits_of text ≡ Some (constant (value.Bits b))
bits_read b text h =
    ap bits_of h.spelled
    ∙ bits_from h.digits (h.sign ++ map bit_code b.written) h.width_form
    ∙ ap (λ (o : Option ℕ). o >>= λ width. sized (h.sign ++ map bit_code b.written) width) (natural_is h.digits 1048576 (subst (λ n. n ≤ 1048576) h.width_is h.most) ∙ ap (λ n. Some n) (sym h.width_is))
    ∙ sized_bits (h.sign ++ map bit_code b.written) b (sign_off h.sign b.written h.sign_form) h.few

-- the constant that was read is spelled so
abbrev SpellsBits : List ℕ → Lexeme → Type 0
SpellsBits text x = (b : Bits) × (x ≡ constant (value.Bits b)) × AreBits b text

bits_are : (digits rest : List ℕ) (width : ℕ) → OneOrMore is_digit digits → IsValue rest → width ≡ decimal digits → decimal digits ≤ 1048576 → length (without_sign rest) ≤ width
    → AreBits (record { width = width; written = map bit_of (without_sign rest) }) (digits ++ 39 ∷ rest)
bits_are digits rest width d v is most few =
    let s = sign_of rest v in
    let len = length-map (without_sign rest) bit_of in
    record {
      digits = digits;
      sign = s.sign;
      spelled = ap (λ l. digits ++ 39 ∷ l) s.parts ∙ ap (λ l. digits ++ 39 ∷ (s.sign ++ l)) (sym (codes_back (without_sign rest) s.are_bits));
      width_form = d;
      width_is = is;
      sign_form = s.form;
      most = subst (λ n. n ≤ 1048576) (sym is) most;
      few = subst (λ n. n ≤ width) (sym len) few;
    }

bits_spelled_at : (digits rest : List ℕ) (x : Lexeme) → OneOrMore is_digit digits → IsValue rest → bits_of (digits ++ 39 ∷ rest) ≡ Some x → SpellsBits (digits ++ 39 ∷ rest) x
bits_spelled_at digits rest x d v e =
    let b = bound (natural_of digits 1048576) (λ width. sized rest width) x (sym (bits_from digits rest d) ∙ e) in
    let n = natural_some digits 1048576 b.0 b.1 in
    let p = passed (nat_le (length (without_sign rest)) b.0) (bits b.0 (without_sign rest)) x b.2 in
    (record { width = b.0; written = map bit_of (without_sign rest) }, sym p.1, bits_are digits rest b.0 d v n.0 n.1 (leb-true (length (without_sign rest)) b.0 p.0))

pub bits_spelled : (text : List ℕ) (x : Lexeme) → IsBits text → bits_of text ≡ Some x → SpellsBits text x
bits_spelled text x h e =
    subst (λ l. SpellsBits l x) (sym h.2) (bits_spelled_at h.0 h.1 x h.3 h.4 (sym (ap bits_of h.2) ∙ e))
