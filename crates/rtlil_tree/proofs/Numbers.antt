-- Words and numbers: how the reader reads one, and how it is spelled.
use Rattle.std.proofs.Common.{◌≡◌, ℕ, ◌-◌, ◌≤◌, ◌^◌, ◌==◌, ◌&&◌, ◌⊎◌, inl, inr, List, [], ◌∷◌, refl, ap, ◌∙◌, sym, subst, arith, Bool, true, false, cond, nat_le, Option, Some, option_map, find, ℤ, pos, negsuc, neg_ℤ, leb-true, ne_eqb}
use Rattle.std.proofs.lemmas.Bool.{cond-false}
use Rattle.std.specs.Str.{bytes_eq}
use Rattle.std.proofs.lemmas.Slice.Eq.{bytes_eq-Decides}
use Rattle.rtlil_lex.specs.Bytes.{OneOrMore, is_digit}
use Rattle.rtlil_tree.specs.declared.keyword.Keyword.{Keyword}
use Rattle.rtlil_tree.specs.declared.keyword.Keyword.TheVariants.{Attribute, Autoidx, Cell, Connect, End, Inout, Input, Memory, Module, Offset, Output, Parameter, Process, Real, Signed, Upto, Width, Wire}
use Rattle.rtlil_tree.specs.Lexemes.{spelling, decimal, IsInteger}
use Rattle.rtlil_tree.specs.Said.{keywords, keyword_of, natural_of, integer_of}
use Rattle.rtlil_tree.specs.Forms.{place_of}
use Rattle.rtlil_tree.proofs.Digits.{natural_is}
use Rattle.rtlil_tree.proofs.Binding.{mapped, passed, once}

-- ---- words

pub keyword_read : (k : Keyword) → keyword_of (spelling k) ≡ Some k
unfolding keyword_of
keyword_read Attribute = refl
keyword_read Autoidx = refl
keyword_read Cell = refl
keyword_read Connect = refl
keyword_read End = refl
keyword_read Inout = refl
keyword_read Input = refl
keyword_read Memory = refl
keyword_read Module = refl
keyword_read Offset = refl
keyword_read Output = refl
keyword_read Parameter = refl
keyword_read Process = refl
keyword_read Real = refl
keyword_read Signed = refl
keyword_read Upto = refl
keyword_read Width = refl
keyword_read Wire = refl

found_here : {X : Type 0} (test : X → Bool) (t : Bool) (x y : X) (rest : Option X) → test x ≡ t → (rest ≡ Some y → test y ≡ true) → cond t (Some x) rest ≡ Some y → test y ≡ true
found_here test true x y rest is later e = subst (λ z. test z ≡ true) (once x y e) is
found_here test false x y rest is later e = later e

found : {X : Type 0} (test : X → Bool) (xs : List X) (y : X) → find test xs ≡ Some y → test y ≡ true
found test [] y e = absurd cc
found test (x ∷ xs) y e = found_here test (test x) x y (find test xs) refl (found test xs y) e

pub keyword_spelled : (text : List ℕ) (k : Keyword) → keyword_of text ≡ Some k → text ≡ spelling k
unfolding keyword_of
keyword_spelled text k e = (bytes_eq-Decides text (spelling k)).0 (found (λ w. bytes_eq text (spelling w)) keywords k e)

-- ---- numbers

pub natural_some : (digits : List ℕ) (most n : ℕ) → natural_of digits most ≡ Some n → (n ≡ decimal digits) × (decimal digits ≤ most)
unfolding natural_of
natural_some digits most n e =
    let p = passed (nat_le (decimal digits) most) (decimal digits) n e in
    (sym p.1, leb-true (decimal digits) most p.0)

pub both_true : (a b : Bool) → (a && b) ≡ true → (a ≡ true) × (b ≡ true)
both_true true b h = (refl, h)
both_true false b h = absurd cc

pub digit_from : (b : ℕ) → is_digit b ≡ true → 48 ≤ b
digit_from b h = leb-true 48 b (both_true (nat_le 48 b) (nat_le b 57) h).0

no_minus : (b : ℕ) → 48 ≤ b → (b == 45) ≡ false
no_minus b h = ne_eqb b 45 (λ e. omega arith)

at_digits : (b : ℕ) (bs : List ℕ) → is_digit b ≡ true → integer_of (b ∷ bs) ≡ option_map (λ n. pos n) (natural_of (b ∷ bs) (2 ^ 31 - 1))
unfolding integer_of
at_digits b bs h = cond-false (b == 45) _ _ (no_minus b (digit_from b h))

at_minus : (bs : List ℕ) → integer_of (45 ∷ bs) ≡ option_map (λ n. neg_ℤ (pos n)) (natural_of bs (2 ^ 31))
unfolding integer_of
at_minus bs = refl

digits_read : (text : List ℕ) → OneOrMore is_digit text → decimal text ≤ 2 ^ 31 - 1 → integer_of text ≡ Some (pos (decimal text))
digits_read [] h most = absurd h
digits_read (b ∷ bs) h most = at_digits b bs h.0 ∙ ap (option_map (λ n. pos n)) (natural_is (b ∷ bs) (2 ^ 31 - 1) most)

minus_read : (digits : List ℕ) → decimal digits ≤ 2 ^ 31 → integer_of (45 ∷ digits) ≡ Some (neg_ℤ (pos (decimal digits)))
minus_read digits most = at_minus digits ∙ ap (option_map (λ n. neg_ℤ (pos n))) (natural_is digits (2 ^ 31) most)

pub integer_read : (n : ℤ) (text : List ℕ) → IsInteger n text → integer_of text ≡ Some n
integer_read n text (inl h) = digits_read text h.0 (omega arith) ∙ ap (λ z. Some z) (sym h.1)
integer_read n text (inr h) = ap integer_of h.1 ∙ minus_read h.0 h.4 ∙ ap (λ z. Some z) (sym h.3)

abbrev SpelledInt : List ℕ → Type 0
SpelledInt text = OneOrMore is_digit text ⊎ ((digits : List ℕ) × (text ≡ 45 ∷ digits) × OneOrMore is_digit digits)

digits_spelled : (n : ℤ) (text : List ℕ) → OneOrMore is_digit text → integer_of text ≡ Some n → IsInteger n text
digits_spelled n [] h e = absurd h
digits_spelled n (b ∷ bs) h e =
    let m = mapped (λ n. pos n) (natural_of (b ∷ bs) (2 ^ 31 - 1)) n (sym (at_digits b bs h.0) ∙ e) in
    let s = natural_some (b ∷ bs) (2 ^ 31 - 1) m.0 m.1 in
    inl (h, sym m.2 ∙ ap (λ k. pos k) s.0, omega (arith, s.1))

pub integer_spelled : (n : ℤ) (text : List ℕ) → SpelledInt text → integer_of text ≡ Some n → IsInteger n text
integer_spelled n text (inl h) e = digits_spelled n text h e
integer_spelled n text (inr h) e =
    let m = mapped (λ n. neg_ℤ (pos n)) (natural_of h.0 (2 ^ 31)) n (sym (ap integer_of h.1 ∙ at_minus h.0) ∙ e) in
    let s = natural_some h.0 (2 ^ 31) m.0 m.1 in
    inr (h.0, h.1, h.2, sym m.2 ∙ ap (λ k. neg_ℤ (pos k)) s.0, s.1)

-- a number that is not below 0
pub place_is : (z : ℤ) (n : ℕ) → place_of z ≡ Some n → z ≡ pos n
place_is (pos m) n e = ap (λ k. pos k) (once m n e)
place_is (negsuc m) n e = absurd cc
