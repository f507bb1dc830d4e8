-- The first byte of a spelling, and whether it has a `'`, tell its form.
use Rattle.std.proofs.Common.{◌≡◌, ℕ, ◌≤◌, true, false, cond, ◌==◌, ◌||◌, List, [], ◌∷◌, ◌++◌, sym, refl, ◌∙◌, subst, ⊎_elim, arith}
use Rattle.std.specs.Prelude.{IsTrue}
use Rattle.std.specs.List.{list_any}
use Rattle.std.proofs.lemmas.Bool.{cond-true, cond-false, eqb-true, ne_eqb, or_cases, or_from, or_left, or_right, and_left, and_parts, lt-leb, leb-true}
use Rattle.rtlil_lex.specs.Bytes.{NoneOrMore, OneOrMore, is_letter, is_sigil, is_digit, is_octal, is_mark}
use Rattle.rtlil_lex.specs.Forms.{HasForm}
use Rattle.rtlil_lex.specs.declared.token.TokenKind.{TokenKind}
use Rattle.rtlil_lex.specs.declared.token.TokenKind.TheVariants.{Word, Id, Int, Bits, Str, Mark, Eol}

-- the one form that a spelling may have
abbrev pub kind_of : List ℕ → TokenKind
kind_of [] = Eol
kind_of (b ∷ bs) =
    cond (is_letter b) Word
    (cond (is_sigil b) Id
    (cond (is_digit b || b == 45) (cond (list_any (λ x. x == 39) bs) Bits Int)
    (cond (b == 34) Str
    (cond (b == 10) Eol (Mark b)))))

pub digit_range : (b : ℕ) → IsTrue (is_digit b) → (48 ≤ b) × (b ≤ 57)
digit_range b h = let parts = and_parts _ _ h in (leb-true _ _ parts.0, leb-true _ _ parts.1)

pub digit_kind : (b : ℕ) (bs : List ℕ) → IsTrue (is_digit b) → kind_of (b ∷ bs) ≡ cond (list_any (λ x. x == 39) bs) Bits Int
digit_kind b bs h =
    let range : (48 ≤ b) × (b ≤ 57) = digit_range b h in
    cond-false (is_letter b) _ _ (and_left _ _ (lt-leb 97 b (omega arith)))
    ∙ cond-false (is_sigil b) _ _ (or_from _ _ (ne_eqb b 92 (λ e. omega arith)) (ne_eqb b 36 (λ e. omega arith)))
    ∙ cond-true (is_digit b || b == 45) _ _ (or_left _ _ h)

no_tick : (bs : List ℕ) → NoneOrMore is_digit bs → list_any (λ x. x == 39) bs ≡ false
no_tick [] h = refl
no_tick (b ∷ bs) h =
    let range : (48 ≤ b) × (b ≤ 57) = digit_range b h.0 in
    or_from _ _ (ne_eqb b 39 (λ e. omega arith)) (no_tick bs h.1)

has_tick : (xs ys : List ℕ) → list_any (λ x. x == 39) (xs ++ 39 ∷ ys) ≡ true
has_tick [] ys = refl
has_tick (x ∷ xs) ys = or_right (x == 39) _ (has_tick xs ys)

bits_kind : (width value : List ℕ) → OneOrMore is_digit width → kind_of (width ++ 39 ∷ value) ≡ Bits
bits_kind [] value h = absurd h
bits_kind (b ∷ bs) value h = digit_kind b (bs ++ 39 ∷ value) h.0 ∙ cond-true (list_any (λ x. x == 39) (bs ++ 39 ∷ value)) _ _ (has_tick bs value)

pub mark_cases : (P : ℕ → Type 0) → P 91 → P 93 → P 123 → P 125 → P 58 → P 44 → (b : ℕ) → IsTrue (is_mark b) → P b
mark_cases P p q r s t u b h =
    let at : (n : ℕ) → P n → (b == n) ≡ true → P b = λ n x e. subst P (sym (eqb-true b n e)) x in
    ⊎_elim (λ h. ⊎_elim (λ h. ⊎_elim (λ h. ⊎_elim (λ h. ⊎_elim (at 91 p) (at 93 q) (or_cases _ _ h)) (at 123 r) (or_cases _ _ h)) (at 125 s) (or_cases _ _ h)) (at 58 t) (or_cases _ _ h)) (at 44 u) (or_cases _ _ h)

pub sigil_cases : (P : ℕ → Type 0) → P 92 → P 36 → (b : ℕ) → IsTrue (is_sigil b) → P b
sigil_cases P p q b h = ⊎_elim (λ e. subst P (sym (eqb-true b 92 e)) p) (λ e. subst P (sym (eqb-true b 36 e)) q) (or_cases _ _ h)

pub kind_is : (k : TokenKind) (s : List ℕ) → HasForm k s → kind_of s ≡ k
unfolding HasForm
kind_is Word [] h = absurd h
kind_is Word (b ∷ bs) h = cond-true (is_letter b) _ _ h.0
kind_is Id [] h = absurd h
kind_is Id (b ∷ bs) h = sigil_cases (λ x. kind_of (x ∷ bs) ≡ Id) refl refl b h.0
kind_is Int [] h = absurd h
kind_is Int (b ∷ bs) h =
    ⊎_elim
    (λ digits. digit_kind b bs digits.0 ∙ cond-false (list_any (λ x. x == 39) bs) _ _ (no_tick bs digits.1))
    (λ minus. subst (λ x. kind_of (x ∷ bs) ≡ Int) (sym minus.0) (cond-false (list_any (λ x. x == 39) bs) _ _ (no_tick bs (one_more bs minus.1))))
    h
  where
    one_more : (s : List ℕ) → OneOrMore is_digit s → NoneOrMore is_digit s
    one_more [] h = tt
    one_more (b ∷ bs) h = h
kind_is Bits s h = subst (λ x. kind_of x ≡ Bits) (sym h.2) (bits_kind h.0 h.1 h.3)
kind_is Str s h = subst (λ x. kind_of x ≡ Str) (sym h.1) refl
kind_is (Mark b) s h = subst (λ x. kind_of x ≡ Mark b) (sym h.0) (mark_cases (λ x. kind_of (x ∷ []) ≡ Mark x) refl refl refl refl refl refl b h.1)
kind_is Eol s h = subst (λ x. kind_of x ≡ Eol) (sym h) refl

-- no form has an empty spelling
pub no_empty : (k : TokenKind) → HasForm k [] → ⊥
unfolding HasForm
no_empty Word h = h
no_empty Id h = h
no_empty Int h = h
no_empty Bits h = no_width h.0 h.1 h.2
  where
    no_width : (width value : List ℕ) → [] ≡ width ++ 39 ∷ value → ⊥
    no_width [] value e = cc
    no_width (b ∷ bs) value e = cc
no_empty Str h = let e : [] ≡ _ = h.1 in cc
no_empty (Mark b) h = let e : [] ≡ b ∷ [] = h.0 in cc
no_empty Eol h = cc

pub octal_range : (b : ℕ) → IsTrue (is_octal b) → (48 ≤ b) × (b ≤ 55)
octal_range b h = let parts = and_parts _ _ h in (leb-true _ _ parts.0, leb-true _ _ parts.1)
