-- A spelling begins no gap.
use Rattle.std.proofs.Common.{◌≡◌, ℕ, ◌==◌, ◌||◌, true, false, not, List, [], ◌∷◌, ◌++◌, length, refl, ◌∙◌, sym, subst, ⊎_elim}
use Rattle.std.specs.Prelude.{IsTrue}
use Rattle.std.proofs.Math.Seq.{take-append_seam}
use Rattle.std.proofs.lemmas.Bool.{cases_Bool, or_cases, eqb-true, both_ways, not_from_false}
use Rattle.rtlil_lex.specs.Bytes.{is_blank, is_mark}
use Rattle.rtlil_lex.specs.Forms.{HasForm, IsLongest}
use Rattle.rtlil_lex.specs.Tokens.{begins_gap}
use Rattle.rtlil_lex.specs.declared.token.TokenKind.{TokenKind}
use Rattle.rtlil_lex.specs.declared.token.TokenKind.TheVariants as kind
use Rattle.rtlil_lex.proofs.FirstBytes.{kind_of, kind_is, no_empty}

never : (n : ℕ) (k : TokenKind) (bs : List ℕ) → kind_of (n ∷ bs) ≡ kind.Mark n → is_mark n ≡ false → HasForm k (n ∷ bs) → ⊥
unfolding HasForm
never n k bs is fails h =
    let mark : HasForm (kind.Mark n) (n ∷ bs) = subst (λ k. HasForm k (n ∷ bs)) (sym (kind_is k (n ∷ bs) h) ∙ is) h in
    both_ways (is_mark n) fails mark.1

never_gap : (b : ℕ) (k : TokenKind) (bs : List ℕ) → HasForm k (b ∷ bs) → IsTrue (is_blank b || b == 35) → ⊥
never_gap b k bs h gap =
    let at : (n : ℕ) → kind_of (n ∷ bs) ≡ kind.Mark n → is_mark n ≡ false → (b == n) ≡ true → ⊥ =
    λ n is fails e. never n k bs is fails (subst (λ x. HasForm k (x ∷ bs)) (eqb-true b n e) h) in
    ⊎_elim
    (λ blank. ⊎_elim (λ early. ⊎_elim (at 32 refl refl) (at 9 refl refl) (or_cases _ _ early)) (at 13 refl refl) (or_cases _ _ blank))
    (at 35 refl refl)
    (or_cases _ _ gap)

no_gap : (k : TokenKind) (text rest : List ℕ) → HasForm k text → IsTrue (not (begins_gap (text ++ rest)))
no_gap k [] rest h = absurd (no_empty k h)
no_gap k (b ∷ bs) rest h =
    ⊎_elim (λ gap. absurd (never_gap b k bs h gap)) (λ none. not_from_false _ none) (cases_Bool (is_blank b || b == 35))

pub is_ink : (k : TokenKind) (text rest : List ℕ) → IsLongest k (length text) (text ++ rest) → IsTrue (not (begins_gap (text ++ rest)))
is_ink k text rest longest = no_gap k text rest (subst (HasForm k) (take-append_seam text rest) longest.form)
