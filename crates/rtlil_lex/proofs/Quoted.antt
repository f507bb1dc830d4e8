-- The longest spelling that begins with a double quote.
use Rattle.std.proofs.Common.{◌≡◌, ℕ, ◌+◌, ◌≤◌, suc, List, [], ◌∷◌, ◌++◌, length, take, drop, sym, refl, ap, ◌∙◌, subst, arith, length-append, length-drop, append_assoc}
use Rattle.rtlil_lex.specs.Strings.{Character, text_of}
use Rattle.rtlil_lex.specs.Forms.{HasForm, IsLongest, BeginsNoToken}
use Rattle.rtlil_lex.specs.Tokens.{IsString}
use Rattle.rtlil_lex.specs.declared.token.TokenKind.TheVariants.{Str}
use Rattle.rtlil_lex.proofs.Runs.{take_past, front_is}
use Rattle.rtlil_lex.proofs.FirstBytes.{kind_of}
use Rattle.rtlil_lex.proofs.Characters.{NoCharacter, same_rest, quote_stops, before_other}
use Rattle.rtlil_lex.proofs.Longest.{longest_of, none_of}

-- the two ways to read a string come to the same rest
str_rest : (bytes : List ℕ) (cs : List Character) (rest : List ℕ) (more : ℕ) → IsString bytes cs rest → NoCharacter rest → HasForm Str (take more bytes) → (tail : List ℕ) × (rest ≡ 34 ∷ tail) × (more ≤ length bytes → more + length tail ≡ length bytes)
unfolding HasForm
str_rest bytes cs rest more string stops (ds, e, each) =
    let tail : List ℕ = drop more bytes in
    let whole : bytes ≡ (34 ∷ text_of ds ++ 34 ∷ []) ++ drop more bytes = front_is bytes _ more e in
    let same : text_of cs ++ rest ≡ text_of ds ++ 34 ∷ drop more bytes = tails (text_of cs ++ rest) (text_of ds ++ 34 ∷ drop more bytes) (sym string.text ∙ whole ∙ ap (λ s. 34 ∷ s) (append_assoc (text_of ds) (34 ∷ []) (drop more bytes))) in (
      drop more bytes,
      same_rest cs ds rest (34 ∷ drop more bytes) string.each (before_other ds 34 [] (drop more bytes) each) stops (quote_stops (drop more bytes)) same,
      λ le. omega (arith, length-drop more bytes),
    )
  where
    tails : (x y : List ℕ) → 34 ∷ x ≡ 34 ∷ y → x ≡ y
    tails x y e = cc

quote_kind : (b : ℕ) (bs : List ℕ) → b ≡ 34 → kind_of (b ∷ bs) ≡ Str
quote_kind b bs quote = subst (λ x. kind_of (x ∷ bs) ≡ Str) (sym quote) refl

pub str_next : (bytes : List ℕ) (cs : List Character) (rest : List ℕ) (size : ℕ) → IsString bytes cs (34 ∷ rest) → size ≡ 2 + length (text_of cs) → IsLongest Str size bytes
unfolding HasForm
str_next [] cs rest size string e = absurd (let empty : [] ≡ 34 ∷ text_of cs ++ 34 ∷ rest = string.text in cc)
str_next (b ∷ bs) cs rest size string e =
    let first : b ≡ 34 = let whole : b ∷ bs ≡ 34 ∷ text_of cs ++ 34 ∷ rest = string.text in cc in
    let all : length (b ∷ bs) ≡ suc (length (text_of cs ++ 34 ∷ rest)) = ap length string.text in
    let parts : length (text_of cs ++ 34 ∷ rest) ≡ length (text_of cs) + suc (length rest) = length-append (text_of cs) (34 ∷ rest) in
    let spelled : take size (b ∷ bs) ≡ (34 ∷ text_of cs) ++ 34 ∷ [] =
    ap (take size) string.text ∙ take_past (34 ∷ text_of cs) (34 ∷ rest) 1 size (omega arith) in
    longest_of Str size b bs
    (omega arith)
    (cs, spelled, before_other cs 34 rest [] string.each)
    (λ other more le kind form.
    let str : HasForm Str (b ∷ take more bs) = subst (λ k. HasForm k (b ∷ take more bs)) (sym kind ∙ quote_kind b (take more bs) first) form in
    let cut : (tail : List ℕ) × (34 ∷ rest ≡ 34 ∷ tail) × (suc more ≤ length (b ∷ bs) → suc more + length tail ≡ length (b ∷ bs)) = str_rest (b ∷ bs) cs (34 ∷ rest) (suc more) string (quote_stops rest) str in
    let same : suc (length rest) ≡ suc (length cut.0) = ap length cut.1 in
    let total : suc more + length cut.0 ≡ length (b ∷ bs) = cut.2 le in
    omega arith)

-- a string that comes to an end other than a double quote begins no token
pub str_none : (bytes : List ℕ) (cs : List Character) (rest : List ℕ) → IsString bytes cs rest → NoCharacter rest → ((tail : List ℕ) → rest ≡ 34 ∷ tail → ⊥) → BeginsNoToken bytes
str_none [] cs rest string stops ends = absurd (let empty : [] ≡ 34 ∷ text_of cs ++ rest = string.text in cc)
str_none (b ∷ bs) cs rest string stops ends =
    let first : b ≡ 34 = let whole : b ∷ bs ≡ 34 ∷ text_of cs ++ rest = string.text in cc in
    none_of b bs (λ k more kind form.
    let cut : (tail : List ℕ) × (rest ≡ 34 ∷ tail) × (suc more ≤ length (b ∷ bs) → suc more + length tail ≡ length (b ∷ bs)) = str_rest (b ∷ bs) cs rest (suc more) string stops (subst (λ k. HasForm k (b ∷ take more bs)) (sym kind ∙ quote_kind b (take more bs) first) form) in
    ends cut.0 cut.1)
