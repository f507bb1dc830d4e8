-- Each token of the lines of a text has the form of its kind.
use Rattle.std.proofs.Common.{◌≡◌, ℕ, List, [], ◌∷◌, ◌++◌, map, refl, sym, subst, Bool, true, false, cond}
use Rattle.std.specs.List.{AllByRecursion}
use Rattle.rtlil_lex.specs.Tokens.{AreTokens, LeadTo}
use Rattle.rtlil_lex.specs.declared.token.Token.{Token}
use Rattle.rtlil_tree.specs.Lines.{Line, AreLines, is_eol, with_first, cut, spelled, all_lines}
use Rattle.rtlil_tree.specs.Placed.{IsFormed, AreFormed}

abbrev IsFormedIn : List ℕ → Token → Type 0
IsFormedIn bytes t = IsFormed (spelled bytes t)

abbrev IsFormedUnlessEol : List ℕ → Token → Type 0
IsFormedUnlessEol bytes t = is_eol t.kind ≡ false → IsFormedIn bytes t

lead_formed : (bytes : List ℕ) (place : ℕ) (ts : List Token) (last : ℕ) → LeadTo bytes place ts last → AllByRecursion (IsFormedUnlessEol bytes) ts
lead_formed bytes place [] last h = tt
lead_formed bytes place (t ∷ ts) last h = (λ _. h.0.spelling.form, lead_formed bytes t.end ts last h.1)

pushed : {X : Type 0} (P : X → Type 0) (xs : List X) (x : X) → AllByRecursion P xs → P x → AllByRecursion P (xs ++ x ∷ [])
pushed P [] x h p = (p, tt)
pushed P (y ∷ ys) x h p = (h.0, pushed P ys x h.1 p)

tokens_formed : (bytes : List ℕ) (ts : List Token) → AreTokens bytes ts → AllByRecursion (IsFormedUnlessEol bytes) ts
tokens_formed bytes ts h =
    subst (AllByRecursion (IsFormedUnlessEol bytes)) (sym h.all)
    (pushed (IsFormedUnlessEol bytes) h.before h.end_token (lead_formed bytes 0 h.before h.place h.lead)
    (subst (λ (t : Token). IsFormedUnlessEol bytes t) (sym h.last.end_of_input) (λ e. absurd cc)))

abbrev AreFormedIn : List ℕ → List (List Token) → Type 0
AreFormedIn bytes parts = AllByRecursion (AllByRecursion (IsFormedIn bytes)) parts

first_formed : (bytes : List ℕ) (t : Token) (parts : List (List Token)) → IsFormedIn bytes t → AreFormedIn bytes parts → AreFormedIn bytes (with_first t parts)
first_formed bytes t [] h k = ((h, tt), tt)
first_formed bytes t (part ∷ parts) h k = ((h, k.0), k.1)

cut_one : (bytes : List ℕ) (t : Token) (parts : List (List Token)) (eol : Bool) → is_eol t.kind ≡ eol → IsFormedUnlessEol bytes t → AreFormedIn bytes parts → AreFormedIn bytes (cond eol ([] ∷ parts) (with_first t parts))
cut_one bytes t parts true is h k = (tt, k)
cut_one bytes t parts false is h k = first_formed bytes t parts (h is) k

cut_formed : (bytes : List ℕ) (ts : List Token) → AllByRecursion (IsFormedUnlessEol bytes) ts → AreFormedIn bytes (cut ts)
cut_formed bytes [] h = (tt, tt)
cut_formed bytes (t ∷ ts) h = cut_one bytes t (cut ts) (is_eol t.kind) refl h.0 (cut_formed bytes ts h.1)

spelled_formed : (bytes : List ℕ) (ts : List Token) → AllByRecursion (IsFormedIn bytes) ts → AreFormed (map (spelled bytes) ts)
spelled_formed bytes [] h = tt
spelled_formed bytes (t ∷ ts) h = (h.0, spelled_formed bytes ts h.1)

parts_formed : (bytes : List ℕ) (parts : List (List Token)) → AreFormedIn bytes parts → AllByRecursion (λ (line : Line). AreFormed line.tokens) (all_lines bytes parts)
parts_formed bytes [] h = tt
parts_formed bytes ([] ∷ parts) h = parts_formed bytes parts h.1
parts_formed bytes ((t ∷ ts) ∷ parts) h = (spelled_formed bytes (t ∷ ts) h.0, parts_formed bytes parts h.1)

pub lines_formed : (bytes : List ℕ) (lines : List Line) (end_line : ℕ) → AreLines bytes lines end_line → AllByRecursion (λ (line : Line). AreFormed line.tokens) lines
lines_formed bytes lines end_line h =
    subst (AllByRecursion (λ (line : Line). AreFormed line.tokens)) (sym h.lines_are)
    (parts_formed bytes (cut h.tokens) (cut_formed bytes h.tokens (tokens_formed bytes h.tokens h.are_tokens)))
