-- Which tree stands for bytes and which refusal they have is what the reader answers for their lines.
use Rattle.std.proofs.Common.{◌≡◌, ℕ, List, length, refl, ap, ◌∙◌, sym, subst, ⊎_elim, ◌⊎◌, inl, inr, false, None, Result, Ok, Err}
use Rattle.std.specs.Prelude.{◌↔◌}
use Rattle.std.specs.Option.{IsSome, is_some}
use Rattle.rtlil_lex.specs.Tokens.{AreTokens, IsBadByte, IsOpenString, line_at}
use Rattle.rtlil_lex.specs.declared.token.Token.{Token}
use Rattle.rtlil_lex.proofs.Once.{same_tokens, same_bad_byte, same_open_string, tokens_or_bad, tokens_or_open, bad_or_open}
use Rattle.circuit_types.specs.Top.{top_of}
use Rattle.circuit_types.specs.declared.refusal.Refusal.{Refusal}
use Rattle.circuit_types.specs.declared.refusal.Refusal.TheVariants.{BadToken, BadForm, NoTop, UnsupportedStatement}
use Rattle.circuit_types.specs.declared.tree.Tree.{Tree}
use Rattle.rtlil_tree.specs.Lines.{Line, lines_of, AreLines}
use Rattle.rtlil_tree.specs.Machine.{start, run}
use Rattle.rtlil_tree.specs.Text.{IsTreeText, Stands}
use Rattle.rtlil_tree.specs.Refusals.{HasBadToken, HasBadForm, HasUnsupported, IsRefused}
use Rattle.rtlil_tree.proofs.Running.{AllFormed}
use Rattle.rtlil_tree.proofs.WordLaws.{lines_formed}
use Rattle.rtlil_tree.proofs.Sounding.{sound}
use Rattle.rtlil_tree.proofs.Completing.{complete}
use Rattle.rtlil_tree.proofs.Refusing.{bad_form_if, if_bad_form, IsUnsupportedAt, unsupported_at_if, if_unsupported_at, two_errors, same_err, ok_not_err}

-- ---- the reader's answer for bytes with these tokens

abbrev pub answer : List ℕ → List Token → Result Tree Refusal
answer bytes tokens = run (line_at bytes (length bytes)) start (lines_of bytes tokens)

are_lines : (bytes : List ℕ) (tokens : List Token) → AreTokens bytes tokens → AreLines bytes (lines_of bytes tokens) (line_at bytes (length bytes))
are_lines bytes tokens h = record { tokens = tokens; are_tokens = h; lines_are = refl; end_is = refl }

all_formed : (bytes : List ℕ) (tokens : List Token) → AreTokens bytes tokens → AllFormed (lines_of bytes tokens)
all_formed bytes tokens h = lines_formed bytes (lines_of bytes tokens) (line_at bytes (length bytes)) (are_lines bytes tokens h)

same_lines : (bytes : List ℕ) (tokens : List Token) (lines : List Line) (e : ℕ) → AreTokens bytes tokens → AreLines bytes lines e → lines ≡ lines_of bytes tokens
same_lines bytes tokens lines e h a = a.lines_are ∙ ap (lines_of bytes) (same_tokens bytes a.tokens tokens a.are_tokens h)

pub stands_if : (bytes : List ℕ) (tokens : List Token) (t : Tree) → AreTokens bytes tokens → answer bytes tokens ≡ Ok t → Stands bytes t
stands_if bytes tokens t h a = record {
  lines = lines_of bytes tokens;
  end_line = line_at bytes (length bytes);
  are_lines = are_lines bytes tokens h;
  text = sound (line_at bytes (length bytes)) (lines_of bytes tokens) t (all_formed bytes tokens h) a;
}

pub if_stands : (bytes : List ℕ) (tokens : List Token) (t : Tree) → AreTokens bytes tokens → Stands bytes t → answer bytes tokens ≡ Ok t
if_stands bytes tokens t h s =
    ap (run (line_at bytes (length bytes)) start) (sym (same_lines bytes tokens s.lines s.end_line h s.are_lines))
    ∙ complete (line_at bytes (length bytes)) s.lines t s.text

bad_form_refused : (bytes : List ℕ) (tokens : List Token) (line : ℕ) → AreTokens bytes tokens → answer bytes tokens ≡ Err (BadForm line) → HasBadForm bytes line
bad_form_refused bytes tokens line h a = record {
  lines = lines_of bytes tokens;
  end_line = line_at bytes (length bytes);
  are_lines = are_lines bytes tokens h;
  bad = bad_form_if (line_at bytes (length bytes)) (lines_of bytes tokens) line (all_formed bytes tokens h) a;
}

unsupported_refused : (bytes : List ℕ) (tokens : List Token) (line : ℕ) → AreTokens bytes tokens → answer bytes tokens ≡ Err (UnsupportedStatement line) → HasUnsupported bytes line
unsupported_refused bytes tokens line h a =
    let u : IsUnsupportedAt (lines_of bytes tokens) line = unsupported_at_if (line_at bytes (length bytes)) (lines_of bytes tokens) line (all_formed bytes tokens h) a in
    record {
      lines = lines_of bytes tokens;
      end_line = line_at bytes (length bytes);
      are_lines = are_lines bytes tokens h;
      before = u.before;
      bad = u.bad;
      first = u.first;
      unsupported = u.unsupported;
      line_is = u.line_is;
    }

pub refused_if : (bytes : List ℕ) (tokens : List Token) (r : Refusal) → AreTokens bytes tokens → answer bytes tokens ≡ Err r → IsRefused bytes r
refused_if bytes tokens r h a =
    ⊎_elim
    (λ b. subst (IsRefused bytes) (sym b.1) (bad_form_refused bytes tokens b.0 h (a ∙ ap (λ (y : Refusal). Err y) b.1)))
    (λ u. subst (IsRefused bytes) (sym u.1) (unsupported_refused bytes tokens u.0 h (a ∙ ap (λ (y : Refusal). Err y) u.1)))
    (two_errors (line_at bytes (length bytes)) (lines_of bytes tokens) r a)

if_bad_form_refused : (bytes : List ℕ) (tokens : List Token) (line : ℕ) → AreTokens bytes tokens → HasBadForm bytes line → answer bytes tokens ≡ Err (BadForm line)
if_bad_form_refused bytes tokens line h b =
    let same = same_lines bytes tokens b.lines b.end_line h b.are_lines in
    let formed : AllFormed b.lines = lines_formed bytes b.lines b.end_line b.are_lines in
    ap (run (line_at bytes (length bytes)) start) (sym same)
    ∙ ap (λ e. run e start b.lines) (sym b.are_lines.end_is)
    ∙ if_bad_form b.end_line b.lines line formed b.bad

if_unsupported_refused : (bytes : List ℕ) (tokens : List Token) (line : ℕ) → AreTokens bytes tokens → HasUnsupported bytes line → answer bytes tokens ≡ Err (UnsupportedStatement line)
if_unsupported_refused bytes tokens line h b =
    let same = same_lines bytes tokens b.lines b.end_line h b.are_lines in
    let formed : AllFormed b.lines = lines_formed bytes b.lines b.end_line b.are_lines in
    let at : IsUnsupportedAt b.lines line = record { before = b.before; bad = b.bad; first = b.first; unsupported = b.unsupported; line_is = b.line_is } in
    ap (run (line_at bytes (length bytes)) start) (sym same)
    ∙ if_unsupported_at (line_at bytes (length bytes)) b.lines line formed at

-- a refusal that a statement or a missing one gives
abbrev pub IsOfStatements : Refusal → Type 0
IsOfStatements (BadForm line) = Unit {0}
IsOfStatements (UnsupportedStatement line) = Unit {0}
IsOfStatements r = ⊥

pub if_refused : (bytes : List ℕ) (tokens : List Token) (r : Refusal) → AreTokens bytes tokens → IsOfStatements r → IsRefused bytes r → answer bytes tokens ≡ Err r
if_refused bytes tokens (BadForm line) h of b = if_bad_form_refused bytes tokens line h b
if_refused bytes tokens (UnsupportedStatement line) h of b = if_unsupported_refused bytes tokens line h b
if_refused bytes tokens r h of b = absurd of

-- For bytes with these tokens the reader answers the tree that stands for them, and the refusal of a statement that they have.
pub stands_iff : (bytes : List ℕ) (tokens : List Token) (t : Tree) → AreTokens bytes tokens → (run (line_at bytes (length bytes)) start (lines_of bytes tokens) ≡ Ok t) ↔ Stands bytes t
stands_iff bytes tokens t h = (stands_if bytes tokens t h, if_stands bytes tokens t h)

pub refused_iff : (bytes : List ℕ) (tokens : List Token) (r : Refusal) → AreTokens bytes tokens → IsOfStatements r → (run (line_at bytes (length bytes)) start (lines_of bytes tokens) ≡ Err r) ↔ IsRefused bytes r
refused_iff bytes tokens r h of = (refused_if bytes tokens r h, if_refused bytes tokens r h of)

outcome_of : (bytes : List ℕ) (tokens : List Token) (x : Result Tree Refusal) → AreTokens bytes tokens → answer bytes tokens ≡ x → ((t : Tree) × Stands bytes t) ⊎ ((r : Refusal) × IsRefused bytes r)
outcome_of bytes tokens (Ok t) h a = inl (t, stands_if bytes tokens t h a)
outcome_of bytes tokens (Err r) h a = inr (r, refused_if bytes tokens r h a)

pub some_outcome : (bytes : List ℕ) (tokens : List Token) → AreTokens bytes tokens → ((t : Tree) × Stands bytes t) ⊎ ((r : Refusal) × IsRefused bytes r)
some_outcome bytes tokens h = outcome_of bytes tokens (answer bytes tokens) h refl

-- ---- one tree

pub same_tree : (bytes : List ℕ) (t u : Tree) → Stands bytes t → Stands bytes u → t ≡ u
same_tree bytes t u s v = same_ok_tree (answer bytes s.are_lines.tokens) (if_stands bytes s.are_lines.tokens t s.are_lines.are_tokens s) (if_stands bytes s.are_lines.tokens u s.are_lines.are_tokens v)
  where
    same_ok_tree : (x : Result Tree Refusal) → x ≡ Ok t → x ≡ Ok u → t ≡ u
    same_ok_tree x h g = cc

-- ---- one refusal

-- the bytes have tokens
pub record HasTokens (bytes : List ℕ) : Type 0 where
  pub tokens : List Token
  pub are : AreTokens bytes tokens

no_bad_token : (bytes : List ℕ) (line : ℕ) → HasTokens bytes → HasBadToken bytes line → ⊥
no_bad_token bytes line h b = ⊎_elim (λ bad. tokens_or_bad bytes h.tokens b.place h.are bad) (λ cut. tokens_or_open bytes h.tokens b.place h.are cut) b.fault

same_place : (bytes : List ℕ) (p q : ℕ) → IsBadByte bytes p ⊎ IsOpenString bytes p → IsBadByte bytes q ⊎ IsOpenString bytes q → p ≡ q
same_place bytes p q h g =
    ⊎_elim
    (λ a. ⊎_elim (λ b. same_bad_byte bytes p q a b) (λ b. absurd (bad_or_open bytes p q a b)) g)
    (λ a. ⊎_elim (λ b. absurd (bad_or_open bytes q p b a)) (λ b. same_open_string bytes p q a b) g)
    h

same_fault : (bytes : List ℕ) (l n : ℕ) → HasBadToken bytes l → HasBadToken bytes n → BadToken l ≡ BadToken n
same_fault bytes l n h g = ap (λ k. BadToken k) (h.line_is ∙ ap (line_at bytes) (same_place bytes h.place g.place h.fault g.fault) ∙ sym g.line_is)

-- Behind tokens, the refusal is the one that the reader answers, or its tree has no top.
pub data IsBehind (bytes : List ℕ) (r : Refusal) : Type 0 where
  of_statements : (tokens : List Token) → AreTokens bytes tokens → answer bytes tokens ≡ Err r → IsBehind bytes r
  of_tree : (tokens : List Token) → AreTokens bytes tokens → r ≡ NoTop → (t : Tree) → answer bytes tokens ≡ Ok t → top_of t ≡ None → IsBehind bytes r

is_behind : (bytes : List ℕ) (r : Refusal) → ((line : ℕ) → r ≡ BadToken line → ⊥) → IsRefused bytes r → IsBehind bytes r
is_behind bytes (BadToken line) not_token h = absurd (not_token line refl)
is_behind bytes (BadForm line) not_token h =
    of_statements h.are_lines.tokens h.are_lines.are_tokens (if_bad_form_refused bytes h.are_lines.tokens line h.are_lines.are_tokens h)
is_behind bytes (UnsupportedStatement line) not_token h =
    of_statements h.are_lines.tokens h.are_lines.are_tokens (if_unsupported_refused bytes h.are_lines.tokens line h.are_lines.are_tokens h)
is_behind bytes NoTop not_token h =
    let tokens = h.stands.are_lines.tokens in
    of_tree tokens h.stands.are_lines.are_tokens refl h.tree (if_stands bytes tokens h.tree h.stands.are_lines.are_tokens h.stands) h.none
is_behind bytes r not_token h = absurd h

with_tokens : (bytes : List ℕ) (r : Refusal) → IsBehind bytes r → HasTokens bytes
with_tokens bytes r (of_statements tokens are a) = record { tokens = tokens; are = are }
with_tokens bytes r (of_tree tokens are no_top t a none) = record { tokens = tokens; are = are }

same_answer : (bytes : List ℕ) (a b : List Token) → AreTokens bytes a → AreTokens bytes b → answer bytes a ≡ answer bytes b
same_answer bytes a b h g = ap (answer bytes) (same_tokens bytes a b h g)

same_behind : (bytes : List ℕ) (r s : Refusal) → IsBehind bytes r → IsBehind bytes s → r ≡ s
same_behind bytes r s (of_statements a are x) (of_statements b are_too y) = same_err (answer bytes a) r s x (same_answer bytes a b are are_too ∙ y)
same_behind bytes r s (of_statements a are x) (of_tree b are_too no_top t y none) = absurd (ok_not_err (answer bytes a) t r (same_answer bytes a b are are_too ∙ y) x)
same_behind bytes r s (of_tree a are no_top t x none) (of_statements b are_too y) = absurd (ok_not_err (answer bytes b) t s (same_answer bytes b a are_too are ∙ x) y)
same_behind bytes r s (of_tree a are no_top t x none) (of_tree b are_too no_top_too u y none_too) = no_top ∙ sym no_top_too

-- a refusal is of a token, or not
is_token : (r : Refusal) → ((line : ℕ) × (r ≡ BadToken line)) ⊎ ((line : ℕ) → r ≡ BadToken line → ⊥)
is_token (BadToken line) = inl (line, refl)
is_token r = inr (λ line e. absurd cc)

same_refusal_by : (bytes : List ℕ) (r s : Refusal) → ((line : ℕ) × (r ≡ BadToken line)) ⊎ ((line : ℕ) → r ≡ BadToken line → ⊥) → ((line : ℕ) × (s ≡ BadToken line)) ⊎ ((line : ℕ) → s ≡ BadToken line → ⊥)
    → IsRefused bytes r → IsRefused bytes s → r ≡ s
same_refusal_by bytes r s (inl a) (inl b) h g =
    a.1 ∙ same_fault bytes a.0 b.0 (subst (IsRefused bytes) a.1 h) (subst (IsRefused bytes) b.1 g) ∙ sym b.1
same_refusal_by bytes r s (inl a) (inr b) h g = absurd (no_bad_token bytes a.0 (with_tokens bytes s (is_behind bytes s b g)) (subst (IsRefused bytes) a.1 h))
same_refusal_by bytes r s (inr a) (inl b) h g = absurd (no_bad_token bytes b.0 (with_tokens bytes r (is_behind bytes r a h)) (subst (IsRefused bytes) b.1 g))
same_refusal_by bytes r s (inr a) (inr b) h g = same_behind bytes r s (is_behind bytes r a h) (is_behind bytes s b g)

pub same_refusal : (bytes : List ℕ) (r s : Refusal) → IsRefused bytes r → IsRefused bytes s → r ≡ s
same_refusal bytes r s h g = same_refusal_by bytes r s (is_token r) (is_token s) h g

-- ---- a tree that is refused has no top

no_top_behind : (bytes : List ℕ) (t : Tree) (r : Refusal) → Stands bytes t → IsBehind bytes r → top_of t ≡ None
no_top_behind bytes t r s (of_statements tokens are a) = absurd (ok_not_err (answer bytes tokens) t r (if_stands bytes tokens t are s) a)
no_top_behind bytes t r s (of_tree tokens are no_top u a none) = ap top_of (same_tree bytes t u s (stands_if bytes tokens u are a)) ∙ none

refused_tree_by : (bytes : List ℕ) (t : Tree) (r : Refusal) → ((line : ℕ) × (r ≡ BadToken line)) ⊎ ((line : ℕ) → r ≡ BadToken line → ⊥) → Stands bytes t → IsRefused bytes r → top_of t ≡ None
refused_tree_by bytes t r (inl a) s h = absurd (no_bad_token bytes a.0 (record { tokens = s.are_lines.tokens; are = s.are_lines.are_tokens }) (subst (IsRefused bytes) a.1 h))
refused_tree_by bytes t r (inr a) s h = no_top_behind bytes t r s (is_behind bytes r a h)

pub refused_tree : (bytes : List ℕ) (t : Tree) (r : Refusal) → Stands bytes t → IsRefused bytes r → top_of t ≡ None
refused_tree bytes t r s h = refused_tree_by bytes t r (is_token r) s h

pub no_refusal : (bytes : List ℕ) (t : Tree) (r : Refusal) → Stands bytes t → IsSome (top_of t) → IsRefused bytes r → ⊥
no_refusal bytes t r s top h = let none = refused_tree bytes t r s h in let no : is_some (top_of t) ≡ false = ap is_some none in cc

-- ---- over the lines of bytes

pub tree_if_run : (bytes : List ℕ) (lines : List Line) (end_line : ℕ) (t : Tree) → AreLines bytes lines end_line → run end_line start lines ≡ Ok t → IsTreeText lines t
tree_if_run bytes lines end_line t a h = sound end_line lines t (lines_formed bytes lines end_line a) h

pub refused_if_run : (bytes : List ℕ) (lines : List Line) (end_line : ℕ) (r : Refusal) → AreLines bytes lines end_line → run end_line start lines ≡ Err r → IsRefused bytes r
refused_if_run bytes lines end_line r a h =
    refused_if bytes a.tokens r a.are_tokens (ap (run (line_at bytes (length bytes)) start) (sym a.lines_are) ∙ ap (λ e. run e start lines) (sym a.end_is) ∙ h)
