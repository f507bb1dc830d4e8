-- The lines of tokens, in the bytes and in a part of them.
use Rattle.std.proofs.Common.{◌≡◌, ℕ, ◌+◌, ◌-◌, ◌≤◌, Bool, true, false, cond, List, [], ◌∷◌, ◌++◌, length, map, refl, ap, ◌∙◌, sym, ⊎_elim, arith, append_assoc, append-nil}
use Rattle.std.specs.Prelude.{slice_range}
use Rattle.std.specs.List.{AllByRecursion}
use Rattle.std.proofs.lemmas.Bool.{cond-true}
use Rattle.std.proofs.lemmas.List.{map-append}
use Rattle.rtlil_lex.specs.Tokens.{line_at, LeadTo}
use Rattle.rtlil_lex.specs.declared.token.Token.{Token}
use Rattle.rtlil_tree.specs.Lexemes.{Spelled}
use Rattle.rtlil_tree.specs.Lines.{Line, is_eol, with_first, cut, spelled, line_of, all_lines, lines_of}
use Rattle.rtlil_tree.specs.Inner.Parts.{moved}
use Rattle.rtlil_tree.proofs.PartsBytes.{slice_in, line_in}
use Rattle.rtlil_tree.proofs.PartsTokens.{token_within}
use Rattle.rtlil_tree.proofs.PartsLeads.{up_by, lead_order, IsClosed}

-- ---- lines of tokens one behind the other

all_append : (bytes : List ℕ) (xs ys : List (List Token)) → all_lines bytes (xs ++ ys) ≡ all_lines bytes xs ++ all_lines bytes ys
all_append bytes [] ys = refl
all_append bytes (x ∷ xs) ys = ap (λ (ls : List Line). line_of bytes x ++ ls) (all_append bytes xs ys) ∙ sym (append_assoc (line_of bytes x) (all_lines bytes xs) (all_lines bytes ys))

-- where the tokens are cut there is a line, maybe without tokens
cut_head : (ts : List Token) → (first : List Token) × (others : List (List Token)) × (cut ts ≡ first ∷ others)
cut_head [] = ([], [], refl)
cut_head (t ∷ ts) = by_kind (is_eol t.kind) (cut ts)
  where
    by_kind : (eol : Bool) (parts : List (List Token)) → (first : List Token) × (others : List (List Token)) × (cond eol ([] ∷ parts) (with_first t parts) ≡ first ∷ others)
    by_kind true parts = ([], parts, refl)
    by_kind false [] = (t ∷ [], [], refl)
    by_kind false (part ∷ parts) = (t ∷ part, parts, refl)

first_append : (t : Token) (xs ys : List (List Token)) (first : List Token) (others : List (List Token)) → xs ≡ first ∷ others → with_first t (xs ++ ys) ≡ with_first t xs ++ ys
first_append t xs ys first others is =
    ap (λ (l : List (List Token)). with_first t (l ++ ys)) is ∙ sym (ap (λ (l : List (List Token)). with_first t l ++ ys) is)

cut_more : (t : Token) (eol : Bool) (parts xs ys : List (List Token)) (first : List Token) (others : List (List Token)) → parts ≡ xs ++ ys → xs ≡ first ∷ others
    → cond eol ([] ∷ parts) (with_first t parts) ≡ cond eol ([] ∷ xs) (with_first t xs) ++ ys
cut_more t true parts xs ys first others is some = ap (λ (l : List (List Token)). [] ∷ l) is
cut_more t false parts xs ys first others is some = ap (with_first t) is ∙ first_append t xs ys first others some

-- behind the end of a line the tokens are cut by themselves
cut_behind : (xs : List Token) (e : Token) (ys : List Token) → is_eol e.kind ≡ true → cut (xs ++ e ∷ ys) ≡ cut xs ++ cut ys
cut_behind [] e ys eol = cond-true (is_eol e.kind) ([] ∷ cut ys) (with_first e (cut ys)) eol
cut_behind (x ∷ xs) e ys eol =
    let head = cut_head xs in
    cut_more x (is_eol x.kind) (cut (xs ++ e ∷ ys)) (cut xs) (cut ys) head.0 head.1 (cut_behind xs e ys eol) head.2

lines_behind : (bytes : List ℕ) (xs : List Token) (e : Token) (ys : List Token) → is_eol e.kind ≡ true → lines_of bytes (xs ++ e ∷ ys) ≡ lines_of bytes xs ++ lines_of bytes ys
lines_behind bytes xs e ys eol = ap (all_lines bytes) (cut_behind xs e ys eol) ∙ all_append bytes (cut xs) (cut ys)

-- an end of line behind the tokens gives no line more
pub lines_end : (bytes : List ℕ) (xs : List Token) (e : Token) → is_eol e.kind ≡ true → lines_of bytes (xs ++ e ∷ []) ≡ lines_of bytes xs
lines_end bytes xs e eol = lines_behind bytes xs e [] eol ∙ append-nil (lines_of bytes xs)

-- behind whole lines other lines follow
pub lines_append : (bytes : List ℕ) (xs ys : List Token) → IsClosed xs → lines_of bytes (xs ++ ys) ≡ lines_of bytes xs ++ lines_of bytes ys
lines_append bytes xs ys closed =
    ⊎_elim
    (λ none. ap (λ (l : List Token). lines_of bytes (l ++ ys)) none ∙ sym (ap (λ (l : List Token). lines_of bytes l ++ lines_of bytes ys) none))
    (λ some.
    let eol : is_eol some.1.kind ≡ true = ap is_eol some.3 in
    ap (λ (l : List Token). lines_of bytes (l ++ ys)) some.2
    ∙ ap (lines_of bytes) (append_assoc some.0 (some.1 ∷ []) ys)
    ∙ lines_behind bytes some.0 some.1 ys eol
    ∙ sym (ap (λ (ls : List Line). ls ++ lines_of bytes ys) (ap (lines_of bytes) some.2 ∙ lines_end bytes some.0 some.1 eol)))
    closed

-- ---- lines of a part

-- The token stands in the part, on a line of it.
record IsIn (bytes : List ℕ) (from to : ℕ) (t : Token) : Type 0 where
  pub low : from ≤ t.start
  pub order : t.start ≤ t.end
  pub high : t.end ≤ to
  pub line : (line_at bytes from - 1) + (t.line - (line_at bytes from - 1)) ≡ t.line

lead_in : (bytes : List ℕ) (from to place : ℕ) (ts : List Token) (last : ℕ) → from ≤ place → place ≤ length bytes → last ≤ to → LeadTo bytes place ts last → AllByRecursion (IsIn bytes from to) ts
lead_in bytes from to place [] last low within high h = tt
lead_in bytes from to place (t ∷ ts) last low within high h =
    let fits = token_within bytes place t h.0 in
    let order = lead_order bytes t.end ts last h.1 fits.2 in
    let line = line_in bytes from to t.start (omega (arith, fits, low)) (omega (arith, fits, order, high)) in (
      record { low = omega (arith, fits, low); order = omega (arith, fits); high = omega (arith, order, high); line = omega (arith, line, h.0.line) },
      lead_in bytes from to t.end ts last (omega (arith, fits, low)) fits.2 high h.1,
    )

abbrev AreIn : List ℕ → ℕ → ℕ → List (List Token) → Type 0
AreIn bytes from to parts = AllByRecursion (AllByRecursion (IsIn bytes from to)) parts

cut_in : (bytes : List ℕ) (from to : ℕ) (ts : List Token) → AllByRecursion (IsIn bytes from to) ts → AreIn bytes from to (cut ts)
cut_in bytes from to [] h = (tt, tt)
cut_in bytes from to (t ∷ ts) h = by_kind (is_eol t.kind) (cut ts) h.0 (cut_in bytes from to ts h.1)
  where
    by_kind : (eol : Bool) (parts : List (List Token)) → IsIn bytes from to t → AreIn bytes from to parts → AreIn bytes from to (cond eol ([] ∷ parts) (with_first t parts))
    by_kind true parts one more = (tt, more)
    by_kind false [] one more = ((one, tt), tt)
    by_kind false (part ∷ parts) one more = ((one, more.0), more.1)

cut_up : (size lines : ℕ) (ts : List Token) → cut (map (up_by size lines) ts) ≡ map (map (up_by size lines)) (cut ts)
cut_up size lines [] = refl
cut_up size lines (t ∷ ts) = ap (λ (parts : List (List Token)). cond (is_eol t.kind) ([] ∷ parts) (with_first (up_by size lines t) parts)) (cut_up size lines ts) ∙ by_kind (is_eol t.kind) (cut ts)
  where
    by_kind : (eol : Bool) (parts : List (List Token))
        → cond eol ([] ∷ map (map (up_by size lines)) parts) (with_first (up_by size lines t) (map (map (up_by size lines)) parts)) ≡ map (map (up_by size lines)) (cond eol ([] ∷ parts) (with_first t parts))
    by_kind true parts = refl
    by_kind false [] = refl
    by_kind false (part ∷ parts) = refl

spelled_up : (bytes : List ℕ) (from to lines : ℕ) (ts : List Token) → AllByRecursion (IsIn bytes from to) ts → map (spelled bytes) ts ≡ map (spelled (slice_range bytes from to)) (map (up_by from lines) ts)
spelled_up bytes from to lines [] h = refl
spelled_up bytes from to lines (t ∷ ts) h =
    let text : slice_range (slice_range bytes from to) (t.start - from) (t.end - from) ≡ slice_range bytes t.start t.end = slice_in bytes from to t.start t.end h.0.low h.0.order h.0.high in
    ap (λ (s : List ℕ). said s ∷ map (spelled bytes) ts) (sym text)
    ∙ ap (λ (us : List Spelled). said (slice_range (slice_range bytes from to) (t.start - from) (t.end - from)) ∷ us) (spelled_up bytes from to lines ts h.1)
  where
    said : List ℕ → Spelled
    said s = record { kind = t.kind; text = s }

line_up : (bytes : List ℕ) (from to : ℕ) (ts : List Token) → AllByRecursion (IsIn bytes from to) ts
    → line_of bytes ts ≡ moved (line_at bytes from - 1) (line_of (slice_range bytes from to) (map (up_by from (line_at bytes from - 1)) ts))
line_up bytes from to [] h = refl
line_up bytes from to (t ∷ ts) h =
    ap (λ (n : ℕ). one n (map (spelled bytes) (t ∷ ts))) (sym h.0.line)
    ∙ ap (one ((line_at bytes from - 1) + (t.line - (line_at bytes from - 1)))) (spelled_up bytes from to (line_at bytes from - 1) (t ∷ ts) h)
  where
    one : ℕ → List Spelled → List Line
    one n us = record { number = n; tokens = us } ∷ []

all_up : (bytes : List ℕ) (from to : ℕ) (parts : List (List Token)) → AreIn bytes from to parts
    → all_lines bytes parts ≡ moved (line_at bytes from - 1) (all_lines (slice_range bytes from to) (map (map (up_by from (line_at bytes from - 1))) parts))
all_up bytes from to [] h = refl
all_up bytes from to (ts ∷ parts) h =
    let lines = line_at bytes from - 1 in
    let part = slice_range bytes from to in
    ap (λ (ls : List Line). ls ++ all_lines bytes parts) (line_up bytes from to ts h.0)
    ∙ ap (λ (ls : List Line). moved lines (line_of part (map (up_by from lines) ts)) ++ ls) (all_up bytes from to parts h.1)
    ∙ sym (map-append (λ (line : Line). record line { number = lines + line.number }) (line_of part (map (up_by from lines) ts)) (all_lines part (map (map (up_by from lines)) parts)))

-- the lines of tokens that stand in a part
pub lines_up : (bytes : List ℕ) (from to : ℕ) (ts : List Token) (last : ℕ) → from ≤ length bytes → last ≤ to → LeadTo bytes from ts last
    → lines_of bytes ts ≡ moved (line_at bytes from - 1) (lines_of (slice_range bytes from to) (map (up_by from (line_at bytes from - 1)) ts))
lines_up bytes from to ts last within high h =
    let lines = line_at bytes from - 1 in
    all_up bytes from to (cut ts) (cut_in bytes from to ts (lead_in bytes from to from ts last (omega arith) within high h))
    ∙ ap (λ (parts : List (List Token)). moved lines (all_lines (slice_range bytes from to) parts)) (sym (cut_up from lines ts))
