-- The next line of a part is taken.
use Rattle.std.proofs.Common.{◌≡◌, ℕ, ◌+◌, ◌-◌, ◌<◌, ◌≤◌, zero, suc, List, [], ◌∷◌, ◌++◌, length, get_or, take, drop, map, min, refl, ap, ◌∙◌, sym, arith, ⊎_elim}
use Rattle.std.specs.List.{prefix_len, slice_range}
use Rattle.std.proofs.lemmas.Bool.{cases_lt}
use Rattle.std.proofs.lemmas.List.{take_all, drop_all, drop_more, drop_min, drop-drop}
use Rattle.rtlil_lex.specs.declared.token.Token.{Token}
use Rattle.rtlil_tree.specs.declared.part.Part.{Part}
use Rattle.rtlil_tree.specs.Lines as text
use Rattle.rtlil_tree.specs.Lines.{spelled, line_of, lines_of}
use Rattle.rtlil_tree.specs.Inner.Parts.{moved}
use Rattle.rtlil_tree.specs.Inner.Cursor.{is_inner, left_in}
use Rattle.rtlil_tree.proofs.LineLemmas.{lines_cut, lines_whole}

-- the tokens before the first end of line are a line, which may have none, and those behind it the others
next_line : (bytes : List ℕ) (ts : List Token) (n : ℕ) → n ≡ prefix_len is_inner ts → lines_of bytes ts ≡ line_of bytes (take n ts) ++ lines_of bytes (drop (n + 1) ts)
next_line bytes ts n e =
    ⊎_elim
    (λ h. lines_cut bytes ts n e h)
    (λ h.
    lines_whole bytes ts (drop (n + 1) ts) n e h (drop_all (n + 1) ts (omega arith))
    ∙ ap (λ (l : List Token). line_of bytes l ++ lines_of bytes (drop (n + 1) ts)) (sym (take_all n ts h)))
    (cases_lt n (length ts))

-- the places of that line in all tokens
line_in : (bytes : List ℕ) (ts : List Token) (next n : ℕ) → n ≡ prefix_len is_inner (drop next ts)
    → lines_of bytes (drop next ts) ≡ line_of bytes (slice_range ts next (next + n)) ++ lines_of bytes (drop (min (next + n + 1) (length ts)) ts)
line_in bytes ts next n e =
    let size : n ≡ next + n - next = omega arith in
    let place : next + (n + 1) ≡ next + n + 1 = omega arith in
    next_line bytes (drop next ts) n e
    ∙ ap (λ k. line_of bytes (take k (drop next ts)) ++ lines_of bytes (drop (n + 1) (drop next ts))) size
    ∙ ap (λ (l : List Token). line_of bytes (slice_range ts next (next + n)) ++ lines_of bytes l)
    (drop-drop (n + 1) next ts ∙ ap (λ k. drop k ts) place ∙ sym (drop_min (next + n + 1) ts))

-- a line with tokens
some_line : (bytes : List ℕ) (ts : List Token) (n : ℕ) (t : Token) (rest : List Token) → ts ≡ t ∷ rest → 0 < n → line_of bytes (take n ts) ≡ record { number = t.line; tokens = map (spelled bytes) (take n ts) } ∷ []
some_line bytes ts zero t rest e h = absurd (omega arith)
some_line bytes ts (suc n) t rest e h = rw e refl

-- the next line has tokens, and the lines behind it are left
pub some_moves : (bytes : List ℕ) (ts rest : List Token) (before next n after : ℕ) (t : Token) → n ≡ prefix_len is_inner rest → rest ≡ drop next ts → next < length ts → t ≡ get_or ts next t → after ≡ min (next + n + 1) (length ts) → 0 < n
    → moved before (lines_of bytes (drop next ts)) ≡ record { number = before + t.line; tokens = map (spelled bytes) (slice_range ts next (next + n)) } ∷ moved before (lines_of bytes (drop after ts))
some_moves bytes ts rest before next n after t size is within read end some =
    let first : drop next ts ≡ t ∷ drop (next + 1) ts = drop_more ts next t within ∙ ap (λ (u : Token). u ∷ drop (next + 1) ts) (sym read) in
    let whole : n ≡ next + n - next = omega arith in
    let one = some_line bytes (drop next ts) n t (drop (next + 1) ts) first some ∙ ap (λ k. record { number = t.line; tokens = map (spelled bytes) (take k (drop next ts)) } ∷ []) whole in
    ap (moved before) (line_in bytes ts next n (size ∙ ap (prefix_len is_inner) is))
    ∙ ap (λ k. moved before (line_of bytes (take k (drop next ts)) ++ lines_of bytes (drop (min (next + n + 1) (length ts)) ts))) (sym whole)
    ∙ ap (λ (l : List text.Line). moved before (l ++ lines_of bytes (drop (min (next + n + 1) (length ts)) ts))) one
    ∙ ap (λ k. record { number = before + t.line; tokens = map (spelled bytes) (slice_range ts next (next + n)) } ∷ moved before (lines_of bytes (drop k ts))) (sym end)

-- the next line has no token
pub none_moves : (bytes : List ℕ) (ts rest : List Token) (before next n after : ℕ) → n ≡ prefix_len is_inner rest → rest ≡ drop next ts → after ≡ min (next + n + 1) (length ts) → n ≡ 0
    → moved before (lines_of bytes (drop next ts)) ≡ moved before (lines_of bytes (drop after ts))
none_moves bytes ts rest before next n after size is end none =
    let whole : next + n - next ≡ 0 = omega arith in
    ap (moved before) (line_in bytes ts next n (size ∙ ap (prefix_len is_inner) is))
    ∙ ap (λ k. moved before (line_of bytes (take k (drop next ts)) ++ lines_of bytes (drop (min (next + n + 1) (length ts)) ts))) whole
    ∙ ap (λ k. moved before (lines_of bytes (drop k ts))) (sym end)

-- no line is left in the part
pub none_in : (p : Part) → length p.tokens.items ≤ p.next → left_in p ≡ []
unfolding left_in
none_in p h = ap (λ (l : List Token). moved p.before (lines_of p.bytes.now l)) (drop_all p.next p.tokens.items h)
