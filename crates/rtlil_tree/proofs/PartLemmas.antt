-- The text is cut into parts.
use Rattle.std.proofs.Common.{◌≡◌, ℕ, ◌+◌, ◌-◌, ◌*◌, ◌^◌, ◌<◌, ◌≤◌, ◌⊎◌, false, List, [], ◌∷◌, ◌++◌, length, get_or, take, drop, refl, ap, ◌∙◌, sym, subst, arith, inl, inr, ⊎_elim}
use Rattle.std.specs.List.{All, prefix_len, slice_range}
use Rattle.std.proofs.lemmas.Bool.{cases_eq, eqb-true, not-false}
use Rattle.std.proofs.lemmas.List.{get_or-drop, length-drop, length-take, length-take-le}
use Rattle.std.proofs.lemmas.List.Elements.{All-append, All-cons, All-nil, All-same, All-weaker}
use Rattle.std.proofs.lemmas.List.Sums.{prefix_len_stops, count_by-le-length}
use Rattle.rtlil_lex.specs.Bytes.{is_feed, is_inline}
use Rattle.rtlil_lex.specs.Tokens.{AreTokens, LeadTo, HasFault, line_at}
use Rattle.rtlil_lex.specs.declared.token.Token.{Token}
use Rattle.rtlil_lex.specs.declared.fault.LexFault.{LexFault}
use Rattle.circuit_types.specs.declared.refusal.Stop.{Stop}
use Rattle.circuit_types.specs.declared.refusal.Stop.TheVariants.{NoMemory}
use Rattle.rtlil_tree.specs.declared.part.Part.{Part}
use Rattle.rtlil_tree.specs.declared.lines.Lines.{Lines}
use Rattle.rtlil_tree.specs.Lines as text
use Rattle.rtlil_tree.specs.Lines.{lines_of}
use Rattle.rtlil_tree.specs.Inner.Parts.{BeginsLine, IsPart, moved, HasTokens}
use Rattle.rtlil_tree.specs.Inner.Cursor.{last_line, part_stop, left_in, tokens_left, IsPartOf, Rest, IsRest, IsCut, work_of}
use Rattle.rtlil_tree.proofs.PartsFacts.{join, line_on}
use Rattle.rtlil_tree.proofs.TextMoves.{ends_at}

-- ---- the size of a part

is_no_inline : (b : ℕ) → is_inline b ≡ false → b ≡ 10
is_no_inline b e = eqb-true b 10 (not-false (is_feed b) e)

-- behind the bytes before a line feed
pub feed_at : (bytes rest : List ℕ) (from n : ℕ) → n ≡ prefix_len is_inline rest → rest ≡ drop from bytes → from + n < length bytes → get_or bytes (from + n + 1 - 1) 0 ≡ 10
feed_at bytes rest from n size is within =
    let count : prefix_len is_inline (drop from bytes) ≡ n = sym (size ∙ ap (prefix_len is_inline) is) in
    let short : prefix_len is_inline (drop from bytes) < length (drop from bytes) = omega (arith, length-drop from bytes) in
    let place : from + prefix_len is_inline (drop from bytes) ≡ from + n + 1 - 1 = omega arith in
    ap (λ k. get_or bytes k 0) (sym place)
    ∙ (sym (get_or-drop from bytes (prefix_len is_inline (drop from bytes)) 0)
    ∙ is_no_inline _ (prefix_len_stops is_inline (drop from bytes) 0 short))

-- ---- a part

-- what is known of the place behind a part: a line begins there, unless the text ends
abbrev pub BeginsThere : List ℕ → ℕ → Type 0
BeginsThere bytes place = 0 < place → place < length bytes → get_or bytes (place - 1) 0 ≡ 10

begins_there : (bytes : List ℕ) (place : ℕ) → BeginsThere bytes place → place < length bytes → BeginsLine bytes place
begins_there bytes place begins within = ⊎_elim (λ none. inl none) (λ some. inr (begins (omega (arith, some)) within)) (cases_eq place 0)

ends_there : (bytes rest : List ℕ) (place size : ℕ) → rest ≡ drop place bytes → place < length bytes → 0 < size → BeginsLine rest size ⊎ (size ≡ length rest) → BeginsLine bytes (place + size) ⊎ (place + size ≡ length bytes)
ends_there bytes rest place size is within some (inl (inl none)) = absurd (omega arith)
ends_there bytes rest place size is within some (inl (inr feed)) =
    let there : place + size - 1 ≡ place + (size - 1) = omega arith in
    inl (inr (ap (λ k. get_or bytes k 0) there ∙ (sym (get_or-drop place bytes (size - 1) 0) ∙ (ap (λ (l : List ℕ). get_or l (size - 1) 0) (sym is) ∙ feed))))
ends_there bytes rest place size is within some (inr whole) = inr (omega (arith, ap length is, length-drop place bytes))

pub is_cut : (lines : Lines) (left : List ℕ) (size : ℕ) → left ≡ drop lines.place lines.bytes.now → lines.place < length lines.bytes.now → size ≤ length left → (0 < length left → 0 < size) → BeginsLine left size ⊎ (size ≡ length left)
    → IsCut lines (take size left)
is_cut lines left size is within order some ends =
    let bytes = lines.bytes.now in
    let place = lines.place in
    let count : length left ≡ length bytes - place = ap length is ∙ length-drop place bytes in
    let width : size ≡ place + size - place = omega arith in
    let long : size ≡ length (take size left) = sym (length-take-le size left order) in
    let more : 0 < size = some (omega arith) in
    let part : IsPart bytes place (place + size) = record {
      order = omega arith;
      within = omega arith;
      begins = begins_there bytes place lines.begins within;
      ends = ends_there bytes left place size is within more ends;
    } in
    let P : ℕ → Type 0 = λ n. IsPart bytes place (place + n) in
    record {
      some = omega (arith, more, long);
      part = subst P long part;
      piece_is = ap (λ k. take k left) width ∙ ap (take (place + size - place)) is ∙ ap (λ k. slice_range bytes place (place + k)) long;
    }

feed_before : (bytes : List ℕ) (place : ℕ) → 0 < place → place < length bytes → BeginsLine bytes place ⊎ (place ≡ length bytes) → get_or bytes (place - 1) 0 ≡ 10
feed_before bytes place some more (inl (inl none)) = absurd (omega arith)
feed_before bytes place some more (inl (inr feed)) = feed
feed_before bytes place some more (inr whole) = absurd (omega arith)

-- a line begins behind the part, unless the text ends
pub next_begins : (lines : Lines) (piece : List ℕ) → IsCut lines piece → BeginsThere lines.bytes.now (lines.place + length piece)
next_begins lines piece cut some more = feed_before lines.bytes.now (lines.place + length piece) some more cut.part.ends

-- ---- the numbers of its lines

line_within : (bytes : List ℕ) (place : ℕ) → line_at bytes place ≤ 1 + length bytes
line_within bytes place = omega (arith, count_by-le-length is_feed (take place bytes), length-take place bytes)

lead_within : (bytes : List ℕ) (place last : ℕ) (ts : List Token) → LeadTo bytes place ts last → All (λ (t : Token). t.line ≤ 1 + length bytes) ts
lead_within bytes place last [] h = All-nil (λ (t : Token). t.line ≤ 1 + length bytes)
lead_within bytes place last (t ∷ ts) h =
    let line = h.0.line in
    All-cons (λ (t : Token). t.line ≤ 1 + length bytes) t ts (omega (arith, line, line_within bytes t.start)) (lead_within bytes t.end last ts h.1)

pub numbers_fit : (bytes : List ℕ) (tokens : List Token) (before : ℕ) → AreTokens bytes tokens → length bytes ≤ 67108864 → before ≤ 67108864 → All (λ (t : Token). before + t.line < 2 ^ 32) tokens
numbers_fit bytes tokens before are short few =
    let last : are.end_token.line ≤ 1 + length bytes = omega (arith, ap (λ (t : Token). t.line) are.last.end_of_input, line_within bytes (length bytes)) in
    let all = All-append (λ (t : Token). t.line ≤ 1 + length bytes) are.before (are.end_token ∷ []) (lead_within bytes 0 are.place are.before are.lead)
    (All-cons (λ (t : Token). t.line ≤ 1 + length bytes) are.end_token [] last (All-nil (λ (t : Token). t.line ≤ 1 + length bytes))) in
    All-weaker (λ (t : Token). t.line ≤ 1 + length bytes) (λ (t : Token). before + t.line < 2 ^ 32) (λ t h. omega (arith, h)) tokens
    (All-same (λ (t : Token). t.line ≤ 1 + length bytes) tokens (are.before ++ are.end_token ∷ []) are.all all)

-- the line that is behind the part
pub next_line : (lines : Lines) (piece : List ℕ) (after : ℕ) (part : Part) → IsCut lines piece → IsPartOf piece (lines.end_line - 1) part → after ≡ part.before + last_line part.tokens.items → after ≡ line_at lines.bytes.now (lines.place + length piece)
next_line lines piece after part cut of end =
    let last = ends_at piece part.tokens.items part.tokens.items of.are_tokens refl in
    let there = line_on lines.bytes.now lines.place (lines.place + length piece) cut.part.order cut.part.within in
    let same = ap (λ (l : List ℕ). line_at l (length l)) cut.piece_is in
    let before = of.begins in
    let counted = lines.counted in
    omega (arith, end, last, there, same, before, counted)

-- ---- the part is read

-- its lines, and those behind it, are those behind the one before
pub part_left : (lines : Lines) (piece : List ℕ) (part : Part) (rest : Rest) → IsCut lines piece → IsPartOf piece (lines.end_line - 1) part → IsRest lines.bytes.now rest
    → left_in part ++ rest.ahead (lines.place + length piece) ≡ rest.ahead lines.place
part_left lines piece part rest cut of ah =
    let ts = part.tokens.items in
    let here = slice_range lines.bytes.now lines.place (lines.place + length piece) in
    let P : List ℕ → Type 0 = λ l. AreTokens l ts in
    let left = of.left ∙ ap (λ n. moved (n - 1) (lines_of piece ts)) lines.counted ∙ ap (λ (l : List ℕ). moved (line_at lines.bytes.now lines.place - 1) (lines_of l ts)) cut.piece_is in
    ap (λ (l : List text.Line). l ++ rest.ahead (lines.place + length piece)) left
    ∙ sym (ah.are_ahead.parts lines.place (lines.place + length piece) ts cut.part (subst P cut.piece_is of.are_tokens))

-- it has no tokens: then the text has none, but for want of memory
pub part_fails : (lines : Lines) (piece : List ℕ) (rest : Rest) (fault : LexFault) (e : Stop) → IsCut lines piece → HasFault piece fault → IsRest lines.bytes.now rest → e ≡ part_stop fault lines.end_line → e ≡ NoMemory
part_fails lines piece rest fault e cut has ah stopped =
    let P : List ℕ → Type 0 = λ l. HasFault l fault in
    stopped ∙ ap (λ f. part_stop f lines.end_line) (ah.are_ahead.whole lines.place (lines.place + length piece) fault cut.part (subst P cut.piece_is has))

-- the bytes up to its end have tokens
pub tokens_on : (lines : Lines) (piece : List ℕ) (before : ℕ) (part : Part) → IsCut lines piece → IsPartOf piece before part → HasTokens (take lines.place lines.bytes.now) → HasTokens (take (lines.place + length piece) lines.bytes.now)
tokens_on lines piece before part cut of h =
    let P : List ℕ → Type 0 = λ l. AreTokens l part.tokens.items in
    join lines.bytes.now lines.place (lines.place + length piece) cut.part h (record { tokens = part.tokens.items; are_tokens = subst P cut.piece_is of.are_tokens })

work_falls : (all place size few more : ℕ) → 0 < size → place + size ≤ all → few < 2 ^ 64 → (all - (place + size)) * 2 ^ 64 + few < (all - place) * 2 ^ 64 + more
work_falls all place size few more some within small =
    let step : (all - (place + size)) + 1 ≤ all - place = omega arith in
    omega arith

-- there is less to do
pub less_work : (lines after : Lines) (piece : List ℕ) → IsCut lines piece → after.bytes.now ≡ lines.bytes.now → after.place ≡ lines.place + length piece → work_of after < work_of lines
unfolding work_of
less_work lines after piece cut same place =
    let few : tokens_left after.part < 2 ^ 64 = let small = after.part.tokens.small in let count = after.part.tokens.ok in omega arith in
    let falls = work_falls (length lines.bytes.now) lines.place (length piece) (tokens_left after.part) (tokens_left lines.part) cut.some cut.part.within few in
    rw (same, place) falls
