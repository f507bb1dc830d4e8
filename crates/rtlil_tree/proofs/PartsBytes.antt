-- The bytes of a part, and the lines that begin in them.
use Rattle.std.proofs.Common.{◌≡◌, ℕ, ◌+◌, ◌-◌, ◌<◌, ◌≤◌, cond, List, [], length, get_or, take, drop, ap, ◌∙◌, sym, inl, inr, ⊎_elim, arith, length-take-le, length-drop, take-take, drop-drop, take-add, get_or-take}
use Rattle.std.specs.Prelude.{slice_range}
use Rattle.std.specs.List.{count_by}
use Rattle.std.proofs.lemmas.Bool.{cases_lt, eq-eqb}
use Rattle.std.proofs.lemmas.List.{drop-take, take_rest}
use Rattle.std.proofs.lemmas.List.Sums.{sum_by-append, count_by_more_yes}
use Rattle.rtlil_lex.specs.Bytes.{is_feed}
use Rattle.rtlil_lex.specs.Tokens.{IsGap, line_at}
use Rattle.rtlil_lex.proofs.Lines.{line_after_gap}
use Rattle.rtlil_tree.specs.Inner.Parts.{BeginsLine}

-- ---- parts of parts

-- what is left of a part
pub drop_in : (bytes : List ℕ) (from to at : ℕ) → from ≤ at → at ≤ to → drop (at - from) (slice_range bytes from to) ≡ slice_range bytes at to
drop_in bytes from to at low high =
    let size : to - from ≡ (at - from) + (to - at) = omega arith in
    let place : from + (at - from) ≡ at = omega arith in
    ap (λ n. drop (at - from) (take n (drop from bytes))) size
    ∙ drop-take (at - from) (to - at) (drop from bytes)
    ∙ ap (take (to - at)) (drop-drop (at - from) from bytes)
    ∙ ap (λ n. take (to - at) (drop n bytes)) place

-- a part of a part
pub slice_in : (bytes : List ℕ) (from to low high : ℕ) → from ≤ low → low ≤ high → high ≤ to → slice_range (slice_range bytes from to) (low - from) (high - from) ≡ slice_range bytes low high
slice_in bytes from to low high first order last =
    let size : (high - from) - (low - from) ≡ high - low = omega arith in
    ap (λ n. take n (drop (low - from) (slice_range bytes from to))) size
    ∙ ap (take (high - low)) (drop_in bytes from to low first (omega arith))
    ∙ take-take (high - low) (to - low) (drop low bytes) (omega arith)

-- what is left of a front
pub drop_front : (bytes : List ℕ) (to at : ℕ) → at ≤ to → drop at (take to bytes) ≡ slice_range bytes at to
drop_front bytes to at high =
    let size : to ≡ at + (to - at) = omega arith in
    ap (λ n. drop at (take n bytes)) size ∙ drop-take at (to - at) bytes

-- a part of a front
pub slice_front : (bytes : List ℕ) (to low high : ℕ) → low ≤ high → high ≤ to → slice_range (take to bytes) low high ≡ slice_range bytes low high
slice_front bytes to low high order last =
    ap (take (high - low)) (drop_front bytes to low (omega arith)) ∙ take-take (high - low) (to - low) (drop low bytes) (omega arith)

-- a part of what is left
pub slice_rest : (bytes : List ℕ) (from low high : ℕ) → slice_range (drop from bytes) low high ≡ slice_range bytes (from + low) (from + high)
slice_rest bytes from low high =
    let size : high - low ≡ (from + high) - (from + low) = omega arith in
    ap (take (high - low)) (drop-drop low from bytes) ∙ ap (λ n. take n (drop (from + low) bytes)) size

-- what is left of the bytes is the part up to the end
pub slice_end : (bytes : List ℕ) (from : ℕ) → slice_range bytes from (length bytes) ≡ drop from bytes
slice_end bytes from = take_rest bytes from

pub slice_none : (bytes : List ℕ) (at : ℕ) → slice_range bytes at at ≡ []
slice_none bytes at = let none : at - at ≡ 0 = omega arith in ap (λ n. take n (drop at bytes)) none

pub length_slice : (bytes : List ℕ) (from to : ℕ) → to ≤ length bytes → length (slice_range bytes from to) ≡ to - from
length_slice bytes from to within = length-take-le (to - from) (drop from bytes) (omega (arith, length-drop from bytes))

-- ---- lines

-- the line a few bytes on
pub line_more : (bytes : List ℕ) (place size : ℕ) → line_at bytes (place + size) ≡ line_at bytes place + count_by is_feed (take size (drop place bytes))
line_more bytes place size =
    let feeds : count_by is_feed (take (place + size) bytes) ≡ count_by is_feed (take place bytes) + count_by is_feed (take size (drop place bytes)) =
    ap (count_by is_feed) (take-add place size bytes) ∙ sum_by-append (λ x. cond (is_feed x) 1 0) (take place bytes) (take size (drop place bytes)) in
    omega arith

-- the line of a place of a part, from that in the part
pub line_in : (bytes : List ℕ) (from to at : ℕ) → from ≤ at → at ≤ to → line_at bytes at ≡ (line_at bytes from - 1) + line_at (slice_range bytes from to) (at - from)
line_in bytes from to at low high =
    let place : at ≡ from + (at - from) = omega arith in
    let front : count_by is_feed (take (at - from) (slice_range bytes from to)) ≡ count_by is_feed (take (at - from) (drop from bytes)) =
    ap (count_by is_feed) (take-take (at - from) (to - from) (drop from bytes) (omega arith)) in
    let more : line_at bytes (from + (at - from)) ≡ line_at bytes from + count_by is_feed (take (at - from) (drop from bytes)) = line_more bytes from (at - from) in
    ap (line_at bytes) place ∙ omega (arith, more, front)

-- the number of the line on which a part ends, from that in the part
pub line_on : (bytes : List ℕ) (from to : ℕ) → from ≤ to → to ≤ length bytes → line_at bytes to ≡ (line_at bytes from - 1) + line_at (slice_range bytes from to) (length (slice_range bytes from to))
line_on bytes from to order within =
    line_in bytes from to to order (omega arith)
    ∙ ap (λ n. (line_at bytes from - 1) + line_at (slice_range bytes from to) n) (sym (length_slice bytes from to within))

line_up : (bytes : List ℕ) (low high : ℕ) → low ≤ high → line_at bytes low ≤ line_at bytes high
line_up bytes low high order =
    let place : low + (high - low) ≡ high = omega arith in
    let more : line_at bytes (low + (high - low)) ≡ line_at bytes low + count_by is_feed (take (high - low) (drop low bytes)) = line_more bytes low (high - low) in
    let same : line_at bytes (low + (high - low)) ≡ line_at bytes high = ap (line_at bytes) place in
    omega (arith, more, same)

-- where a line begins, the line is one more than a byte before
line_begins : (bytes : List ℕ) (place : ℕ) → 0 < place → place ≤ length bytes → BeginsLine bytes place → line_at bytes place ≡ line_at bytes (place - 1) + 1
line_begins bytes place some within begins =
    ⊎_elim
    (λ none. absurd (omega (arith, none)))
    (λ feed.
    let next : (place - 1) + 1 ≡ place = omega arith in
    let count : count_by is_feed (take ((place - 1) + 1) bytes) ≡ count_by is_feed (take (place - 1) bytes) + 1 = count_by_more_yes is_feed bytes (place - 1) 0 (omega arith) (eq-eqb (get_or bytes (place - 1) 0) 10 feed) in
    let same : line_at bytes ((place - 1) + 1) ≡ line_at bytes place = ap (line_at bytes) next in
    omega (arith, count, same))
    begins

-- over the beginning of a line the line is another
pub line_between : (bytes : List ℕ) (low place high : ℕ) → place ≤ length bytes → BeginsLine bytes place → low < place → place ≤ high → line_at bytes low < line_at bytes high
line_between bytes low place high within begins before behind =
    omega (arith, line_up bytes low (place - 1) (omega arith), line_begins bytes place (omega arith) within begins, line_up bytes place high behind)

-- no line begins in a gap
pub gap_stops : (bytes next : List ℕ) (low place high : ℕ) → place ≤ length bytes → BeginsLine bytes place → low ≤ high → IsGap (slice_range bytes low high) next → low < place → high < place
gap_stops bytes next low place high within begins order gap before =
    ⊎_elim
    (λ less. less)
    (λ behind.
    let up = line_between bytes low place high within begins before behind in
    let end_place : low + (high - low) ≡ high = omega arith in
    let stays : line_at bytes (low + (high - low)) ≡ line_at bytes low = line_after_gap bytes low (high - low) next gap in
    let same : line_at bytes (low + (high - low)) ≡ line_at bytes high = ap (line_at bytes) end_place in
    absurd (omega (arith, up, stays, same)))
    (cases_lt high place)

-- in a front of the bytes lines begin where they do in the bytes
pub begins_front : (bytes : List ℕ) (to place : ℕ) → place ≤ to → BeginsLine bytes place → BeginsLine (take to bytes) place
begins_front bytes to place within begins =
    ⊎_elim
    (λ none. inl none)
    (λ feed.
    ⊎_elim
    (λ less. inl (omega (arith, less)))
    (λ some. inr (get_or-take to bytes (place - 1) 0 (omega arith) ∙ feed))
    (cases_lt place 1))
    begins
