-- A gap is of one size, and it and what is no end of line have no line feed.
use Rattle.std.proofs.Common.{◌≡◌, ℕ, ◌+◌, ◌-◌, ◌≤◌, suc, true, false, cond, not, ◌==◌, inl, inr, List, [], ◌∷◌, ◌++◌, length, take, drop, sym, refl, ap, ◌∙◌, subst, ⊎_elim, arith, length-append, length-drop, append_assoc, take-append-drop}
use Rattle.std.specs.Prelude.{IsTrue, slice_range}
use Rattle.std.specs.List.{prefix_len}
use Rattle.std.proofs.lemmas.Bool.{cond-true, cond-false, or_parts, or_from, not-true, not-false, not_from_false, not_from_true}
use Rattle.std.proofs.lemmas.List.{length-take-le, drop_at, drop-drop}
use Rattle.std.proofs.lemmas.List.Sums.{prefix_len-le-length}
use Rattle.rtlil_lex.specs.Bytes.{NoneOrMore, begins, is_blank, is_inline, is_feed, is_line_end}
use Rattle.rtlil_lex.specs.Tokens.{IsGap, begins_gap}
use Rattle.rtlil_lex.proofs.Runs.{run_is, run_at, run_stops, take_past, begins_is}

-- the size of the gap that the bytes begin with
abbrev pub gap_size : List ℕ → ℕ
gap_size bytes =
    prefix_len is_blank bytes
    + cond (begins (λ b. b == 35) (drop (prefix_len is_blank bytes) bytes)) (prefix_len is_inline (drop (prefix_len is_blank bytes) bytes)) 0

no_blank : (next : List ℕ) → begins_gap next ≡ false → begins is_blank next ≡ false
no_blank [] h = refl
no_blank (b ∷ bs) h = (or_parts _ _ h).0

no_hash : (next : List ℕ) → begins_gap next ≡ false → begins (λ b. b == 35) next ≡ false
no_hash [] h = refl
no_hash (b ∷ bs) h = (or_parts _ _ h).1

no_gap : (next : List ℕ) → begins is_blank next ≡ false → begins (λ b. b == 35) next ≡ false → begins_gap next ≡ false
no_gap [] h k = refl
no_gap (b ∷ bs) h k = or_from _ _ h k

no_inline : (next : List ℕ) → IsTrue (is_line_end next) → begins is_inline next ≡ false
no_inline [] h = refl
no_inline (b ∷ bs) h = not_from_true _ h

line_end : (next : List ℕ) → begins is_inline next ≡ false → IsTrue (is_line_end next)
line_end [] h = refl
line_end (b ∷ bs) h = not-false (is_feed b) h

pub gap_size_is : (gap next : List ℕ) → IsGap gap next → gap_size (gap ++ next) ≡ length gap
gap_size_is gap next h = ⊎_elim plain commented h
  where
    plain : NoneOrMore is_blank gap × IsTrue (not (begins_gap next)) → gap_size (gap ++ next) ≡ length gap
    plain (blank, stops) =
        let ends : begins_gap next ≡ false = not-true _ stops in
        let blanks : prefix_len is_blank (gap ++ next) ≡ length gap = run_at is_blank gap next blank (no_blank next ends) in
        let left : drop (prefix_len is_blank (gap ++ next)) (gap ++ next) ≡ next = ap (λ n. drop n (gap ++ next)) blanks ∙ drop_at gap next (length gap) refl in
        let none : cond (begins (λ b. b == 35) (drop (prefix_len is_blank (gap ++ next)) (gap ++ next))) (prefix_len is_inline (drop (prefix_len is_blank (gap ++ next)) (gap ++ next))) 0 ≡ 0 =
        cond-false _ _ _ (ap (begins (λ b. b == 35)) left ∙ no_hash next ends) in
        omega arith

    commented : (blanks comment : List ℕ) × (gap ≡ blanks ++ 35 ∷ comment) × NoneOrMore is_blank blanks × NoneOrMore is_inline comment × IsTrue (is_line_end next) → gap_size (gap ++ next) ≡ length gap
    commented (blanks, comment, e, blank, inline, ends) =
        let whole : gap ++ next ≡ blanks ++ (35 ∷ comment ++ next) = ap (λ s. s ++ next) e ∙ append_assoc blanks (35 ∷ comment) next in
        let front : prefix_len is_blank (gap ++ next) ≡ length blanks = ap (prefix_len is_blank) whole ∙ run_at is_blank blanks (35 ∷ comment ++ next) blank refl in
        let left : drop (prefix_len is_blank (gap ++ next)) (gap ++ next) ≡ 35 ∷ comment ++ next =
        ap (λ n. drop n (gap ++ next)) front ∙ ap (drop (length blanks)) whole ∙ drop_at blanks (35 ∷ comment ++ next) (length blanks) refl in
        let all : cond (begins (λ b. b == 35) (drop (prefix_len is_blank (gap ++ next)) (gap ++ next))) (prefix_len is_inline (drop (prefix_len is_blank (gap ++ next)) (gap ++ next))) 0 ≡ suc (length comment) =
        cond-true _ _ _ (ap (begins (λ b. b == 35)) left) ∙ ap (prefix_len is_inline) left ∙ run_at is_inline (35 ∷ comment) next (refl, inline) (no_inline next ends) in
        let sizes : length gap ≡ length blanks + suc (length comment) = ap length e ∙ length-append blanks (35 ∷ comment) in
        omega arith

-- white space up to what is neither white space nor `#`
pub blank_gap : (bytes : List ℕ) (n : ℕ) → n ≡ prefix_len is_blank bytes → begins (λ b. b == 35) (drop n bytes) ≡ false → IsGap (take n bytes) (drop n bytes)
blank_gap bytes n e hash = inl (run_is is_blank bytes n e, not_from_false _ (no_gap (drop n bytes) (run_stops is_blank bytes n e) hash))

-- white space, a `#` and what is left on the line
pub comment_gap : (bytes : List ℕ) (n m : ℕ) → n ≡ prefix_len is_blank bytes → begins (λ b. b == 35) (drop n bytes) ≡ true → m ≡ prefix_len is_inline (drop n bytes) → IsGap (take (n + m) bytes) (drop (n + m) bytes)
comment_gap bytes n m e hash line = inr (take n bytes, take m' (drop 1 (drop n bytes)), gap, run_is is_blank bytes n e, run_is is_inline (drop 1 (drop n bytes)) m' more, ends)
  where
    left : drop n bytes ≡ 35 ∷ drop 1 (drop n bytes)
    left = begins_is 35 (drop n bytes) hash

    run : m ≡ 1 + prefix_len is_inline (drop 1 (drop n bytes))
    run = line ∙ ap (prefix_len is_inline) left

    m' : ℕ
    m' = m - 1

    more : m - 1 ≡ prefix_len is_inline (drop 1 (drop n bytes))
    more = omega (arith, run)

    gap : take (n + m) bytes ≡ take n bytes ++ 35 ∷ take (m - 1) (drop 1 (drop n bytes))
    gap = let whole : bytes ≡ take n bytes ++ 35 ∷ drop 1 (drop n bytes) = sym (take-append-drop n bytes) ∙ ap (λ s. take n bytes ++ s) left in
        let width : length (take n bytes) ≡ n = length-take-le n bytes (omega (arith, prefix_len-le-length is_blank bytes)) in
        ap (take (n + m)) whole ∙ take_past (take n bytes) (35 ∷ drop 1 (drop n bytes)) (suc (m - 1)) (n + m) (omega (arith, run, width))

    ends : IsTrue (is_line_end (drop (n + m) bytes))
    ends = subst (λ s. IsTrue (is_line_end s)) (drop-drop m n bytes) (line_end (drop m (drop n bytes)) (run_stops is_inline (drop n bytes) m line))

-- where the gap after a place ends
pub gap_end : (bytes : List ℕ) (place start : ℕ) → place ≤ start → start ≤ length bytes → IsGap (slice_range bytes place start) (drop start bytes) → start ≡ place + gap_size (drop place bytes)
gap_end bytes place start order within gap =
    let after : ℕ = start - place in
    let left : drop (start - place) (drop place bytes) ≡ drop start bytes = drop-drop (start - place) place bytes ∙ (let same : place + (start - place) ≡ start = omega arith in ap (λ n. drop n bytes) same) in
    let whole : slice_range bytes place start ++ drop start bytes ≡ drop place bytes = ap (λ s. slice_range bytes place start ++ s) (sym left) ∙ take-append-drop (start - place) (drop place bytes) in
    let size : gap_size (drop place bytes) ≡ length (slice_range bytes place start) = ap gap_size (sym whole) ∙ gap_size_is _ _ gap in
    let width : length (slice_range bytes place start) ≡ start - place = length-take-le (start - place) (drop place bytes) (omega (arith, length-drop place bytes)) in
    omega arith
