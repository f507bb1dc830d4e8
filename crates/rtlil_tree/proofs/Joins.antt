-- How the reader goes through signals.
use Rattle.std.proofs.Common.{◌≡◌, ℕ, zero, suc, ◌+◌, ◌-◌, ◌<◌, ◌≤◌, List, [], ◌∷◌, ◌++◌, length, get_or, drop, map, refl, ap, ◌∙◌, sym, arith, Option, Some, None, option_map, subst, min, cond, nat_lt, true, false, Result, Err}
use Rattle.std.proofs.lemmas.Bool.{cond-true, cond-false, lt-ltb, le-ltb}
use Rattle.std.proofs.lemmas.List.{drop_more, drop-drop, drop-map, drop_all, length-drop, length-map}
use Rattle.std.specs.declared.vec.Vec.{Vec}
use Rattle.std.specs.declared.alloc.Global.{Global}
use Rattle.circuit_types.specs.declared.signal.Signal.{Signal}
use Rattle.circuit_types.specs.declared.signal.Signal.TheVariants as signal
use Rattle.rtlil_tree.specs.declared.misfit.Misfit.{Misfit}
use Rattle.rtlil_tree.specs.declared.misfit.Misfit.TheVariants as misfit
use Rattle.rtlil_tree.specs.declared.word.Word.{Word}
use Rattle.rtlil_tree.specs.declared.word.Word.TheVariants as word
use Rattle.rtlil_tree.specs.Lexemes.{Lexeme, key, id, constant, open_slice, close_slice, open_join, close_join, colon}
use Rattle.rtlil_tree.specs.Statements.{Piece, places, nesting_of}
use Rattle.rtlil_tree.specs.Said.{◌>>=◌, plain, Stops, Gives}
use Rattle.rtlil_tree.specs.Forms.{init_and_last, last_of, sliced, slice_at, Standing, with_inner, moved, signals_from, signals_of, atom_of, ends_join, closes, ReadsOn, ReadsAll, ReadsNone, NoneUnless, ReadsParts}

init-push : (s : Signal) (ss : List Signal) (x : Signal) → init_and_last s (ss ++ x ∷ []) ≡ (s ∷ ss, x)
init-push s [] x = refl
init-push s (t ∷ ts) x = ap (λ (p : List Signal × Signal). (s ∷ p.0, p.1)) (init-push t ts x)

pub last_of-push : (ss : List Signal) (x : Signal) → last_of (ss ++ x ∷ []) ≡ Some (ss, x)
last_of-push [] x = refl
last_of-push (s ∷ ss) x = ap (λ (p : List Signal × Signal). Some p) (init-push s ss x)

-- what slicing gives, by the last signal's nesting as the reader counts it
pub sliced_at : (all ss : List Signal) (x : Signal) (depth high low : ℕ) → all ≡ ss ++ x ∷ [] → depth + min (nesting_of x) 64 < 64 → sliced depth all high low ≡ Some (ss ++ signal.Slice x high low ∷ [])
sliced_at all ss x depth high low e shallow =
    ap (λ (f : Option (List Signal × Signal)). f >>= λ parts. cond (nat_lt (depth + nesting_of parts.1) 64) (Some (parts.0 ++ signal.Slice parts.1 high low ∷ [])) None) (ap last_of e ∙ last_of-push ss x)
    ∙ cond-true (nat_lt (depth + nesting_of x) 64) _ _ (lt-ltb (depth + nesting_of x) 64 (omega arith))

pub sliced_deep : (all ss : List Signal) (x : Signal) (depth high low : ℕ) → all ≡ ss ++ x ∷ [] → 64 ≤ depth + min (nesting_of x) 64 → sliced depth all high low ≡ None
sliced_deep all ss x depth high low e deep =
    ap (λ (f : Option (List Signal × Signal)). f >>= λ parts. cond (nat_lt (depth + nesting_of parts.1) 64) (Some (parts.0 ++ signal.Slice parts.1 high low ∷ [])) None) (ap last_of e ∙ last_of-push ss x)
    ∙ cond-false (nat_lt (depth + nesting_of x) 64) _ _ (le-ltb (depth + nesting_of x) 64 (omega arith))

pub sliced_into : (all ss after : List Signal) (x y : Signal) (depth high low : ℕ) → all ≡ ss ++ x ∷ [] → depth + min (nesting_of x) 64 < 64 → y ≡ x → after ≡ ss ++ signal.Slice y high low ∷ [] → sliced depth all high low ≡ Some after
sliced_into all ss after x y depth high low e shallow same is =
    sliced_at all ss x depth high low e shallow
    ∙ ap (λ (z : Signal). Some (ss ++ signal.Slice z high low ∷ [])) (sym same)
    ∙ ap (λ (l : List Signal). Some l) (sym is)

-- ---- one step

pub signals_skip : (s : Standing) (n : ℕ) (xs : List Lexeme) → signals_from s n xs ≡ signals_from s 0 (drop n xs)
unfolding signals_from
signals_skip s zero xs = refl
signals_skip s (suc n) [] = refl
signals_skip s (suc n) (x ∷ xs) = signals_skip s n xs

abbrev from_moved : Option Standing → ℕ → List Lexeme → Option (List Signal)
from_moved m n xs = m >>= λ t. signals_from t n xs

-- behind the signal of a word
pub atom_moves : (around : List (List Signal)) (ss : List Signal) (w : Word) (s : Signal) (xs : List Lexeme) → atom_of (plain w) ≡ Some s → signals_from (with_inner around ss) 0 (plain w ∷ xs) ≡ signals_from (with_inner around (ss ++ s ∷ [])) 0 xs
unfolding signals_from
atom_moves around ss (word.Key k) s xs e = absurd cc
atom_moves around ss (word.Id name) s xs e = ap (λ (m : Option Signal). from_moved (option_map (λ t. with_inner around (ss ++ t ∷ [])) m) 0 xs) e
atom_moves around ss (word.Int n) s xs e = ap (λ (m : Option Signal). from_moved (option_map (λ t. with_inner around (ss ++ t ∷ [])) m) 0 xs) e
atom_moves around ss (word.Bits width written) s xs e = ap (λ (m : Option Signal). from_moved (option_map (λ t. with_inner around (ss ++ t ∷ [])) m) 0 xs) e
atom_moves around ss (word.Str raw) s xs e = ap (λ (m : Option Signal). from_moved (option_map (λ t. with_inner around (ss ++ t ∷ [])) m) 0 xs) e
atom_moves around ss word.OpenSlice s xs e = absurd cc
atom_moves around ss word.CloseSlice s xs e = absurd cc
atom_moves around ss word.OpenJoin s xs e = absurd cc
atom_moves around ss word.CloseJoin s xs e = absurd cc
atom_moves around ss word.Colon s xs e = absurd cc

-- at a word that is no part of signals
pub atom_stops : (around : List (List Signal)) (ss : List Signal) (w : Word) (xs : List Lexeme) → (w ≡ word.OpenSlice → ⊥) → (w ≡ word.OpenJoin → ⊥) → (w ≡ word.CloseJoin → ⊥) → atom_of (plain w) ≡ None → signals_from (with_inner around ss) 0 (plain w ∷ xs) ≡ None
unfolding signals_from
atom_stops around ss (word.Key k) xs a b c e = refl
atom_stops around ss (word.Id name) xs a b c e = absurd cc
atom_stops around ss (word.Int n) xs a b c e = absurd cc
atom_stops around ss (word.Bits width written) xs a b c e = absurd cc
atom_stops around ss (word.Str raw) xs a b c e = absurd cc
atom_stops around ss word.OpenSlice xs a b c e = absurd (a refl)
atom_stops around ss word.CloseSlice xs a b c e = refl
atom_stops around ss word.OpenJoin xs a b c e = absurd (b refl)
atom_stops around ss word.CloseJoin xs a b c e = absurd (c refl)
atom_stops around ss word.Colon xs a b c e = refl

-- where a join opens
pub join_opens : (around : List (List Signal)) (ss : List Signal) (xs : List Lexeme) → length around < 64 → signals_from (with_inner around ss) 0 (open_join ∷ xs) ≡ signals_from (with_inner (ss ∷ around) []) 0 xs
unfolding signals_from
join_opens around ss xs h =
    ap (λ (m : Option Standing). from_moved m 0 xs) (cond-true (nat_lt (length around) 64) (Some (with_inner (ss ∷ around) [])) None (lt-ltb (length around) 64 h))

pub join_too_deep : (around : List (List Signal)) (ss : List Signal) (xs : List Lexeme) → 64 ≤ length around → signals_from (with_inner around ss) 0 (open_join ∷ xs) ≡ None
unfolding signals_from
join_too_deep around ss xs h =
    ap (λ (m : Option Standing). from_moved m 0 xs) (cond-false (nat_lt (length around) 64) (Some (with_inner (ss ∷ around) [])) None (le-ltb (length around) 64 h))

pub join_closes : (around : List (List Signal)) (outer inner : List Signal) (xs : List Lexeme) → signals_from (with_inner (outer ∷ around) inner) 0 (close_join ∷ xs) ≡ signals_from (with_inner around (outer ++ signal.Join inner ∷ [])) 0 xs
unfolding signals_from
join_closes around outer inner xs = refl

abbrev place_piece : ℕ × ℕ × ℕ → Option (Piece × ℕ)
place_piece t = Some (places t.0 t.1, t.2 + 1)

-- what the words give behind a slice whose places are read
abbrev behind_slice : List (List Signal) → List Signal → List Lexeme → Option (ℕ × ℕ × ℕ) → Option (List Signal)
behind_slice around ss xs m = (m >>= place_piece) >>= λ p. moved (with_inner around ss) p.0 >>= λ t. signals_from t (p.1 - 1) xs

pub slice_moves : (around : List (List Signal)) (ss after : List Signal) (high low size : ℕ) (xs : List Lexeme) → slice_at xs ≡ Some (high, low, size) → sliced (length around) ss high low ≡ Some after → signals_from (with_inner around ss) 0 (open_slice ∷ xs) ≡ signals_from (with_inner around after) 0 (drop size xs)
unfolding signals_from
slice_moves around ss after high low size xs e f =
    ap (behind_slice around ss xs) e
    ∙ ap (λ (m : Option (List Signal)). option_map (with_inner around) m >>= λ t. signals_from t (size + 1 - 1) xs) f
    ∙ signals_skip (with_inner around after) (size + 1 - 1) xs
    ∙ ap (λ n. signals_from (with_inner around after) 0 (drop n xs)) (omega arith)

pub slice_stops : (around : List (List Signal)) (ss : List Signal) (xs : List Lexeme) → slice_at xs ≡ None → signals_from (with_inner around ss) 0 (open_slice ∷ xs) ≡ None
unfolding signals_from
slice_stops around ss xs e =
    ap (behind_slice around ss xs) e

pub slice_refused : (around : List (List Signal)) (ss : List Signal) (high low size : ℕ) (xs : List Lexeme) → slice_at xs ≡ Some (high, low, size) → sliced (length around) ss high low ≡ None → signals_from (with_inner around ss) 0 (open_slice ∷ xs) ≡ None
unfolding signals_from
slice_refused around ss high low size xs e f =
    ap (behind_slice around ss xs) e
    ∙ ap (λ (m : Option (List Signal)). option_map (with_inner around) m >>= λ t. signals_from t (size + 1 - 1) xs) f

-- a join that is open at the end of the words
pub end_open : (around : List (List Signal)) (outer inner : List Signal) (xs : List Lexeme) → ends_join xs ≡ true → closes xs ≡ false → signals_from (with_inner (outer ∷ around) inner) 0 xs ≡ None
unfolding signals_from
end_open around outer inner [] e f = refl
end_open around outer inner (key k ∷ xs) e f = absurd cc
end_open around outer inner (id name ∷ xs) e f = absurd cc
end_open around outer inner (constant v ∷ xs) e f = absurd cc
end_open around outer inner (open_slice ∷ xs) e f = absurd cc
end_open around outer inner (close_slice ∷ xs) e f = absurd cc
end_open around outer inner (open_join ∷ xs) e f = absurd cc
end_open around outer inner (close_join ∷ xs) e f = absurd cc
end_open around outer inner (colon ∷ xs) e f = absurd cc

-- ---- the words from a place on

pub first_is : (words : List Word) (place : ℕ) (w d : Word) → place < length words → get_or words place d ≡ w → map plain (drop place words) ≡ plain w ∷ map plain (drop (place + 1) words)
first_is words place w d h e =
    ap (map plain) (drop_more words place d h) ∙ ap (λ (v : Word). plain v ∷ map plain (drop (place + 1) words)) e

pub reads_on : (words : List Word) (start depth : ℕ) (ss after : List Signal) (place next : ℕ) → ReadsOn words start depth ss place → place ≤ next → next ≤ length words
    → ((around : List (List Signal)) → length around ≡ depth → signals_from (with_inner around ss) 0 (map plain (drop place words)) ≡ signals_from (with_inner around after) 0 (map plain (drop next words)))
    → ReadsOn words start depth after next
reads_on words start depth ss after place next so order within step = record {
  order = omega (arith, so.order);
  within = within;
  same = λ around h. so.same around h ∙ step around h;
}

pub reads_none : (words : List Word) (start depth : ℕ) (ss : List Signal) (place : ℕ) → ReadsOn words start depth ss place
    → ((around : List (List Signal)) → length around ≡ depth → signals_from (with_inner around ss) 0 (map plain (drop place words)) ≡ None)
    → ReadsNone words start depth
reads_none words start depth ss place so stop = λ around h. so.same around h ∙ stop around h

pub parts_exit : (r : Result (Vec Signal Global × ℕ) Misfit) (left e : Misfit) (words : List Word) (start depth : ℕ) → r ≡ Err left → left ≡ e → NoneUnless e words start depth → ReadsParts r words start depth
parts_exit r left e words start depth is same h =
    subst (λ (x : Result (Vec Signal Global × ℕ) Misfit). ReadsParts x words start depth) (sym is) (subst (λ (m : Misfit). NoneUnless m words start depth) (sym same) h)

pub none_unless : (e : Misfit) (words : List Word) (start depth : ℕ) → (e ≡ misfit.NoForm → ReadsNone words start depth) → NoneUnless e words start depth
none_unless misfit.NoForm words start depth h = h refl
none_unless misfit.NoMemory words start depth h = tt

-- ---- what `parts` does at a word

pub at_slice : (words rest : List Word) (start depth place high low size : ℕ) (d : Word) (ss after : List Signal) → ReadsOn words start depth ss place → place < length words → get_or words place d ≡ word.OpenSlice
    → rest ≡ drop (place + 1) words → Some (high, low, size) ≡ slice_at (map plain rest) → size ≤ length rest → sliced depth ss high low ≡ Some after → ReadsOn words start depth after (place + (1 + size))
at_slice words rest start depth place high low size d ss after so h e is found fits slices =
    let len : length rest + (place + 1) ≡ length words = omega (arith, ap length is, length-drop (place + 1) words) in
    let next : place + 1 + size ≡ place + (1 + size) = omega arith in
    reads_on words start depth ss after place (place + (1 + size)) so (omega arith) (omega arith) (λ around deep.
    ap (signals_from (with_inner around ss) 0) (first_is words place word.OpenSlice d h e)
    ∙ slice_moves around ss after high low size (map plain (drop (place + 1) words)) (ap (λ (r : List Word). slice_at (map plain r)) (sym is) ∙ sym found) (ap (λ n. sliced n ss high low) deep ∙ slices)
    ∙ ap (signals_from (with_inner around after) 0) (drop-map plain size (drop (place + 1) words) ∙ ap (map plain) (drop-drop size (place + 1) words ∙ ap (λ n. drop n words) next)))

pub at_no_slice : (words rest : List Word) (start depth place : ℕ) (d : Word) (ss : List Signal) → ReadsOn words start depth ss place → place < length words → get_or words place d ≡ word.OpenSlice
    → rest ≡ drop (place + 1) words → None ≡ slice_at (map plain rest) → ReadsNone words start depth
at_no_slice words rest start depth place d ss so h e is none =
    reads_none words start depth ss place so (λ around deep.
    ap (signals_from (with_inner around ss) 0) (first_is words place word.OpenSlice d h e)
    ∙ slice_stops around ss (map plain (drop (place + 1) words)) (ap (λ (r : List Word). slice_at (map plain r)) (sym is) ∙ sym none))

pub at_bad_slice : (words rest : List Word) (start depth place high low size : ℕ) (d : Word) (ss : List Signal) → ReadsOn words start depth ss place → place < length words → get_or words place d ≡ word.OpenSlice
    → rest ≡ drop (place + 1) words → Some (high, low, size) ≡ slice_at (map plain rest) → sliced depth ss high low ≡ None → ReadsNone words start depth
at_bad_slice words rest start depth place high low size d ss so h e is found slices =
    reads_none words start depth ss place so (λ around deep.
    ap (signals_from (with_inner around ss) 0) (first_is words place word.OpenSlice d h e)
    ∙ slice_refused around ss high low size (map plain (drop (place + 1) words)) (ap (λ (r : List Word). slice_at (map plain r)) (sym is) ∙ sym found) (ap (λ n. sliced n ss high low) deep ∙ slices))

pub at_deep_join : (words : List Word) (start depth place : ℕ) (d : Word) (ss : List Signal) → ReadsOn words start depth ss place → place < length words → get_or words place d ≡ word.OpenJoin
    → 64 ≤ depth → ReadsNone words start depth
at_deep_join words start depth place d ss so h e over =
    reads_none words start depth ss place so (λ around deep.
    ap (signals_from (with_inner around ss) 0) (first_is words place word.OpenJoin d h e)
    ∙ join_too_deep around ss (map plain (drop (place + 1) words)) (omega arith))

-- what stands in the opened join
into_join : (words : List Word) (depth place : ℕ) (d : Word) (ss : List Signal) (around : List (List Signal)) → place < length words → get_or words place d ≡ word.OpenJoin → depth < 64 → length around ≡ depth
    → signals_from (with_inner around ss) 0 (map plain (drop place words)) ≡ signals_from (with_inner (ss ∷ around) []) 0 (map plain (drop (place + 1) words))
into_join words depth place d ss around h e shallow deep =
    ap (signals_from (with_inner around ss) 0) (first_is words place word.OpenJoin d h e)
    ∙ join_opens around ss (map plain (drop (place + 1) words)) (omega arith)

pub at_bad_join : (words : List Word) (start depth place : ℕ) (d : Word) (ss : List Signal) → ReadsOn words start depth ss place → place < length words → get_or words place d ≡ word.OpenJoin
    → depth < 64 → ReadsNone words (place + 1) (depth + 1) → ReadsNone words start depth
at_bad_join words start depth place d ss so h e shallow none =
    reads_none words start depth ss place so (λ around deep. into_join words depth place d ss around h e shallow deep ∙ none (ss ∷ around) (omega arith))

pub at_open_join : (words rest : List Word) (start depth place after : ℕ) (d : Word) (ss inner : List Signal) → ReadsOn words start depth ss place → place < length words → get_or words place d ≡ word.OpenJoin
    → depth < 64 → ReadsAll words (place + 1) (depth + 1) inner after → rest ≡ drop after words → closes (map plain rest) ≡ false → ReadsNone words start depth
at_open_join words rest start depth place after d ss inner so h e shallow all is open_end =
    reads_none words start depth ss place so (λ around deep.
    into_join words depth place d ss around h e shallow deep
    ∙ all.reads.same (ss ∷ around) (omega arith)
    ∙ end_open around ss inner (map plain (drop after words)) all.stops (ap (λ (r : List Word). closes (map plain r)) (sym is) ∙ open_end))

first_closes : (xs : List Lexeme) → closes xs ≡ true → xs ≡ close_join ∷ drop 1 xs
first_closes [] e = absurd cc
first_closes (key k ∷ xs) e = absurd cc
first_closes (id name ∷ xs) e = absurd cc
first_closes (constant v ∷ xs) e = absurd cc
first_closes (open_slice ∷ xs) e = absurd cc
first_closes (close_slice ∷ xs) e = absurd cc
first_closes (open_join ∷ xs) e = absurd cc
first_closes (close_join ∷ xs) e = refl
first_closes (colon ∷ xs) e = absurd cc

some_first : (xs : List Lexeme) → closes xs ≡ true → 0 < length xs
some_first [] e = absurd cc
some_first (x ∷ xs) e = omega arith

pub at_join : (words rest : List Word) (start depth place after : ℕ) (d : Word) (ss inner all_after : List Signal) → ReadsOn words start depth ss place → place < length words → get_or words place d ≡ word.OpenJoin
    → depth < 64 → ReadsAll words (place + 1) (depth + 1) inner after → rest ≡ drop after words → closes (map plain rest) ≡ true → all_after ≡ ss ++ signal.Join inner ∷ [] → ReadsOn words start depth all_after (after + 1)
at_join words rest start depth place after d ss inner all_after so h e shallow all is closed_here joined =
    let here = ap (λ (r : List Word). closes (map plain r)) (sym is) ∙ closed_here in
    let some = some_first (map plain (drop after words)) here in
    let len : length (map plain (drop after words)) ≡ length words - after = length-map (drop after words) plain ∙ length-drop after words in
    reads_on words start depth ss all_after place (after + 1) so (omega (arith, all.reads.order)) (omega arith) (λ around deep.
    into_join words depth place d ss around h e shallow deep
    ∙ all.reads.same (ss ∷ around) (omega arith)
    ∙ ap (signals_from (with_inner (ss ∷ around) inner) 0) (first_closes (map plain (drop after words)) here)
    ∙ join_closes around ss inner (drop 1 (map plain (drop after words)))
    ∙ ap (signals_from (with_inner around (ss ++ signal.Join inner ∷ [])) 0) (drop-map plain 1 (drop after words) ∙ ap (map plain) (drop-drop 1 after words))
    ∙ ap (λ (l : List Signal). signals_from (with_inner around l) 0 (map plain (drop (after + 1) words))) (sym joined))

pub at_atom : (words : List Word) (start depth place : ℕ) (d w : Word) (s : Signal) (ss after : List Signal) → ReadsOn words start depth ss place → place < length words → get_or words place d ≡ w
    → atom_of (plain w) ≡ Some s → after ≡ ss ++ s ∷ [] → ReadsOn words start depth after (place + 1)
at_atom words start depth place d w s ss after so h e is more =
    reads_on words start depth ss after place (place + 1) so (omega arith) (omega arith) (λ around deep.
    ap (signals_from (with_inner around ss) 0) (first_is words place w d h e)
    ∙ atom_moves around ss w s (map plain (drop (place + 1) words)) is
    ∙ ap (λ (l : List Signal). signals_from (with_inner around l) 0 (map plain (drop (place + 1) words))) (sym more))

pub at_no_atom : (words : List Word) (start depth place : ℕ) (d w : Word) (ss : List Signal) → ReadsOn words start depth ss place → place < length words → get_or words place d ≡ w
    → (w ≡ word.OpenSlice → ⊥) → (w ≡ word.OpenJoin → ⊥) → (w ≡ word.CloseJoin → ⊥) → atom_of (plain w) ≡ None → ReadsNone words start depth
at_no_atom words start depth place d w ss so h e a b c none =
    reads_none words start depth ss place so (λ around deep.
    ap (signals_from (with_inner around ss) 0) (first_is words place w d h e)
    ∙ atom_stops around ss w (map plain (drop (place + 1) words)) a b c none)

pub stops_none : {Y : Type 0} (e : Misfit) (read : Option Y) → e ≡ misfit.NoForm → Stops e read → read ≡ None
stops_none misfit.NoForm read is h = h
stops_none misfit.NoMemory read is h = absurd cc

pub unless_none : (e : Misfit) (words : List Word) (start depth : ℕ) → e ≡ misfit.NoForm → NoneUnless e words start depth → ReadsNone words start depth
unless_none misfit.NoForm words start depth is h = h
unless_none misfit.NoMemory words start depth is h = absurd cc

-- ---- all words

pub signals_done : (words : List Word) (ss : List Signal) (after : ℕ) → ReadsAll words 0 0 ss after → after ≡ length words → signals_of (map plain words) ≡ Some ss
unfolding signals_from
signals_done words ss after all end =
    all.reads.same [] refl ∙ ap (λ (ws : List Word). signals_from (with_inner [] ss) 0 (map plain ws)) (drop_all after words (omega arith))

close_alone : (ss : List Signal) (xs : List Lexeme) → ends_join xs ≡ true → 0 < length xs → signals_from (with_inner [] ss) 0 xs ≡ None
unfolding signals_from
close_alone ss [] e h = absurd (omega arith)
close_alone ss (key k ∷ xs) e h = absurd cc
close_alone ss (id name ∷ xs) e h = absurd cc
close_alone ss (constant v ∷ xs) e h = absurd cc
close_alone ss (open_slice ∷ xs) e h = absurd cc
close_alone ss (close_slice ∷ xs) e h = absurd cc
close_alone ss (open_join ∷ xs) e h = absurd cc
close_alone ss (close_join ∷ xs) e h = refl
close_alone ss (colon ∷ xs) e h = absurd cc

pub signals_left : (words : List Word) (ss : List Signal) (after : ℕ) → ReadsAll words 0 0 ss after → (after ≡ length words → ⊥) → signals_of (map plain words) ≡ None
signals_left words ss after all left =
    let len : length (map plain (drop after words)) ≡ length words - after = length-map (drop after words) plain ∙ length-drop after words in
    all.reads.same [] refl ∙ close_alone ss (map plain (drop after words)) all.stops (omega (arith, all.reads.within))

none_gives : (e : Misfit) (words : List Word) → NoneUnless e words 0 0 → Stops e (signals_of (map plain words))
none_gives misfit.NoForm words h = h [] refl
none_gives misfit.NoMemory words h = tt

pub signals_exit : (r : Result (Vec Signal Global) Misfit) (left e : Misfit) (words : List Word) → r ≡ Err left → left ≡ e → NoneUnless e words 0 0 → Gives (λ (v : Vec Signal Global). v.items) r (signals_of (map plain words))
signals_exit r left e words is same h =
    subst (λ (x : Result (Vec Signal Global) Misfit). Gives (λ (v : Vec Signal Global). v.items) x (signals_of (map plain words))) (sym is)
    (subst (λ (m : Misfit). Stops m (signals_of (map plain words))) (sym same) (none_gives e words h))
