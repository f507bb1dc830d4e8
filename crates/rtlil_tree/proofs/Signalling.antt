-- Signals as pieces: the reader goes from piece to piece, and what stands then was written with them.
use Rattle.std.proofs.Common.{◌≡◌, ℕ, zero, suc, ◌+◌, ◌-◌, ◌<◌, ◌≤◌, inl, inr, max, min, List, [], ◌∷◌, ◌++◌, length, take, drop, map, refl, ap, ◌∙◌, sym, arith, Option, Some, None, option_map, subst, cond, nat_lt, append_assoc, append-nil, take-append-drop, ltb-true, ℤ}
use Rattle.std.proofs.lemmas.Bool.{cond-true, lt-ltb}
use Rattle.std.proofs.lemmas.List.{drop_all}
use Rattle.std.specs.List.{AllByRecursion}
use Rattle.circuit_types.specs.declared.signal.Value.{Value}
use Rattle.circuit_types.specs.declared.signal.Value.TheVariants as value
use Rattle.circuit_types.specs.declared.signal.Signal.{Signal, roll-Signal, map-Signal}
use Rattle.circuit_types.specs.declared.signal.Signal.TheVariants as signal
use Rattle.circuit_types.specs.declared.signal.Signal.TheOpen.{Signal-F}
use Rattle.circuit_types.specs.declared.signal.Signal.TheFolds.{ind-Signal, fold-roll-Signal}
use Rattle.rtlil_tree.specs.Lexemes.{Lexeme, key, id, constant, open_slice, close_slice, open_join, close_join, colon}
use Rattle.rtlil_tree.specs.Statements.{Piece, lexeme, places, IsPiece, ArePieces, AreSignals, all_of, pieces_step, pieces_of, most_of, nesting_step, nesting_of, number}
use Rattle.rtlil_tree.specs.Said.{◌>>=◌}
use Rattle.rtlil_tree.specs.Forms.{place_of, slice_at, init_and_last, last_of, sliced, Standing, with_inner, moved, piece_at, finished, signals_from, signals_of}
use Rattle.rtlil_tree.proofs.Numbers.{place_is}
use Rattle.rtlil_tree.proofs.Binding.{bound, mapped, passed, once}
use Rattle.rtlil_tree.proofs.Joins.{sliced_at, slice_moves}

-- ---- the pieces and the nesting of each kind of signal

value_pieces : (v : Value) → pieces_of (signal.Value v) ≡ lexeme (constant v) ∷ []
value_pieces v = ap pieces_of (sym (signal.rolls-Value v)) ∙ fold-roll-Signal (List Piece) pieces_step (Signal-F.Value v)

wire_pieces : (name : List ℕ) → pieces_of (signal.Wire name) ≡ lexeme (id name) ∷ []
wire_pieces name = ap pieces_of (sym (signal.rolls-Wire name)) ∙ fold-roll-Signal (List Piece) pieces_step (Signal-F.Wire name)

slice_pieces : (of : Signal) (high low : ℕ) → pieces_of (signal.Slice of high low) ≡ pieces_of of ++ places high low ∷ []
slice_pieces of high low = ap pieces_of (sym (signal.rolls-Slice of high low)) ∙ fold-roll-Signal (List Piece) pieces_step (Signal-F.Slice of high low)

join_pieces : (parts : List Signal) → pieces_of (signal.Join parts) ≡ lexeme open_join ∷ (all_of (map pieces_of parts) ++ lexeme close_join ∷ [])
join_pieces parts = ap pieces_of (sym (signal.rolls-Join parts)) ∙ fold-roll-Signal (List Piece) pieces_step (Signal-F.Join parts)

value_nesting : (v : Value) → nesting_of (signal.Value v) ≡ 0
value_nesting v = ap nesting_of (sym (signal.rolls-Value v)) ∙ fold-roll-Signal ℕ nesting_step (Signal-F.Value v)

pub wire_nesting : (name : List ℕ) → nesting_of (signal.Wire name) ≡ 0
wire_nesting name = ap nesting_of (sym (signal.rolls-Wire name)) ∙ fold-roll-Signal ℕ nesting_step (Signal-F.Wire name)

slice_nesting : (of : Signal) (high low : ℕ) → nesting_of (signal.Slice of high low) ≡ 1 + nesting_of of
slice_nesting of high low = ap nesting_of (sym (signal.rolls-Slice of high low)) ∙ fold-roll-Signal ℕ nesting_step (Signal-F.Slice of high low)

join_nesting : (parts : List Signal) → nesting_of (signal.Join parts) ≡ 1 + most_of (map nesting_of parts)
join_nesting parts = ap nesting_of (sym (signal.rolls-Join parts)) ∙ fold-roll-Signal ℕ nesting_step (Signal-F.Join parts)

-- ---- from piece to piece

abbrev run : Standing → List Piece → Option Standing
run s [] = Some s
run s (p ∷ ps) = moved s p >>= λ t. run t ps

-- behind its pieces a signal stands
abbrev Goes : Signal → Type 0
Goes x = (around : List (List Signal)) (inner : List Signal) (ps : List Piece) → length around + nesting_of x ≤ 64
    → run (with_inner around inner) (pieces_of x ++ ps) ≡ run (with_inner around (inner ++ x ∷ [])) ps

abbrev AllGo : List Signal → Type 0
AllGo xs = (around : List (List Signal)) (inner : List Signal) (ps : List Piece) → length around + most_of (map nesting_of xs) ≤ 64
    → run (with_inner around inner) (all_of (map pieces_of xs) ++ ps) ≡ run (with_inner around (inner ++ xs)) ps

max_left : (n a b : ℕ) → n + max a b ≤ 64 → n + a ≤ 64
max_left n a b h = omega arith

max_right : (n a b : ℕ) → n + max a b ≤ 64 → n + b ≤ 64
max_right n a b h = omega arith

all_go : (xs : List Signal) → AllByRecursion Goes xs → AllGo xs
all_go [] each around inner ps h = ap (λ (l : List Signal). run (with_inner around l) ps) (sym (append-nil inner))
all_go (x ∷ xs) each around inner ps h =
    ap (run (with_inner around inner)) (append_assoc (pieces_of x) (all_of (map pieces_of xs)) ps)
    ∙ each.0 around inner (all_of (map pieces_of xs) ++ ps) (max_left (length around) (nesting_of x) (most_of (map nesting_of xs)) h)
    ∙ all_go xs each.1 around (inner ++ x ∷ []) ps (max_right (length around) (nesting_of x) (most_of (map nesting_of xs)) h)
    ∙ ap (λ (l : List Signal). run (with_inner around l) ps) (append_assoc inner (x ∷ []) xs)

value_goes : (v : Value) → Goes (signal.Value v)
value_goes v around inner ps h = ap (λ (l : List Piece). run (with_inner around inner) (l ++ ps)) (value_pieces v)

wire_goes : (name : List ℕ) → Goes (signal.Wire name)
wire_goes name around inner ps h = ap (λ (l : List Piece). run (with_inner around inner) (l ++ ps)) (wire_pieces name)

slice_fits : (n k m : ℕ) → m ≡ 1 + k → n + m ≤ 64 → (n + k ≤ 64) × (n + min k 64 < 64)
slice_fits n k m e h = (omega arith, omega arith)

slice_goes : (of : Signal) (high low : ℕ) → Goes of → Goes (signal.Slice of high low)
slice_goes of high low goes around inner ps h =
    let fits = slice_fits (length around) (nesting_of of) (nesting_of (signal.Slice of high low)) (slice_nesting of high low) h in
    ap (λ (l : List Piece). run (with_inner around inner) (l ++ ps)) (slice_pieces of high low)
    ∙ ap (run (with_inner around inner)) (append_assoc (pieces_of of) (places high low ∷ []) ps)
    ∙ goes around inner (places high low ∷ ps) fits.0
    ∙ ap (λ (o : Option (List Signal)). option_map (with_inner around) o >>= λ u. run u ps) (sliced_at (inner ++ of ∷ []) inner of (length around) high low refl fits.1)

join_fits : (n k m : ℕ) → m ≡ 1 + k → n + m ≤ 64 → (n < 64) × (suc n + k ≤ 64)
join_fits n k m e h = (omega arith, omega arith)

join_goes : (parts : List Signal) → AllGo parts → Goes (signal.Join parts)
join_goes parts go around inner ps h =
    let fits = join_fits (length around) (most_of (map nesting_of parts)) (nesting_of (signal.Join parts)) (join_nesting parts) h in
    let rest : List Piece = (all_of (map pieces_of parts) ++ lexeme close_join ∷ []) ++ ps in
    ap (λ (l : List Piece). run (with_inner around inner) (l ++ ps)) (join_pieces parts)
    ∙ ap (λ (o : Option Standing). o >>= λ u. run u rest) (cond-true (nat_lt (length around) 64) (Some (with_inner (inner ∷ around) [])) None (lt-ltb (length around) 64 fits.0))
    ∙ ap (run (with_inner (inner ∷ around) [])) (append_assoc (all_of (map pieces_of parts)) (lexeme close_join ∷ []) ps)
    ∙ go (inner ∷ around) [] (lexeme close_join ∷ ps) fits.1

each_goes : {E : Type 0} (p : E → Signal) → ((e : E) → Goes (p e)) → (es : List E) → AllByRecursion Goes (map p es)
each_goes p each [] = tt
each_goes p each (e ∷ es) = (each e, each_goes p each es)

rolled_goes : {E : Type 0} (p : E → Signal) → ((e : E) → Goes (p e)) → (y : Signal-F E) → Goes (roll-Signal (map-Signal E Signal p y))
rolled_goes p each (Signal-F.Value v) = subst Goes (sym (signal.rolls-Value v)) (value_goes v)
rolled_goes p each (Signal-F.Wire name) = subst Goes (sym (signal.rolls-Wire name)) (wire_goes name)
rolled_goes p each (Signal-F.Slice of high low) = subst Goes (sym (signal.rolls-Slice (p of) high low)) (slice_goes (p of) high low (each of))
rolled_goes p each (Signal-F.Join es) = subst Goes (sym (signal.rolls-Join (map p es))) (join_goes (map p es) (all_go (map p es) (each_goes p each es)))

goes : (x : Signal) → Goes x
goes x = ind-Signal Goes (λ x y e. subst (λ z. Goes (roll-Signal z)) e (rolled_goes (λ v. v.0) (λ v. v.1) y)) x

every_goes : (xs : List Signal) → AllByRecursion Goes xs
every_goes [] = tt
every_goes (x ∷ xs) = (goes x, every_goes xs)

-- ---- from the words of a piece to the next

piece_moves : (p : Piece) (first rest : List Lexeme) (s t : Standing) → IsPiece p first → moved s p ≡ Some t → signals_from s 0 (first ++ rest) ≡ signals_from t 0 rest
unfolding signals_from
piece_moves (lexeme (key k)) first rest s t is e = absurd cc
piece_moves (lexeme (id name)) first rest s t is e = ap (λ (l : List Lexeme). signals_from s 0 (l ++ rest)) is ∙ ap (λ (o : Option Standing). o >>= λ u. signals_from u 0 rest) e
piece_moves (lexeme (constant v)) first rest s t is e = ap (λ (l : List Lexeme). signals_from s 0 (l ++ rest)) is ∙ ap (λ (o : Option Standing). o >>= λ u. signals_from u 0 rest) e
piece_moves (lexeme open_slice) first rest s t is e = absurd cc
piece_moves (lexeme close_slice) first rest s t is e = absurd cc
piece_moves (lexeme open_join) first rest s t is e = ap (λ (l : List Lexeme). signals_from s 0 (l ++ rest)) is ∙ ap (λ (o : Option Standing). o >>= λ u. signals_from u 0 rest) e
piece_moves (lexeme close_join) first rest s t is e = ap (λ (l : List Lexeme). signals_from s 0 (l ++ rest)) is ∙ ap (λ (o : Option Standing). o >>= λ u. signals_from u 0 rest) e
piece_moves (lexeme colon) first rest s t is e = absurd cc
piece_moves (places high low) first rest s t (inl is) e =
    let m = mapped (with_inner s.around) (sliced (length s.around) s.inner high low) t e in
    ap (λ (l : List Lexeme). signals_from s 0 (l ++ rest)) is
    ∙ slice_moves s.around s.inner m.0 high low 4 (number high ∷ colon ∷ number low ∷ close_slice ∷ rest) refl m.1
    ∙ ap (λ (u : Standing). signals_from u 0 rest) m.2
piece_moves (places high low) first rest s t (inr is) e =
    let m = mapped (with_inner s.around) (sliced (length s.around) s.inner high low) t e in
    ap (λ (l : List Lexeme). signals_from s 0 (l ++ rest)) is.1
    ∙ slice_moves s.around s.inner m.0 high low 2 (number low ∷ close_slice ∷ rest) (ap (λ n. Some (n, low, 2)) (sym is.0)) m.1
    ∙ ap (λ (u : Standing). signals_from u 0 rest) m.2

words_run : (ps : List Piece) (xs : List Lexeme) (s t : Standing) → ArePieces ps xs → run s ps ≡ Some t → signals_from s 0 xs ≡ finished t.around t.inner
unfolding signals_from
words_run [] xs s t is e = ap (signals_from s 0) is ∙ ap (λ (u : Standing). finished u.around u.inner) (once s t e)
words_run (p ∷ ps) xs s t is e =
    let b = bound (moved s p) (λ u. run u ps) t e in
    ap (signals_from s 0) is.2
    ∙ piece_moves p is.0 is.1 s b.0 is.3 b.1
    ∙ words_run ps is.1 b.0 t is.4 b.2

most_within : (ss : List Signal) → AllByRecursion (λ s. nesting_of s ≤ 64) ss → most_of (map nesting_of ss) ≤ 64
most_within [] h = omega arith
most_within (s ∷ ss) h = let rest = most_within ss h.1 in let first = h.0 in omega arith

pub signals_if_are : (ss : List Signal) (xs : List Lexeme) → AreSignals ss xs → signals_of xs ≡ Some ss
signals_if_are ss xs is =
    let most = most_within ss is.1 in
    words_run (all_of (map pieces_of ss)) xs (with_inner [] []) (with_inner [] ss) is.0
    (ap (run (with_inner [] [])) (sym (append-nil (all_of (map pieces_of ss)))) ∙ all_go ss (every_goes ss) [] [] [] (omega arith))

-- ---- the pieces that were read

before : List (List Signal) → List Signal → List Piece
before [] inner = all_of (map pieces_of inner)
before (outer ∷ around) inner = before around outer ++ lexeme open_join ∷ all_of (map pieces_of inner)

AreWithin : ℕ → List Signal → Type 0
AreWithin depth inner = AllByRecursion (λ s. depth + nesting_of s ≤ 64) inner

Shallow : List (List Signal) → List Signal → Type 0
Shallow [] inner = AreWithin 0 inner
Shallow (outer ∷ around) inner = (suc (length around) ≤ 64) × AreWithin (suc (length around)) inner × Shallow around outer

all-push : (ss : List Signal) (x : Signal) → all_of (map pieces_of (ss ++ x ∷ [])) ≡ all_of (map pieces_of ss) ++ pieces_of x
all-push [] x = append-nil (pieces_of x)
all-push (s ∷ ss) x = ap (λ l. pieces_of s ++ l) (all-push ss x) ∙ sym (append_assoc (pieces_of s) (all_of (map pieces_of ss)) (pieces_of x))

before-push : (around : List (List Signal)) (inner : List Signal) (x : Signal) → before around (inner ++ x ∷ []) ≡ before around inner ++ pieces_of x
unfolding before
before-push [] inner x = all-push inner x
before-push (outer ∷ around) inner x =
    ap (λ l. before around outer ++ lexeme open_join ∷ l) (all-push inner x)
    ∙ sym (append_assoc (before around outer) (lexeme open_join ∷ all_of (map pieces_of inner)) (pieces_of x))

within-push : (depth : ℕ) (inner : List Signal) (x : Signal) → AreWithin depth inner → depth + nesting_of x ≤ 64 → AreWithin depth (inner ++ x ∷ [])
unfolding AreWithin
within-push depth [] x h k = (k, tt)
within-push depth (s ∷ inner) x h k = (h.0, within-push depth inner x h.1 k)

within-pop : (depth : ℕ) (inner : List Signal) (x : Signal) → AreWithin depth (inner ++ x ∷ []) → AreWithin depth inner
unfolding AreWithin
within-pop depth [] x h = tt
within-pop depth (s ∷ inner) x h = (h.0, within-pop depth inner x h.1)

shallow-push : (around : List (List Signal)) (inner : List Signal) (x : Signal) → Shallow around inner → length around + nesting_of x ≤ 64 → Shallow around (inner ++ x ∷ [])
unfolding Shallow
shallow-push [] inner x h k = within-push 0 inner x h k
shallow-push (outer ∷ around) inner x h k = (h.0, within-push (suc (length around)) inner x h.1 k, h.2)

shallow-pop : (around : List (List Signal)) (inner : List Signal) (x : Signal) → Shallow around (inner ++ x ∷ []) → Shallow around inner
unfolding Shallow
shallow-pop [] inner x h = within-pop 0 inner x h
shallow-pop (outer ∷ around) inner x h = (h.0, within-pop (suc (length around)) inner x h.1, h.2)

shallow_depth : (around : List (List Signal)) (inner : List Signal) → Shallow around inner → length around ≤ 64
unfolding Shallow
shallow_depth [] inner h = omega arith
shallow_depth (outer ∷ around) inner h = h.0

most_at : (depth : ℕ) (inner : List Signal) → depth ≤ 64 → AreWithin depth inner → depth + most_of (map nesting_of inner) ≤ 64
unfolding AreWithin
most_at depth [] d h = omega arith
most_at depth (s ∷ inner) d h = let rest = most_at depth inner d h.1 in let first = h.0 in omega arith

-- what one more piece does to what stands
abbrev Adds : Standing → Piece → Standing → Type 0
Adds s p t = (before t.around t.inner ≡ before s.around s.inner ++ p ∷ []) × (Shallow s.around s.inner → Shallow t.around t.inner)

adds_atom : (around : List (List Signal)) (inner : List Signal) (x : Signal) (p : Piece) → pieces_of x ≡ p ∷ [] → nesting_of x ≡ 0 → Adds (with_inner around inner) p (with_inner around (inner ++ x ∷ []))
adds_atom around inner x p e n = (
  before-push around inner x ∙ ap (λ l. before around inner ++ l) e,
  λ h. let d = shallow_depth around inner h in shallow-push around inner x h (omega arith),
)

adds_open : (around : List (List Signal)) (inner : List Signal) → length around < 64 → Adds (with_inner around inner) (lexeme open_join) (with_inner (inner ∷ around) [])
unfolding before Shallow AreWithin
adds_open around inner h = (refl, λ k. (h, tt, k))

join_deep : (n k m : ℕ) → m ≡ 1 + k → suc n + k ≤ 64 → n + m ≤ 64
join_deep n k m e h = omega arith

adds_close : (outer : List Signal) (around : List (List Signal)) (inner : List Signal) → Adds (with_inner (outer ∷ around) inner) (lexeme close_join) (with_inner around (outer ++ signal.Join inner ∷ []))
unfolding before Shallow
adds_close outer around inner = (
  before-push around outer (signal.Join inner)
      ∙ ap (λ l. before around outer ++ l) (join_pieces inner)
      ∙ sym (append_assoc (before around outer) (lexeme open_join ∷ all_of (map pieces_of inner)) (lexeme close_join ∷ [])),
  λ h. shallow-push around outer (signal.Join inner) h.2
      (join_deep (length around) (most_of (map nesting_of inner)) (nesting_of (signal.Join inner)) (join_nesting inner) (most_at (suc (length around)) inner h.0 h.1)),
)

init_last : (s : Signal) (ss : List Signal) → s ∷ ss ≡ (init_and_last s ss).0 ++ (init_and_last s ss).1 ∷ []
init_last s [] = refl
init_last s (t ∷ ts) = ap (λ l. s ∷ l) (init_last t ts)

last_is : (ss : List Signal) (parts : List Signal × Signal) → last_of ss ≡ Some parts → ss ≡ parts.0 ++ parts.1 ∷ []
last_is [] parts e = absurd cc
last_is (s ∷ ss) parts e = init_last s ss ∙ ap (λ (p : List Signal × Signal). p.0 ++ p.1 ∷ []) (once (init_and_last s ss) parts e)

slice_deep : (n k m : ℕ) → m ≡ 1 + k → n + k < 64 → n + m ≤ 64
slice_deep n k m e h = omega arith

adds_slice_of : (around : List (List Signal)) (front : List Signal) (x : Signal) (high low : ℕ) → length around + nesting_of x < 64 → Adds (with_inner around (front ++ x ∷ [])) (places high low) (with_inner around (front ++ signal.Slice x high low ∷ []))
adds_slice_of around front x high low h = (
  before-push around front (signal.Slice x high low)
      ∙ ap (λ l. before around front ++ l) (slice_pieces x high low)
      ∙ sym (append_assoc (before around front) (pieces_of x) (places high low ∷ []))
      ∙ ap (λ l. l ++ places high low ∷ []) (sym (before-push around front x)),
  λ k. shallow-push around front (signal.Slice x high low) (shallow-pop around front x k)
      (slice_deep (length around) (nesting_of x) (nesting_of (signal.Slice x high low)) (slice_nesting x high low) h),
)

adds_slice : (around : List (List Signal)) (inner after : List Signal) (high low : ℕ) → sliced (length around) inner high low ≡ Some after → Adds (with_inner around inner) (places high low) (with_inner around after)
adds_slice around inner after high low e =
    let b = bound (last_of inner) (λ parts. cond (nat_lt (length around + nesting_of parts.1) 64) (Some (parts.0 ++ signal.Slice parts.1 high low ∷ [])) None) after e in
    let c = passed (nat_lt (length around + nesting_of b.0.1) 64) (b.0.0 ++ signal.Slice b.0.1 high low ∷ []) after b.2 in
    subst (λ (l : List Signal). Adds (with_inner around l) (places high low) (with_inner around after)) (sym (last_is inner b.0 b.1))
    (subst (λ (l : List Signal). Adds (with_inner around (b.0.0 ++ b.0.1 ∷ [])) (places high low) (with_inner around l)) c.1
    (adds_slice_of around b.0.0 b.0.1 high low (ltb-true (length around + nesting_of b.0.1) 64 c.0)))

adds_lexeme : (around : List (List Signal)) (inner : List Signal) (x : Lexeme) (t : Standing) → moved (with_inner around inner) (lexeme x) ≡ Some t → Adds (with_inner around inner) (lexeme x) t
adds_lexeme around inner (key k) t e = absurd cc
adds_lexeme around inner (id name) t e = subst (Adds (with_inner around inner) (lexeme (id name))) (once _ t e) (adds_atom around inner (signal.Wire name) (lexeme (id name)) (wire_pieces name) (wire_nesting name))
adds_lexeme around inner (constant v) t e = subst (Adds (with_inner around inner) (lexeme (constant v))) (once _ t e) (adds_atom around inner (signal.Value v) (lexeme (constant v)) (value_pieces v) (value_nesting v))
adds_lexeme around inner open_slice t e = absurd cc
adds_lexeme around inner close_slice t e = absurd cc
adds_lexeme around inner open_join t e =
    let c = passed (nat_lt (length around) 64) (with_inner (inner ∷ around) []) t e in
    subst (Adds (with_inner around inner) (lexeme open_join)) c.1 (adds_open around inner (ltb-true (length around) 64 c.0))
adds_lexeme [] inner close_join t e = absurd cc
adds_lexeme (outer ∷ around) inner close_join t e = subst (Adds (with_inner (outer ∷ around) inner) (lexeme close_join)) (once _ t e) (adds_close outer around inner)
adds_lexeme around inner colon t e = absurd cc

adds : (s t : Standing) (p : Piece) → moved s p ≡ Some t → Adds s p t
adds s t (lexeme x) e = adds_lexeme s.around s.inner x t e
adds s t (places high low) e =
    let m = mapped (with_inner s.around) (sliced (length s.around) s.inner high low) t e in
    subst (Adds s (places high low)) m.2 (adds_slice s.around s.inner m.0 high low m.1)

-- ---- the words of a piece

two_places : (h l : ℤ) (xs : List Lexeme) (s : ℕ × ℕ × ℕ) → (place_of h >>= λ high. place_of l >>= λ low. Some (high, low, 4)) ≡ Some s
    → IsPiece (places s.0 s.1) (open_slice ∷ take s.2 (constant (value.Number h) ∷ colon ∷ constant (value.Number l) ∷ close_slice ∷ xs))
two_places h l xs s e =
    let b = bound (place_of h) (λ high. place_of l >>= λ low. Some (high, low, 4)) s e in
    let c = bound (place_of l) (λ low. Some (b.0, low, 4)) s b.2 in
    subst (λ (r : ℕ × ℕ × ℕ). IsPiece (places r.0 r.1) (open_slice ∷ take r.2 (constant (value.Number h) ∷ colon ∷ constant (value.Number l) ∷ close_slice ∷ xs))) (once (b.0, c.0, 4) s c.2)
    (inl (ap (λ z. open_slice ∷ constant (value.Number z) ∷ colon ∷ constant (value.Number l) ∷ close_slice ∷ []) (place_is h b.0 b.1)
    ∙ ap (λ z. open_slice ∷ number b.0 ∷ colon ∷ constant (value.Number z) ∷ close_slice ∷ []) (place_is l c.0 c.1)))

one_place : (z : ℤ) (xs : List Lexeme) (s : ℕ × ℕ × ℕ) → (place_of z >>= λ place. Some (place, place, 2)) ≡ Some s
    → IsPiece (places s.0 s.1) (open_slice ∷ take s.2 (constant (value.Number z) ∷ close_slice ∷ xs))
one_place z xs s e =
    let b = bound (place_of z) (λ place. Some (place, place, 2)) s e in
    subst (λ (r : ℕ × ℕ × ℕ). IsPiece (places r.0 r.1) (open_slice ∷ take r.2 (constant (value.Number z) ∷ close_slice ∷ xs))) (once (b.0, b.0, 2) s b.2)
    (inr (refl, ap (λ z. open_slice ∷ constant (value.Number z) ∷ close_slice ∷ []) (place_is z b.0 b.1)))

slice_words : (xs : List Lexeme) (s : ℕ × ℕ × ℕ) → slice_at xs ≡ Some s → IsPiece (places s.0 s.1) (open_slice ∷ take s.2 xs)
slice_words (constant (value.Number h) ∷ colon ∷ constant (value.Number l) ∷ close_slice ∷ xs) s e = two_places h l xs s e
slice_words (constant (value.Number z) ∷ close_slice ∷ xs) s e = one_place z xs s e
slice_words xs s e = absurd cc

slice_piece : (xs : List Lexeme) (q : Piece × ℕ) → (slice_at xs >>= λ s. Some (places s.0 s.1, s.2 + 1)) ≡ Some q → IsPiece q.0 (open_slice ∷ take (q.1 - 1) xs)
slice_piece xs q e =
    let b = bound (slice_at xs) (λ s. Some (places s.0 s.1, s.2 + 1)) q e in
    subst (λ (r : Piece × ℕ). IsPiece r.0 (open_slice ∷ take (r.1 - 1) xs)) (once (places b.0.0 b.0.1, b.0.2 + 1) q b.2)
    (subst (λ n. IsPiece (places b.0.0 b.0.1) (open_slice ∷ take n xs)) (omega arith) (slice_words xs b.0 b.1))

one_word : (x : Lexeme) (xs : List Lexeme) (q : Piece × ℕ) → Some (lexeme x, 1) ≡ Some q → IsPiece q.0 (x ∷ take (q.1 - 1) xs)
one_word x xs q e = subst (λ (r : Piece × ℕ). IsPiece r.0 (x ∷ take (r.1 - 1) xs)) (once (lexeme x, 1) q e) refl

piece_words : (x : Lexeme) (xs : List Lexeme) (q : Piece × ℕ) → piece_at x xs ≡ Some q → IsPiece q.0 (x ∷ take (q.1 - 1) xs)
piece_words open_slice xs q e = slice_piece xs q e
piece_words x xs q e = one_word x xs q e

-- ---- all words

-- The pieces that the words give behind those that stand.
record Reads (xs : List Lexeme) (s : Standing) (ss : List Signal) : Type 0 where
  pieces : List Piece
  are : ArePieces pieces xs
  all : all_of (map pieces_of ss) ≡ before s.around s.inner ++ pieces
  shallow : Shallow [] ss

reads_end : (around : List (List Signal)) (inner ss : List Signal) → Shallow around inner → finished around inner ≡ Some ss → Reads [] (with_inner around inner) ss
unfolding before
reads_end [] inner ss h e =
    record { pieces = []; are = refl; all = ap (λ (l : List Signal). all_of (map pieces_of l)) (sym (once inner ss e)) ∙ sym (append-nil (all_of (map pieces_of inner))); shallow = subst (Shallow []) (once inner ss e) h }
reads_end (outer ∷ around) inner ss h e = absurd cc

reads_more : (x : Lexeme) (xs : List Lexeme) (s t : Standing) (ss : List Signal) (q : Piece × ℕ) → piece_at x xs ≡ Some q → moved s q.0 ≡ Some t → Reads (drop (q.1 - 1) xs) t ss → Reads (x ∷ xs) s ss
reads_more x xs s t ss q at move rest =
    record {
      pieces = q.0 ∷ rest.pieces;
      are = (x ∷ take (q.1 - 1) xs, drop (q.1 - 1) xs, ap (λ l. x ∷ l) (sym (take-append-drop (q.1 - 1) xs)), piece_words x xs q at, rest.are);
      all = rest.all ∙ ap (λ l. l ++ rest.pieces) (adds s t q.0 move).0 ∙ append_assoc (before s.around s.inner) (q.0 ∷ []) rest.pieces;
      shallow = rest.shallow;
    }

reads : (xs : List Lexeme) (n : ℕ) (s : Standing) (ss : List Signal) → Shallow s.around s.inner → signals_from s n xs ≡ Some ss → Reads (drop n xs) s ss
unfolding signals_from
reads [] n s ss h e = subst (λ l. Reads l s ss) (sym (drop_all n [] (omega arith))) (reads_end s.around s.inner ss h e)
reads (x ∷ xs) (suc n) s ss h e = reads xs n s ss h e
reads (x ∷ xs) zero s ss h e =
    let b = bound (piece_at x xs) (λ p. moved s p.0 >>= λ t. signals_from t (p.1 - 1) xs) ss e in
    let c = bound (moved s b.0.0) (λ t. signals_from t (b.0.1 - 1) xs) ss b.2 in
    reads_more x xs s c.0 ss b.0 b.1 c.1 (reads xs (b.0.1 - 1) c.0 ss ((adds s c.0 b.0.0 c.1).1 h) c.2)

shallow_all : (ss : List Signal) → AreWithin 0 ss → AllByRecursion (λ s. nesting_of s ≤ 64) ss
unfolding AreWithin
shallow_all [] h = tt
shallow_all (s ∷ ss) h = (subst (λ n. n ≤ 64) (omega arith) h.0, shallow_all ss h.1)

pub are_if_signals : (ss : List Signal) (xs : List Lexeme) → signals_of xs ≡ Some ss → AreSignals ss xs
unfolding before Shallow AreWithin
are_if_signals ss xs e =
    let r = reads xs 0 (with_inner [] []) ss tt e in
    (subst (λ l. ArePieces l xs) (sym r.all) r.are, shallow_all ss r.shallow)
