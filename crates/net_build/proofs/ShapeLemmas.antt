-- The parts of a join, one after another, make its shape.
use Rattle.std.proofs.Common.{◌≡◌, ℕ, ◌+◌, ◌<◌, ◌≤◌, Bool, true, false, ◌&&◌, nat_le, min, List, [], ◌∷◌, length, drop, map, get_or, refl, sym, ap, ◌∙◌, arith, drop-cons, add-one, zero-add, suc, Option, Some, None, option_map, is_some}
use Rattle.std.specs.List.{list_all, sum_by}
use Rattle.std.proofs.lemmas.List.Sums.{sum_by-cons}
use Rattle.std.proofs.lemmas.List.{drop_all}
use Rattle.circuit_types.specs.Signals as signals
use Rattle.circuit_types.specs.declared.signal.Signal.TheOpen.{Signal-F}
use Rattle.circuit_types.specs.Signals.{most_width}
use Rattle.circuit_types.specs.declared.signal.Signal.{Signal}
use Rattle.circuit_types.specs.declared.nets.NetWire.{NetWire}
use Rattle.net_build.specs.Shapes.{cap, capped, with_part, with_parts, whole}
use Rattle.net_build.specs.declared.shape.Shape.{Shape}
use Rattle.net_build.specs.declared.wires.Span.{Span}
use Rattle.net_build.specs.Spans.{span_of, span_named}
use Rattle.circuit_types.specs.Items.{wire_named}

some_once : {T : Type 0} (x y : T) → Some x ≡ Some y → x ≡ y
some_once x y h = cc

and_assoc : (a b c : Bool) → (a && b) && c ≡ a && (b && c)
and_assoc true b c = refl
and_assoc false b c = refl

and_true : (a : Bool) → a && true ≡ a
and_true true = refl
and_true false = refl

-- what all parts make at once
at_once : Shape → List signals.Shape → Shape
at_once w ps = record {
  width = min (w.width + sum_by (λ p. p.width) ps) cap;
  narrow = w.narrow && list_all (λ p. p.narrow) ps;
  named = w.named && list_all (λ p. p.named) ps;
  sliced = w.sliced && list_all (λ p. p.sliced) ps;
}

four : (a a' : ℕ) (b b' c c' d d' : Bool) → a ≡ a' → b ≡ b' → c ≡ c' → d ≡ d'
    → ◌≡◌ {A = Shape} (record { width = a; narrow = b; named = c; sliced = d }) (record { width = a'; narrow = b'; named = c'; sliced = d' })
four a a' b b' c c' d d' p q r s = cc

parts_at_once : (w : Shape) (ps : List signals.Shape) → w.width ≤ cap → with_parts w ps ≡ at_once w ps
unfolding with_parts at_once
parts_at_once w [] h = four w.width (min (w.width + 0) cap) w.narrow (w.narrow && true) w.named (w.named && true) w.sliced (w.sliced && true)
    (omega arith) (sym (and_true w.narrow)) (sym (and_true w.named)) (sym (and_true w.sliced))
parts_at_once w (p ∷ ps) h =
    let total : sum_by (λ (q : signals.Shape). q.width) (p ∷ ps) ≡ p.width + sum_by (λ (q : signals.Shape). q.width) ps = sum_by-cons (λ (q : signals.Shape). q.width) p ps in
    parts_at_once (with_part w p) ps (omega arith)
    ∙ four (min (min (w.width + p.width) cap + sum_by (λ q. q.width) ps) cap) (min (w.width + sum_by (λ q. q.width) (p ∷ ps)) cap)
    ((w.narrow && p.narrow) && list_all (λ q. q.narrow) ps) (w.narrow && (p.narrow && list_all (λ q. q.narrow) ps))
    ((w.named && p.named) && list_all (λ q. q.named) ps) (w.named && (p.named && list_all (λ q. q.named) ps))
    ((w.sliced && p.sliced) && list_all (λ q. q.sliced) ps) (w.sliced && (p.sliced && list_all (λ q. q.sliced) ps))
    (omega arith)
    (and_assoc w.narrow p.narrow (list_all (λ q. q.narrow) ps))
    (and_assoc w.named p.named (list_all (λ q. q.named) ps))
    (and_assoc w.sliced p.sliced (list_all (λ q. q.sliced) ps))

min_narrow : (n : ℕ) → nat_le (min n cap) most_width ≡ nat_le n most_width
min_narrow n = grind arith

abbrev pub start : Shape
start = record { width = 0; narrow = true; named = true; sliced = true }

pub join_shape : (ws : List NetWire) (ps : List signals.Shape) → whole (with_parts start ps) ≡ capped (signals.shape_step ws (Signal-F.Join ps))
unfolding at_once
join_shape ws ps =
    ap whole (parts_at_once start ps (omega arith))
    ∙ four (min (0 + sum_by (λ q. q.width) ps) cap) (min (sum_by (λ q. q.width) ps) cap)
    (list_all (λ q. q.narrow) ps && nat_le (min (0 + sum_by (λ q. q.width) ps) cap) most_width) (list_all (λ q. q.narrow) ps && nat_le (sum_by (λ q. q.width) ps) most_width)
    (list_all (λ q. q.named) ps) (list_all (λ q. q.named) ps) (list_all (λ q. q.sliced) ps) (list_all (λ q. q.sliced) ps)
    (omega arith) (ap (λ b. list_all (λ q. q.narrow) ps && b) (ap (λ n. nat_le (min n cap) most_width) (zero-add (sum_by (λ q. q.width) ps)) ∙ min_narrow (sum_by (λ q. q.width) ps))) refl refl

-- one part more
pub next_part : (f : Signal → signals.Shape) (w w' : Shape) (xs : List Signal) (i : ℕ) (x : Signal) → i < length xs → x ≡ get_or xs i x
    → w' ≡ with_part w (f x) → with_parts w (map f (drop i xs)) ≡ with_parts w' (map f (drop (i + 1) xs))
unfolding with_parts
next_part f w w' xs i x h e p =
    ap (λ ys. with_parts w (map f ys)) (drop-cons xs i x h)
    ∙ ap (λ y. with_parts (with_part w (f y)) (map f (drop (suc i) xs))) (sym e)
    ∙ ap (λ v. with_parts v (map f (drop (suc i) xs))) (sym p)
    ∙ ap (λ n. with_parts w' (map f (drop n xs))) (sym (add-one i))

pub capped_part : (w : Shape) (p : signals.Shape) (q r : Shape) → q ≡ capped p
    → r ≡ record { width = min (w.width + q.width) cap; narrow = w.narrow && q.narrow; named = w.named && q.named; sliced = w.sliced && q.sliced }
    → r ≡ with_part w p
capped_part w p q r e h =
    h ∙ ap (λ (x : Shape). let y : Shape = record { width = min (w.width + x.width) cap; narrow = w.narrow && x.narrow; named = w.named && x.named; sliced = w.sliced && x.sliced } in y) e
    ∙ four (min (w.width + min p.width cap) cap) (min (w.width + p.width) cap) (w.narrow && p.narrow) (w.narrow && p.narrow) (w.named && p.named) (w.named && p.named) (w.sliced && p.sliced) (w.sliced && p.sliced) (omega arith) refl refl refl

-- the shape of a name, by its wire
abbrev of_wire : Option NetWire → Shape
of_wire o = record { width = min (signals.wire_width o) cap; narrow = nat_le (signals.wire_width o) most_width; named = is_some o; sliced = true }

missing_wire : (o : Option NetWire) → None ≡ option_map span_of o → ◌≡◌ {A = Shape} (record { width = 0; narrow = true; named = false; sliced = true }) (of_wire o)
missing_wire None h = refl
missing_wire (Some w) h = cc

found_wire : (o : Option NetWire) (span : Span) (r : Shape) → Some span ≡ option_map span_of o
    → r ≡ record { width = min span.width cap; narrow = nat_le span.width most_width; named = true; sliced = true } → r ≡ of_wire o
found_wire None span r h e = cc
found_wire (Some w) span r h e =
    let s : span ≡ span_of w = some_once span (span_of w) h in
    e ∙ ap (λ (x : Span). let y : Shape = record { width = min x.width cap; narrow = nat_le x.width most_width; named = true; sliced = true } in y) s

pub missing_shape : (ws : List NetWire) (name name' : List ℕ) → name' ≡ name → None ≡ span_named ws name'
    → ◌≡◌ {A = Shape} (record { width = 0; narrow = true; named = false; sliced = true }) (capped (signals.shape_step ws (Signal-F.Wire name)))
unfolding span_named
missing_shape ws name name' e h = missing_wire (wire_named ws name) (h ∙ ap (λ n. option_map span_of (wire_named ws n)) e)

pub found_shape : (ws : List NetWire) (name name' : List ℕ) (span : Span) (r : Shape) → name' ≡ name → Some span ≡ span_named ws name'
    → r ≡ record { width = min span.width cap; narrow = nat_le span.width most_width; named = true; sliced = true }
    → r ≡ capped (signals.shape_step ws (Signal-F.Wire name))
unfolding span_named
found_shape ws name name' span r e h q = found_wire (wire_named ws name) span r (h ∙ ap (λ n. option_map span_of (wire_named ws n)) e) q

-- no part is left
pub last_part : (f : Signal → signals.Shape) (w : Shape) (xs : List Signal) (i : ℕ) → length xs ≤ i → with_parts w (map f (drop i xs)) ≡ w
unfolding with_parts
last_part f w xs i h = ap (λ ys. with_parts w (map f ys)) (drop_all i xs h)
