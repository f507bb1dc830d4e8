-- Clocks and what reads them.
use Rattle.std.proofs.Common.{◌≡◌, ℕ, ◌+◌, ◌<◌, Bool, true, false, List, [], ◌∷◌, ◌++◌, length, map, get_or, drop, refl, sym, ap, ◌∙◌, append_assoc}
use Rattle.std.specs.Prelude.{filter}
use Rattle.std.specs.List.{flat_map}
use Rattle.std.specs.BTreeSet.{BTreeSet, contains}
use Rattle.std.specs.Ordering.{nat_cmp}
use Rattle.std.proofs.lemmas.List.{drop_more}
use mathlib.Core.Path.{fun_ext}
use Rattle.circuit_types.specs.Order.{has}
use Rattle.circuit_types.specs.declared.nets.NetCell.{NetCell}
use Rattle.circuit_types.specs.declared.nets.NetWire.{NetWire}
use Rattle.circuit_types.specs.declared.nets.Nets.{Nets}
use Rattle.circuit_types.specs.declared.nets.Pin.{Pin}
use Rattle.circuit_types.specs.declared.nets.Source.{Source}
use Rattle.circuit_types.specs.declared.nets.Source.TheVariants as source
use Rattle.share_notes.specs.declared.mark.MarkedWire.{MarkedWire}
use Rattle.share_notes.specs.Clocks.{is_clock_source, clock_bits, further_clocks, misread_pins, misread_wires, misuses, clock_lines}
use Rattle.share_notes.specs.Known.{is_held}

abbrev pin_lines : ((ℕ × Pin) → Bool) → List (ℕ × Pin) → List ℕ
pin_lines test ps = map (λ (pin : ℕ × Pin). pin.1.line) (filter test ps)

pub pin_found : (test : (ℕ × Pin) → Bool) (x : ℕ × Pin) (ps : List (ℕ × Pin)) (lines all : List ℕ) → test x ≡ true → lines ++ map (λ (pin : ℕ × Pin). pin.1.line) (filter test (x ∷ ps)) ≡ all
    → (lines ++ x.1.line ∷ []) ++ map (λ (pin : ℕ × Pin). pin.1.line) (filter test ps) ≡ all
pin_found test x ps lines all t e =
    let here : pin_lines test (x ∷ ps) ≡ x.1.line ∷ pin_lines test ps = rw t refl in
    append_assoc lines (x.1.line ∷ []) (pin_lines test ps) ∙ (ap (λ (ls : List ℕ). lines ++ ls) (sym here) ∙ e)

pub pin_passed : (test : (ℕ × Pin) → Bool) (x : ℕ × Pin) (ps : List (ℕ × Pin)) (lines all : List ℕ) → test x ≡ false → lines ++ map (λ (pin : ℕ × Pin). pin.1.line) (filter test (x ∷ ps)) ≡ all
    → lines ++ map (λ (pin : ℕ × Pin). pin.1.line) (filter test ps) ≡ all
pin_passed test x ps lines all f e =
    let here : pin_lines test (x ∷ ps) ≡ pin_lines test ps = rw f refl in
    ap (λ (ls : List ℕ). lines ++ ls) (sym here) ∙ e

pub cells_step : (f : NetCell → List ℕ) (xs : List NetCell) (i : ℕ) (x : NetCell) (lines all new : List ℕ) → i < length xs → x ≡ get_or xs i x → lines ++ flat_map f (drop i xs) ≡ all → new ≡ lines ++ f x
    → new ++ flat_map f (drop (i + 1) xs) ≡ all
cells_step f xs i x lines all new lt is e step =
    let front : drop i xs ≡ x ∷ drop (i + 1) xs = drop_more xs i x lt ∙ ap (λ (y : NetCell). y ∷ drop (i + 1) xs) (sym is) in
    ap (λ (ls : List ℕ). ls ++ flat_map f (drop (i + 1) xs)) step ∙ (append_assoc lines (f x) (flat_map f (drop (i + 1) xs)) ∙ (ap (λ (ys : List NetCell). lines ++ flat_map f ys) (sym front) ∙ e))

abbrev wire_lines : (NetWire → Bool) → List NetWire → List ℕ
wire_lines test ws = map (λ (w : NetWire). w.line) (filter test ws)

pub wire_found : (test : NetWire → Bool) (xs : List NetWire) (i : ℕ) (x : NetWire) (lines all : List ℕ) → i < length xs → x ≡ get_or xs i x → test x ≡ true
    → lines ++ map (λ (w : NetWire). w.line) (filter test (drop i xs)) ≡ all → (lines ++ x.line ∷ []) ++ map (λ (w : NetWire). w.line) (filter test (drop (i + 1) xs)) ≡ all
wire_found test xs i x lines all lt is t e =
    let front : drop i xs ≡ x ∷ drop (i + 1) xs = drop_more xs i x lt ∙ ap (λ (y : NetWire). y ∷ drop (i + 1) xs) (sym is) in
    let here : wire_lines test (x ∷ drop (i + 1) xs) ≡ x.line ∷ wire_lines test (drop (i + 1) xs) = rw t refl in
    append_assoc lines (x.line ∷ []) (wire_lines test (drop (i + 1) xs)) ∙ (ap (λ (ls : List ℕ). lines ++ ls) (sym here ∙ ap (wire_lines test) (sym front)) ∙ e)

pub wire_passed : (test : NetWire → Bool) (xs : List NetWire) (i : ℕ) (x : NetWire) (lines all : List ℕ) → i < length xs → x ≡ get_or xs i x → test x ≡ false
    → lines ++ map (λ (w : NetWire). w.line) (filter test (drop i xs)) ≡ all → lines ++ map (λ (w : NetWire). w.line) (filter test (drop (i + 1) xs)) ≡ all
wire_passed test xs i x lines all lt is f e =
    let front : drop i xs ≡ x ∷ drop (i + 1) xs = drop_more xs i x lt ∙ ap (λ (y : NetWire). y ∷ drop (i + 1) xs) (sym is) in
    let here : wire_lines test (x ∷ drop (i + 1) xs) ≡ wire_lines test (drop (i + 1) xs) = rw f refl in
    ap (λ (ls : List ℕ). lines ++ ls) (sym here ∙ ap (wire_lines test) (sym front)) ∙ e

held_is : (bits : BTreeSet ℕ) (clocks : List ℕ) → ((bit : ℕ) → contains nat_cmp bits bit ≡ has clocks bit) → (s : Source) → is_held bits s ≡ is_clock_source clocks s
held_is bits clocks known (source.Input bit) = known bit
held_is bits clocks known (source.Cell k) = refl
held_is bits clocks known source.Zero = refl
held_is bits clocks known source.One = refl
held_is bits clocks known source.Unknown = refl
held_is bits clocks known source.Missing = refl

pub lines_are : (bits : BTreeSet ℕ) (ws : List MarkedWire) (nets : Nets) (one two three : List ℕ) → ((bit : ℕ) → contains nat_cmp bits bit ≡ has (clock_bits ws) bit)
    → one ≡ further_clocks ws → two ≡ one ++ flat_map (misread_pins (is_held bits)) nets.cells → three ≡ two ++ misread_wires (is_held bits) nets.sources nets.wires
    → three ≡ clock_lines ws nets
unfolding clock_lines
lines_are bits ws nets one two three known a b c =
    c ∙ (ap (λ (ls : List ℕ). ls ++ misread_wires (is_held bits) nets.sources nets.wires) b
    ∙ (append_assoc one (flat_map (misread_pins (is_held bits)) nets.cells) (misread_wires (is_held bits) nets.sources nets.wires)
    ∙ (ap (λ (ls : List ℕ). ls ++ misuses (is_held bits) nets) a
    ∙ ap (λ (test : Source → Bool). further_clocks ws ++ misuses test nets) (fun_ext (held_is bits (clock_bits ws) known)))))
