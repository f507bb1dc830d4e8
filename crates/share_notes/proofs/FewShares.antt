-- The notes of wires have share indices up to 15.
use Rattle.std.proofs.Common.{◌≡◌, ℕ, ◌+◌, ◌≤◌, Bool, true, false, cond, List, [], ◌∷◌, ◌++◌, Option, Some, None, refl, sym, ap, ◌∙◌, subst, arith}
use Rattle.std.proofs.lemmas.Bool.{leb-true}
use Rattle.std.specs.Prelude.{All, sum_by}
use Rattle.std.specs.List.Sorted.{IsPermutation}
use Rattle.std.proofs.lemmas.List.Sorted.{All-permutation, sum_by-IsPermutation}
use Rattle.std.proofs.lemmas.List.Sums.{sum_by-cons}
use Rattle.circuit_types.specs.DataSources.{IsWired}
use Rattle.circuit_types.specs.Items.{wires, numbered}
use Rattle.circuit_types.specs.Nets.{AreNets}
use Rattle.circuit_types.specs.declared.nets.NetWire.{NetWire}
use Rattle.circuit_types.specs.declared.nets.Nets.{Nets}
use Rattle.circuit_types.specs.declared.tree.Item.{Item}
use Rattle.std.proofs.lemmas.List.Elements.{All-push, All-same}
use Rattle.circuit_types.specs.Nets.{most_bits}
use Rattle.circuit_types.specs.declared.signal.Value.{Value}
use Rattle.circuit_types.specs.declared.signal.Value.TheVariants as value
use Rattle.circuit_types.specs.declared.tree.Port.{Port}
use Rattle.circuit_types.specs.declared.tree.Port.TheVariants as port
use Rattle.circuit_types.specs.declared.tree.Wire.{Wire}
use Rattle.share_notes.specs.declared.note.Note.{Note}
use Rattle.share_notes.specs.declared.note.Note.TheVariants as note
use Rattle.share_notes.specs.declared.mark.Mark.{Mark}
use Rattle.share_notes.specs.declared.mark.Mark.TheVariants.{Wrong, Noted}
use Rattle.share_notes.specs.declared.mark.MarkedWire.{MarkedWire}
use Rattle.share_notes.specs.Known.{IsPlaced}
use Rattle.share_notes.specs.Marks.{masks, may_have, mark_by, mark_in, mark_of, marked_from, marked_wires}
use Rattle.share_notes.specs.Reading.{note_named}
use Rattle.share_notes.specs.Shares.{top_share}
use Rattle.share_notes.specs.Text.{IsNote}
use Rattle.share_notes.proofs.Names.{note_is}

few_noted : (p : Port) (width : ℕ) (n : Note) → IsNote n → may_have p width n ≡ true → top_share width (Noted n) ≤ 16
few_noted p width (note.Share name index) ok h = omega (arith, ok.1)
few_noted port.Inner width (note.Shares name) ok h = absurd cc
few_noted (port.Input k) width (note.Shares name) ok h = leb-true width 16 h
few_noted (port.Output k) width (note.Shares name) ok h = leb-true width 16 h
few_noted p width note.Random ok h = omega arith
few_noted p width note.Public ok h = omega arith
few_noted p width note.Clock ok h = omega arith
few_noted p width (note.Held v) ok h = omega arith

few_cond : (p : Port) (width : ℕ) (n : Note) → IsNote n → (b : Bool) → may_have p width n ≡ b → top_share width (cond b (Noted n) Wrong) ≤ 16
few_cond p width n ok true h = few_noted p width n ok h
few_cond p width n ok false h = omega arith

few_by : (p : Port) (width : ℕ) (text : List ℕ) (o : Option Note) → note_named text ≡ o → top_share width (mark_by p width o) ≤ 16
few_by p width text None e = omega arith
few_by p width text (Some n) e = few_cond p width n (note_is text n e).1 (may_have p width n) refl

few_in : (p : Port) (width : ℕ) (vs : List Value) → top_share width (mark_in p width vs) ≤ 16
few_in p width [] = omega arith
few_in p width (value.Text text ∷ []) = few_by p width text (note_named text) refl
few_in p width (value.Text text ∷ v ∷ vs) = omega arith
few_in p width (value.Bits b ∷ vs) = omega arith
few_in p width (value.Number n ∷ vs) = omega arith

few_of : (w : Wire) → top_share w.width (mark_of w) ≤ 16
unfolding mark_of
few_of w = few_in w.port w.width (masks w.attributes)

-- a wire that is put behind others
pub placed_push : (ws : List MarkedWire) (m : MarkedWire) (w : Wire) → m.width ≡ w.width → m.mark ≡ mark_of w → m.first + m.width ≤ most_bits → All IsPlaced ws → All IsPlaced (ws ++ m ∷ [])
placed_push ws m w width mark within all =
    All-push IsPlaced ws m all (within, subst (λ (k : ℕ). top_share k m.mark ≤ 16) (sym width) (subst (λ (n : Mark). top_share w.width n ≤ 16) (sym mark) (few_of w)))

-- the wires have the bits of the module's
pub marked_sum : (k : ℕ) (vs : List Wire) → sum_by (λ (m : MarkedWire). m.width) (marked_from k vs) ≡ sum_by (λ (w : Wire). w.width) vs
marked_sum k [] = refl
marked_sum k (v ∷ vs) =
    sum_by-cons (λ (m : MarkedWire). m.width) (record { line = v.line; first = k; width = v.width; port = v.port; mark = mark_of v }) (marked_from (k + v.width) vs)
    ∙ (ap (λ (n : ℕ). v.width + n) (marked_sum (k + v.width) vs) ∙ sym (sum_by-cons (λ (w : Wire). w.width) v vs))

pub numbered_sum : (k : ℕ) (vs : List Wire) → sum_by (λ (m : NetWire). m.width) (numbered k vs) ≡ sum_by (λ (w : Wire). w.width) vs
numbered_sum k [] = refl
numbered_sum k (v ∷ vs) =
    sum_by-cons (λ (m : NetWire). m.width) (record { line = v.line; name = v.name; first = k; width = v.width; port = v.port }) (numbered (k + v.width) vs)
    ∙ (ap (λ (n : ℕ). v.width + n) (numbered_sum (k + v.width) vs) ∙ sym (sum_by-cons (λ (w : Wire). w.width) v vs))

-- nets have at most as many bits as there may be
pub few_wires : (items : List Item) (nets : Nets) → AreNets items nets → IsWired nets → sum_by (λ (w : Wire). w.width) (wires items) ≤ most_bits
few_wires items nets are wired =
    let same = numbered_sum 0 (wires items) in
    omega (arith, are.each_bit, wired.few_bits, same)

-- the same bits in another order
pub few_ordered : (items : List Item) (ws ordered vs : List MarkedWire) → ws ≡ marked_wires items → IsPermutation ws ordered → vs ≡ ordered
    → sum_by (λ (w : Wire). w.width) (wires items) ≤ most_bits → sum_by (λ (m : MarkedWire). m.width) vs ≤ most_bits
few_ordered items ws ordered vs w p e few =
    let a : sum_by (λ (m : MarkedWire). m.width) vs ≡ sum_by (λ (m : MarkedWire). m.width) ordered = ap (λ (us : List MarkedWire). sum_by (λ (m : MarkedWire). m.width) us) e in
    let b = sum_by-IsPermutation (λ (m : MarkedWire). m.width) ws ordered p in
    let c : sum_by (λ (m : MarkedWire). m.width) ws ≡ sum_by (λ (m : MarkedWire). m.width) (marked_wires items) = ap (λ (us : List MarkedWire). sum_by (λ (m : MarkedWire). m.width) us) w in
    let d = marked_sum 0 (wires items) in
    omega (arith, a, b, c, d, few)

pub placed_ordered : (ws ordered vs : List MarkedWire) → IsPermutation ws ordered → vs ≡ ordered → All IsPlaced ws → All IsPlaced vs
placed_ordered ws ordered vs p e all = All-same IsPlaced vs ordered e (All-permutation IsPlaced ws ordered p all)
