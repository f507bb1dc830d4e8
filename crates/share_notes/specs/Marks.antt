-- What the wires of a module carry as notes.
use Rattle.std.specs.Prelude.{ℕ, ◌+◌, ◌==◌, Bool, true, false, nat_le, if◌then◌else◌, List, [], ◌∷◌, map, filter, Option, Some, None, codes}
use Rattle.std.specs.Str.{bytes_eq}
use Rattle.circuit_types.specs.Items.{wires}
use Rattle.circuit_types.specs.declared.signal.Value.{Value}
use Rattle.circuit_types.specs.declared.signal.Value.TheVariants as value
use Rattle.circuit_types.specs.declared.tree.Attribute.{Attribute}
use Rattle.circuit_types.specs.declared.tree.Item.{Item}
use Rattle.circuit_types.specs.declared.tree.Port.{Port}
use Rattle.circuit_types.specs.declared.tree.Port.TheVariants as port
use Rattle.circuit_types.specs.declared.tree.Wire.{Wire}
use Rattle.share_notes.specs.declared.note.Note.{Note}
use Rattle.share_notes.specs.declared.note.Note.TheVariants as note
use Rattle.share_notes.specs.declared.mark.Mark.{Mark}
use Rattle.share_notes.specs.declared.mark.Mark.TheVariants.{Absent, Wrong, Noted}
use Rattle.share_notes.specs.declared.mark.MarkedWire.{MarkedWire}
use Rattle.share_notes.specs.Reading.{note_named}

abbrev pub is_mask : Attribute → Bool
is_mask a = bytes_eq a.name (codes "\\mask")

-- the values of the attributes `\mask`
abbrev pub masks : List Attribute → List Value
masks attributes = map (λ (a : Attribute). a.value) (filter is_mask attributes)

-- the most bits that a wire with the note `shares` may have
abbrev pub most_shares : ℕ
most_shares = 16

-- every note may stand on an input; `clock` where it has one bit
abbrev pub input_may_have : ℕ → Note → Bool
input_may_have width (note.Shares name) = nat_le width most_shares
input_may_have width note.Clock = width == 1
input_may_have width other = true

-- on an output may stand `share`, `shares` and `public`
abbrev pub output_may_have : ℕ → Note → Bool
output_may_have width (note.Share name index) = true
output_may_have width (note.Shares name) = nat_le width most_shares
output_may_have width note.Public = true
output_may_have width other = false

-- on an inner wire no note may stand
abbrev pub may_have : Port → ℕ → Note → Bool
may_have port.Inner width n = false
may_have (port.Input number) width n = input_may_have width n
may_have (port.Output number) width n = output_may_have width n

abbrev pub mark_by : Port → ℕ → Option Note → Mark
mark_by p width None = Wrong
mark_by p width (Some n) = if may_have p width n then Noted n else Wrong

-- Of the values of `\mask`: there is none; or there is one, which is the text of a note that may stand on the wire; or
-- the wire is marked wrongly.
abbrev pub mark_in : Port → ℕ → List Value → Mark
mark_in p width [] = Absent
mark_in p width (value.Text text ∷ []) = mark_by p width (note_named text)
mark_in p width other = Wrong

unfoldable pub mark_of : Wire → Mark
mark_of w = mark_in w.port w.width (masks w.attributes)

-- the wires with their notes and the numbers of their bits, the first of which is the given one
abbrev pub marked_from : ℕ → List Wire → List MarkedWire
marked_from first [] = []
marked_from first (w ∷ ws) =
    record { line = w.line; first = first; width = w.width; port = w.port; mark = mark_of w } ∷ marked_from (first + w.width) ws

-- the wires of a module, in file order
abbrev pub marked_wires : List Item → List MarkedWire
marked_wires items = marked_from 0 (wires items)
