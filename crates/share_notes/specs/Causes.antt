-- Why the notes of a module are refused.
use Rattle.std.specs.Prelude.{ℕ, ◌&&◌, Bool, true, false, List, [], ◌∷◌, ◌++◌, Contains}
use Rattle.circuit_types.specs.Due.{Cause, at_lines}
use Rattle.circuit_types.specs.Drives.{is_input}
use Rattle.circuit_types.specs.declared.nets.Nets.{Nets}
use Rattle.circuit_types.specs.declared.refusal.Refusal.TheVariants.{NoteForm, NoteMissing, ShareGap, ShareDouble, ClockUse}
use Rattle.circuit_types.specs.declared.tree.Item.{Item}
use Rattle.share_notes.specs.declared.direction.Direction.TheVariants.{Input, Output}
use Rattle.share_notes.specs.declared.mark.Mark.{Mark}
use Rattle.share_notes.specs.declared.mark.Mark.TheVariants.{Absent, Wrong}
use Rattle.share_notes.specs.declared.mark.MarkedWire.{MarkedWire}
use Rattle.share_notes.specs.declared.shares.NumberedShare.{NumberedShare}
use Rattle.share_notes.specs.Clocks.{clock_lines}
use Rattle.share_notes.specs.Lines.{wire_lines}
use Rattle.share_notes.specs.Marks.{marked_wires}
use Rattle.share_notes.specs.PortOrder.{in_port_order}
use Rattle.share_notes.specs.Shares.{share_count, numbered_shares, lacks_share, is_repeated, share_lines, single_lines}

abbrev pub is_wrong : Mark → Bool
is_wrong Wrong = true
is_wrong other = false

abbrev pub is_absent : Mark → Bool
is_absent Absent = true
is_absent other = false

-- a note that is no note, or that may not stand where it stands
abbrev pub form_lines : List MarkedWire → List ℕ
form_lines ws = wire_lines (λ w. is_wrong w.mark) ws

-- an input wire without a note
abbrev pub missing_lines : List MarkedWire → List ℕ
missing_lines ws = wire_lines (λ w. is_input w.port && is_absent w.mark) ws

-- a share note where there is one share, or a share of a secret bit that lacks one
abbrev pub gap_lines : ℕ → List ℕ → List NumberedShare → List NumberedShare → List ℕ
gap_lines d single inputs outputs =
    (single ++ share_lines (lacks_share d inputs) inputs) ++ share_lines (lacks_share d outputs) outputs

-- a share that an earlier wire of the same direction gives
abbrev pub double_lines : List NumberedShare → List NumberedShare → List ℕ
double_lines inputs outputs = share_lines (is_repeated inputs) inputs ++ share_lines (is_repeated outputs) outputs

-- the refusals of the shares of inputs and outputs, and of the clock
abbrev pub share_causes : ℕ → List ℕ → List ℕ → List NumberedShare → List NumberedShare → List Cause
share_causes d single clocks inputs outputs =
    at_lines (λ l. ShareGap l) (Contains (gap_lines d single inputs outputs))
    ∷ at_lines (λ l. ShareDouble l) (Contains (double_lines inputs outputs))
    ∷ at_lines (λ l. ClockUse l) (Contains clocks)
    ∷ []

-- The refusals of a module's notes, in their order.
unfoldable pub role_causes : List Item → Nets → List Cause
role_causes items nets = let ws = marked_wires items in
    at_lines (λ l. NoteForm l) (Contains (form_lines ws))
    ∷ at_lines (λ l. NoteMissing l) (Contains (missing_lines ws))
    ∷ share_causes (share_count ws) (single_lines (share_count ws) ws) (clock_lines ws nets)
    (numbered_shares Input (in_port_order ws)) (numbered_shares Output (in_port_order ws))
