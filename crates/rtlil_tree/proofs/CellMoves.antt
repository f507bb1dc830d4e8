-- How the reader goes through a cell.
use Rattle.std.proofs.Common.{◌≡◌, ℕ, List, [], ◌∷◌, ◌++◌, ap, ◌∙◌, sym, Ok, Err, Some}
use Rattle.std.specs.declared.vec.Vec.{Vec}
use Rattle.std.specs.declared.alloc.Global.{Global}
use Rattle.circuit_types.specs.declared.refusal.Refusal.TheVariants.{BadForm}
use Rattle.circuit_types.specs.declared.refusal.Stop.{Stop}
use Rattle.circuit_types.specs.declared.refusal.Stop.TheVariants as stop
use Rattle.circuit_types.specs.declared.tree.Module.{Module}
use Rattle.circuit_types.specs.declared.tree.Cell.{Cell}
use Rattle.circuit_types.specs.declared.tree.Parameter.{Parameter}
use Rattle.circuit_types.specs.declared.tree.PortConnect.{PortConnect}
use Rattle.rtlil_tree.specs.declared.lines.Lines.{Lines}
use Rattle.rtlil_tree.specs.declared.line.Line.{Line}
use Rattle.rtlil_tree.specs.declared.cell_body.CellBody.{CellBody}
use Rattle.rtlil_tree.specs.declared.statements.CellStatement.{CellStatement}
use Rattle.rtlil_tree.specs.Forms.{CellForm, cell_parameter, cell_ends, cell_view}
use Rattle.rtlil_tree.specs.Inner.Cursor.{line_view, Rest, IsRest, GoesOn, IsTaken}
use Rattle.rtlil_tree.specs.Machine.{within, step, cell_step}
use Rattle.rtlil_tree.specs.Inner.Reading.{StopsAt, run_on, with_parts, HasItsPorts, ReadsCellLine, CellStepsTo, in_cell, past_cell, ReadsCell}
use Rattle.rtlil_tree.proofs.Moves.{IsNext, IsLast, goes_nowhere, goes_far, same_rest, moves, ends, stops_by, stops_taken, stops_run, stops_from, stops_short}

-- the lines left and the body so far give what all lines give
pub record CellSoFar (first now : Lines) (body : CellBody) : Type 0 where
  pub ports : HasItsPorts body
  pub on : GoesOn first now
  pub same : (rest : Rest) → IsRest first.bytes.now rest → (ms : List Module) (m : Module) (c : Cell) → run_on rest (within ms m (with_parts c [] [])) first ≡ run_on rest (in_cell ms m c body) now

pub cell_start : (lines : Lines) (body : CellBody) → body.parameters.items ≡ [] → body.connects.items ≡ [] → HasItsPorts body → CellSoFar lines lines body
cell_start lines body ps cs ports = record {
  ports = ports;
  on = goes_nowhere lines;
  same = λ rest ah ms m c.
      ap (λ (l : List Parameter). run_on rest (within ms m (with_parts c l [])) lines) (sym ps)
      ∙ ap (λ (l : List PortConnect). run_on rest (within ms m (with_parts c body.parameters.items l)) lines) (sym cs);
}

-- what is due for the statement that was read
due_here : (body : CellBody) (line : Line) (s : CellStatement) (form : CellForm) (ms : List Module) (m : Module) (c : Cell) → ReadsCellLine (Ok s) line → cell_view s ≡ form
    → step (in_cell ms m c body) (line_view line) ≡ cell_step ms m (with_parts c body.parameters.items body.connects.items) (line_view line).number (Some form)
due_here body line s form ms m c reads is =
    reads ms m (with_parts c body.parameters.items body.connects.items)
    ∙ ap (λ (f : CellForm). cell_step ms m (with_parts c body.parameters.items body.connects.items) (line_view line).number (Some f)) is

pub cell_parameter_in : (first now new : Lines) (body : CellBody) (line : Line) (s : CellStatement) (p : Parameter) (v : Vec Parameter Global) → CellSoFar first now body → IsNext now new line
    → ReadsCellLine (Ok s) line → cell_view s ≡ cell_parameter p → v.items ≡ body.parameters.items ++ p ∷ [] → CellSoFar first new (record body { parameters = v })
cell_parameter_in first now new body line s p v far taken reads is pushed = record {
  ports = far.ports;
  on = goes_far first now new far.on taken.on;
  same = λ rest ah ms m c.
      far.same rest ah ms m c
      ∙ moves rest (in_cell ms m c body) now new line (Ok (within ms m (with_parts c v.items body.connects.items))) taken (same_rest first now rest far.on ah)
      (due_here body line s (cell_parameter p) ms m c reads is ∙ ap (λ (l : List Parameter). Ok (within ms m (with_parts c l body.connects.items))) (sym pushed));
}

pub cell_connect_in : {X : Type 0} (x : X) (first now new : Lines) (body after : CellBody) (line : Line) (number : ℕ) (s : CellStatement) (form : CellForm) → CellSoFar first now body → IsNext now new line
    → ReadsCellLine (Ok s) line → cell_view s ≡ form → number ≡ (line_view line).number → CellStepsTo (Ok x) body after number form → HasItsPorts after → CellSoFar first new after
cell_connect_in x first now new body after line number s form far taken reads is at steps ports = record {
  ports = ports;
  on = goes_far first now new far.on taken.on;
  same = λ rest ah ms m c.
      far.same rest ah ms m c
      ∙ moves rest (in_cell ms m c body) now new line (Ok (in_cell ms m c after)) taken (same_rest first now rest far.on ah)
      (due_here body line s form ms m c reads is
      ∙ ap (λ (n : ℕ). cell_step ms m (with_parts c body.parameters.items body.connects.items) n (Some form)) (sym at)
      ∙ steps ms m c);
}

pub cell_closed : (first now new : Lines) (body : CellBody) (line : Line) (s : CellStatement) → CellSoFar first now body → IsNext now new line
    → ReadsCellLine (Ok s) line → cell_view s ≡ cell_ends → ReadsCell (Ok body) first new
cell_closed first now new body line s far taken reads is rest ah ms m c =
    far.same rest ah ms m c ∙ moves rest (in_cell ms m c body) now new line (Ok (past_cell ms m c body)) taken (same_rest first now rest far.on ah) (due_here body line s cell_ends ms m c reads is)

pub cell_stopped : (first now new : Lines) (body : CellBody) (line : Line) (e : Stop) → CellSoFar first now body → IsNext now new line
    → ReadsCellLine (Err e) line → ReadsCell (Err e) first new
cell_stopped first now new body line e far taken reads rest ah ms m c =
    stops_by e _ _ (far.same rest ah ms m c) (stops_run rest (in_cell ms m c body) now new line e taken (same_rest first now rest far.on ah) (reads ms m (with_parts c body.parameters.items body.connects.items)))

pub cell_connect_stopped : (e : Stop) (first now new : Lines) (body after : CellBody) (line : Line) (number : ℕ) (s : CellStatement) (form : CellForm) → CellSoFar first now body → IsNext now new line
    → ReadsCellLine (Ok s) line → cell_view s ≡ form → number ≡ (line_view line).number → ((ms : List Module) (m : Module) (c : Cell) → StopsAt e (cell_step ms m (with_parts c body.parameters.items body.connects.items) number (Some form))) → ReadsCell (Err e) first new
cell_connect_stopped e first now new body after line number s form far taken reads is at steps rest ah ms m c =
    let due = cell_step ms m (with_parts c body.parameters.items body.connects.items) number (Some form) in
    stops_by e _ _
    (far.same rest ah ms m c
    ∙ moves rest (in_cell ms m c body) now new line due taken (same_rest first now rest far.on ah)
    (due_here body line s form ms m c reads is ∙ ap (λ (n : ℕ). cell_step ms m (with_parts c body.parameters.items body.connects.items) n (Some form)) (sym at)))
    (stops_from rest due new e (steps ms m c))

pub cell_missing : (e : Stop) (first now new : Lines) (body : CellBody) → e ≡ stop.Refused (BadForm new.end_line) → CellSoFar first now body → IsLast now new → ReadsCell (Err e) first new
cell_missing e first now new body is far last rest ah ms m c =
    let here = same_rest first now rest far.on ah in
    stops_short e now new rest _ is last here (far.same rest ah ms m c ∙ ends rest (in_cell ms m c body) now new last here)

-- the lines could not be read for want of memory
pub cell_not_taken : (e : Stop) (first now new : Lines) (body : CellBody) → CellSoFar first now body → IsTaken now new (Err e) → ReadsCell (Err e) first new
cell_not_taken e first now new body far taken rest ah ms m c =
    stops_taken now new rest e (run_on rest (within ms m (with_parts c [] [])) first) taken (same_rest first now rest far.on ah)
