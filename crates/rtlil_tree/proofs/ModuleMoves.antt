-- How the reader goes through a module.
use Rattle.std.proofs.Common.{◌≡◌, ℕ, Bool, true, not, List, [], ◌∷◌, ◌++◌, ap, ◌∙◌, sym, Result, Ok, Err}
use Rattle.std.specs.List.{flat_map}
use Rattle.std.proofs.lemmas.List.{append-nil}
use Rattle.std.proofs.lemmas.Grind.{flat_map-append}
use Rattle.std.specs.declared.vec.Vec.{Vec}
use Rattle.std.specs.declared.alloc.Global.{Global}
use Rattle.circuit_types.specs.declared.refusal.Refusal.{Refusal}
use Rattle.circuit_types.specs.declared.refusal.Refusal.TheVariants.{BadForm}
use Rattle.circuit_types.specs.declared.refusal.Stop.{Stop}
use Rattle.circuit_types.specs.declared.refusal.Stop.TheVariants as stop
use Rattle.circuit_types.specs.declared.tree.Attribute.{Attribute}
use Rattle.circuit_types.specs.declared.tree.Module.{Module}
use Rattle.circuit_types.specs.declared.tree.Item.{Item}
use Rattle.circuit_types.specs.declared.tree.Item.TheVariants as item
use Rattle.circuit_types.specs.declared.tree.Cell.{Cell}
use Rattle.circuit_types.specs.declared.tree.Parameter.{Parameter}
use Rattle.circuit_types.specs.declared.tree.PortConnect.{PortConnect}
use Rattle.rtlil_tree.specs.declared.lines.Lines.{Lines}
use Rattle.rtlil_tree.specs.declared.line.Line.{Line}
use Rattle.rtlil_tree.specs.declared.cell_body.CellBody.{CellBody}
use Rattle.rtlil_tree.specs.declared.module_body.ModuleBody.{ModuleBody}
use Rattle.rtlil_tree.specs.declared.statements.ModuleStatement.{ModuleStatement}
use Rattle.rtlil_tree.specs.Names.{is_among, wire_name, cell_name, wire_names, cell_names}
use Rattle.rtlil_tree.specs.Inner.Seen.{HasOneMore}
use Rattle.rtlil_tree.specs.Forms.{ModuleForm, attribute_in, cell_begins, ends, module_view}
use Rattle.rtlil_tree.specs.Inner.Cursor.{line_view, Rest, IsRest, GoesOn, IsTaken}
use Rattle.rtlil_tree.specs.Machine as machine
use Rattle.rtlil_tree.specs.Machine.{State, inside, within, step, module_step, wire_step, has_some, with_items, wire_made, cell_begun}
use Rattle.rtlil_tree.specs.Inner.Reading.{StopsAt, run_on, run_from, with_parts, ReadsCell, HasItsNames, ReadsModuleLine, in_module, form_step, ModuleStepsTo, ModuleRunsTo, past_module, ReadsModule}
use Rattle.rtlil_tree.proofs.Moves.{IsNext, IsLast, goes_nowhere, goes_far, same_rest, moves, stops_by, stops_as, stops_taken, stops_run, stops_from, stops_short, one_more, still_same, was_seen, is_new, unless_bad, unless_good}
use Rattle.rtlil_tree.proofs.Moves as on

-- the lines left and the body so far give what all lines give
pub record ModuleSoFar (first now : Lines) (body : ModuleBody) : Type 0 where
  pub names : HasItsNames body
  pub on : GoesOn first now
  pub same : (rest : Rest) → IsRest first.bytes.now rest → (ms : List Module) (m : Module) → run_on rest (inside ms (with_items m []) []) first ≡ run_on rest (in_module ms m body) now

pub module_start : (lines : Lines) (body : ModuleBody) → body.items.items ≡ [] → body.held.items ≡ [] → HasItsNames body → ModuleSoFar lines lines body
module_start lines body is held names = record {
  names = names;
  on = goes_nowhere lines;
  same = λ rest ah ms m.
      ap (λ (l : List Item). run_on rest (inside ms (with_items m l) []) lines) (sym is)
      ∙ ap (λ (l : List Attribute). run_on rest (inside ms (with_items m body.items.items) l) lines) (sym held);
}

-- what is due for the statement that was read
due_here : (body : ModuleBody) (line : Line) (number : ℕ) (s : ModuleStatement) (form : ModuleForm) (ms : List Module) (m : Module) → ReadsModuleLine (Ok s) line → module_view s ≡ form → number ≡ (line_view line).number
    → step (in_module ms m body) (line_view line) ≡ form_step ms m body number form
due_here body line number s form ms m reads is at =
    reads ms (with_items m body.items.items) body.held.items
    ∙ ap (λ (f : ModuleForm). form_step ms m body (line_view line).number f) is
    ∙ ap (λ (n : ℕ). form_step ms m body n form) (sym at)

pub module_attribute_in : (first now new : Lines) (body : ModuleBody) (line : Line) (number : ℕ) (s : ModuleStatement) (a : Attribute) (v : Vec Attribute Global) → ModuleSoFar first now body → IsNext now new line
    → ReadsModuleLine (Ok s) line → module_view s ≡ attribute_in a → number ≡ (line_view line).number → v.items ≡ body.held.items ++ a ∷ [] → ModuleSoFar first new (record body { held = v })
module_attribute_in first now new body line number s a v far taken reads is at pushed = record {
  names = record { of_wires = far.names.of_wires; of_cells = far.names.of_cells };
  on = goes_far first now new far.on taken.on;
  same = λ rest ah ms m.
      far.same rest ah ms m
      ∙ moves rest (in_module ms m body) now new line (Ok (inside ms (with_items m body.items.items) v.items)) taken (same_rest first now rest far.on ah)
      (due_here body line number s (attribute_in a) ms m reads is at ∙ ap (λ (l : List Attribute). Ok (inside ms (with_items m body.items.items) l)) (sym pushed));
}

pub module_step_in : {X : Type 0} (x : X) (first now new : Lines) (body after : ModuleBody) (line : Line) (number : ℕ) (s : ModuleStatement) (form : ModuleForm) → ModuleSoFar first now body → IsNext now new line
    → ReadsModuleLine (Ok s) line → module_view s ≡ form → number ≡ (line_view line).number → ModuleStepsTo (Ok x) body after number form → HasItsNames after → ModuleSoFar first new after
module_step_in x first now new body after line number s form far taken reads is at steps names = record {
  names = names;
  on = goes_far first now new far.on taken.on;
  same = λ rest ah ms m.
      far.same rest ah ms m ∙ moves rest (in_module ms m body) now new line (Ok (in_module ms m after)) taken (same_rest first now rest far.on ah) (due_here body line number s form ms m reads is at ∙ steps ms m);
}

pub module_run_in : {X : Type 0} (x : X) (first now new last : Lines) (body after : ModuleBody) (line : Line) (number : ℕ) (s : ModuleStatement) (form : ModuleForm) → ModuleSoFar first now body → IsNext now new line
    → ReadsModuleLine (Ok s) line → module_view s ≡ form → number ≡ (line_view line).number → ModuleRunsTo (Ok x) body after new last number form → HasItsNames after
    → GoesOn new last → ModuleSoFar first last after
module_run_in x first now new last body after line number s form far taken reads is at runs names more = record {
  names = names;
  on = goes_far first new last (goes_far first now new far.on taken.on) more;
  same = λ rest ah ms m.
      far.same rest ah ms m ∙ moves rest (in_module ms m body) now new line (form_step ms m body number form) taken (same_rest first now rest far.on ah) (due_here body line number s form ms m reads is at) ∙ runs rest (same_rest now new rest taken.on (same_rest first now rest far.on ah)) ms m;
}

-- the module ends, or attributes stand before its end
closing : (rest : Rest) (first now new : Lines) (body : ModuleBody) (line : Line) (number : ℕ) (s : ModuleStatement) (ms : List Module) (m : Module) → IsRest first.bytes.now rest → ModuleSoFar first now body → IsNext now new line
    → ReadsModuleLine (Ok s) line → module_view s ≡ ends → number ≡ (line_view line).number
    → run_on rest (inside ms (with_items m []) []) first ≡ run_from rest (machine.unless (has_some body.held.items) number (past_module ms m body.items.items)) new
closing rest first now new body line number s ms m ah far taken reads is at =
    far.same rest ah ms m ∙ moves rest (in_module ms m body) now new line (form_step ms m body number ends) taken (same_rest first now rest far.on ah) (due_here body line number s ends ms m reads is at)

pub module_closed : (first now new : Lines) (body : ModuleBody) (line : Line) (number : ℕ) (s : ModuleStatement) → ModuleSoFar first now body → IsNext now new line
    → ReadsModuleLine (Ok s) line → module_view s ≡ ends → number ≡ (line_view line).number → body.held.items ≡ [] → ReadsModule (Ok body.items) first new
module_closed first now new body line number s far taken reads is at none rest ah ms m =
    closing rest first now new body line number s ms m ah far taken reads is at
    ∙ ap (λ (d : Result State Refusal). run_from rest d new) (unless_good (has_some body.held.items) number (past_module ms m body.items.items) (ap has_some none))

pub module_not_closed : (e : Stop) (first now new : Lines) (body : ModuleBody) (line : Line) (number : ℕ) (s : ModuleStatement) → ModuleSoFar first now body → IsNext now new line
    → ReadsModuleLine (Ok s) line → module_view s ≡ ends → number ≡ (line_view line).number → e ≡ stop.Refused (BadForm number) → has_some body.held.items ≡ true → ReadsModule (Err e) first new
module_not_closed e first now new body line number s far taken reads is at refused some rest ah ms m =
    stops_as e (BadForm number) _ refused
    (closing rest first now new body line number s ms m ah far taken reads is at
    ∙ ap (λ (d : Result State Refusal). run_from rest d new) (unless_bad (has_some body.held.items) number (past_module ms m body.items.items) some))

pub module_stopped : (first now new : Lines) (body : ModuleBody) (line : Line) (e : Stop) → ModuleSoFar first now body → IsNext now new line
    → ReadsModuleLine (Err e) line → ReadsModule (Err e) first new
module_stopped first now new body line e far taken reads rest ah ms m =
    stops_by e _ _ (far.same rest ah ms m) (stops_run rest (in_module ms m body) now new line e taken (same_rest first now rest far.on ah) (reads ms (with_items m body.items.items) body.held.items))

pub module_step_stopped : (e : Stop) (first now new : Lines) (body after : ModuleBody) (line : Line) (number : ℕ) (s : ModuleStatement) (form : ModuleForm) → ModuleSoFar first now body → IsNext now new line
    → ReadsModuleLine (Ok s) line → module_view s ≡ form → number ≡ (line_view line).number → ((ms : List Module) (m : Module) → StopsAt e (form_step ms m body number form)) → ReadsModule (Err e) first new
module_step_stopped e first now new body after line number s form far taken reads is at steps rest ah ms m =
    let due = form_step ms m body number form in
    stops_by e _ _ (far.same rest ah ms m ∙ moves rest (in_module ms m body) now new line due taken (same_rest first now rest far.on ah) (due_here body line number s form ms m reads is at))
    (stops_from rest due new e (steps ms m))

pub module_run_stopped : (e : Stop) (first now new last : Lines) (body after : ModuleBody) (line : Line) (number : ℕ) (s : ModuleStatement) (form : ModuleForm) → ModuleSoFar first now body → IsNext now new line
    → ReadsModuleLine (Ok s) line → module_view s ≡ form → number ≡ (line_view line).number → ((rest : Rest) → IsRest new.bytes.now rest → (ms : List Module) (m : Module) → StopsAt e (run_from rest (form_step ms m body number form) new)) → ReadsModule (Err e) first last
module_run_stopped e first now new last body after line number s form far taken reads is at runs rest ah ms m =
    stops_by e _ _ (far.same rest ah ms m ∙ moves rest (in_module ms m body) now new line (form_step ms m body number form) taken (same_rest first now rest far.on ah) (due_here body line number s form ms m reads is at)) (runs rest (same_rest now new rest taken.on (same_rest first now rest far.on ah)) ms m)

pub module_missing : (e : Stop) (first now new : Lines) (body : ModuleBody) → e ≡ stop.Refused (BadForm new.end_line) → ModuleSoFar first now body → IsLast now new → ReadsModule (Err e) first new
module_missing e first now new body is far last rest ah ms m =
    let here = same_rest first now rest far.on ah in
    stops_short e now new rest _ is last here (far.same rest ah ms m ∙ on.ends rest (in_module ms m body) now new last here)

-- the lines could not be read for want of memory
pub module_not_taken : (e : Stop) (first now new : Lines) (body : ModuleBody) → ModuleSoFar first now body → IsTaken now new (Err e) → ReadsModule (Err e) first new
module_not_taken e first now new body far taken rest ah ms m =
    stops_taken now new rest e (run_on rest (inside ms (with_items m []) []) first) taken (same_rest first now rest far.on ah)

-- ---- items

-- the items with one more
named_more : (name : Item → List (List ℕ)) (is after : List Item) (i : Item) → after ≡ is ++ i ∷ [] → flat_map name after ≡ flat_map name is ++ name i
named_more name is after i pushed =
    ap (flat_map name) pushed ∙ flat_map-append name is (i ∷ []) ∙ ap (λ (l : List (List ℕ)). flat_map name is ++ l) (append-nil (name i))

unnamed_more : (name : Item → List (List ℕ)) (is after : List Item) (i : Item) → after ≡ is ++ i ∷ [] → name i ≡ [] → flat_map name after ≡ flat_map name is
unnamed_more name is after i pushed none =
    named_more name is after i pushed ∙ ap (λ (l : List (List ℕ)). flat_map name is ++ l) none ∙ append-nil (flat_map name is)

pub cell_item_names : (old new : ModuleBody) (i : Item) (name : List ℕ) → HasItsNames old → new.items.items ≡ old.items.items ++ i ∷ [] → wire_name i ≡ [] → cell_name i ≡ name ∷ [] → HasOneMore old.cells new.cells name → new.wires ≡ old.wires → HasItsNames new
cell_item_names old new i name names pushed no_wire is_cell more kept = record {
  of_wires = λ x. ap (is_among x) kept ∙ still_same old.wires (wire_names old.items.items) (wire_names new.items.items) names.of_wires (unnamed_more wire_name old.items.items new.items.items i pushed no_wire) x;
  of_cells = one_more old.cells new.cells (cell_names old.items.items) (cell_names new.items.items) name names.of_cells more
      (named_more cell_name old.items.items new.items.items i pushed ∙ ap (λ (l : List (List ℕ)). cell_names old.items.items ++ l) is_cell);
}

abbrev done : State → Result State Refusal
done s = Ok s

-- what the new body is, where it is known what it holds
in_as : (ms : List Module) (m : Module) (body : ModuleBody) (items : List Item) (held : List Attribute) → body.items.items ≡ items → body.held.items ≡ held → done (inside ms (with_items m items) held) ≡ done (in_module ms m body)
in_as ms m body items held is none =
    ap (λ (l : List Item). done (inside ms (with_items m l) held)) (sym is) ∙ ap (λ (l : List Attribute). done (inside ms (with_items m body.items.items) l)) (sym none)

-- ---- cells

cell_entered : (rest : Rest) (old : ModuleBody) (before : Lines) (line : ℕ) (kind name : List ℕ) (added : Bool) (ms : List Module) (m : Module) → HasItsNames old → added ≡ not (is_among name old.cells) → added ≡ true
    → run_from rest (form_step ms m old line (cell_begins kind name)) before ≡ run_on rest (within ms (with_items m old.items.items) (with_parts (cell_begun line kind name old.held.items) [] [])) before
cell_entered rest old before line kind name added ms m names is new_name =
    ap (λ (d : Result State Refusal). run_from rest d before)
    (unless_good (is_among name (cell_names old.items.items)) line (within ms (with_items m old.items.items) (cell_begun line kind name old.held.items)) (is_new old.cells (cell_names old.items.items) name added names.of_cells is new_name))

pub cell_body_stopped : (e : Stop) (old : ModuleBody) (before after : Lines) (line : ℕ) (kind name : List ℕ) (added : Bool) → HasItsNames old → added ≡ not (is_among name old.cells) → added ≡ true
    → ReadsCell (Err e) before after → (rest : Rest) → IsRest before.bytes.now rest → (ms : List Module) (m : Module) → StopsAt e (run_from rest (form_step ms m old line (cell_begins kind name)) before)
cell_body_stopped e old before after line kind name added names is new_name reads rest ah ms m =
    stops_by e _ _ (cell_entered rest old before line kind name added ms m names is new_name) (reads rest ah ms (with_items m old.items.items) (cell_begun line kind name old.held.items))

-- the cell with what stands in it
abbrev pub cell_with : ℕ → List ℕ → List ℕ → List Attribute → CellBody → Cell
cell_with line kind name held b = with_parts (cell_begun line kind name held) b.parameters.items b.connects.items

-- an item that was pushed, by what it is made of
pub cell_as : (old after : List Item) (line : ℕ) (kind kind_is name name_is : List ℕ) (held held_is : List Attribute) (ps ps_is : List Parameter) (cs cs_is : List PortConnect)
    → after ≡ old ++ item.Cell (record { line = line; kind = kind; name = name; attributes = held; parameters = ps; connects = cs }) ∷ [] → kind ≡ kind_is → name ≡ name_is → held ≡ held_is → ps ≡ ps_is → cs ≡ cs_is
    → after ≡ old ++ item.Cell (record { line = line; kind = kind_is; name = name_is; attributes = held_is; parameters = ps_is; connects = cs_is }) ∷ []
cell_as old after line kind kind_is name name_is held held_is ps ps_is cs cs_is pushed a b c d e = cc

pub cell_added : {X : Type 0} (x : X) (old new : ModuleBody) (before after : Lines) (line : ℕ) (kind name : List ℕ) (b : CellBody) (added : Bool) → HasItsNames old → added ≡ not (is_among name old.cells) → added ≡ true
    → ReadsCell (Ok b) before after → new.items.items ≡ old.items.items ++ item.Cell (cell_with line kind name old.held.items b) ∷ [] → new.held.items ≡ []
    → ModuleRunsTo (Ok x) old new before after line (cell_begins kind name)
cell_added x old new before after line kind name b added names is new_name reads pushed none rest ah ms m =
    cell_entered rest old before line kind name added ms m names is new_name
    ∙ reads rest ah ms (with_items m old.items.items) (cell_begun line kind name old.held.items)
    ∙ ap (λ (d : Result State Refusal). run_from rest d after)
    (in_as ms m new (old.items.items ++ item.Cell (cell_with line kind name old.held.items b) ∷ []) [] pushed none)
