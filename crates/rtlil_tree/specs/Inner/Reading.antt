-- What the parts of the reader answer, in the words of Machine.antt.
use Rattle.std.specs.Prelude.{◌≡◌, ℕ, drop, List, [], ◌∷◌, ◌++◌, length, ◌⊎◌, Result, Ok, Err, Option, Some, None}
use Rattle.rtlil_lex.specs.Tokens.{AreTokens, HasFault, line_at}
use Rattle.rtlil_lex.specs.declared.token.Token.{Token}
use Rattle.rtlil_lex.specs.declared.fault.LexFault.{LexFault}
use Rattle.rtlil_lex.specs.declared.fault.LexFault.TheVariants as fault
use Rattle.circuit_types.specs.Top.{top_of}
use Rattle.circuit_types.specs.declared.refusal.Refusal.{Refusal}
use Rattle.circuit_types.specs.declared.refusal.Refusal.TheVariants.{BadForm, BadToken, NoTop}
use Rattle.circuit_types.specs.declared.refusal.Stop.{Stop}
use Rattle.circuit_types.specs.declared.refusal.Stop.TheVariants as stop
use Rattle.circuit_types.specs.declared.tree.Tree.{Tree}
use Rattle.circuit_types.specs.declared.tree.Module.{Module}
use Rattle.circuit_types.specs.declared.tree.Item.{Item}
use Rattle.circuit_types.specs.declared.tree.Item.TheVariants as item
use Rattle.circuit_types.specs.declared.tree.Attribute.{Attribute}
use Rattle.circuit_types.specs.declared.tree.Parameter.{Parameter}
use Rattle.circuit_types.specs.declared.tree.Cell.{Cell}
use Rattle.circuit_types.specs.declared.tree.PortConnect.{PortConnect}
use Rattle.std.specs.declared.vec.Vec.{Vec}
use Rattle.std.specs.declared.alloc.Global.{Global}
use Rattle.rtlil_tree.specs.declared.misfit.Misfit.{Misfit}
use Rattle.rtlil_tree.specs.declared.misfit.Misfit.TheVariants as misfit
use Rattle.rtlil_tree.specs.declared.line.Line.{Line}
use Rattle.rtlil_tree.specs.declared.lines.Lines.{Lines}
use Rattle.rtlil_tree.specs.declared.statements.CellStatement.{CellStatement}
use Rattle.rtlil_tree.specs.declared.statements.ModuleStatement.{ModuleStatement}
use Rattle.rtlil_tree.specs.declared.statements.FileStatement.{FileStatement}
use Rattle.rtlil_tree.specs.declared.cell_body.CellBody.{CellBody}
use Rattle.rtlil_tree.specs.declared.module_body.ModuleBody.{ModuleBody}
use Rattle.rtlil_tree.specs.declared.file_body.FileBody.{FileBody}
use Rattle.rtlil_tree.specs.Names.{wire_names, cell_names, port_names, module_names}
use Rattle.rtlil_tree.specs.Inner.Seen.{HaveSameNames}
use Rattle.rtlil_tree.specs.Lines as text
use Rattle.rtlil_tree.specs.Lines.{lines_of}
use Rattle.rtlil_tree.specs.Inner.Parts.{HasTokens}
use Rattle.rtlil_tree.specs.Inner.Cursor.{line_view, Rest, IsRest, left_of}
use Rattle.rtlil_tree.specs.Said.{◌>>=◌, lexemes_of}
use Rattle.rtlil_tree.specs.Forms.{file_form_of, module_form_of, cell_form_of, file_view, module_view, cell_view, FileForm, ModuleForm, CellForm}
use Rattle.rtlil_tree.specs.Machine.{State, start, file, inside, within, step, file_step, module_step, cell_step, with_items, run}

-- Memory ran out, or the refusal is due.
abbrev pub StopsAt : {A : Type 0} → Stop → Result A Refusal → Type 0
StopsAt stop.NoMemory due = Unit {0}
StopsAt (stop.Refused r) due = due ≡ Err r

-- What is due follows from the answer, unless memory ran out.
abbrev pub LeadsTo : {X A : Type 0} → Result X Stop → Result A Refusal → (X → Result A Refusal) → Type 0
LeadsTo (Ok x) due next = due ≡ next x
LeadsTo (Err e) due next = StopsAt e due

abbrev pub stop_of : Misfit → ℕ → Stop
stop_of misfit.NoForm line = stop.Refused (BadForm line)
stop_of misfit.NoMemory line = stop.NoMemory

-- the answer about the statement on this line
abbrev pub answer_at : {X : Type 0} → Result X Misfit → ℕ → Result X Stop
answer_at (Ok x) line = Ok x
answer_at (Err e) line = Err (stop_of e line)

-- what the lines that are left give behind a state
abbrev pub run_on : Rest → State → Lines → Result Tree Refusal
run_on rest s lines = run rest.end_line s (left_of rest lines)

-- what they give behind a step
abbrev pub run_from : Rest → Result State Refusal → Lines → Result Tree Refusal
run_from rest (Ok s) lines = run_on rest s lines
run_from rest (Err r) lines = Err r

-- the form of a line, by its place
abbrev pub form_in_cell : text.Line → Option CellForm
form_in_cell line = lexemes_of line.tokens >>= cell_form_of line.number

abbrev pub form_in_module : text.Line → Option ModuleForm
form_in_module line = lexemes_of line.tokens >>= module_form_of line.number

abbrev pub form_in_file : text.Line → Option FileForm
form_in_file line = lexemes_of line.tokens >>= file_form_of

-- ---- cells

abbrev pub with_parts : Cell → List Parameter → List PortConnect → Cell
with_parts c ps cs = record c { parameters = ps; connects = cs }

abbrev pub with_item : Module → Item → Module
with_item m i = with_items m (m.items ++ i ∷ [])

-- the names behind the first eight
abbrev pub late : List (List ℕ) → List (List ℕ)
late names = drop 8 names

-- the ports that stand in the set are those of the connects behind the first ones
abbrev pub HasItsPorts : CellBody → Type 0
HasItsPorts b = HaveSameNames b.ports (late (port_names b.connects.items))

-- the statement of a cell on this line
abbrev pub ReadsCellLine : Result CellStatement Stop → Line → Type 0
ReadsCellLine result line =
    (ms : List Module) (m : Module) (c : Cell) → LeadsTo result (step (within ms m c) (line_view line))
    (λ s. cell_step ms m c (line_view line).number (Some (cell_view s)))

-- in a cell of a module
abbrev pub in_cell : List Module → Module → Cell → CellBody → State
in_cell ms m c b = within ms m (with_parts c b.parameters.items b.connects.items)

-- a statement in the cell leads from one body to another
abbrev pub CellStepsTo : {X : Type 0} → Result X Stop → CellBody → CellBody → ℕ → CellForm → Type 0
CellStepsTo result old new line form =
    (ms : List Module) (m : Module) (c : Cell) → LeadsTo result (cell_step ms m (with_parts c old.parameters.items old.connects.items) line (Some form))
    (λ _. Ok (in_cell ms m c new))

-- behind the cell
abbrev pub past_cell : List Module → Module → Cell → CellBody → State
past_cell ms m c b = inside ms (with_item m (item.Cell (with_parts c b.parameters.items b.connects.items))) []

-- all that stands in a cell, up to its end
abbrev pub ReadsCell : Result CellBody Stop → Lines → Lines → Type 0
ReadsCell result old new =
    (rest : Rest) → IsRest old.bytes.now rest → (ms : List Module) (m : Module) (c : Cell) → LeadsTo result (run_on rest (within ms m (with_parts c [] [])) old)
    (λ b. run_on rest (past_cell ms m c b) new)

-- ---- modules

-- the names that were seen are those of the wires and of the cells
pub record HasItsNames (b : ModuleBody) : Type 0 where
  pub of_wires : HaveSameNames b.wires (wire_names b.items.items)
  pub of_cells : HaveSameNames b.cells (cell_names b.items.items)

-- the statement of a module on this line
abbrev pub ReadsModuleLine : Result ModuleStatement Stop → Line → Type 0
ReadsModuleLine result line =
    (ms : List Module) (m : Module) (held : List Attribute) → LeadsTo result (step (inside ms m held) (line_view line))
    (λ s. module_step ms m held (line_view line).number (Some (module_view s)))

-- in a module
abbrev pub in_module : List Module → Module → ModuleBody → State
in_module ms m b = inside ms (with_items m b.items.items) b.held.items

-- what a statement in the module leads to
abbrev pub form_step : List Module → Module → ModuleBody → ℕ → ModuleForm → Result State Refusal
form_step ms m b line form = module_step ms (with_items m b.items.items) b.held.items line (Some form)

-- a statement in the module leads from one body to another
abbrev pub ModuleStepsTo : {X : Type 0} → Result X Stop → ModuleBody → ModuleBody → ℕ → ModuleForm → Type 0
ModuleStepsTo result old new line form = (ms : List Module) (m : Module) → LeadsTo result (form_step ms m old line form) (λ _. Ok (in_module ms m new))

-- a statement in the module and the lines behind it lead from one body to another
abbrev pub ModuleRunsTo : {X : Type 0} → Result X Stop → ModuleBody → ModuleBody → Lines → Lines → ℕ → ModuleForm → Type 0
ModuleRunsTo result old new before after line form =
    (rest : Rest) → IsRest before.bytes.now rest → (ms : List Module) (m : Module) → LeadsTo result (run_from rest (form_step ms m old line form) before)
    (λ _. run_on rest (in_module ms m new) after)

-- behind the module
abbrev pub past_module : List Module → Module → List Item → State
past_module ms m items = file (ms ++ with_items m items ∷ []) []

-- all that stands in a module, up to its end
abbrev pub ReadsModule : Result (Vec Item Global) Stop → Lines → Lines → Type 0
ReadsModule result old new =
    (rest : Rest) → IsRest old.bytes.now rest → (ms : List Module) (m : Module) → LeadsTo result (run_on rest (inside ms (with_items m []) []) old)
    (λ items. run_on rest (past_module ms m items.items) new)

-- ---- files

-- the names that were seen are those of the modules
abbrev pub HasItsModules : FileBody → Type 0
HasItsModules b = HaveSameNames b.names (module_names b.modules.items)

-- the statement of a file on this line
abbrev pub ReadsFileLine : Result FileStatement Stop → Line → Type 0
ReadsFileLine result line =
    (ms : List Module) (held : List Attribute) → LeadsTo result (step (file ms held) (line_view line))
    (λ s. file_step ms held (line_view line).number (Some (file_view s)))

-- between modules
abbrev pub in_file : FileBody → State
in_file b = file b.modules.items b.held.items

-- a statement of the file and the lines behind it lead from one body to another
abbrev pub FileRunsTo : {X : Type 0} → Result X Stop → FileBody → FileBody → Lines → Lines → ℕ → FileForm → Type 0
FileRunsTo result old new before after line form =
    (rest : Rest) → IsRest before.bytes.now rest → LeadsTo result (run_from rest (file_step old.modules.items old.held.items line (Some form)) before)
    (λ _. run_on rest (in_file new) after)

-- all that stands in a file
abbrev pub ReadsFile : Result Tree Stop → Lines → Type 0
ReadsFile result old = (rest : Rest) → IsRest old.bytes.now rest → LeadsTo result (run_on rest start old) (λ t. Ok t)

-- ---- whole texts

-- the refusal of bytes without tokens
abbrev pub fault_stop : List ℕ → LexFault → Stop
fault_stop bytes (fault.BadByte place) = stop.Refused (BadToken (line_at bytes place))
fault_stop bytes (fault.OpenString place) = stop.Refused (BadToken (line_at bytes place))
fault_stop bytes fault.NoMemory = stop.NoMemory

-- why bytes are not read, of whose statements this is refused: their tokens are right, or their fault comes first
abbrev pub IsDueFor : Refusal → List ℕ → Stop → Type 0
IsDueFor refusal bytes e = (HasTokens bytes × (e ≡ stop.Refused refusal)) ⊎ ((fault : LexFault) × HasFault bytes fault × (e ≡ fault_stop bytes fault))

abbrev pub has_top : Tree → Option ℕ → Result Tree Stop
has_top tree (Some place) = Ok tree
has_top tree None = Err (stop.Refused NoTop)

abbrev pub topped : Tree → Result Tree Stop
topped tree = has_top tree (top_of tree)

-- the statements of the bytes are read
pub record ReadsStatements (result : Result Tree Stop) (bytes : List ℕ) : Type 0 where
  pub tokens : List Token
  pub are_tokens : AreTokens bytes tokens
  pub reads : LeadsTo result (run (line_at bytes (length bytes)) start (lines_of bytes tokens)) (λ t. Ok t)

-- the bytes have no tokens
pub record ReadsFault (result : Result Tree Stop) (bytes : List ℕ) : Type 0 where
  pub fault : LexFault
  pub has_fault : HasFault bytes fault
  pub stops : result ≡ Err (fault_stop bytes fault)

abbrev pub ReadsText : Result Tree Stop → List ℕ → Type 0
ReadsText result bytes = ReadsStatements result bytes ⊎ ReadsFault result bytes
