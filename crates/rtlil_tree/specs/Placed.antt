-- The form that a statement has at a place, and the tokens that a text can have.
use Rattle.std.specs.Prelude.{◌≡◌, ℕ, false, List, Option, Some, None}
use Rattle.std.specs.List.{AllByRecursion}
use Rattle.rtlil_lex.specs.Forms.{HasForm}
use Rattle.circuit_types.specs.declared.tree.Port.{Port}
use Rattle.circuit_types.specs.declared.tree.Port.TheVariants as port
use Rattle.circuit_types.specs.declared.tree.Wire.{Wire}
use Rattle.rtlil_tree.specs.declared.options.WireOption.{WireOption}
use Rattle.rtlil_tree.specs.Lexemes.{Lexeme, Spelled}
use Rattle.rtlil_tree.specs.Statements.{Statement, options_said, port_said, wire_lexemes}
use Rattle.rtlil_tree.specs.Forms.{FileForm, WireForm, ModuleForm, CellForm}

-- the token has the form of its kind, as each token of a text has
abbrev pub IsFormed : Spelled → Type 0
IsFormed t = HasForm t.kind t.text

-- each of the tokens has the form of its kind
abbrev pub AreFormed : List Spelled → Type 0
AreFormed ts = AllByRecursion IsFormed ts

-- the number of an input
abbrev pub input_of : Port → Option ℕ
input_of port.Inner = None
input_of (port.Input n) = Some n
input_of (port.Output n) = None

-- the number of an output
abbrev pub output_of : Port → Option ℕ
output_of port.Inner = None
output_of (port.Input n) = None
output_of (port.Output n) = Some n

-- what the options of a wire of the tree said
abbrev pub wire_form : Wire → WireForm
wire_form w = record {
  name = w.name;
  port = w.port;
  options = record { width = w.width; offset = w.offset; input = input_of w.port; output = output_of w.port; inout = false; upto = w.upto; signed = w.signed };
}

-- the form of a statement between modules
abbrev pub file_form : Statement → Option FileForm
file_form (Statement.autoidx z) = Some (FileForm.autoidx z)
file_form (Statement.attribute a) = Some (FileForm.attribute a)
file_form (Statement.begins m) = Some (FileForm.begins m.name)
file_form s = None

-- the form of a statement of a module
abbrev pub module_form : Statement → Option ModuleForm
module_form (Statement.attribute a) = Some (ModuleForm.attribute_in a)
module_form (Statement.parameter p) = Some (ModuleForm.parameter p)
module_form (Statement.wire w) = Some (ModuleForm.wire (wire_form w))
module_form (Statement.cell c) = Some (ModuleForm.cell_begins c.kind c.name)
module_form (Statement.connect c) = Some (ModuleForm.connect c)
module_form Statement.ends = Some ModuleForm.ends
module_form s = None

-- the form of a statement of a cell
abbrev pub cell_form : Statement → Option CellForm
cell_form (Statement.cell_parameter p) = Some (CellForm.cell_parameter p)
cell_form (Statement.port_connect c) = Some (CellForm.port_connect c.port c.signal)
cell_form Statement.ends = Some CellForm.cell_ends
cell_form s = None

-- what the statement begins is on the line of this number, where the tree notes its line
abbrev pub IsOnLine : Statement → ℕ → Type 0
IsOnLine (Statement.autoidx z) line = Unit {0}
IsOnLine (Statement.attribute a) line = Unit {0}
IsOnLine (Statement.begins m) line = m.line ≡ line
IsOnLine (Statement.parameter p) line = p.line ≡ line
IsOnLine (Statement.wire w) line = w.line ≡ line
IsOnLine (Statement.cell c) line = c.line ≡ line
IsOnLine (Statement.connect c) line = c.line ≡ line
IsOnLine (Statement.cell_parameter p) line = p.line ≡ line
IsOnLine (Statement.port_connect c) line = c.line ≡ line
IsOnLine Statement.ends line = Unit {0}

-- The words of a wire, with `inout` or without.
pub record IsWireForm (f : WireForm) (xs : List Lexeme) : Type 0 where
  pub options : List WireOption
  pub written : xs ≡ wire_lexemes options f.name
  pub said : f.options ≡ options_said options
  pub port_is : port_said f.options.input f.options.output ≡ Some f.port
