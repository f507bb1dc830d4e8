-- Which trees have a text that stands for them.
use Rattle.std.specs.Prelude.{◌≡◌, ℕ, ◌+◌, ◌<◌, ◌≤◌, ◌^◌, ℤ, pos, negsuc, length, Option, Some, None, IsSome}
use Rattle.std.specs.List.{AllByRecursion}
use Rattle.rtlil_lex.specs.Forms.{IsId}
use Rattle.circuit_types.specs.Top.{top_of}
use Rattle.circuit_types.specs.declared.signal.Value.{Value}
use Rattle.circuit_types.specs.declared.signal.Value.TheVariants as value
use Rattle.circuit_types.specs.declared.signal.Signal.{Signal}
use Rattle.circuit_types.specs.declared.tree.Tree.{Tree}
use Rattle.circuit_types.specs.declared.tree.Module.{Module}
use Rattle.circuit_types.specs.declared.tree.Attribute.{Attribute}
use Rattle.circuit_types.specs.declared.tree.Item.{Item}
use Rattle.circuit_types.specs.declared.tree.Item.TheVariants as item
use Rattle.circuit_types.specs.declared.tree.Parameter.{Parameter}
use Rattle.circuit_types.specs.declared.tree.ParameterForm.TheVariants.{Plain}
use Rattle.circuit_types.specs.declared.tree.Wire.{Wire}
use Rattle.circuit_types.specs.declared.tree.Port.{Port}
use Rattle.circuit_types.specs.declared.tree.Port.TheVariants as port
use Rattle.circuit_types.specs.declared.tree.Cell.{Cell}
use Rattle.circuit_types.specs.declared.tree.Connect.{Connect}
use Rattle.circuit_types.specs.declared.tree.PortConnect.{PortConnect}
use Rattle.rtlil_tree.specs.Lexemes.{Lexeme, id, constant}
use Rattle.rtlil_tree.specs.Names.{HasNamesOnce}
use Rattle.rtlil_tree.specs.Statements.{Piece, lexeme, places, pieces_of, nesting_of}

-- a number of a text that is not below 0
abbrev pub IsCount : ℕ → Type 0
IsCount n = n < 2 ^ 31

-- from -2^31 to 2^31 - 1
abbrev pub IsNumber : ℤ → Type 0
IsNumber (pos n) = n < 2 ^ 31
IsNumber (negsuc n) = n + 1 ≤ 2 ^ 31

-- A text is any bytes.
abbrev pub IsPrintableValue : Value → Type 0
IsPrintableValue (value.Bits bits) = (bits.width ≤ 1048576) × (length bits.written ≤ bits.width)
IsPrintableValue (value.Number n) = IsNumber n
IsPrintableValue (value.Text bytes) = Unit {0}

abbrev pub IsPrintableLexeme : Lexeme → Type 0
IsPrintableLexeme (id name) = IsId name
IsPrintableLexeme (constant v) = IsPrintableValue v
IsPrintableLexeme x = Unit {0}

abbrev pub IsPrintablePiece : Piece → Type 0
IsPrintablePiece (lexeme x) = IsPrintableLexeme x
IsPrintablePiece (places high low) = IsCount high × IsCount low

-- its names, constants and places are of their form, and it nests at most 64 deep
pub record IsPrintableSignal (s : Signal) : Type 0 where
  pub pieces : AllByRecursion IsPrintablePiece (pieces_of s)
  pub nesting : nesting_of s ≤ 64

pub record IsPrintableAttribute (a : Attribute) : Type 0 where
  pub name : IsId a.name
  pub value : IsPrintableValue a.value

abbrev pub IsPrintableOption : Option Value → Type 0
IsPrintableOption None = Unit {0}
IsPrintableOption (Some v) = IsPrintableValue v

-- a module's parameter is plain, and may have no value
pub record IsPrintableParameter (p : Parameter) : Type 0 where
  pub name : IsId p.name
  pub form : p.form ≡ Plain
  pub value : IsPrintableOption p.value

-- a cell's parameter has a value
pub record IsPrintableCellParameter (p : Parameter) : Type 0 where
  pub name : IsId p.name
  pub some : IsSome p.value
  pub value : IsPrintableOption p.value

abbrev pub IsPrintablePort : Port → Type 0
IsPrintablePort port.Inner = Unit {0}
IsPrintablePort (port.Input n) = IsCount n
IsPrintablePort (port.Output n) = IsCount n

pub record IsPrintableWire (w : Wire) : Type 0 where
  pub name : IsId w.name
  pub attributes : AllByRecursion IsPrintableAttribute w.attributes
  pub width : IsCount w.width
  pub offset : IsNumber w.offset
  pub port : IsPrintablePort w.port

pub record IsPrintablePortConnect (c : PortConnect) : Type 0 where
  pub port : IsId c.port
  pub signal : IsPrintableSignal c.signal

pub record IsPrintableCell (c : Cell) : Type 0 where
  pub kind : IsId c.kind
  pub name : IsId c.name
  pub attributes : AllByRecursion IsPrintableAttribute c.attributes
  pub parameters : AllByRecursion IsPrintableCellParameter c.parameters
  pub connects : AllByRecursion IsPrintablePortConnect c.connects

pub record IsPrintableConnect (c : Connect) : Type 0 where
  pub left : IsPrintableSignal c.left
  pub right : IsPrintableSignal c.right

abbrev pub IsPrintableItem : Item → Type 0
IsPrintableItem (item.Parameter p) = IsPrintableParameter p
IsPrintableItem (item.Wire w) = IsPrintableWire w
IsPrintableItem (item.Cell c) = IsPrintableCell c
IsPrintableItem (item.Connect c) = IsPrintableConnect c

pub record IsPrintableModule (m : Module) : Type 0 where
  pub name : IsId m.name
  pub attributes : AllByRecursion IsPrintableAttribute m.attributes
  pub items : AllByRecursion IsPrintableItem m.items

-- It has a top module, names stand once, and each name, number, constant and signal is one that a text can say.
pub record IsPrintable (tree : Tree) : Type 0 where
  pub top : IsSome (top_of tree)
  pub names : HasNamesOnce tree
  pub modules : AllByRecursion IsPrintableModule tree.modules
