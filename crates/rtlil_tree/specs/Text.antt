-- Which statements are those of a tree, and which tree a text stands for.
use Rattle.std.specs.Prelude.{◌≡◌, ℕ, ℤ, List, [], ◌∷◌, ◌++◌, map}
use Rattle.rtlil_tree.specs.Names.{HasNamesOnce}
use Rattle.circuit_types.specs.declared.tree.Tree.{Tree}
use Rattle.circuit_types.specs.declared.tree.Module.{Module}
use Rattle.circuit_types.specs.declared.tree.Item.{Item}
use Rattle.circuit_types.specs.declared.tree.Item.TheVariants as item
use Rattle.circuit_types.specs.declared.tree.Parameter.{Parameter}
use Rattle.circuit_types.specs.declared.tree.PortConnect.{PortConnect}
use Rattle.rtlil_tree.specs.Lexemes.{Lexeme, AreSaid}
use Rattle.rtlil_tree.specs.Statements.{Statement, autoidx, attribute, begins, parameter, wire, cell, connect, cell_parameter, port_connect, ends, IsStatement}
use Rattle.rtlil_tree.specs.Lines.{Line, AreLines}

-- a cell's parameters and connects, in any order between the two
abbrev pub AreInside : List Parameter → List PortConnect → List Statement → Type 0
AreInside ps cs [] = (ps ≡ []) × (cs ≡ [])
AreInside ps cs (cell_parameter p ∷ ss) = (rest : List Parameter) × (ps ≡ p ∷ rest) × AreInside rest cs ss
AreInside ps cs (port_connect c ∷ ss) = (rest : List PortConnect) × (cs ≡ c ∷ rest) × AreInside ps rest ss
AreInside ps cs ss = ⊥

-- the statements of an item; the attributes of a wire or a cell stand before it
abbrev pub AreOfItem : Item → List Statement → Type 0
AreOfItem (item.Parameter p) ss = ss ≡ parameter p ∷ []
AreOfItem (item.Wire w) ss = ss ≡ map attribute w.attributes ++ wire w ∷ []
AreOfItem (item.Cell c) ss = (inside : List Statement) × (ss ≡ map attribute c.attributes ++ cell c ∷ (inside ++ ends ∷ [])) × AreInside c.parameters c.connects inside
AreOfItem (item.Connect c) ss = ss ≡ connect c ∷ []

abbrev pub AreOfItems : List Item → List Statement → Type 0
AreOfItems [] ss = ss ≡ []
AreOfItems (i ∷ is) ss = (first rest : List Statement) × (ss ≡ first ++ rest) × AreOfItem i first × AreOfItems is rest

-- the statements of a module; its attributes stand before it
abbrev pub AreOfModule : Module → List Statement → Type 0
AreOfModule m ss = (inside : List Statement) × (ss ≡ map attribute m.attributes ++ begins m ∷ (inside ++ ends ∷ [])) × AreOfItems m.items inside

abbrev pub AreAutoidx : List Statement → Type 0
AreAutoidx ss = (numbers : List ℤ) × (ss ≡ map autoidx numbers)

-- the statements of modules; `autoidx` may stand before each and behind the last, and gives nothing
abbrev pub AreOfModules : List Module → List Statement → Type 0
AreOfModules [] ss = AreAutoidx ss
AreOfModules (m ∷ ms) ss = (before first rest : List Statement) × (ss ≡ before ++ (first ++ rest)) × AreAutoidx before × AreOfModule m first × AreOfModules ms rest

-- the line is written as the statement
pub record IsWritten (s : Statement) (line : Line) : Type 0 where
  pub lexemes : List Lexeme
  pub said : AreSaid lexemes line.tokens
  pub form : IsStatement s line.number lexemes

abbrev pub AreWritten : List Statement → List Line → Type 0
AreWritten [] lines = lines ≡ []
AreWritten (s ∷ ss) [] = ⊥
AreWritten (s ∷ ss) (line ∷ lines) = IsWritten s line × AreWritten ss lines

-- The lines are the statements of the tree, in which each name stands once.
pub record IsTreeText (lines : List Line) (tree : Tree) : Type 0 where
  pub statements : List Statement
  pub of_tree : AreOfModules tree.modules statements
  pub written : AreWritten statements lines
  pub names : HasNamesOnce tree

-- The tokens of the bytes, cut at each end of line, are the statements of the tree.
pub record Stands (bytes : List ℕ) (tree : Tree) : Type 0 where
  pub lines : List Line
  pub end_line : ℕ
  pub are_lines : AreLines bytes lines end_line
  pub text : IsTreeText lines tree
