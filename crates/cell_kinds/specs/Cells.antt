-- The cell table, after the Yosys internal cell library: for each gate its name, its inputs in order and
-- its formula; for each flip-flop its name and its inputs. Nothing else says what a cell is.
use Rattle.std.specs.Prelude.{ℕ, Bool, true, false, if◌then◌else◌, List, [], ◌∷◌, ◌++◌, codes, Option, Some, None, is_some}
use Rattle.cell_kinds.specs.Formula.{Formula, port, not_of, both, either, differ, choose, meaning, bits, beside}
use Rattle.cell_kinds.specs.declared.kind.CellKind.{CellKind}
use Rattle.cell_kinds.specs.declared.kind.CellKind.TheVariants as cell
use Rattle.cell_kinds.specs.declared.kind.GateKind.{GateKind}
use Rattle.cell_kinds.specs.declared.kind.GateKind.TheVariants.{Buf, Not, And, Nand, Or, Nor, Xor, Xnor, Andnot, Ornot, Mux, Nmux, Aoi3, Oai3, Aoi4, Oai4}
use Rattle.cell_kinds.specs.declared.kind.Flop.{Flop}
use Rattle.cell_kinds.specs.declared.kind.Reset.{Reset}

-- a row of the table of gates
pub record Gate : Type 0 where
  pub name : List ℕ
  pub inputs : List ℕ
  -- what the output Y computes
  pub formula : Formula

abbrev A : Formula
A = port 65

abbrev B : Formula
B = port 66

abbrev C : Formula
C = port 67

abbrev D : Formula
D = port 68

abbrev S : Formula
S = port 83

abbrev row : List ℕ → List ℕ → Formula → Gate
row n i f = record { name = n; inputs = i; formula = f }

-- the gates
abbrev pub gate : GateKind → Gate
gate Buf = row (codes "$_BUF_") (codes "A") A
gate Not = row (codes "$_NOT_") (codes "A") (not_of A)
gate And = row (codes "$_AND_") (codes "AB") (both A B)
gate Nand = row (codes "$_NAND_") (codes "AB") (not_of (both A B))
gate Or = row (codes "$_OR_") (codes "AB") (either A B)
gate Nor = row (codes "$_NOR_") (codes "AB") (not_of (either A B))
gate Xor = row (codes "$_XOR_") (codes "AB") (differ A B)
gate Xnor = row (codes "$_XNOR_") (codes "AB") (not_of (differ A B))
gate Andnot = row (codes "$_ANDNOT_") (codes "AB") (both A (not_of B))
gate Ornot = row (codes "$_ORNOT_") (codes "AB") (either A (not_of B))
gate Mux = row (codes "$_MUX_") (codes "ABS") (choose S B A)
gate Nmux = row (codes "$_NMUX_") (codes "ABS") (not_of (choose S B A))
gate Aoi3 = row (codes "$_AOI3_") (codes "ABC") (not_of (either (both A B) C))
gate Oai3 = row (codes "$_OAI3_") (codes "ABC") (not_of (both (either A B) C))
gate Aoi4 = row (codes "$_AOI4_") (codes "ABCD") (not_of (either (both A B) (both C D)))
gate Oai4 = row (codes "$_OAI4_") (codes "ABCD") (not_of (both (either A B) (either C D)))

-- P is a rising edge or an active high level, N a falling edge or an active low one
abbrev pub level_letter : Bool → ℕ
level_letter true = 80
level_letter false = 78

abbrev pub bit_letter : Bool → ℕ
bit_letter true = 49
bit_letter false = 48

-- whether a flip-flop has a reset that acts at the clock's edge
abbrev pub resets_at_edge : Option Reset → Bool
resets_at_edge None = false
resets_at_edge (Some reset) = reset.synchronous

-- `SDFF` with a reset at the clock's edge, else `DFF`; then `E` with an enable
abbrev pub family : Bool → Bool → List ℕ
family false false = codes "$_DFF_"
family false true = codes "$_DFFE_"
family true false = codes "$_SDFF_"
family true true = codes "$_SDFFE_"

-- the level at which it resets, and the value that it then holds
abbrev pub reset_letters : Option Reset → List ℕ
reset_letters None = []
reset_letters (Some reset) = level_letter reset.high ∷ bit_letter reset.value ∷ []

-- the level at which it is enabled
abbrev pub enable_letters : Option Bool → List ℕ
enable_letters None = []
enable_letters (Some high) = level_letter high ∷ []

-- the clock's edge, the reset, the enable, and an underscore
abbrev pub flop_letters : Flop → List ℕ
flop_letters f = level_letter f.rising ∷ (reset_letters f.reset ++ (enable_letters f.enable ++ codes "_"))

-- the name of a flip-flop: `$_DFF_P_`, `$_DFF_PP0_`, `$_DFFE_PP_`, `$_DFFE_PP0P_`, `$_SDFF_PP0_`,
-- `$_SDFFE_PP0P_`, and those with other letters in place of each P and 0
abbrev pub flop_name : Flop → List ℕ
flop_name f = family (resets_at_edge f.reset) (is_some f.enable) ++ flop_letters f

-- D, C, and where they are there E and R
abbrev pub flop_inputs : Flop → List ℕ
flop_inputs f =
    codes "DC" ++ ((if is_some f.enable then codes "E" else []) ++ (if is_some f.reset then codes "R" else []))

-- the name of a cell in a netlist
unfoldable pub cell_name : CellKind → List ℕ
cell_name (cell.Gate kind) = (gate kind).name
cell_name (cell.Flop f) = flop_name f

-- the letters of its inputs, in order
unfoldable pub input_letters : CellKind → List ℕ
input_letters (cell.Gate kind) = (gate kind).inputs
input_letters (cell.Flop f) = flop_inputs f

-- Y of a gate, Q of a flip-flop
abbrev pub output_letter : CellKind → ℕ
output_letter (cell.Gate kind) = 89
output_letter (cell.Flop f) = 81

-- the value of a gate whose inputs have these values, in order
unfoldable pub gate_value : GateKind → List Bool → Bool
gate_value kind values = meaning bits (beside false (gate kind).inputs values) (gate kind).formula
