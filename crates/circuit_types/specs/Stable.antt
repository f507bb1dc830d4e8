-- The stable sources behind a source: those from which a glitch may reach it. A glitch-extended probe sees their values
-- (Faust et al., TCHES 2018; Barthe et al., ESORICS 2019).
use Rattle.std.specs.Prelude.{ℕ, ◌<◌, ◌≡◌, ◌==◌, length, Bool, true, false, List, [], ◌∷◌, Option, None, Some, if◌then◌else◌}
use Rattle.std.specs.Option.{option_map_or}
use Rattle.std.specs.List.{flat_map, list_any}
use Rattle.cell_kinds.specs.declared.kind.CellKind.{CellKind}
use Rattle.cell_kinds.specs.declared.kind.CellKind.TheVariants.{Gate, Flop}
use Rattle.cell_kinds.specs.declared.kind.Flop.{Flop as AnyFlop}
use Rattle.cell_kinds.specs.declared.kind.GateKind.{GateKind}
use Rattle.circuit_types.specs.declared.nets.Nets.{Nets}
use Rattle.circuit_types.specs.declared.nets.Source.{Source}
use Rattle.circuit_types.specs.declared.nets.Source.TheVariants as source
use Rattle.circuit_types.specs.declared.roles.Roles.{Roles}
use Rattle.circuit_types.specs.DataSources.{cell_at, pin_sources, gate_sources}
use Rattle.circuit_types.specs.Order.{AllLevelled}
use Rattle.circuit_types.specs.InputBits.{role_of, is_probed}
use Rattle.circuit_types.specs.Found.{found}

-- whether two sources are one
abbrev pub is_same_source : Source → Source → Bool
is_same_source (source.Input a) (source.Input b) = a == b
is_same_source (source.Cell j) (source.Cell k) = j == k
is_same_source source.Zero source.Zero = true
is_same_source source.One source.One = true
is_same_source source.Unknown source.Unknown = true
is_same_source source.Missing source.Missing = true
is_same_source s t = false

-- the source stands in the list
abbrev pub has_source : List Source → Source → Bool
has_source sources s = list_any (is_same_source s) sources

-- an input is stable; the clock, held inputs and constants are no secret to anyone, and are not counted
abbrev pub stable_leaf : Roles → Source → List Source
stable_leaf roles (source.Input bit) = if option_map_or is_probed (role_of roles bit) false then source.Input bit ∷ [] else []
stable_leaf roles other = []

-- a register is stable itself; a gate passes on what reaches any of its inputs
abbrev pub stable_cell : CellKind → ℕ → List (List Source) → List Source
stable_cell (Flop f) k behind = source.Cell k ∷ []
stable_cell (Gate g) k behind = flat_map (λ sources. sources) behind

-- The stable sources behind a source: of an input or a register itself, of a constant, the clock and a held input none, and
-- of a gate those behind its inputs. It is meant where every gate is levelled; there the law `stable_is_by_cells` says what
-- they are.
unfoldable pub stable_sources : Roles → Nets → Source → List Source
stable_sources roles nets = found (stable_leaf roles) (λ k. stable_cell (cell_at nets k).kind k) gate_sources nets

-- what the stable sources are behind each kind of source
pub record AreStableByCells (roles : Roles) (nets : Nets) (behind : Source → List Source) : Type 0 where
  pub input : (bit : ℕ) → behind (source.Input bit) ≡ (if option_map_or is_probed (role_of roles bit) false then source.Input bit ∷ [] else [])
  pub zero_bit : behind source.Zero ≡ []
  pub one_bit : behind source.One ≡ []
  pub flop : (k : ℕ) (f : AnyFlop) → k < length nets.cells → (cell_at nets k).kind ≡ Flop f → behind (source.Cell k) ≡ source.Cell k ∷ []
  pub gate : (k : ℕ) (g : GateKind) → k < length nets.cells → (cell_at nets k).kind ≡ Gate g → behind (source.Cell k) ≡ flat_map behind (pin_sources (cell_at nets k))

-- where every gate is levelled, the stable sources are those of the cells
abbrev pub StableIsByCells : Type 0
StableIsByCells = (roles : Roles) (nets : Nets) → AllLevelled nets → AreStableByCells roles nets (stable_sources roles nets)
