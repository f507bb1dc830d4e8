-- The value of a source. An assignment gives a bit for each input bit, by its number, and each cycle.
use Rattle.std.specs.Prelude.{ℕ, zero, suc, ◌<◌, ◌≡◌, Bool, true, false, List, ◌∷◌, map, length, slice_index_or}
use Rattle.std.specs.Option.{option_map_or}
use Rattle.cell_kinds.specs.Cells.{gate_value}
use Rattle.cell_kinds.specs.declared.kind.CellKind.{CellKind}
use Rattle.cell_kinds.specs.declared.kind.CellKind.TheVariants.{Gate, Flop}
use Rattle.cell_kinds.specs.declared.kind.Flop.{Flop as AnyFlop}
use Rattle.cell_kinds.specs.declared.kind.GateKind.{GateKind}
use Rattle.cell_kinds.specs.declared.kind.Reset.{Reset}
use Rattle.circuit_types.specs.declared.circuit.Timing.{Timing}
use Rattle.circuit_types.specs.declared.circuit.Timing.TheVariants.{Settled, Cycles}
use Rattle.circuit_types.specs.declared.nets.Nets.{Nets}
use Rattle.circuit_types.specs.declared.nets.Source.{Source}
use Rattle.circuit_types.specs.declared.nets.Source.TheVariants as source
use Rattle.circuit_types.specs.DataSources.{cell_at, pin_sources, data_source, gate_sources, settled_sources}
use Rattle.circuit_types.specs.Order.{AllSettled}
use Rattle.circuit_types.specs.Found.{found}

-- a bit for each input bit and each cycle
abbrev pub Assignment : Type 0
Assignment = ℕ → ℕ → Bool

-- the value of a source that is no cell
abbrev pub leaf_value : Assignment → ℕ → Source → Bool
leaf_value env cycle (source.Input bit) = env bit cycle
leaf_value env cycle source.One = true
leaf_value env cycle other = false

-- the value of a cell whose sources have these values: a gate's by the cell table, a flip-flop's is the first one
abbrev pub settled_cell_value : CellKind → List Bool → Bool
settled_cell_value (Gate g) values = gate_value g values
settled_cell_value (Flop f) values = slice_index_or values 0 false

-- the value of a cell whose sources have these values: a gate's by the cell table, a flip-flop's is the one it keeps
abbrev pub kept_cell_value : Bool → CellKind → List Bool → Bool
kept_cell_value kept (Gate g) values = gate_value g values
kept_cell_value kept (Flop f) values = kept

-- the value of a flip-flop in the first cycle: its reset value, or else 0
abbrev pub start_value : CellKind → Bool
start_value (Flop f) = option_map_or (λ (reset : Reset). reset.value) f.reset false
start_value (Gate g) = false

-- the values once all is settled: a flip-flop has the value of its data input
abbrev pub settled_value : Nets → Assignment → ℕ → Source → Bool
settled_value nets env cycle = found (leaf_value env cycle) (λ k. settled_cell_value (cell_at nets k).kind) settled_sources nets

-- the values in a cycle in which each flip-flop keeps this value
abbrev pub value_in_cycle : Nets → Assignment → ℕ → (ℕ → Bool) → Source → Bool
value_in_cycle nets env cycle kept = found (leaf_value env cycle) (λ k. kept_cell_value (kept k) (cell_at nets k).kind) gate_sources nets

-- the values in each cycle: a flip-flop keeps its start value in cycle 0, and in each later cycle the value that its
-- data input had in the cycle before
abbrev pub cycle_value : Nets → Assignment → ℕ → Source → Bool
cycle_value nets env zero = value_in_cycle nets env 0 (λ k. start_value (cell_at nets k).kind)
cycle_value nets env (suc c) = value_in_cycle nets env (suc c) (λ k. cycle_value nets env c (data_source (cell_at nets k)))

-- The value of a source in a cycle. It is meant where every cell is settled; there the law `value_is_by_cells` says what
-- it is.
unfoldable pub value : Timing → Nets → Assignment → ℕ → Source → Bool
value Settled nets env cycle = settled_value nets env cycle
value (Cycles n) nets env cycle = cycle_value nets env cycle

-- what holds of the values: constants, inputs and gates
pub record GatesHaveValues (nets : Nets) (env : Assignment) (v : ℕ → Source → Bool) : Type 0 where
  pub zero_bit : (c : ℕ) → v c source.Zero ≡ false
  pub one_bit : (c : ℕ) → v c source.One ≡ true
  pub input : (c bit : ℕ) → v c (source.Input bit) ≡ env bit c
  pub gate : (c k : ℕ) (g : GateKind) → k < length nets.cells → (cell_at nets k).kind ≡ Gate g → v c (source.Cell k) ≡ gate_value g (map (v c) (pin_sources (cell_at nets k)))

-- and flip-flops
abbrev pub FlopsHaveValues : Timing → Nets → (ℕ → Source → Bool) → Type 0
FlopsHaveValues Settled nets v =
    (c k : ℕ) (f : AnyFlop) → k < length nets.cells → (cell_at nets k).kind ≡ Flop f → v c (source.Cell k) ≡ v c (data_source (cell_at nets k))
FlopsHaveValues (Cycles n) nets v =
    (k : ℕ) (f : AnyFlop) → k < length nets.cells → (cell_at nets k).kind ≡ Flop f
    → (v 0 (source.Cell k) ≡ start_value (Flop f)) × ((c : ℕ) → v (suc c) (source.Cell k) ≡ v c (data_source (cell_at nets k)))

-- where every cell is settled, each source has the value that its kind gives it of the sources that it reads
abbrev pub ValueIsByCells : Type 0
ValueIsByCells = (timing : Timing) (nets : Nets) (env : Assignment) → AllSettled timing nets
    → GatesHaveValues nets env (value timing nets env) × FlopsHaveValues timing nets (value timing nets env)
