-- The term of a source, built as `value` builds its value. An assignment gives a term for each input bit and each cycle.
use Rattle.std.specs.Prelude.{ℕ, zero, suc, ◌<◌, ◌≡◌, List, map, length, slice_index_or}
use Rattle.cell_kinds.specs.declared.kind.CellKind.{CellKind}
use Rattle.cell_kinds.specs.declared.kind.CellKind.TheVariants.{Gate, Flop}
use Rattle.cell_kinds.specs.declared.kind.Flop.{Flop as AnyFlop}
use Rattle.cell_kinds.specs.declared.kind.GateKind.{GateKind}
use Rattle.circuit_types.specs.declared.circuit.Circuit.{Circuit}
use Rattle.circuit_types.specs.declared.circuit.Timing.{Timing}
use Rattle.circuit_types.specs.declared.circuit.Timing.TheVariants.{Settled, Cycles}
use Rattle.circuit_types.specs.declared.nets.Nets.{Nets}
use Rattle.circuit_types.specs.declared.nets.Source.{Source}
use Rattle.circuit_types.specs.declared.nets.Source.TheVariants as source
use Rattle.circuit_types.specs.declared.roles.Roles.{Roles}
use Rattle.circuit_types.specs.DataSources.{cell_at, pin_sources, data_source, gate_sources, settled_sources}
use Rattle.circuit_types.specs.Found.{found}
use Rattle.circuit_types.specs.Order.{AllSettled}
use Rattle.circuit_types.specs.Value.{start_value}
use Rattle.expr_table.specs.declared.instance.Notion.{Notion}
use Rattle.expr_table.specs.Term.{Term, Zero, One}
use Rattle.term_build.specs.GateTerms.{gate_term}
use Rattle.term_build.specs.InputTerms.{constant, bit_term}
use Rattle.term_build.specs.Leaves.{inputs_of}

-- a term for each input bit and each cycle
abbrev pub TermAssignment : Type 0
TermAssignment = ℕ → ℕ → Term

-- the term of a source that is no cell; one without a meaning has Zero
abbrev pub leaf_source_term : TermAssignment → ℕ → Source → Term
leaf_source_term assigned cycle (source.Input bit) = assigned bit cycle
leaf_source_term assigned cycle source.One = One
leaf_source_term assigned cycle other = Zero

-- the term of a cell whose sources have these terms: a gate's by the cell table, a flip-flop's is the first one
abbrev pub settled_cell_term : CellKind → List Term → Term
settled_cell_term (Gate g) ts = gate_term g ts
settled_cell_term (Flop f) ts = slice_index_or ts 0 Zero

-- the term of a cell whose sources have these terms: a gate's by the cell table, a flip-flop's is the one it keeps
abbrev pub kept_cell_term : Term → CellKind → List Term → Term
kept_cell_term kept (Gate g) ts = gate_term g ts
kept_cell_term kept (Flop f) ts = kept

-- the terms once all is settled: a flip-flop has the term of its data input
abbrev pub settled_term : Nets → TermAssignment → ℕ → Source → Term
settled_term nets assigned cycle =
    found (leaf_source_term assigned cycle) (λ k. settled_cell_term (cell_at nets k).kind) settled_sources nets

-- the terms in a cycle in which each flip-flop keeps this term
abbrev pub term_in_cycle : Nets → TermAssignment → ℕ → (ℕ → Term) → Source → Term
term_in_cycle nets assigned cycle kept =
    found (leaf_source_term assigned cycle) (λ k. kept_cell_term (kept k) (cell_at nets k).kind) gate_sources nets

-- the terms in each cycle: a flip-flop has its start value in cycle 0, and in each later cycle the term that its data input
-- had in the cycle before
abbrev pub cycle_term : Nets → TermAssignment → ℕ → Source → Term
cycle_term nets assigned zero = term_in_cycle nets assigned 0 (λ k. constant (start_value (cell_at nets k).kind))
cycle_term nets assigned (suc c) = term_in_cycle nets assigned (suc c) (λ k. cycle_term nets assigned c (data_source (cell_at nets k)))

-- The term of a source in a cycle, where input bits have these terms. It is meant where every cell is settled; there the law
-- `term_is_by_cells` says what it is.
unfoldable pub assigned_term : Timing → Nets → TermAssignment → ℕ → Source → Term
assigned_term Settled nets assigned cycle = settled_term nets assigned cycle
assigned_term (Cycles n) nets assigned cycle = cycle_term nets assigned cycle

-- the term of a source in a cycle, under a notion
abbrev pub source_term : Notion → Roles → Circuit → ℕ → Source → Term
source_term notion roles circuit = assigned_term circuit.timing circuit.nets (bit_term (inputs_of notion) roles circuit.timing)

-- what holds of the terms: constants, inputs and gates
pub record GatesHaveTerms (nets : Nets) (assigned : TermAssignment) (t : ℕ → Source → Term) : Type 0 where
  pub zero_bit : (c : ℕ) → t c source.Zero ≡ Zero
  pub one_bit : (c : ℕ) → t c source.One ≡ One
  pub unknown_bit : (c : ℕ) → t c source.Unknown ≡ Zero
  pub missing : (c : ℕ) → t c source.Missing ≡ Zero
  pub input : (c bit : ℕ) → t c (source.Input bit) ≡ assigned bit c
  pub gate : (c k : ℕ) (g : GateKind) → k < length nets.cells → (cell_at nets k).kind ≡ Gate g
      → t c (source.Cell k) ≡ gate_term g (map (t c) (pin_sources (cell_at nets k)))

-- and flip-flops
abbrev pub FlopsHaveTerms : Timing → Nets → (ℕ → Source → Term) → Type 0
FlopsHaveTerms Settled nets t =
    (c k : ℕ) (f : AnyFlop) → k < length nets.cells → (cell_at nets k).kind ≡ Flop f → t c (source.Cell k) ≡ t c (data_source (cell_at nets k))
FlopsHaveTerms (Cycles n) nets t =
    (k : ℕ) (f : AnyFlop) → k < length nets.cells → (cell_at nets k).kind ≡ Flop f
    → (t 0 (source.Cell k) ≡ constant (start_value (Flop f))) × ((c : ℕ) → t (suc c) (source.Cell k) ≡ t c (data_source (cell_at nets k)))

-- where every cell is settled, each source has the term that its kind gives it of the sources that it reads
abbrev pub TermIsByCells : Type 0
TermIsByCells = (timing : Timing) (nets : Nets) (assigned : TermAssignment) → AllSettled timing nets
    → GatesHaveTerms nets assigned (assigned_term timing nets assigned) × FlopsHaveTerms timing nets (assigned_term timing nets assigned)
