-- The order in which cells are evaluated, and which cells can be. `reads` says which sources a cell waits for.
use Rattle.std.specs.Prelude.{ℕ, zero, suc, ◌+◌, ◌<◌, ◌≤◌, ◌≡◌, ◌==◌, ◌&&◌, not, Bool, true, IsTrue, List, [], ◌∷◌, ◌++◌, take, length, Option, slice_index}
use Rattle.std.specs.Option.{option_map_or}
use Rattle.std.specs.List.{list_any, list_all, find, range_with_len}
use Rattle.circuit_types.specs.declared.circuit.Circuit.{Circuit}
use Rattle.circuit_types.specs.declared.circuit.Timing.{Timing}
use Rattle.circuit_types.specs.declared.circuit.Timing.TheVariants.{Settled, Cycles}
use Rattle.circuit_types.specs.declared.nets.NetCell.{NetCell}
use Rattle.circuit_types.specs.declared.nets.Nets.{Nets}
use Rattle.circuit_types.specs.declared.nets.Source.{Source}
use Rattle.circuit_types.specs.declared.nets.Source.TheVariants.{Cell}
use Rattle.circuit_types.specs.DataSources.{cell_at, gate_sources, data_sources}

-- the number stands in the list
abbrev pub has : List ℕ → ℕ → Bool
has numbers n = list_any (λ m. m == n) numbers

-- the source is a constant, an input, or a cell of the set
abbrev pub is_ready : (ℕ → Bool) → Source → Bool
is_ready done (Cell k) = done k
is_ready done other = true

-- the cell is not in the set, and each source that it waits for is ready
abbrev pub may_be_next : (NetCell → List Source) → Nets → (ℕ → Bool) → ℕ → Bool
may_be_next reads nets done k = not (done k) && list_all (is_ready done) (reads (cell_at nets k))

-- of the cells that may be next, the one with the least number
abbrev pub next_cell : (NetCell → List Source) → Nets → List ℕ → Option ℕ
next_cell reads nets listed = find (may_be_next reads nets (has listed)) (range_with_len 0 (length nets.cells))

-- the list, followed by at most n further cells
abbrev pub listed_after : (NetCell → List Source) → Nets → ℕ → List ℕ → List ℕ
listed_after reads nets zero listed = listed
listed_after reads nets (suc n) listed =
    option_map_or (λ k. listed_after reads nets n (listed ++ k ∷ [])) (next_cell reads nets listed) listed

-- The list in which each next cell is the one with the least number among those that are not yet listed and whose
-- sources are listed, constants or inputs.
unfoldable pub order_of : (NetCell → List Source) → Nets → List ℕ
order_of reads nets = listed_after reads nets (length nets.cells) []

-- the order of the cells, where each waits for its data sources
abbrev pub order : Timing → Nets → List ℕ
order timing nets = order_of (data_sources timing) nets

-- A cell is settled where each of its data sources is a constant, an input or a settled cell. The law
-- `settled_is_least` says that the cells of the order are the least such set.
abbrev pub is_settled : Timing → Nets → ℕ → Bool
is_settled timing nets k = has (order timing nets) k

-- A gate is levelled where each of its inputs is a constant, an input, a register's output or a levelled gate. A
-- register waits for nothing here.
abbrev pub is_levelled : Nets → ℕ → Bool
is_levelled nets k = has (order_of gate_sources nets) k

-- The set holds each cell of the netlist whose sources are constants, inputs or cells of the set.
abbrev pub IsClosed : (NetCell → List Source) → Nets → (ℕ → Bool) → Type 0
IsClosed reads nets holds = (k : ℕ) → k < length nets.cells → IsTrue (list_all (is_ready holds) (reads (cell_at nets k))) → IsTrue (holds k)

-- it is such a set, and each such set holds all that it holds
pub record IsLeastClosed (reads : NetCell → List Source) (nets : Nets) (holds : ℕ → Bool) : Type 0 where
  pub closed : IsClosed reads nets holds
  pub least : (other : ℕ → Bool) → IsClosed reads nets other → (k : ℕ) → IsTrue (holds k) → IsTrue (other k)

-- the cells of the order are the least closed set; so with the data sources of a timing, and with those of gates alone
abbrev pub SettledIsLeast : Type 0
SettledIsLeast = (reads : NetCell → List Source) (nets : Nets) → IsLeastClosed reads nets (has (order_of reads nets))

-- at each place of the list stands a cell whose sources are constants, inputs or cells before it
abbrev pub StandsAfter : (NetCell → List Source) → Nets → List ℕ → Type 0
StandsAfter reads nets cells =
    (i : ℕ) → i < length cells → IsTrue (list_all (is_ready (has (take i cells))) (reads (cell_at nets (slice_index cells i))))

-- the order lists cells of the netlist, each once and after its sources
pub record IsOrder (reads : NetCell → List Source) (nets : Nets) (cells : List ℕ) : Type 0 where
  pub within : (k : ℕ) → IsTrue (has cells k) → k < length nets.cells
  pub once : (i : ℕ) → i < length cells → IsTrue (not (has (take i cells) (slice_index cells i)))
  pub after : StandsAfter reads nets cells

-- the order that is computed is one: each cell stands after the cells that it reads
abbrev pub OrderStandsAfter : Type 0
OrderStandsAfter = (reads : NetCell → List Source) (nets : Nets) → IsOrder reads nets (order_of reads nets)

-- each cell is settled; this is what `levels` sees to
abbrev pub AllSettled : Timing → Nets → Type 0
AllSettled timing nets = (k : ℕ) → k < length nets.cells → IsTrue (is_settled timing nets k)

-- each gate is levelled
abbrev pub AllLevelled : Nets → Type 0
AllLevelled nets = (k : ℕ) → k < length nets.cells → IsTrue (is_levelled nets k)

-- where each cell is settled, each gate is levelled
abbrev pub SettledIsLevelled : Type 0
SettledIsLevelled = (timing : Timing) (nets : Nets) → AllSettled timing nets → AllLevelled nets

-- a circuit runs 1 to 16 cycles, or settles
abbrev pub IsTiming : Timing → Type 0
IsTiming Settled = Unit {0}
IsTiming (Cycles n) = (1 ≤ n) × (n ≤ 16)

-- what `levels` gives
pub record IsLevelled (circuit : Circuit) : Type 0 where
  pub order : circuit.order ≡ order circuit.timing circuit.nets
  pub each_settled : AllSettled circuit.timing circuit.nets
  pub timing : IsTiming circuit.timing
