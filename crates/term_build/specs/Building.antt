-- How an instance is built: a table grows by the terms that are made, and rows are kept for parts, bits and cells.
use Rattle.std.specs.Prelude.{ℕ, ◌+◌, ◌-◌, ◌*◌, ◌<◌, ◌≤◌, ◌≡◌, ◌≢◌, Bool, true, false, IsTrue, List, [], ◌∷◌, ◌++◌, map, length, slice_get, slice_index_or, All, Result, MatchResult, Option, Some, None}
use Rattle.std.specs.List.{AllPairs, flat_map}
use Rattle.std.specs.Option.{option_map_or}
use Rattle.std.specs.declared.alloc.Global.{Global}
use Rattle.std.specs.declared.vec.Vec.{Vec}
use Rattle.cell_kinds.specs.declared.kind.CellKind.{CellKind}
use Rattle.cell_kinds.specs.declared.kind.CellKind.TheVariants as kind
use Rattle.cell_kinds.specs.declared.kind.Flop.{Flop}
use Rattle.circuit_types.specs.declared.circuit.Circuit.{Circuit}
use Rattle.circuit_types.specs.declared.circuit.Timing.{Timing}
use Rattle.circuit_types.specs.declared.circuit.Timing.TheVariants.{Settled, Cycles}
use Rattle.circuit_types.specs.declared.nets.NetCell.{NetCell}
use Rattle.circuit_types.specs.declared.nets.Nets.{Nets}
use Rattle.circuit_types.specs.declared.nets.Source.{Source}
use Rattle.circuit_types.specs.declared.nets.Source.TheVariants as source
use Rattle.circuit_types.specs.declared.refusal.Refusal.TheVariants.{Limit}
use Rattle.circuit_types.specs.declared.refusal.Stop.{Stop}
use Rattle.circuit_types.specs.declared.refusal.Which.TheVariants as which
use Rattle.circuit_types.specs.declared.roles.InputRole.{InputRole}
use Rattle.circuit_types.specs.declared.roles.Role.{Role}
use Rattle.circuit_types.specs.declared.roles.Role.TheVariants as role
use Rattle.circuit_types.specs.declared.roles.Roles.{Roles}
use Rattle.circuit_types.specs.Causes.{IsRefusal}
use Rattle.circuit_types.specs.DataSources.{pin_sources, data_source, IsWithin}
use Rattle.circuit_types.specs.Order.{has, is_ready}
use Rattle.circuit_types.specs.Probes.{cycles}
use Rattle.circuit_types.specs.Value.{start_value}
use Rattle.circuit_types.specs.Worlds.{Inputs}
use Rattle.circuit_types.specs.declared.probes.Probe.{Probe}
use Rattle.expr_table.specs.declared.instance.Notion.{Notion}
use Rattle.expr_table.specs.declared.instance.ProbeRoots.{ProbeRoots}
use Rattle.expr_table.specs.declared.node.Node.{Node}
use Rattle.expr_table.specs.declared.node.Row.{Row}
use Rattle.expr_table.specs.Table.{Table, Extends, IsRowOf, most_rows, terms}
use Rattle.expr_table.specs.Term.{Term, Zero, One, xor_of, and_of, not_of}
use Rattle.term_build.specs.declared.cycle_rows.CycleRows.{CycleRows}
use Rattle.term_build.specs.declared.parts.Operand.{Operand}
use Rattle.term_build.specs.declared.parts.Operand.TheVariants as operand
use Rattle.term_build.specs.declared.parts.Part.{Part}
use Rattle.term_build.specs.declared.parts.Part.TheVariants as part
use Rattle.term_build.specs.InputTerms.{share_bits, share_term, made_for_inputs}
use Rattle.term_build.specs.Leaves.{given_term, drawn_term}
use Rattle.term_build.specs.SourceTerms.{source_term}
use Rattle.term_build.specs.TermInstance.{with_terms, cell_parts, made_terms, input_count, random_count}

-- the table has grown by these terms, each where it was not there
pub record Grows (old new : Table) (made : List Term) : Type 0 where
  pub rows : terms new.nodes ≡ with_terms (terms old.nodes) made
  pub kept : Extends old new

-- these terms need more rows than a table has
pub record IsShort (old : Table) (made : List Term) : Type 0 where
  pub too_many : most_rows < length (with_terms (terms old.nodes) made)

-- why making these terms stopped: memory was refused, or they need too many rows
abbrev pub StopsAt : Table → List Term → Stop → Type 0
StopsAt old made stop = IsRefusal (λ refusal. (refusal ≡ Limit which.Terms) × IsShort old made) stop

-- the row of a term, once all that leads to it is made
pub record MadeRow (old new : Table) (made : List Term) (t : Term) (row : ℕ) : Type 0 where
  pub grows : Grows old new made
  pub row_is : IsRowOf new.nodes row t

-- making these terms, the last of which is wanted
abbrev pub Makes : Table → Table → List Term → Term → Result Row Stop → Type 0
Makes old new made t result = MatchResult result (λ (row : Row). MadeRow old new made t row.0) (StopsAt old made)

-- the row at a place, and Zero's row past the end
abbrev pub row_at : List Row → ℕ → ℕ
row_at rows i = (slice_index_or rows i (record { 0 = 0 })).0

-- rows of the table, and Zero's row past the end
pub record AreRows (nodes : List Node) (rows : List Row) : Type 0 where
  pub each : (i : ℕ) → row_at rows i < length nodes

-- each row has its term; past the end stands Zero
pub record ShowRows (nodes : List Node) (rows : List Row) (ts : List Term) : Type 0 where
  pub one_each : length rows ≡ length ts
  pub each : (i : ℕ) → IsRowOf nodes (row_at rows i) (slice_index_or ts i Zero)

-- by number, each row has its term
pub record ShowBits (nodes : List Node) (rows : List Row) (term : ℕ → Term) : Type 0 where
  pub each : (b : ℕ) → IsRowOf nodes (row_at rows b) (term b)

-- the term of an operand, over those of the pins and of the parts before
abbrev pub operand_term : List Term → List Term → Operand → Term
operand_term pins made operand.One = One
operand_term pins made (operand.Pin i) = slice_index_or pins i Zero
operand_term pins made (operand.Part i) = slice_index_or made i Zero

-- the term of a part
abbrev pub part_term : List Term → List Term → Part → Term
part_term pins made (part.Not a) = not_of (operand_term pins made a)
part_term pins made (part.Both a b) = and_of (operand_term pins made a) (operand_term pins made b)
part_term pins made (part.Differ a b) = xor_of (operand_term pins made a) (operand_term pins made b)

-- the terms of parts that follow those made
abbrev pub run_parts : List Term → List Term → List Part → List Term
run_parts pins made [] = made
run_parts pins made (p ∷ ps) = run_parts pins (made ++ part_term pins made p ∷ []) ps

-- the row that is kept for a source
abbrev pub row_of : CycleRows → Source → ℕ
row_of rows (source.Input bit) = row_at rows.bits.items bit
row_of rows (source.Cell k) = row_at rows.cells.items k
row_of rows source.One = 1
row_of rows other = 0

abbrev pub row_kept : CycleRows → Source → Row
row_kept rows s = record { 0 = row_of rows s }

-- the row of a constant bit
abbrev pub constant_row : Bool → ℕ
constant_row true = 1
constant_row false = 0

-- the row that a flip-flop keeps in the cycle after those done
abbrev pub kept_row : Timing → CycleRows → List CycleRows → NetCell → Flop → ℕ
kept_row Settled rows done cell f = row_of rows (data_source cell)
kept_row (Cycles n) rows done cell f =
    option_map_or (λ (before : CycleRows). row_of before (data_source cell)) (slice_get done (length done - 1)) (constant_row (start_value (kind.Flop f)))

-- Zero and One have their rows
pub record HasConstants (nodes : List Node) : Type 0 where
  pub zero_row : IsRowOf nodes 0 Zero
  pub one_row : IsRowOf nodes 1 One

-- all rows that are kept are rows of the table
pub record AreCycleRows (nodes : List Node) (rows : CycleRows) : Type 0 where
  pub each : (s : Source) → row_of rows s < length nodes

pub record AreCycles (nodes : List Node) (done : List CycleRows) : Type 0 where
  pub each : (c : ℕ) (d : CycleRows) → c < length done → AreCycleRows nodes (slice_index_or done c d)

-- in a cycle: each source of the nets has the row of its term
pub record ShowsCycle (nets : Nets) (nodes : List Node) (term : Source → Term) (rows : CycleRows) : Type 0 where
  pub each : (s : Source) → IsWithin nets s → IsRowOf nodes (row_of rows s) (term s)

-- each cycle done has the rows of its terms
pub record ShowCycles (nets : Nets) (nodes : List Node) (term : ℕ → Source → Term) (done : List CycleRows) : Type 0 where
  pub each : (c : ℕ) (d : CycleRows) → c < length done → ShowsCycle nets nodes (term c) (slice_index_or done c d)

-- what a cell reads has its rows: a gate's pins, and what a flip-flop keeps
abbrev pub IsShownCell : List Node → Timing → CycleRows → List CycleRows → (Source → Term) → Term → NetCell → CellKind → Type 0
IsShownCell nodes timing rows done term kept cell (kind.Gate g) = All (λ s. IsRowOf nodes (row_of rows s) (term s)) (pin_sources cell)
IsShownCell nodes timing rows done term kept cell (kind.Flop f) = IsRowOf nodes (kept_row timing rows done cell f) kept

-- the cells of a cycle are made, and each source has its row; or why not
pub record MadeCells (circuit : Circuit) (old new : Table) (term : Source → Term) (rows : CycleRows) : Type 0 where
  pub grows : Grows old new (flat_map (cell_parts circuit.nets term) circuit.order)
  pub shows : ShowsCycle circuit.nets new.nodes term rows

abbrev pub MakesCells : Circuit → Table → Table → (Source → Term) → Result CycleRows Stop → Type 0
MakesCells circuit old new term result =
    MatchResult result (MadeCells circuit old new term) (StopsAt old (flat_map (cell_parts circuit.nets term) circuit.order))

-- the row of an input bit by its role, from those of leaves and of shares
abbrev pub role_row : List Row → List Row → List Row → ℕ → Role → ℕ
role_row given drawn shares bit (role.Share s i) = row_at shares bit
role_row given drawn shares bit role.Random = row_at drawn bit
role_row given drawn shares bit role.Public = row_at given bit
role_row given drawn shares bit role.Clock = 0
role_row given drawn shares bit (role.Held v) = constant_row v

-- there are so many bits, each with one role at most
pub record IsForInputs (count : ℕ) (roles : Roles) : Type 0 where
  pub within : All (λ (x : InputRole). x.bit < count) roles.inputs
  pub one_role : AllPairs (λ (x y : InputRole). x.bit ≢ y.bit) roles.inputs

-- by secret and share, the bit of each share
pub record AreShareBits (roles : Roles) (bits : List ℕ) : Type 0 where
  pub count : length bits ≡ length roles.secrets * roles.shares
  pub each : (s i : ℕ) → s < length roles.secrets → i < roles.shares → share_bits roles s i ≡ slice_index_or bits (s * roles.shares + i) 0 ∷ []

-- the share has its row, at the bit that it is
abbrev pub IsShownShare : Inputs → Roles → Timing → List Node → List Row → InputRole → Role → Type 0
IsShownShare inputs roles timing nodes rows x (role.Share s i) =
    IsRowOf nodes (row_at rows x.bit) (share_term inputs roles (given_term inputs roles timing) (drawn_term inputs roles timing) x.bit s i)
IsShownShare inputs roles timing nodes rows x other = Unit {0}

-- each share has its row
pub record ShowShares (inputs : Inputs) (roles : Roles) (timing : Timing) (nodes : List Node) (rows : List Row) : Type 0 where
  pub each : All (λ (x : InputRole). IsShownShare inputs roles timing nodes rows x x.role) roles.inputs

-- the shares are made, and each has its row; or why not
pub record MadeShares (inputs : Inputs) (roles : Roles) (timing : Timing) (old new : Table) (rows : List Row) : Type 0 where
  pub grows : Grows old new (made_for_inputs inputs roles timing)
  pub shows : ShowShares inputs roles timing new.nodes rows

abbrev pub MakesShares : Inputs → Roles → Timing → Table → Table → Result (Vec Row Global) Stop → Type 0
MakesShares inputs roles timing old new result =
    MatchResult result (λ rows. MadeShares inputs roles timing old new rows.items) (StopsAt old (made_for_inputs inputs roles timing))

-- the rows of all cycles are made; or why not
pub record MadeCycles (notion : Notion) (roles : Roles) (circuit : Circuit) (old new : Table) (rows : List CycleRows) : Type 0 where
  pub grows : Grows old new (made_terms notion roles circuit)
  pub one_each : length rows ≡ cycles circuit.timing
  pub shows : ShowCycles circuit.nets new.nodes (source_term notion roles circuit) rows

abbrev pub MakesCycles : Notion → Roles → Circuit → Table → Table → Result (Vec CycleRows Global) Stop → Type 0
MakesCycles notion roles circuit old new result =
    MatchResult result (λ rows. MadeCycles notion roles circuit old new rows.items) (StopsAt old (made_terms notion roles circuit))

-- the table has the leaves of the circuit, and its rows are few
pub record HasLeaves (notion : Notion) (roles : Roles) (circuit : Circuit) (table : Table) : Type 0 where
  pub inputs : table.inputs ≡ input_count notion roles circuit
  pub randoms : table.randoms ≡ random_count notion roles circuit
  pub few_inputs : table.inputs ≤ most_rows
  pub few_randoms : table.randoms ≤ most_rows
  pub constants : HasConstants table.nodes

-- the secret bit of a share
abbrev pub secret_of : Role → Option ℕ
secret_of (role.Share s i) = Some s
secret_of other = None

-- the roots of a probe, from the rows of the cycles
pub record AreRootsIn (rows : List CycleRows) (roots : ProbeRoots) (probe : Probe) : Type 0 where
  pub rows_are : (d : CycleRows) → roots.rows ≡ map (row_kept (slice_index_or rows probe.cycle d)) probe.seen
  pub output : roots.output ≡ probe.output

-- the parts so far are made, and each has its row
pub record MadeParts (old new : Table) (pins : List Term) (parts : List Part) (made : List Row) : Type 0 where
  pub grows : Grows old new (run_parts pins [] parts)
  pub shows : ShowRows new.nodes made (run_parts pins [] parts)

-- some cells of a cycle are made, and each source that is no other cell has its row
pub record MadeSome (circuit : Circuit) (old new : Table) (term : Source → Term) (cells : List ℕ) (rows : CycleRows) : Type 0 where
  pub grows : Grows old new (flat_map (cell_parts circuit.nets term) cells)
  pub shows : (s : Source) → IsWithin circuit.nets s → IsTrue (is_ready (has cells) s) → IsRowOf new.nodes (row_of rows s) (term s)

-- the rows stay, and this is one of the new table's
pub record HoldsRow (old new : Table) (row : ℕ) : Type 0 where
  pub kept : Extends old new
  pub within : row < length new.nodes
