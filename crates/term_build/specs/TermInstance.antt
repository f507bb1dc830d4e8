-- The instance of a circuit under a notion: its rows, the roots of its probes and the groups of its input leaves.
use Rattle.std.specs.Prelude.{ℕ, ◌<◌, ◌≤◌, ◌≡◌, List, [], ◌∷◌, ◌++◌, map, length, count_by, All}
use Rattle.std.specs.List.{AllZip, flat_map, range_with_len}
use Rattle.cell_kinds.specs.declared.kind.CellKind.{CellKind}
use Rattle.cell_kinds.specs.declared.kind.CellKind.TheVariants.{Gate, Flop}
use Rattle.circuit_types.specs.declared.circuit.Circuit.{Circuit}
use Rattle.circuit_types.specs.declared.nets.Nets.{Nets}
use Rattle.circuit_types.specs.declared.nets.Source.{Source}
use Rattle.circuit_types.specs.declared.probes.Probe.{Probe}
use Rattle.circuit_types.specs.declared.refusal.Refusal.TheVariants.{Limit}
use Rattle.circuit_types.specs.declared.refusal.Which.TheVariants as which
use Rattle.circuit_types.specs.declared.roles.InputRole.{InputRole}
use Rattle.circuit_types.specs.declared.roles.Role.{Role}
use Rattle.circuit_types.specs.declared.roles.Role.TheVariants.{Share}
use Rattle.circuit_types.specs.declared.roles.Roles.{Roles}
use Rattle.circuit_types.specs.DataSources.{cell_at, pin_sources, IsWithin}
use Rattle.circuit_types.specs.Due.{Cause, of_all}
use Rattle.circuit_types.specs.Probes.{cycles, most_probes}
use Rattle.circuit_types.specs.Worlds.{input_leaves, random_leaves, group_of}
use Rattle.expr_table.specs.declared.instance.Instance.{Instance}
use Rattle.expr_table.specs.declared.instance.Notion.{Notion}
use Rattle.expr_table.specs.declared.instance.ProbeRoots.{ProbeRoots}
use Rattle.expr_table.specs.declared.node.Node.{Node}
use Rattle.expr_table.specs.Instance.{rows_of}
use Rattle.expr_table.specs.Table.{IsTable, IsRowOf, most_rows, terms, leaves, with_term}
use Rattle.expr_table.specs.Term.{Term}
use Rattle.term_build.specs.GateTerms.{gate_parts}
use Rattle.term_build.specs.InputTerms.{is_share, made_for_inputs}
use Rattle.term_build.specs.Leaves.{inputs_of}
use Rattle.term_build.specs.SourceTerms.{source_term}

-- what is made for a cell whose inputs have these terms: the parts of a gate's formula; a flip-flop has a term that is there
abbrev pub kind_parts : CellKind → List Term → List Term
kind_parts (Gate g) ts = gate_parts g ts
kind_parts (Flop f) ts = []

-- what is made for a cell, by its number
abbrev pub cell_parts : Nets → (Source → Term) → ℕ → List Term
cell_parts nets term k = kind_parts (cell_at nets k).kind (map term (pin_sources (cell_at nets k)))

-- what is made for the cells of a cycle, in the circuit's order
abbrev pub made_in_cycle : Notion → Roles → Circuit → ℕ → List Term
made_in_cycle notion roles circuit c = flat_map (cell_parts circuit.nets (source_term notion roles circuit c)) circuit.order

-- all that is made, in order: for the input bits, and then cycle by cycle for the cells
abbrev pub made_terms : Notion → Roles → Circuit → List Term
made_terms notion roles circuit =
    made_for_inputs (inputs_of notion) roles circuit.timing
    ++ flat_map (made_in_cycle notion roles circuit) (range_with_len 0 (cycles circuit.timing))

-- terms, with each of the others at the end where it was not there
abbrev pub with_terms : List Term → List Term → List Term
with_terms ts [] = ts
with_terms ts (t ∷ more) = with_terms (with_term ts t) more

-- how many input leaves there are
abbrev pub input_count : Notion → Roles → Circuit → ℕ
input_count notion roles circuit = length (input_leaves (inputs_of notion) roles circuit.timing)

-- how many random leaves there are
abbrev pub random_count : Notion → Roles → Circuit → ℕ
random_count notion roles circuit = length (random_leaves (inputs_of notion) roles circuit.timing)

-- the terms of the rows: Zero, One, the input leaves, the random leaves, and then each term where it is first made
unfoldable pub row_terms : Notion → Roles → Circuit → List Term
row_terms notion roles circuit =
    with_terms (terms (leaves (input_count notion roles circuit) (random_count notion roles circuit))) (made_terms notion roles circuit)

-- the roots of a probe are the rows of the terms of what it sees, in the probe's cycle
pub record HasRoots (nodes : List Node) (term : ℕ → Source → Term) (roots : ProbeRoots) (probe : Probe) : Type 0 where
  pub rows : AllZip (λ row s. IsRowOf nodes row (term probe.cycle s)) (rows_of roots) probe.seen
  pub output : roots.output ≡ probe.output

-- the instance of a circuit with these roles and probes, under a notion
pub record HasInstance (notion : Notion) (roles : Roles) (circuit : Circuit) (probes : List Probe) (x : Instance) : Type 0 where
  pub notion_is : x.notion ≡ notion
  pub table : IsTable x.table
  pub inputs : x.table.inputs ≡ input_count notion roles circuit
  pub randoms : x.table.randoms ≡ random_count notion roles circuit
  pub rows : terms x.table.nodes ≡ row_terms notion roles circuit
  pub roots : AllZip (HasRoots x.table.nodes (source_term notion roles circuit)) x.probes probes
  pub groups : x.groups ≡ map (group_of roles) (input_leaves (inputs_of notion) roles circuit.timing)

-- the refusal of a circuit whose terms need too many rows
unfoldable pub term_causes : Notion → Roles → Circuit → List Cause
term_causes notion roles circuit = of_all (Limit which.Terms) (most_rows < length (row_terms notion roles circuit)) ∷ []

-- the secret and the share are among those that there are
abbrev pub IsKnownShare : Roles → Role → Type 0
IsKnownShare roles (Share s i) = (s < length roles.secrets) × (i < roles.shares)
IsKnownShare roles other = Unit {0}

-- each secret bit has each of its shares once, and at least one, and there are no other shares
pub record HasEachShare (roles : Roles) : Type 0 where
  pub known : All (λ (x : InputRole). IsKnownShare roles x.role) roles.inputs
  pub once : (s i : ℕ) → s < length roles.secrets → i < roles.shares → count_by (λ (x : InputRole). is_share s i x.role) roles.inputs ≡ 1
  pub some : (s : ℕ) → s < length roles.secrets → 0 < roles.shares

-- a probe in one of the circuit's cycles, which sees sources of its nets
pub record IsProbeOf (circuit : Circuit) (probe : Probe) : Type 0 where
  pub cycle : probe.cycle < cycles circuit.timing
  pub seen : All (IsWithin circuit.nets) probe.seen

-- probes of a circuit, not too many
pub record AreProbesOf (circuit : Circuit) (probes : List Probe) : Type 0 where
  pub each : All (IsProbeOf circuit) probes
  pub few : length probes ≤ most_probes
