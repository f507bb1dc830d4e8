-- The rows of cells.
use Rattle.std.proofs.Common.{◌≡◌, ℕ, zero, suc, ◌<◌, Bool, true, false, List, [], ◌∷◌, length, map, get_or, All, Option, Some, None, refl, sym, ap, ◌∙◌, arith}
use Rattle.std.specs.List.{list_all}
use Rattle.std.specs.Option.{option_map_or}
use Rattle.std.proofs.lemmas.Bool.{and_parts}
use Rattle.cell_kinds.specs.declared.kind.CellKind.{CellKind}
use Rattle.cell_kinds.specs.declared.kind.CellKind.TheVariants.{Gate, Flop}
use Rattle.cell_kinds.specs.declared.kind.Flop.{Flop as AnyFlop}
use Rattle.circuit_types.specs.declared.circuit.Timing.{Timing}
use Rattle.circuit_types.specs.declared.circuit.Timing.TheVariants.{Settled, Cycles}
use Rattle.circuit_types.specs.declared.nets.NetCell.{NetCell}
use Rattle.circuit_types.specs.declared.nets.Nets.{Nets}
use Rattle.circuit_types.specs.declared.nets.Source.{Source}
use Rattle.circuit_types.specs.declared.nets.Source.TheVariants as source
use Rattle.circuit_types.specs.DataSources.{cell_at, pin_sources, data_source, IsWithin, IsWired}
use Rattle.circuit_types.specs.Order.{has, is_ready, AllSettled}
use Rattle.circuit_types.specs.Value.{start_value}
use Rattle.circuit_types.proofs.Cells.{pins_within}
use Rattle.expr_table.specs.declared.node.Node.{Node}
use Rattle.expr_table.specs.Table.{Table, Extends, IsRowOf}
use Rattle.expr_table.specs.Term.{Term, Zero, One}
use Rattle.expr_table.proofs.Facts.{Extends-row}
use Rattle.term_build.specs.Building.{HasConstants, constant_row}
use Rattle.term_build.specs.InputTerms.{constant}
use Rattle.term_build.specs.SourceTerms.{TermAssignment, assigned_term, kept_cell_term, FlopsHaveTerms}
use Rattle.term_build.proofs.ByCells.{terms_by_cells}

pub HasConstants-kept : (old new : Table) → Extends old new → HasConstants old.nodes → HasConstants new.nodes
HasConstants-kept old new kept has = record { zero_row = Extends-row old new kept 0 Zero has.zero_row; one_row = Extends-row old new kept 1 One has.one_row }

pub constant-shown : (nodes : List Node) → HasConstants nodes → (b : Bool) → IsRowOf nodes (constant_row b) (constant b)
constant-shown nodes has true = has.one_row
constant-shown nodes has false = has.zero_row

-- a source of a list whose sources are ready and within, is both
pub ready_at : (done : ℕ → Bool) (ss : List Source) (k : ℕ) (d : Source) → k < length ss → list_all (is_ready done) ss ≡ true → is_ready done (get_or ss k d) ≡ true
ready_at done [] k d lt h = absurd (omega arith)
ready_at done (s ∷ ss) zero d lt h = (and_parts (is_ready done s) (list_all (is_ready done) ss) h).0
ready_at done (s ∷ ss) (suc k) d lt h = ready_at done ss k d (omega arith) (and_parts (is_ready done s) (list_all (is_ready done) ss) h).1

-- what a cell of the netlist reads at its data input is within it
port_within : (nets : Nets) (ss : List Source) → All (IsWithin nets) ss → (k : ℕ) → IsWithin nets (get_or ss k source.Missing)
port_within nets [] all zero = tt
port_within nets [] all (suc k) = tt
port_within nets (s ∷ ss) all zero = all 0 s (omega arith)
port_within nets (s ∷ ss) all (suc k) = port_within nets ss (λ j d lt. all (suc j) d (omega arith)) k

pub data_within : (nets : Nets) (k : ℕ) → IsWired nets → k < length nets.cells → IsWithin nets (data_source (cell_at nets k))
data_within nets k wired lt = by _
  where
    by : (o : Option ℕ) → IsWithin nets (option_map_or (λ place. get_or (pin_sources (cell_at nets k)) place source.Missing) o source.Missing)
    by None = tt
    by (Some place) = port_within nets (pin_sources (cell_at nets k)) (pins_within nets k wired lt) place

-- what a flip-flop keeps in a cycle
abbrev pub kept_term : Timing → Nets → (ℕ → Source → Term) → ℕ → NetCell → Term
kept_term Settled nets term c cell = term c (data_source cell)
kept_term (Cycles n) nets term zero cell = constant (start_value cell.kind)
kept_term (Cycles n) nets term (suc c) cell = term c (data_source cell)

module _ (timing : Timing) (nets : Nets) (assigned : TermAssignment) (settled : AllSettled timing nets) where
  abbrev term : ℕ → Source → Term
  term = assigned_term timing nets assigned

  flop-term : (timing : Timing) (t : ℕ → Source → Term) → FlopsHaveTerms timing nets t → (c k : ℕ) (f : AnyFlop) → k < length nets.cells → (cell_at nets k).kind ≡ Flop f → t c (source.Cell k) ≡ kept_term timing nets t c (cell_at nets k)
  flop-term Settled t flops c k f lt is = flops c k f lt is
  flop-term (Cycles n) t flops zero k f lt is = (flops k f lt is).0 ∙ ap (λ kind. constant (start_value kind)) (sym is)
  flop-term (Cycles n) t flops (suc c) k f lt is = (flops k f lt is).1 c

  -- the term of a cell
  pub cell-term : (c k : ℕ) → k < length nets.cells → term c (source.Cell k) ≡ kept_cell_term (kept_term timing nets term c (cell_at nets k)) (cell_at nets k).kind (map (term c) (pin_sources (cell_at nets k)))
  cell-term c k lt = by (cell_at nets k).kind refl
    where
      by : (kind : CellKind) → (cell_at nets k).kind ≡ kind → term c (source.Cell k) ≡ kept_cell_term (kept_term timing nets term c (cell_at nets k)) (cell_at nets k).kind (map (term c) (pin_sources (cell_at nets k)))
      by (Gate g) is = (terms_by_cells nets assigned timing settled).0.gate c k g lt is ∙ ap (λ kind. kept_cell_term (kept_term timing nets term c (cell_at nets k)) kind (map (term c) (pin_sources (cell_at nets k)))) (sym is)
      by (Flop f) is = flop-term timing term (terms_by_cells nets assigned timing settled).1 c k f lt is ∙ ap (λ kind. kept_cell_term (kept_term timing nets term c (cell_at nets k)) kind (map (term c) (pin_sources (cell_at nets k)))) (sym is)
