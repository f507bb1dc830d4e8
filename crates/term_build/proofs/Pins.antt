-- The rows of what cells read.
use Rattle.std.proofs.Common.{◌≡◌, ◌-◌, ◌<◌, ℕ, zero, suc, Bool, true, false, List, [], ◌∷◌, length, map, get_or, slice_get, All, Option, Some, None, refl, ap, subst, arith}
use Rattle.std.specs.Option.{option_map_or}
use Rattle.std.proofs.lemmas.Option.{get_or_from_slice_get, slice_get_within}
use Rattle.cell_kinds.specs.declared.kind.CellKind.TheVariants.{Flop}
use Rattle.cell_kinds.specs.declared.kind.Flop.{Flop as AnyFlop}
use Rattle.circuit_types.specs.declared.circuit.Timing.{Timing}
use Rattle.circuit_types.specs.declared.circuit.Timing.TheVariants.{Settled, Cycles}
use Rattle.circuit_types.specs.declared.nets.NetCell.{NetCell}
use Rattle.circuit_types.specs.declared.nets.Pin.{Pin}
use Rattle.circuit_types.specs.declared.nets.Source.{Source}
use Rattle.circuit_types.specs.declared.nets.Source.TheVariants as source
use Rattle.circuit_types.specs.DataSources.{data_source}
use Rattle.circuit_types.specs.Value.{start_value}
use Rattle.expr_table.specs.declared.node.Node.{Node}
use Rattle.expr_table.specs.declared.node.Row.{Row}
use Rattle.expr_table.specs.Table.{IsRowOf}
use Rattle.expr_table.specs.Term.{Term, Zero}
use Rattle.term_build.specs.declared.cycle_rows.CycleRows.{CycleRows}
use Rattle.term_build.specs.Building.{AreCycleRows, AreCycles, AreRows, HasConstants, ShowRows, constant_row, kept_row, row_at, row_kept, row_of}

module _ (nodes : List Node) (rows : CycleRows) where
  abbrev kept_rows : List Pin → List Row
  kept_rows pins = map (λ (pin : Pin). row_kept rows pin.source) pins

  pin-each : AreCycleRows nodes rows → (pins : List Pin) (i : ℕ) → row_at (kept_rows pins) i < length nodes
  pin-each are [] zero = are.each source.Zero
  pin-each are [] (suc i) = are.each source.Zero
  pin-each are (pin ∷ pins) zero = are.each pin.source
  pin-each are (pin ∷ pins) (suc i) = pin-each are pins i

  pub pins-are : AreCycleRows nodes rows → (pins : List Pin) → AreRows nodes (kept_rows pins)
  pins-are are pins = record { each = pin-each are pins }

  module _ (term : Source → Term) (zero_row : IsRowOf nodes 0 Zero) where
    show-each : (pins : List Pin) → All (λ s. IsRowOf nodes (row_of rows s) (term s)) (map (λ (pin : Pin). pin.source) pins)
        → (i : ℕ) → IsRowOf nodes (row_at (kept_rows pins) i) (get_or (map term (map (λ (pin : Pin). pin.source) pins)) i Zero)
    show-each [] all zero = zero_row
    show-each [] all (suc i) = zero_row
    show-each (pin ∷ pins) all zero = all 0 pin.source (omega arith)
    show-each (pin ∷ pins) all (suc i) = show-each pins (λ k d lt. all (suc k) d (omega arith)) i

    same-length : (pins : List Pin) → length (kept_rows pins) ≡ length (map term (map (λ (pin : Pin). pin.source) pins))
    same-length [] = refl
    same-length (pin ∷ pins) = ap suc (same-length pins)

    pub pins-show : (pins : List Pin) → All (λ s. IsRowOf nodes (row_of rows s) (term s)) (map (λ (pin : Pin). pin.source) pins) → ShowRows nodes (kept_rows pins) (map term (map (λ (pin : Pin). pin.source) pins))
    pins-show pins all = record { one_each = same-length pins; each = show-each pins all }

-- what a flip-flop keeps is a row of the table
module _ (nodes : List Node) (has : HasConstants nodes) where
  constant-within : (b : Bool) → constant_row b < length nodes
  constant-within true = has.one_row.within
  constant-within false = has.zero_row.within

  by-last : (cell : NetCell) (b : Bool) (o : Option CycleRows) → ((d : CycleRows) → o ≡ Some d → AreCycleRows nodes d)
      → option_map_or (λ (before : CycleRows). row_of before (data_source cell)) o (constant_row b) < length nodes
  by-last cell b None are = constant-within b
  by-last cell b (Some d) are = (are d refl).each (data_source cell)

  pub kept-within : (timing : Timing) (rows : CycleRows) (done : List CycleRows) (cell : NetCell) (f : AnyFlop) → AreCycleRows nodes rows → AreCycles nodes done → kept_row timing rows done cell f < length nodes
  kept-within Settled rows done cell f are all = are.each (data_source cell)
  kept-within (Cycles n) rows done cell f are all =
      by-last cell (start_value (Flop f)) (slice_get done (length done - 1))
      (λ d at. subst (AreCycleRows nodes) (get_or_from_slice_get done (length done - 1) d d at) (all.each (length done - 1) d (slice_get_within done (length done - 1) d at)))
