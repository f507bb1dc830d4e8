use Rattle.std.proofs.Common.{◌≡◌, length, take}
use Rattle.expr_table.specs.Table.{Extends}
use Rattle.term_build.specs.Building.{AreCycleRows, MadeSome, ShowBits, ShowCycles}
use Rattle.term_build.specs.SourceTerms.{TermAssignment, assigned_term}
use Rattle.term_build.proofs.cycle_rows.cell_rows.Given as goal

abbrev pub invariant-loop-cell : goal.invariant-loop-cell
invariant-loop-cell l = record {
  one_each_cell : length l.rows.cells.items ≡ length l.circuit.nets.cells;
  kept : Extends l.fn.table l.table;
  are : AreCycleRows l.table.nodes l.rows;
  cells : (assigned : TermAssignment) → ShowBits l.fn.table.nodes l.fn.bits.items (λ b. assigned b (length l.done))
      → ShowCycles l.circuit.nets l.fn.table.nodes (assigned_term l.circuit.timing l.circuit.nets assigned) l.done
      → MadeSome l.circuit l.fn.table l.table (assigned_term l.circuit.timing l.circuit.nets assigned (length l.done)) (take l.cell-index l.cell-items) l.rows;
}
