use Rattle.std.proofs.Common.{◌≡◌, ◌<◌, ℕ, All, length}
use Rattle.expr_table.specs.Instance.{rows_of}
use Rattle.expr_table.specs.declared.node.Row.{Row}
use Rattle.netlist_uses.proofs.checks.probes_of.Given as goal

-- the rows so far have their probes
abbrev pub invariant-loop-row : goal.invariant-loop-row
invariant-loop-row l = record {
  long : length l.probes.items ≡ l.row-index;
  within : (n : ℕ) → All (λ (row : Row). row.0 < n) l.rows → All (λ probe. All (λ row. row < n) (rows_of probe)) l.probes.items;
}
