use Rattle.std.proofs.Common.{◌≡◌, ◌<◌, All, length}
use Rattle.expr_table.specs.Instance.{rows_of}
use Rattle.engine_uses.proofs.searches.probes_of.Given as goal

-- the rows so far have their probes
abbrev pub invariant-loop-row : goal.invariant-loop-row
invariant-loop-row g l = record {
  long : length l.probes.items ≡ l.row-index;
  within : All (λ probe. All (λ row. row < length l.table.nodes) (rows_of probe)) l.probes.items;
}
