-- Simulation over an instance: what some rows of its table have as values.
use Rattle.std.specs.Prelude.{ℕ, Bool, List}
use Rattle.expr_table.specs.declared.instance.Instance.{Instance}
use Rattle.count_law.specs.RowCounts.{count_of_rows}
use Rattle.count_law.specs.Simulation.{IsSimulatable, IsIndependent}

-- the values of the rows are simulatable from the set within the bound
abbrev pub AreSimulatableRows : Instance → List ℕ → (ℕ → Bool) → ℕ → Type 0
AreSimulatableRows x rows set bound = IsSimulatable x.groups (count_of_rows x.table rows) set bound

-- the values of the rows do not depend on the secrets
abbrev pub AreIndependentRows : Instance → List ℕ → Type 0
AreIndependentRows x rows = IsIndependent x.groups (count_of_rows x.table rows)
