-- What the engines decide on: the rows that probes see, and when an instance is fitting.
use Rattle.std.specs.Prelude.{ℕ, ◌<◌, ◌≤◌, ◌≡◌, List, length, IfSome, All}
use Rattle.expr_table.specs.declared.instance.Instance.{Instance}
use Rattle.expr_table.specs.declared.instance.ProbeRoots.{ProbeRoots}
use Rattle.expr_table.specs.Table.{numbers}

-- the most probes that an instance has
abbrev pub most_probes : ℕ
most_probes = 65535

-- the rows that a probe sees, as numbers
abbrev pub rows_of : ProbeRoots → List ℕ
rows_of probe = numbers probe.rows

-- roots are rows of the table, and each input leaf has its group, which is below the number of input leaves
pub record IsFitting (x : Instance) : Type 0 where
  pub roots : All (λ probe. All (λ row. row < length x.table.nodes) (rows_of probe)) x.probes
  pub few_probes : length x.probes ≤ most_probes
  pub one_group_each : length x.groups ≡ x.table.inputs
  pub groups_within : All (λ group. IfSome group (λ secret. secret < x.table.inputs)) x.groups
