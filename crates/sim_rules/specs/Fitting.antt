-- What is decided over any nodes. The law `tables_are_fitting` says that a fitting instance of a table meets it.
use Rattle.std.specs.Prelude.{ℕ, ◌<◌, ◌≤◌, ◌≡◌, Bool, List, length, Option, IfSome, All}
use Rattle.expr_table.specs.declared.instance.ProbeRoots.{ProbeRoots}
use Rattle.expr_table.specs.declared.node.Node.{Node}
use Rattle.expr_table.specs.declared.node.Node.TheVariants as node
use Rattle.expr_table.specs.Instance.{rows_of}
use Rattle.expr_table.specs.Table.{node_at}
use Rattle.once_random.specs.Live.{AreLower}

-- what a list of nodes, its probes and its groups have to meet so that tuples of the probes are decided over it
pub record IsFittingOver (nodes : List Node) (probes : List ProbeRoots) (groups : List (Option ℕ)) (chosen : List Bool)
    (rows : ℕ) : Type 0 where
  -- the work lists are made for these nodes, and the set has a flag for each probe
  pub made_for : rows ≡ length nodes
  pub one_flag_each : length chosen ≡ length probes
  -- sides are lower rows, and roots are rows
  pub lower : AreLower nodes
  pub roots : All (λ probe. All (λ row. row < length nodes) (rows_of probe)) probes
  -- each input leaf has its entry, and entries are numbers of groups
  pub one_group_each : (row i : ℕ) → node_at nodes row ≡ node.Input i → i < length groups
  pub few_groups : length groups ≤ length nodes
  pub groups_within : All (λ group. IfSome group (λ g. g < length groups)) groups
