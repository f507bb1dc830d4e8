-- Counts of live leaves, group by group, and the groups that have some.
use Rattle.std.specs.Prelude.{ℕ, ◌≡◌, nat_lt, Bool, ◌&&◌, IsTrue, List, Option, slice_index_or}
use Rattle.expr_table.specs.declared.node.Node.{Node}
use Rattle.expr_table.specs.Table.{node_at, has}
use Rattle.live_rows.specs.declared.mark.Mark.{Mark}
use Rattle.once_random.specs.Groups.{is_leaf_of}
use Rattle.live_rows.specs.Lists.{are_distinct}
use Rattle.live_rows.specs.Marks.{mark_at}

-- the groups counted are those with a count, each once
pub record IsTally (leaves counted : List ℕ) : Type 0 where
  pub distinct : IsTrue (are_distinct counted)
  pub each : (group : ℕ) → has counted group ≡ nat_lt 0 (slice_index_or leaves group 0)

-- the row is marked live and has an input leaf of the group
abbrev pub is_marked_leaf : List Node → List (Option ℕ) → List Mark → ℕ → ℕ → Bool
is_marked_leaf nodes groups marks group row = (mark_at marks row).live && is_leaf_of groups group (node_at nodes row)
