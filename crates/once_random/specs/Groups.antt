-- Groups of input leaves: each secret bit has the group of its leaves, and a public leaf has none. Stated over any nodes
-- and groups, of which an instance is a case: groups has an entry for each input leaf.
use Rattle.std.specs.Prelude.{ℕ, ◌==◌, Bool, false, ◌&&◌, nat_le, List, length, Option, None, Some, slice_index_or}
use Rattle.expr_table.specs.declared.instance.Instance.{Instance}
use Rattle.expr_table.specs.declared.node.Node.{Node}
use Rattle.expr_table.specs.declared.node.Node.TheVariants as node
use Rattle.expr_table.specs.Table.{node_at}
use Rattle.once_random.specs.Numbers.{all_below, count_below}
use Rattle.once_random.specs.Live.{is_live}

-- the leaf's group is this one
abbrev pub is_group : ℕ → Option ℕ → Bool
is_group group None = false
is_group group (Some g) = g == group

-- the group of input leaf i, if it has one
abbrev pub group_at : List (Option ℕ) → ℕ → Option ℕ
group_at groups i = slice_index_or groups i None

-- input leaf i is of the group
abbrev pub is_in_group : List (Option ℕ) → ℕ → ℕ → Bool
is_in_group groups group i = is_group group (group_at groups i)

-- the node is an input leaf of the group
abbrev pub is_leaf_of : List (Option ℕ) → ℕ → Node → Bool
is_leaf_of groups group (node.Input i) = is_in_group groups group i
is_leaf_of groups group n = false

-- how many rows with an input leaf of the group are live
abbrev pub live_leaves_of : List Node → List (Option ℕ) → List ℕ → List ℕ → ℕ → ℕ
live_leaves_of nodes groups roots cuts group =
    count_below (length nodes) (λ row. is_live nodes roots cuts row && is_leaf_of groups group (node_at nodes row))

-- Each group has at most m live input leaves. Groups are numbered below the number of entries, so by the law
-- `within_is_each_group` these are all groups.
unfoldable pub are_within : List Node → List (Option ℕ) → List ℕ → List ℕ → ℕ → Bool
are_within nodes groups roots cuts m =
    all_below (length groups) (λ group. nat_le (live_leaves_of nodes groups roots cuts group) m)

-- how many input leaves of the group are live in an instance; the law `leaves_by_number` counts them by their numbers
abbrev pub live_leaves : Instance → List ℕ → List ℕ → ℕ → ℕ
live_leaves x roots cuts group = live_leaves_of x.table.nodes x.groups roots cuts group

-- each group of the instance has at most m live input leaves
abbrev pub is_within : Instance → List ℕ → List ℕ → ℕ → Bool
is_within x roots cuts m = are_within x.table.nodes x.groups roots cuts m
