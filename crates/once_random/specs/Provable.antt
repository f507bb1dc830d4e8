-- When roots are provable within a bound: by cutting randoms that are used once, each secret can be left with so few
-- live leaves (after Barthe et al., EUROCRYPT 2015 and ESORICS 2019). Roots are a list of row numbers.
use Rattle.std.specs.Prelude.{ℕ, ◌+◌, Bool, ◌&&◌, IsTrue, List, Option, is_some}
use Rattle.expr_table.specs.declared.instance.Instance.{Instance}
use Rattle.expr_table.specs.declared.node.Node.{Node}
use Rattle.once_random.specs.Cuts.{IsChain, least_chain}
use Rattle.once_random.specs.Groups.{are_within, group_at, is_within}
use Rattle.once_random.specs.Live.{is_live}

-- over any nodes and groups: some chain for the roots leaves each group at most m live leaves
pub record IsProvableOver (nodes : List Node) (groups : List (Option ℕ)) (roots : List ℕ) (m : ℕ) : Type 0 where
  pub cuts : List ℕ
  pub chain : IsChain nodes roots cuts
  pub within : IsTrue (are_within nodes groups roots cuts m)

-- some chain for the roots leaves each group of the instance at most m live leaves
abbrev pub IsProvable : Instance → List ℕ → ℕ → Type 0
IsProvable x roots m = IsProvableOver x.table.nodes x.groups roots m

-- The least chain leaves each group at most m live leaves. The law `least_chain_decides` says that this is so
-- exactly where the roots are provable within m.
unfoldable pub is_provable : Instance → List ℕ → ℕ → Bool
is_provable x roots m = is_within x roots (least_chain x.table.nodes roots) m

-- the input leaves with a group that the least chain for the roots leaves live; input leaf i has row 2 + i
unfoldable pub leaves_left : Instance → List ℕ → ℕ → Bool
leaves_left x roots i =
    is_some (group_at x.groups i) && is_live x.table.nodes roots (least_chain x.table.nodes roots) (2 + i)
