-- What a list of rows, cut one after another, is for some roots and a bound.
use Rattle.std.specs.Prelude.{ℕ, ◌<◌, IsTrue, IsFalse, List, length, take, slice_index}
use Rattle.expr_table.specs.declared.instance.Instance.{Instance}
use Rattle.expr_table.specs.declared.node.Node.{Node}
use Rattle.expr_table.specs.declared.node.Row.{Row}
use Rattle.expr_table.specs.Table.{numbers}
use Rattle.once_random.specs.Cuts.{IsChain, cuts_of, is_allowed}
use Rattle.once_random.specs.Groups.{is_within}
use Rattle.chain_check.specs.declared.answer.ChainAnswer.{ChainAnswer}
use Rattle.chain_check.specs.declared.answer.ChainAnswer.TheVariants.{Holds, BadCut, OverBound}

-- the cuts before this place are a chain, and the one at this place is not allowed after them
pub record IsFirstBadCut (nodes : List Node) (roots : List ℕ) (cuts : List Row) (place : ℕ) : Type 0 where
  pub within : place < length cuts
  pub before : IsChain nodes roots (cuts_of (take place cuts))
  pub bad : IsFalse (is_allowed nodes roots (cuts_of (take place cuts)) (slice_index (numbers cuts) place))

-- this is the right answer
abbrev pub IsAnswer : Instance → List ℕ → ℕ → List Row → ChainAnswer → Type 0
IsAnswer x roots m cuts Holds =
    IsChain x.table.nodes roots (cuts_of cuts) × IsTrue (is_within x roots (cuts_of cuts) m)
IsAnswer x roots m cuts OverBound =
    IsChain x.table.nodes roots (cuts_of cuts) × IsFalse (is_within x roots (cuts_of cuts) m)
IsAnswer x roots m cuts (BadCut place) = IsFirstBadCut x.table.nodes roots cuts place
