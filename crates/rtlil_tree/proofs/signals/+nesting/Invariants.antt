use Rattle.std.proofs.Common.{◌≡◌, ◌+◌, ◌≤◌, ℕ, List, min, max, drop, map}
use Rattle.circuit_types.specs.declared.signal.Signal.{Signal}
use Rattle.rtlil_tree.specs.Statements.{nesting_of, most_of}
use Rattle.rtlil_tree.proofs.signals.+nesting.Given as goal

-- the parts seen and those that are left give the deepest of all
pub record IsSoFar (left : List Signal) (most all : ℕ) : Type 0 where
  pub small : most ≤ 64
  pub same : min (1 + max most (most_of (map nesting_of left))) 64 ≡ min all 64

abbrev pub invariant-loop-part : goal.invariant-loop-part
invariant-loop-part l = IsSoFar (drop l.part-index l.part-items) l.most (nesting_of l.fn.signal)
