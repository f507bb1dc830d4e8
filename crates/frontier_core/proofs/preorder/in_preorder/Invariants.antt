use Rattle.std.proofs.Common.{ℕ, length, reverse}
use Rattle.expr_table.specs.declared.instance.Instance.{Instance}
use Rattle.frontier_core.specs.Preorder.{IsWhole}
use Rattle.frontier_core.proofs.Halfway.{IsHalfway}
use Rattle.frontier_core.proofs.preorder.in_preorder.Given as goal

abbrev pub invariant-loop-family : goal.invariant-loop-family
invariant-loop-family l = (x : Instance) (t : ℕ) → IsWhole x t l.fn.roots.items l.fn.ended.items → IsHalfway x t (reverse l.stack.items) l.closings l.preorder.items

abbrev pub decreases-loop-family : goal.decreases-loop-family
decreases-loop-family l = length l.closings
