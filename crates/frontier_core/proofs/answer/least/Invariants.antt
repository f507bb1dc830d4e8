use Rattle.std.proofs.Common.{◌≡◌, ◌≤◌, ℕ, true, take}
use Rattle.expr_table.specs.Table.{has}
use Rattle.frontier_core.proofs.answer.least.Given as goal

abbrev pub invariant-loop-rank : goal.invariant-loop-rank
invariant-loop-rank l = (has l.ranks l.least ≡ true) × ((other : ℕ) → has (take l.rank-index l.ranks) other ≡ true → l.least ≤ other)
