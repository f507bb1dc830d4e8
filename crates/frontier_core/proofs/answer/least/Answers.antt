use Rattle.std.proofs.Common.{◌≡◌, ◌≤◌, ℕ, ◌+◌, subst, sym, take, true}
use Rattle.expr_table.specs.Table.{has}
use Rattle.frontier_core.proofs.Verdicts.{least_more}
use Rattle.frontier_core.proofs.answer.least.Goals as goal

pub loop-rank-preserved : goal.loop-rank-preserved
loop-rank-preserved c =
    subst (λ l. (has c.args.ranks.now l ≡ true) × ((other : ℕ) → has (take (c.loop-rank.rank-index + 1) c.args.ranks.now) other ≡ true → l ≤ other)) (sym c.min-least.ensures)
    (least_more c.args.ranks.now c.loop-rank.rank-index c.loop-rank.least c.loop-rank-test.true c.loop-rank.invariant.0 c.loop-rank.invariant.1)
