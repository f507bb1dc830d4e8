use Rattle.std.proofs.Common.{◌∙◌, sym}
use Rattle.frontier_core.proofs.Verdicts.{failed_more}
use Rattle.frontier_core.proofs.answer.failed_tuple.Goals as goal

pub loop-one-preserved : goal.loop-one-preserved
loop-one-preserved c =
    failed_more c.args.ended.now c.loop-one.one-index c.one-item.result c.args.rank c.loop-one-test.true c.one-item.is c.loop-one.invariant (sym c.has_failed.ensures ∙ c.if-has_failed.false)
