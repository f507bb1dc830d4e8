use Rattle.std.proofs.Common.{arith}
use Rattle.net_build.proofs.EndLemmas.{among_at, one_replaced}
use Rattle.net_build.proofs.resolve.settle.Goals as goal

pub bounds-sources-passed : goal.bounds-sources-passed
bounds-sources-passed c =
    omega (arith, c.requires.within _ (among_at c.args.way.now c.loop-passed.passed-index c.loop-passed-test.true), c.loop-passed.invariant.0)

pub offset_bounds-sources-passed : goal.offset_bounds-sources-passed
offset_bounds-sources-passed c =
    omega (arith, c.requires.within _ (among_at c.args.way.now c.loop-passed.passed-index c.loop-passed-test.true), c.requires.few)

pub loop-passed-preserved : goal.loop-passed-preserved
loop-passed-preserved c =
    one_replaced c.args.way.now c.loop-passed.passed-index c.args.end c.args.sources.now c.loop-passed.sources c.loop-passed-test.true
    (c.requires.within _ (among_at c.args.way.now c.loop-passed.passed-index c.loop-passed-test.true)) c.loop-passed.invariant
