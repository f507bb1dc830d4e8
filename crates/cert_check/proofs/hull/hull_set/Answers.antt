use Rattle.std.proofs.Common.{◌∙◌, arith}
use Rattle.cert_check.proofs.Hulls.{set_begun, set_more}
use Rattle.cert_check.proofs.hull.hull_set.Goals as goal

pub loop-i-init : goal.loop-i-init
loop-i-init c = c.in_ok-set.ensures ∙ set_begun c.args.n c.args.hull.now

pub loop-i-preserved : goal.loop-i-preserved
loop-i-preserved c = c.add.ensures ∙ set_more c.args.n c.loop-i.i c.args.hull.now c.loop-i.set c.loop-i.invariant (omega arith)
