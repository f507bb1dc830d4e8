use Rattle.std.proofs.Common.{length, sym, ap, subst, arith}
use Rattle.glitch_cone.specs.Numbers.{past}
use Rattle.glitch_cone.proofs.Unions.{IsMerged, merged_more, past_shorter}
use Rattle.glitch_cone.proofs.merging.merge.Goals as goal

pub loop-least-preserved : goal.loop-least-preserved
loop-least-preserved c =
    subst (λ xs. IsMerged c.args.left.now c.args.right.now c.push.new.self.items xs c.past-rights.result.now) (sym c.past-lefts.ensures)
    (subst (IsMerged c.args.left.now c.args.right.now c.push.new.self.items (past c.in-Some.least c.loop-least.lefts.now)) (sym c.past-rights.ensures)
    (merged_more c.args.left.now c.args.right.now c.loop-least.merged.items c.loop-least.lefts.now c.loop-least.rights.now c.push.new.self.items c.in-Some.least
    (sym c.in-Some.ensures) c.in_ok-push.ensures.items c.loop-least.invariant))

pub loop-least-smaller : goal.loop-least-smaller
loop-least-smaller c =
    omega (arith, past_shorter c.loop-least.lefts.now c.loop-least.rights.now c.in-Some.least (sym c.in-Some.ensures), ap length c.past-lefts.ensures, ap length c.past-rights.ensures)
