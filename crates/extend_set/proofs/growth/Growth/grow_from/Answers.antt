use Rattle.std.proofs.Common.{◌∙◌, ◌+◌, length, ap, subst, arith}
use Rattle.probe_family.specs.Families.{is_in_part}
use Rattle.extend_set.specs.Growth.{IsGrownTo}
use Rattle.extend_set.proofs.RunSets.{length-run}
use Rattle.extend_set.proofs.growth.Growth.grow_from.Goals as goal

-- a run has joined
pub loop-start-preserved : goal.loop-start-preserved
loop-start-preserved g c = record {
  later = omega (arith, c.min.ensures);
  within = omega (arith, c.min.ensures);
  long = ap length c.in_default.ensures.joined ∙ (length-run c.loop-start.set (is_in_part c.args.self.now.parts.now) c.loop-start.start (c.loop-start.start + c.min.result) ∙ c.loop-start.invariant.long);
  stays = c.in_default.ensures.stays ∙ c.loop-start.invariant.stays;
  grown = subst (λ n. IsGrownTo (g.C.Criterion.meets c.args.self.now.criterion.now) n c.args.self.now.parts.now c.args.self.now.tuple.now (c.loop-start.start + c.min.result) c.join.new.set)
      (c.loop-start.invariant.long ∙ c.len-n.ensures) c.in_default.ensures.grown;
}
