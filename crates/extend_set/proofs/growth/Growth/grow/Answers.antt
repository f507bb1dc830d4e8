use Rattle.std.proofs.Common.{◌∙◌, length, subst, arith}
use Rattle.extend_set.specs.Growth.{IsGrownTo}
use Rattle.extend_set.proofs.Growing.{grown_length}
use Rattle.extend_set.proofs.growth.Growth.grow.Goals as goal

-- the set has grown further
pub loop-start-preserved : goal.loop-start-preserved
loop-start-preserved g c = record {
  within = omega (arith, c.grow_from-start.ensures.later, c.loop-start.invariant.long);
  long =
      grown_length (g.C.Criterion.meets c.args.self.now.criterion.now) (length c.loop-start.set) c.args.self.now.parts.now c.args.self.now.tuple.now c.grow_from-start.result c.grow_from-start.new.set
      c.grow_from-start.ensures.grown
      ∙ c.loop-start.invariant.long;
  stays = c.grow_from-start.ensures.stays ∙ c.loop-start.invariant.stays;
  grown = subst (λ n. IsGrownTo (g.C.Criterion.meets c.args.self.now.criterion.now) n c.args.self.now.parts.now c.args.self.now.tuple.now c.grow_from-start.result c.grow_from-start.new.set)
      (c.loop-start.invariant.long ∙ c.len-n.ensures) c.grow_from-start.ensures.grown;
}
