use Rattle.std.proofs.Common.{◌∙◌, ◌+◌, ◌-◌, ◌/◌, ◌≤◌, ◌<◌, length, ap, subst, arith}
use Rattle.probe_family.specs.Families.{is_in_part}
use Rattle.extend_set.specs.Growth.{IsGrownTo, with_run}
use Rattle.extend_set.proofs.RunSets.{length-run, run_chain}
use Rattle.extend_set.proofs.Growing.{grown_without}
use Rattle.extend_set.proofs.growth.Growth.bisect.Goals as goal

-- the lower half has joined, so it is the upper half that may not
pub loop-end-preserved-in-None : goal.loop-end-preserved-in-None
loop-end-preserved-in-None g c =
    let middle = c.loop-end.start + (c.loop-end.end - c.loop-end.start) / 2 in
    let above : c.loop-end.start ≤ c.loop-end.start + (c.loop-end.end - c.loop-end.start) / 2 = omega arith in
    let below : c.loop-end.start + (c.loop-end.end - c.loop-end.start) / 2 < c.loop-end.end = omega arith in
    record {
      later = omega arith;
      order = below;
      within = c.loop-end.invariant.within;
      long = ap length c.in-None.ensures.joined ∙ (length-run c.loop-end.set (is_in_part c.args.self.now.parts.now) c.loop-end.start middle ∙ c.loop-end.invariant.long);
      stays = c.in-None.ensures.stays ∙ c.loop-end.invariant.stays;
      grown = subst (λ n. IsGrownTo (g.C.Criterion.meets c.args.self.now.criterion.now) n c.args.self.now.parts.now c.args.self.now.tuple.now (c.loop-end.start + (c.loop-end.end - c.loop-end.start) / 2) c.join.new.set)
          c.loop-end.invariant.long c.in-None.ensures.grown;
      misfit =
          ap (g.C.Criterion.meets c.args.self.now.criterion.now)
          (ap (λ ys. with_run ys (is_in_part c.args.self.now.parts.now) (c.loop-end.start + (c.loop-end.end - c.loop-end.start) / 2) c.loop-end.end) c.in-None.ensures.joined
          ∙ run_chain c.loop-end.set (is_in_part c.args.self.now.parts.now) c.loop-end.start middle c.loop-end.end above (omega arith))
          ∙ c.loop-end.invariant.misfit;
    }

-- a single number is left
pub returns-clause-grown : goal.returns-clause-grown
returns-clause-grown g c =
    grown_without (g.C.Criterion.meets c.args.self.now.criterion.now) (length c.args.set.now) c.args.self.now.parts.now c.args.self.now.tuple.now c.loop-end.start c.loop-end.set c.loop-end.invariant.grown
    c.loop-end.end (omega arith) (omega arith) c.loop-end.invariant.misfit
