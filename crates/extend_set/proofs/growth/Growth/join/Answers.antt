use Rattle.std.proofs.Common.{◌≡◌, ◌≢◌, ◌<◌, ◌∙◌, length, get_or, sym, ap, subst, arith}
use Rattle.probe_family.specs.Families.{is_in_part}
use Rattle.extend_set.specs.Growth.{with_run, with_numbers, without_run}
use Rattle.extend_set.proofs.RunSets.{length-run, run_shorter}
use Rattle.extend_set.proofs.Growing.{grown_joined, grown_same, grown_back}
use Rattle.extend_set.proofs.growth.Growth.join.Goals as goal

-- the run adds nothing
pub returns-then-reach-start-clause-grown : goal.returns-then-reach-start-clause-grown
returns-then-reach-start-clause-grown g c =
    grown_same (g.C.Criterion.meets c.args.self.now.criterion.now) (length c.args.set.now) c.args.self.now.parts.now c.args.self.now.tuple.now c.args.start c.args.set.now c.requires.grown
    c.args.end c.add_run-reach.new.set c.requires.order c.requires.within c.add_run-reach.ensures.added
    (λ p from. c.add_run-reach.ensures.no_more p (omega arith))

pub is_met-requires : goal.is_met-requires
is_met-requires g c =
    let long : length c.add_run-reach.new.set ≡ length c.args.set.now = ap length c.add_run-reach.ensures.added ∙ length-run c.args.set.now (is_in_part c.args.self.now.parts.now) c.args.start c.args.end in
    subst (g.C.Criterion.serves c.args.self.now.criterion.now c.args.work.now) (sym long) c.requires.serves

-- the run fits
pub returns-then-is_met-clause-grown : goal.returns-then-is_met-clause-grown
returns-then-is_met-clause-grown g c =
    grown_joined (g.C.Criterion.meets c.args.self.now.criterion.now) (length c.args.set.now) c.args.self.now.parts.now c.args.self.now.tuple.now c.args.start c.args.set.now c.requires.grown
    c.args.end c.add_run-reach.new.set c.requires.order c.requires.within c.add_run-reach.ensures.added
    (sym c.is_met.ensures.met ∙ c.if-is_met.true)

pub reset_run-requires-clause-within : goal.reset_run-requires-clause-within
reset_run-requires-clause-within g c =
    let long : length c.add_run-reach.new.set ≡ length c.args.set.now = ap length c.add_run-reach.ensures.added ∙ length-run c.args.set.now (is_in_part c.args.self.now.parts.now) c.args.start c.args.end in
    omega (arith, c.add_run-reach.ensures.between)

pub reset_run-requires-clause-kept : goal.reset_run-requires-clause-kept
reset_run-requires-clause-kept g c k d lt =
    let long : length c.add_run-reach.new.set ≡ length c.args.set.now = ap length c.add_run-reach.ensures.added ∙ length-run c.args.set.now (is_in_part c.args.self.now.parts.now) c.args.start c.args.end in
    let below : get_or c.args.self.now.tuple.now k d < length c.args.set.now = c.requires.grown.below k d lt in
    omega arith

-- what was added is taken away again
pub returns-clause-same : goal.returns-clause-same
returns-clause-same g c =
    c.reset_run.ensures
    ∙ (ap (λ ys. with_numbers (without_run ys c.args.start c.add_run-reach.result) c.args.self.now.tuple.now)
    (run_shorter c.args.set.now (is_in_part c.args.self.now.parts.now) c.args.start c.add_run-reach.result c.args.end c.add_run-reach.new.set c.add_run-reach.ensures.added
    c.add_run-reach.ensures.between.1 c.add_run-reach.ensures.no_more)
    ∙ grown_back (g.C.Criterion.meets c.args.self.now.criterion.now) (length c.args.set.now) c.args.self.now.parts.now c.args.self.now.tuple.now c.args.start c.args.set.now c.requires.grown c.add_run-reach.result)

pub returns-clause-misfit : goal.returns-clause-misfit
returns-clause-misfit g c =
    let other : c.add_run-reach.result ≢ c.args.start = c.if-reach-start.false in
    let shorter : c.add_run-reach.new.set ≡ with_run c.args.set.now (is_in_part c.args.self.now.parts.now) c.args.start c.add_run-reach.result =
    run_shorter c.args.set.now (is_in_part c.args.self.now.parts.now) c.args.start c.add_run-reach.result c.args.end c.add_run-reach.new.set c.add_run-reach.ensures.added
    c.add_run-reach.ensures.between.1 c.add_run-reach.ensures.no_more in (
      omega (arith, c.add_run-reach.ensures.between),
      c.add_run-reach.ensures.between.1,
      ap (g.C.Criterion.meets c.args.self.now.criterion.now) (sym shorter) ∙ (sym c.is_met.ensures.met ∙ c.if-is_met.false),
    )
