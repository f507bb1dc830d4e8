use Rattle.std.proofs.Common.{◌∙◌, ◌+◌, length, slice_set, refl, sym, ap, false}
use Rattle.std.proofs.lemmas.List.{length-set}
use Rattle.extend_set.proofs.RunSets.{without_none, without_more}
use Rattle.extend_set.proofs.runs.clear_run.Goals as goal

pub loop-p-init : goal.loop-p-init
loop-p-init c = record { long = refl; taken = sym (without_none c.args.set.now c.args.start) }

-- one more number was taken out
pub loop-p-preserved : goal.loop-p-preserved
loop-p-preserved c = record {
  long = ap length c.clear.ensures ∙ (length-set c.loop-p.set c.loop-p.p false ∙ c.loop-p.invariant.long);
  taken =
      c.clear.ensures
      ∙ (ap (λ ys. slice_set ys c.loop-p.p false) c.loop-p.invariant.taken
      ∙ without_more c.args.set.now c.args.start c.loop-p.p (c.loop-p.p + 1) refl c.loop-p.auto.p);
}
