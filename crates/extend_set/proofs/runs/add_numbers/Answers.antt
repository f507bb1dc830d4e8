use Rattle.std.proofs.Common.{◌∙◌, ◌+◌, length, get_or, take, slice_set, refl, sym, ap, true}
use Rattle.std.proofs.lemmas.List.{length-set, take_more}
use Rattle.extend_set.proofs.RunSets.{numbers_none, numbers_more}
use Rattle.extend_set.proofs.runs.add_numbers.Goals as goal

pub loop-p-init : goal.loop-p-init
loop-p-init c = record { long = refl; added = sym (numbers_none c.args.set.now) }

-- one more of the numbers was added
pub loop-p-preserved : goal.loop-p-preserved
loop-p-preserved c =
    let p = get_or c.args.numbers.now c.loop-p.p-index 0 in
    record {
      long = ap length c.set.ensures ∙ (length-set c.loop-p.set p true ∙ c.loop-p.invariant.long);
      added =
          c.set.ensures
          ∙ (ap (λ ys. slice_set ys p true) c.loop-p.invariant.added
          ∙ numbers_more c.args.set.now (take c.loop-p.p-index c.args.numbers.now) (take (c.loop-p.p-index + 1) c.args.numbers.now) p
          (take_more c.args.numbers.now c.loop-p.p-index 0 c.loop-p-test.true)
          (c.requires c.loop-p.p-index 0 c.loop-p-test.true));
    }
