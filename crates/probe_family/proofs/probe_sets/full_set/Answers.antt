use Rattle.std.proofs.Common.{◌∙◌, replicate, true, false, sym, arith}
use Rattle.std.proofs.lemmas.List.{length-replicate, get_or-replicate}
use Rattle.bit_rows.proofs.Facts.{same_sets}
use Rattle.probe_family.proofs.probe_sets.full_set.Goals as goal

pub returns : goal.returns
returns c =
    same_sets c.loop-p.set (replicate c.args.n true) (c.loop-p.invariant.len ∙ sym (length-replicate c.args.n true))
    (λ i lt. c.loop-p.invariant.so_far i (omega (arith, c.loop-p.invariant.len)) ∙ sym (get_or-replicate c.args.n i true false (omega (arith, c.loop-p.invariant.len))))
