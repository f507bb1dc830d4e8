use Rattle.std.proofs.Common.{length, sym, ap, ◌∙◌}
use Rattle.tuple_rank.specs.Tuples.{TupleSpace, tuples}
use Rattle.maskverif_cli.proofs.verify.heading.Goals as goal

pub returns : goal.returns
returns c =
    let counted = c.requires.counted in
    let p = ap length c.as_slice.ensures ∙ sym c.requires.one_each in
    let t = c.total.ensures.counted ∙ ap (λ (s : TupleSpace). length (tuples s.n s.t)) counted in
    λ i. record { question = c.args.question; probes = p i; tuples = t i }
