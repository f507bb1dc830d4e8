use Rattle.std.proofs.Common.{length, sym, ap, ◌∙◌}
use Rattle.tuple_rank.specs.Tuples.{TupleSpace, tuples}
use Rattle.maskverif_cli.proofs.verify.header.Goals as goal

pub returns : goal.returns
returns c bytes keeps =
    let asked = c.args.question in
    let counted = c.requires.counted in
    let notion = sym keeps.instance.notion_is in
    let probes = ap length c.as_slice.ensures ∙ sym c.requires.one_each in
    let rows = c.rows.ensures.rows in
    let tuples_are = c.total.ensures.counted ∙ ap (λ (s : TupleSpace). length (tuples s.n s.t)) counted in
    λ i. record { notion = notion i; order = asked.order; model = asked.model; probes = probes i; rows = rows i; tuples = tuples_are i }
