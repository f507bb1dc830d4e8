use Rattle.std.proofs.Common.{◌≡◌, ◌<◌, Some, map, slice_get, sym, ap, ◌∙◌, subst}
use Rattle.std.specs.List.{All}
use Rattle.tuple_rank.specs.Tuples.{IsTuple, TupleSpace, tuples}
use Rattle.maskverif_cli.specs.declared.report.Heading.{Heading}
use Rattle.maskverif_cli.specs.Kept.{name_of_probe}
use Rattle.maskverif_cli.specs.Report.{unproved_report}
use Rattle.maskverif_cli.proofs.Deciding.{first-is-tuple, unproved-is}
use Rattle.maskverif_cli.proofs.Replies.{unproved-plain}
use Rattle.maskverif_cli.proofs.verify.unproved.Goals as goal

pub rank-rank-requires : goal.rank-rank-requires
rank-rank-requires c =
    let kept = c.args.netlist.now in
    subst (λ (s : TupleSpace). IsTuple s.n s.t c.args.tuple.items) (sym c.requires.kept.counted)
    (first-is-tuple kept.instance c.args.question.order c.args.tuple.items c.tuples_are_all.ensures c.requires.first)

pub probe_lines-requires-clause-within : goal.probe_lines-requires-clause-within
probe_lines-requires-clause-within c =
    let kept = c.args.netlist.now in
    let is = first-is-tuple kept.instance c.args.question.order c.args.tuple.items c.tuples_are_all.ensures c.requires.first in
    subst (λ n. All (λ probe. probe < n) c.args.tuple.items) c.requires.kept.one_each is.below

pub returns : goal.returns
returns c wish bytes keeps =
    let asked = c.args.question in
    let kept = c.args.netlist.now in
    let names = map (name_of_probe kept) c.args.tuple.items in
    let lines = c.as_slice.ensures.value ∙ c.in_ok-lines.ensures in
    let ranked = subst (λ (s : TupleSpace). slice_get (tuples s.n s.t) c.rank-rank.result ≡ Some c.args.tuple.items) c.requires.kept.counted c.rank-rank.ensures.place in
    let written = c.in_ok-text.ensures names lines
    ∙ ap (λ (h : Heading). unproved_report h.question h.probes h.tuples c.rank-rank.result names) c.heading.ensures in
    unproved-plain asked wish bytes c.args.tuple c.in_ok-text.text.items
    (unproved-is asked bytes kept keeps
    (λ tuple. c.proved_is_provable.ensures kept.instance tuple c.requires.kept.table c.requires.kept.fitting)
    c.rank-rank.result c.args.tuple.items c.in_ok-text.text.items c.requires.first ranked written)
