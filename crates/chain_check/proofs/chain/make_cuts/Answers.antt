use Rattle.std.proofs.Common.{◌≤◌, length, take, sym, ◌∙◌, arith}
use Rattle.std.proofs.lemmas.List.{get_or-map}
use Rattle.bit_rows.specs.Sets.{members}
use Rattle.expr_table.specs.declared.node.Row.{Row}
use Rattle.once_random.specs.Cuts.{cuts_of}
use Rattle.once_random.specs.Tuples.{roots_of}
use Rattle.chain_check.proofs.Fronts.{made_more, made_bad, made_few}
use Rattle.chain_check.proofs.Tables.{begun}
use Rattle.chain_check.proofs.chain.make_cuts.Goals as goal

pub loop-place-init : goal.loop-place-init
loop-place-init g c = begun c.args.instance.now c.as_slice.result.now (members c.args.probes.now) c.begin.new.self.marks c.as_slice.ensures c.begin.ensures.shows

pub overflow_cast-result : goal.overflow_cast-result
overflow_cast-result g c =
    let roots = roots_of c.args.instance.now (members c.args.probes.now) in
    let few : c.loop-place.place ≤ length c.args.instance.now.table.nodes =
    made_few c.args.instance.now.table.nodes roots c.args.cuts.now c.loop-place.place c.loop-place.live.marks c.loop-place.invariant (omega arith) in
    omega (arith, c.requires.table.few)

pub returns-then-not-cut_allowed-clause-made : goal.returns-then-not-cut_allowed-clause-made
returns-then-not-cut_allowed-clause-made g c =
    let roots = roots_of c.args.instance.now (members c.args.probes.now) in
    let done = cuts_of (take c.loop-place.place c.args.cuts.now) in
    made_bad c.args.instance.now.table.nodes roots c.args.cuts.now c.loop-place.place c.loop-place.live.marks c.loop-place.invariant
    _ c.loop-place-test.true (sym (get_or-map (λ (row : Row). row.0) c.args.cuts.now c.loop-place.place (record { 0 = 0 }) 0 c.loop-place-test.true))
    (sym (c.cut_allowed.ensures.allowed roots done c.loop-place.invariant.shows) ∙ c.if-not-cut_allowed.true)

pub loop-place-preserved : goal.loop-place-preserved
loop-place-preserved g c =
    let roots = roots_of c.args.instance.now (members c.args.probes.now) in
    let done = cuts_of (take c.loop-place.place c.args.cuts.now) in
    made_more c.args.instance.now.table.nodes roots c.args.cuts.now c.loop-place.place c.loop-place.live.marks c.loop-place.invariant
    _ c.cut_allowed.new.live.marks c.loop-place-test.true (sym (get_or-map (λ (row : Row). row.0) c.args.cuts.now c.loop-place.place (record { 0 = 0 }) 0 c.loop-place-test.true))
    (sym (c.cut_allowed.ensures.allowed roots done c.loop-place.invariant.shows) ∙ c.if-not-cut_allowed.false)
    (c.cut_allowed.ensures.cut roots done c.loop-place.invariant.shows c.if-not-cut_allowed.false)
