use Rattle.std.proofs.Common.{ℕ, ◌+◌, Bool, slice_index_or, sym, ap, ◌∙◌}
use Rattle.circuit_types.specs.declared.nets.Source.TheVariants.{Missing}
use Rattle.share_notes.specs.Known.{is_held}
use Rattle.share_notes.proofs.Firsts.{any_more, any_here}
use Rattle.share_notes.proofs.clock.has_clock.Goals as goal

pub returns-then-has : goal.returns-then-has
returns-then-has c =
    let test : ℕ → Bool = λ k. is_held c.args.clocks.now.bits (slice_index_or c.args.sources.now (c.args.first + k) Missing) in
    sym (any_here test c.args.width c.loop-place.place c.loop-place-test.true (sym (c.has.ensures ∙ ap (is_held c.args.clocks.now.bits) c.end_of.ensures) ∙ c.if-has.true))

pub loop-place-preserved : goal.loop-place-preserved
loop-place-preserved c =
    let test : ℕ → Bool = λ k. is_held c.args.clocks.now.bits (slice_index_or c.args.sources.now (c.args.first + k) Missing) in
    any_more test c.loop-place.place c.loop-place.invariant (sym (c.has.ensures ∙ ap (is_held c.args.clocks.now.bits) c.end_of.ensures) ∙ c.if-has.false)
