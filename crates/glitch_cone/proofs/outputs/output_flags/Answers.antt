use Rattle.std.proofs.Common.{◌≡◌, ◌<◌, ◌+◌, None, Some, length, get_or, refl, sym, ap, ◌∙◌, subst, arith}
use Rattle.circuit_types.specs.declared.nets.Source.TheVariants.{Missing}
use Rattle.circuit_types.specs.declared.roles.OutputShare.{OutputShare}
use Rattle.glitch_cone.specs.Places.{kept_place}
use Rattle.glitch_cone.proofs.Flags.{AreFlags, source_read, flags_none, flags_some}
use Rattle.glitch_cone.proofs.outputs.output_flags.Goals as goal
use Rattle.glitch_cone.proofs.outputs.output_flags.Goals.{in-Some, in_default}

pub loop-output-preserved : goal.loop-output-preserved
loop-output-preserved c =
    let nets = c.args.nets.now in
    let outputs = c.args.roles.now.outputs in
    let i = c.loop-output.output-index in
    let d : OutputShare = record { bit = 0; secret = 0; share = 0 } in
    let lt : c.loop-output.output-index < length c.args.roles.now.outputs = omega (arith, c.loop-output-test.true, ap length c.as_slice-output-items.ensures) in
    let end : c.source_of.result ≡ get_or nets.sources (get_or outputs i d).bit Missing =
    source_read nets.sources (get_or c.as_slice-output-items.result.now i d).bit c.source_of.result c.source_of.ensures
    ∙ ap (λ os. get_or nets.sources (get_or os i d).bit Missing) c.as_slice-output-items.ensures in
    elim c.match-of.branch [
      | in-Some w ↦
          let some : kept_place c.args.places.now c.source_of.result ≡ Some w.in-Some.number = cc in
          subst (AreFlags nets c.args.sources.now outputs (i + 1)) (sym (ap (λ v. v.items) w.flags-is))
          (flags_some nets c.args.sources.now c.args.places.now c.requires.places outputs i (i + 1) d c.source_of.result c.loop-output.flags.items refl lt end c.loop-output.invariant w.in-Some.number some)
      | in_default w ↦
          let none : kept_place c.args.places.now c.source_of.result ≡ None = cc in
          subst (AreFlags nets c.args.sources.now outputs (i + 1)) (sym (ap (λ v. v.items) w.flags-is))
          (flags_none nets c.args.sources.now c.args.places.now c.requires.places outputs i (i + 1) d c.source_of.result c.loop-output.flags.items refl lt end c.loop-output.invariant none)
    ]
