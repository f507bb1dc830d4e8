use Rattle.std.proofs.Common.{◌<◌, ◌+◌, [], ◌∷◌, ◌++◌, length, get_or, refl, ap, ◌∙◌, arith}
use Rattle.std.proofs.lemmas.List.{get_or_default}
use Rattle.circuit_types.specs.declared.nets.Source.TheVariants as source
use Rattle.glitch_cone.proofs.Seen.{own_more}
use Rattle.glitch_cone.proofs.cones.own_cones.Goals as goal

pub loop-number-preserved : goal.loop-number-preserved
loop-number-preserved c =
    let lt : c.loop-number.number < length c.args.sources.now = omega arith in
    own_more c.args.model c.args.nets.now c.args.sources.now c.loop-number.number (c.loop-number.number + 1) (get_or c.args.sources.now c.loop-number.number (source.Input 0)) c.loop-number.cones
    (record { lists = c.push.new.self; entries = c.loop-number.cones.entries + c.len.result }) c.in_ok-own.own.items refl
    (get_or_default c.args.sources.now c.loop-number.number (source.Input 0) source.Missing lt)
    c.in_ok-own.ensures
    (c.in_ok-push.ensures.items ∙ ap (λ y. c.loop-number.cones.lists.items ++ y ∷ []) c.from_vec.ensures)
    (ap (λ n. c.loop-number.cones.entries + n) (c.len.ensures ∙ c.in_ok-own.own.ok.0)) c.loop-number.invariant
