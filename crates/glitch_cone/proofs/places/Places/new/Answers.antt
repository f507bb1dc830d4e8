use Rattle.std.proofs.Common.{◌<◌, ◌+◌, length, get_or, refl, arith}
use Rattle.std.proofs.lemmas.List.{get_or_default}
use Rattle.circuit_types.specs.declared.nets.Source.TheVariants as source
use Rattle.glitch_cone.proofs.Placed.{more_places}
use Rattle.glitch_cone.proofs.places.Places.new.Goals as goal

pub loop-place-preserved : goal.loop-place-preserved
loop-place-preserved c =
    let lt : c.loop-place.place < length c.args.sources.now = omega arith in
    more_places c.args.nets.now c.args.sources.now c.loop-place.place (c.loop-place.place + 1) (get_or c.args.sources.now c.loop-place.place (source.Input 0)) c.loop-place.places c.put.new.self refl lt
    (get_or_default c.args.sources.now c.loop-place.place (source.Input 0) source.Missing lt) c.requires.distinct c.put.ensures.bits c.put.ensures.cells c.put.ensures.places c.loop-place.invariant
