use Rattle.std.proofs.Common.{All, map, sym, subst}
use Rattle.circuit_types.specs.declared.nets.Pin.{Pin}
use Rattle.glitch_cone.specs.Places.{HasRoom}
use Rattle.glitch_cone.proofs.Placed.{pin_all}
use Rattle.glitch_cone.proofs.cones.Cones.behind.Goals as goal

pub of-requires : goal.of-requires
of-requires c =
    pin_all (HasRoom c.args.places.now) c.as_slice-pin-items.result.now c.loop-pin.pin-index _
    (subst (λ pins. All (HasRoom c.args.places.now) (map (λ (pin : Pin). pin.source) pins)) (sym c.as_slice-pin-items.ensures) c.requires.room) c.loop-pin-test.true
