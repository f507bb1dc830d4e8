use Rattle.std.proofs.Common.{◌++◌, ◌∙◌, arith}
use Rattle.std.specs.List.{filter_map, range_with_len}
use Rattle.share_notes.specs.Shares.{given_bit}
use Rattle.share_notes.proofs.Places.{wire_step}
use Rattle.share_notes.proofs.secrets.Secrets.add_wire.Goals as goal

pub loop-place-preserved : goal.loop-place-preserved
loop-place-preserved c = record {
  known = c.in_ok-add_place.ensures.known;
  few = omega (arith, c.in_ok-add_place.ensures.few, c.loop-place.invariant.few);
  list = λ gs e.
      c.in_ok-add_place.ensures.list (gs ++ filter_map (given_bit c.args.wire.now) (range_with_len 0 c.loop-place.place)) (c.loop-place.invariant.list gs e)
      ∙ wire_step gs c.args.wire.now c.loop-place.place;
}
