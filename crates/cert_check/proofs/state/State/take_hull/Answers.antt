use Rattle.std.proofs.Common.{◌∙◌, length, refl, ap, arith}
use Rattle.bit_rows.proofs.Facts.{length-set_of}
use Rattle.cert_check.proofs.TakenLines.{hull_sound}
use Rattle.cert_check.proofs.state.State.take_hull.Goals as goal

pub returns-clause-sound : goal.returns-clause-sound
returns-clause-sound c =
    hull_sound c.args.instance.now _ _ c.pop.new.self.items c.in-Some.family c.in_ok-hull.hull c.requires.sound c.in-Some.ensures.items refl refl
    (ap length c.in_ok-hull.ensures ∙ (length-set_of _ _ ∙ omega (arith, ap length c.as_slice.ensures))) refl
