use Rattle.std.proofs.Common.{refl}
use Rattle.cert_check.proofs.TakenLines.{cuts_sound, kids_fit}
use Rattle.cert_check.proofs.state.State.take_cuts.Goals as goal

pub returns-clause-sound : goal.returns-clause-sound
returns-clause-sound c =
    cuts_sound c.args.instance.now _ _ c.in_ok-children.children.items c.requires.sound c.in_ok-stack_up.ensures
    (kids_fit _ c.args.self.now.due c.in-Cuts.family c.in-Cuts.hull _ c.requires.sound.due (cc) c.in_ok-children.ensures.families) refl c.cuts_fault.ensures.clear c.cuts_fault.ensures.rows
