use Rattle.std.proofs.Common.{ap, ◌∙◌}
use Rattle.share_notes.specs.Reading.{note_named}
use Rattle.share_notes.proofs.Names.{note_is, note_at}
use Rattle.share_notes.proofs.laws.notes_and_texts.Goals as goal

pub returns : goal.returns
returns c = λ bytes note. (λ e. note_is bytes note e, λ h. ap note_named h.0 ∙ note_at note h.1)
