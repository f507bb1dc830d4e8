use Rattle.share_notes.proofs.Pieces.{after_from_strip}
use Rattle.share_notes.proofs.note.after.Goals as goal

pub returns : goal.returns
returns c = after_from_strip c.args.front.now c.args.text.now c.strip_prefix.result c.strip_prefix.ensures.cases
