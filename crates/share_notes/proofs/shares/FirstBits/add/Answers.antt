use Rattle.std.proofs.Common.{◌∙◌, ap, Some}
use Rattle.share_notes.specs.Known.{earlier_of}
use Rattle.share_notes.proofs.Firsts.{first_known}
use Rattle.share_notes.proofs.shares.FirstBits.add.Goals as goal

pub returns : goal.returns
returns c = λ shares known.
    first_known shares c.args.share c.earlier-bit.result c.args.self.now.bits c.insert.new.self c.in_ok-insert.ensures.updates
    (c.earlier-bit.ensures ∙ ap (λ o. earlier_of o (Some c.args.share.bit)) (c.of.ensures shares known)) known
