use Rattle.std.proofs.Common.{ap, ◌∙◌}
use Rattle.share_notes.proofs.Firsts.{is_before, before_is}
use Rattle.share_notes.proofs.shares.FirstBits.is_repeated.Goals as goal

pub returns-in-Some : goal.returns-in-Some
returns-in-Some c = λ shares known.
    ap (is_before c.args.share.bit) (c.in-Some.ensures shares known) ∙ before_is c.args.share.secret c.args.share.share c.args.share.bit shares

pub returns-in-None : goal.returns-in-None
returns-in-None c = λ shares known.
    ap (is_before c.args.share.bit) (c.in-None.ensures shares known) ∙ before_is c.args.share.secret c.args.share.share c.args.share.bit shares
