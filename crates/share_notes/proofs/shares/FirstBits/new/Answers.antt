use Rattle.std.proofs.Common.{List, take, sym, subst}
use Rattle.std.proofs.lemmas.List.{take_more, take_all}
use Rattle.share_notes.specs.declared.shares.NumberedShare.{NumberedShare}
use Rattle.share_notes.specs.Known.{KnowsFirst}
use Rattle.share_notes.proofs.Firsts.{none_first, no_share}
use Rattle.share_notes.proofs.shares.FirstBits.new.Goals as goal

pub loop-share-init : goal.loop-share-init
loop-share-init c = none_first c.new.result c.new.ensures.empty

pub loop-share-preserved : goal.loop-share-preserved
loop-share-preserved c =
    subst (λ (ts : List NumberedShare). KnowsFirst ts c.add.new.self.bits) (sym (take_more c.args.shares.now c.loop-share.share-index no_share c.loop-share-test.true))
    (c.in_ok-add.ensures (take c.loop-share.share-index c.args.shares.now) c.loop-share.invariant)

pub returns : goal.returns
returns c =
    subst (λ (ts : List NumberedShare). KnowsFirst ts c.loop-share.first.bits) (take_all c.loop-share.share-index c.args.shares.now c.loop-share-test.false) c.loop-share.invariant
