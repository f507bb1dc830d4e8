use Rattle.share_notes.specs.Shares.{given_bit, numbered_share}
use Rattle.share_notes.proofs.Lists.{map_step}
use Rattle.share_notes.proofs.shares.push_shares.Goals as goal

pub loop-place-preserved : goal.loop-place-preserved
loop-place-preserved c =
    map_step (numbered_share c.args.secrets.now.list.items) (given_bit c.args.wire.now) c.loop-place.place c.args.shares.now.items c.loop-place.shares.items c.push_share.new.shares.items
    c.loop-place.invariant c.in_ok-push_share.ensures
