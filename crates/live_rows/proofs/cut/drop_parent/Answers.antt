use Rattle.live_rows.proofs.Dropping.{lost_room, drop_marks, drop_losing, drop_loses, drop_held}
use Rattle.live_rows.proofs.cut.drop_parent.Goals as goal

pub list_lost-requires-clause-room : goal.list_lost-requires-clause-room
list_lost-requires-clause-room c =
    lost_room c.args.marks.now c.args.row.0 c.args.parent.0 c.requires.read c.args.alone.now c.args.lost.now c.requires.losing

pub returns-clause-marks : goal.returns-clause-marks
returns-clause-marks c =
    drop_marks c.args.marks.now c.args.row.0 c.args.parent.0 c.requires.read c.args.alone.now c.args.lost.now c.requires.losing c.take_parent.new.marks c.offer.new.marks c.offer.new.alone c.list_lost.new.lost
    c.take_parent.ensures c.list_lost.ensures c.offer.ensures.marks c.offer.ensures.alone c.offer.ensures.queue

pub returns-clause-losing : goal.returns-clause-losing
returns-clause-losing c =
    drop_losing c.args.marks.now c.args.row.0 c.args.parent.0 c.requires.read c.args.alone.now c.args.lost.now c.requires.losing c.take_parent.new.marks c.offer.new.marks c.offer.new.alone c.list_lost.new.lost
    c.take_parent.ensures c.list_lost.ensures c.offer.ensures.marks c.offer.ensures.alone c.offer.ensures.queue

pub returns-clause-loses : goal.returns-clause-loses
returns-clause-loses c =
    drop_loses c.args.marks.now c.args.row.0 c.args.parent.0 c.requires.read c.args.alone.now c.args.lost.now c.requires.losing c.take_parent.new.marks c.offer.new.marks c.offer.new.alone c.list_lost.new.lost
    c.take_parent.ensures c.list_lost.ensures c.offer.ensures.marks c.offer.ensures.alone c.offer.ensures.queue

pub returns-clause-held : goal.returns-clause-held
returns-clause-held c =
    drop_held c.args.marks.now c.args.row.0 c.args.parent.0 c.requires.read c.args.alone.now c.args.lost.now c.requires.losing c.take_parent.new.marks c.offer.new.marks c.offer.new.alone c.list_lost.new.lost
    c.take_parent.ensures c.list_lost.ensures c.offer.ensures.marks c.offer.ensures.alone c.offer.ensures.queue
