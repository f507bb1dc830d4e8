use Rattle.std.proofs.Common.{subst}
use Rattle.live_rows.specs.Losing.{CountsAs}
use Rattle.live_rows.specs.Marks.{mark_at}
use Rattle.live_rows.proofs.Leaving.{left_counts, left_losing, left_cuts, left_held}
use Rattle.live_rows.proofs.cut.leave_sides.Goals as goal

pub returns-clause-counts : goal.returns-clause-counts
returns-clause-counts c other =
    subst (CountsAs (mark_at c.offer.new.marks other)) (c.drop_live.ensures.marks other)
    (left_counts c.args.row.0 c.args.marks.now c.drop_live.new.marks c.mark_cut.new.marks c.offer.new.marks c.args.alone.now c.args.lost.now c.drop_live.new.alone c.drop_live.new.lost c.offer.new.alone c.requires.within
    c.drop_live.ensures.loses c.drop_live.ensures.losing c.drop_live.ensures.held c.mark_cut.ensures c.offer.ensures.marks c.offer.ensures.alone c.offer.ensures.queue other)

pub returns-clause-losing : goal.returns-clause-losing
returns-clause-losing c =
    left_losing c.args.row.0 c.args.marks.now c.drop_live.new.marks c.mark_cut.new.marks c.offer.new.marks c.args.alone.now c.args.lost.now c.drop_live.new.alone c.drop_live.new.lost c.offer.new.alone c.requires.within
    c.drop_live.ensures.loses c.drop_live.ensures.losing c.drop_live.ensures.held c.mark_cut.ensures c.offer.ensures.marks c.offer.ensures.alone c.offer.ensures.queue

pub returns-clause-cuts : goal.returns-clause-cuts
returns-clause-cuts c =
    left_cuts c.args.row.0 c.args.marks.now c.drop_live.new.marks c.mark_cut.new.marks c.offer.new.marks c.args.alone.now c.args.lost.now c.drop_live.new.alone c.drop_live.new.lost c.offer.new.alone c.requires.within
    c.drop_live.ensures.loses c.drop_live.ensures.losing c.drop_live.ensures.held c.mark_cut.ensures c.offer.ensures.marks c.offer.ensures.alone c.offer.ensures.queue

pub returns-clause-held : goal.returns-clause-held
returns-clause-held c =
    left_held c.args.row.0 c.args.marks.now c.drop_live.new.marks c.mark_cut.new.marks c.offer.new.marks c.args.alone.now c.args.lost.now c.drop_live.new.alone c.drop_live.new.lost c.offer.new.alone c.requires.within
    c.drop_live.ensures.loses c.drop_live.ensures.losing c.drop_live.ensures.held c.mark_cut.ensures c.offer.ensures.marks c.offer.ensures.alone c.offer.ensures.queue
