use Rattle.std.proofs.Common.{◌≡◌, ◌<◌, ◌==◌, not, true, ◌&&◌, length, set, refl, sym, subst, arith}
use Rattle.std.proofs.lemmas.Bool.{and_parts, eqb-true, not-true}
use Rattle.live_rows.specs.declared.mark.Mark.{Mark}
use Rattle.live_rows.specs.Lists.{Held}
use Rattle.live_rows.specs.Marks.{mark_at}
use Rattle.live_rows.specs.State.{IsQueue}
use Rattle.live_rows.proofs.Marks.{queue_room, queue_more}
use Rattle.live_rows.proofs.marking.offer.Goals as goal

pub push-requires : goal.push-requires
push-requires c =
    let mark = mark_at c.args.marks.now c.args.row.0 in
    let parts = and_parts ((mark.fresh && not mark.root) && (mark.parents == 1)) (not mark.queued) c.if-mark.true in
    let room : length c.args.alone.now.numbers < length c.args.marks.now =
    queue_room c.args.marks.now c.args.alone.now.numbers c.requires.queue c.args.row.0 c.requires.within (not-true mark.queued parts.1) in
    omega arith

pub returns-then-mark-clause-queue : goal.returns-then-mark-clause-queue
returns-then-mark-clause-queue c =
    let mark = mark_at c.args.marks.now c.args.row.0 in
    let parts = and_parts ((mark.fresh && not mark.root) && (mark.parents == 1)) (not mark.queued) c.if-mark.true in
    let more = and_parts (mark.fresh && not mark.root) (mark.parents == 1) parts.0 in
    let one : mark.parents ≡ 1 = eqb-true mark.parents 1 more.1 in
    let new : Mark = record mark { queued = true } in
    subst (λ (h : Held). IsQueue (set c.args.marks.now c.args.row.0 new) h.numbers) (sym c.push.ensures)
    (queue_more c.args.marks.now c.args.alone.now.numbers c.args.row.0 new c.requires.queue c.requires.within (not-true mark.queued parts.1) refl more.0 (omega arith))
