use Rattle.std.proofs.Common.{◌<◌, ◌++◌, ◌∷◌, [], true, if◌then◌else◌, set, ◌∙◌, length, subst, sym, ap, arith}
use Rattle.live_rows.specs.Marks.{mark_at, is_lone}
use Rattle.live_rows.proofs.Offered.{offer_within, marks_after, alone_after, room_after}
use Rattle.live_rows.proofs.begin.offer_all.Goals as goal

pub offer-requires-clause-within : goal.offer-requires-clause-within
offer-requires-clause-within c =
    subst (λ r. r < length c.loop-place.marks) (sym c.get.ensures)
    (offer_within c.args.marks.now c.loop-place.marks c.args.found.now.numbers c.loop-place.place c.requires.found (omega arith) c.loop-place.invariant.marks (omega arith))

pub loop-place-preserved : goal.loop-place-preserved
loop-place-preserved c =
    let offer = c.offer.ensures in
    record {
      marks = marks_after c.args.marks.now c.loop-place.marks c.args.found.now.numbers c.loop-place.place c.requires.found (omega arith) c.loop-place.invariant.marks (omega arith)
          c.offer.new.marks
          (offer.marks ∙ ap (λ r. if is_lone (mark_at c.loop-place.marks r) then set c.loop-place.marks r (record (mark_at c.loop-place.marks r) { queued = true }) else c.loop-place.marks) c.get.ensures);
      alone = alone_after c.args.marks.now c.loop-place.marks c.args.found.now.numbers c.loop-place.place c.requires.found (omega arith) c.loop-place.invariant.marks
          c.loop-place.alone c.offer.new.alone c.loop-place.invariant.alone
          (offer.alone ∙ ap (λ r. if is_lone (mark_at c.loop-place.marks r) then record c.loop-place.alone { numbers = c.loop-place.alone.numbers ++ r ∷ [] } else c.loop-place.alone) c.get.ensures);
      queue = offer.queue;
      room = room_after c.args.marks.now c.loop-place.marks c.args.found.now.numbers c.loop-place.place c.requires.found (omega arith) c.loop-place.invariant.marks
          c.loop-place.alone c.offer.new.alone
          (offer.alone ∙ ap (λ r. if is_lone (mark_at c.loop-place.marks r) then record c.loop-place.alone { numbers = c.loop-place.alone.numbers ++ r ∷ [] } else c.loop-place.alone) c.get.ensures)
          ∙ c.loop-place.invariant.room;
    }
