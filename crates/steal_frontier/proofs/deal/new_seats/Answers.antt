use Rattle.std.proofs.Common.{◌∷◌, [], ◌++◌, sym, ap, ◌∙◌, append_assoc}
use Rattle.std.specs.Vec.Iter.{into_iter_items}
use Rattle.std.proofs.lemmas.List.Elements.{All-push, All-same}
use Rattle.steal_frontier.specs.Dealt.{IsNewSeat}
use Rattle.steal_frontier.proofs.Begun.{reaches_more}
use Rattle.steal_frontier.proofs.deal.new_seats.Goals as goal

pub loop-reach-preserved : goal.loop-reach-preserved
loop-reach-preserved c = (
  reaches_more c.loop-reach.seats.items c.push.new.self.items c.new_seat.result _ _ c.in_ok-push.ensures.items c.loop-reach.invariant.0 c.new_seat.ensures.reach,
  All-same IsNewSeat _ _ c.in_ok-push.ensures.items (All-push IsNewSeat c.loop-reach.seats.items c.new_seat.result c.loop-reach.invariant.1 c.new_seat.ensures.new),
  append_assoc c.loop-reach.yielded (c.in-Some.reach ∷ []) (into_iter_items c.next.new.self) ∙ ap (λ l. c.loop-reach.yielded ++ l) (sym c.in-Some.ensures.steps.0) ∙ c.loop-reach.invariant.2,
)
