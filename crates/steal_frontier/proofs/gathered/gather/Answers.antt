use Rattle.std.proofs.Common.{◌≡◌, ◌++◌, length, sym, ap, ◌∙◌, subst, arith}
use Rattle.std.specs.Vec.Iter.{into_iter_items}
use Rattle.std.proofs.lemmas.List.Elements.{All-append, All-same}
use Rattle.deque_reach.specs.Reaches.{AreReachesOf, IsLeft}
use Rattle.probe_family.specs.Often.{families_of}
use Rattle.steal_frontier.specs.Seats.{FitsFrontier}
use Rattle.steal_frontier.specs.Gathers.{all_ended, all_waiting}
use Rattle.steal_frontier.proofs.Joined.{reaches_of, all_reaches, all_came, ended_fit, waiting_fit, balance_as}
use Rattle.steal_frontier.proofs.gathered.gather.Goals as goal

pub drain_deques-requires : goal.drain_deques-requires
drain_deques-requires c =
    let none : length (into_iter_items c.loop-seat.seat-iterator) ≡ 0 = (let steps = c.in-None.ensures.steps in omega arith) in
    let all : c.loop-seat.yielded ≡ c.args.seats.items = all_came c.loop-seat.yielded (into_iter_items c.loop-seat.seat-iterator) c.args.seats.items c.loop-seat.invariant.3 none in
    subst (AreReachesOf c.args.frontier.deques) (sym (c.loop-seat.invariant.0 ∙ ap reaches_of all)) (all_reaches c.args.frontier c.args.seats.items c.requires)

pub returns : goal.returns
returns c =
    let f = c.args.frontier in
    let seats = c.args.seats.items in
    let in_deques = c.in_ok-in_deques.in_deques.items in
    let none : length (into_iter_items c.loop-seat.seat-iterator) ≡ 0 = (let steps = c.in-None.ensures.steps in omega arith) in
    let all : c.loop-seat.yielded ≡ seats = all_came c.loop-seat.yielded (into_iter_items c.loop-seat.seat-iterator) seats c.loop-seat.invariant.3 none in
    let ended : c.from_vec.result ≡ all_ended seats = c.from_vec.ensures ∙ c.loop-seat.invariant.1 ∙ ap all_ended all in
    let left : c.from_vec-2.result ≡ all_waiting seats ++ in_deques = c.from_vec-2.ensures ∙ c.in_ok-append.ensures.items ∙ ap (λ l. l ++ in_deques) (c.loop-seat.invariant.2 ∙ ap all_waiting all) in
    let there : IsLeft (reaches_of seats) in_deques = subst (λ rs. IsLeft rs in_deques) (c.loop-seat.invariant.0 ∙ ap reaches_of all) c.in_ok-in_deques.ensures.left in record {
      ended = ended;
      left = record { in_deques = in_deques; left_there = there; all = left };
      ended_fit = All-same (FitsFrontier f) _ _ (ap families_of ended) (ended_fit f seats c.requires.each);
      left_fit = All-same (FitsFrontier f) _ _ left (All-append (FitsFrontier f) (all_waiting seats) in_deques (waiting_fit f seats c.requires.each) c.in_ok-in_deques.ensures.fits);
      balance = balance_as seats c.from_vec.result c.from_vec-2.result in_deques ended left there;
    }
