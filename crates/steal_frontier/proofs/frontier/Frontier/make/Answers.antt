use Rattle.std.proofs.Common.{◌≡◌, ◌++◌, ◌<◌, ◌%◌, ℕ, None, [], length, map, take, drop, sum_by, sym, refl, ap, ◌∙◌, subst, arith}
use Rattle.std.specs.List.{flat_map}
use Rattle.std.proofs.Math.Seq.{take-append_seam}
use Rattle.std.proofs.lemmas.List.Elements.{All-same}
use Rattle.steal_frontier.specs.declared.frontier.Frontier.{Frontier}
use Rattle.steal_frontier.specs.declared.seat.Seat.{Seat}
use Rattle.steal_frontier.specs.Views.{Gave, roots_of}
use Rattle.steal_frontier.specs.Seats.{view_of, room_of, AreSeatsOf}
use Rattle.steal_frontier.specs.Dealt.{DealsTo, IsNewSeat, first_seats}
use Rattle.steal_frontier.proofs.Begun.{roots_fit, roots_dealt, seats_views, seats_gave, seats_room, seats_are}
use Rattle.steal_frontier.proofs.frontier.Frontier.make.Goals as goal

pub deal-requires-clause-fits : goal.deal-requires-clause-fits
deal-requires-clause-fits c =
    let made = c.in_ok-deques.ensures in
    let value = c.as_mut_slice.ensures.value in
    roots_fit c.in_ok-deques.deques c.args.workers c.args.probes c.args.order c.in_ok-deques.reaches.items c.as_mut_slice.result.now c.args.roots.items made.workers made.reaches made.views
    (ap (map (λ (s : Seat). s.reach)) value ∙ c.in_ok-seats.ensures.reaches) (All-same IsNewSeat _ _ value c.in_ok-seats.ensures.new) c.requires.roots

pub returns : goal.returns
returns c =
    let deques = c.in_ok-deques.deques in
    let made = c.in_ok-deques.ensures in
    let before = c.in_ok-seats.seats.items in
    let now = c.deal.new.seats in
    let roots = c.args.roots.items in
    let kept : length now ≡ length c.as_mut_slice.result.now = c.deal.auto.seats in
    let count : length now ≡ length before = kept ∙ ap length c.as_mut_slice.ensures.value in
    let deals : DealsTo before roots now = subst (λ l. DealsTo l roots now) c.as_mut_slice.ensures.value c.in_ok-deal.ensures in
    let few : c.in_ok-seats.seats.len ≡ length now = (let len = c.as_mut_slice.ensures.len in omega arith) in
    let same : take c.in_ok-seats.seats.len (now ++ drop (length now) before) ≡ now = ap (λ k. take k (now ++ drop (length now) before)) few ∙ take-append_seam now (drop (length now) before) in
    let f : Frontier = record { deques = deques } in
    let theirs = c.in_ok-seats.ensures.reaches in
    let new = c.in_ok-seats.ensures.new in
    let views : map view_of now ≡ first_seats c.args.workers c.args.probes c.args.order roots = seats_views deques c.args.workers c.args.probes c.args.order c.in_ok-deques.reaches.items before roots made.workers made.reaches made.views theirs new now count deals in
    let low : (k : ℕ) → k % c.args.workers < c.args.workers = λ k. omega arith in record {
      workers = made.workers;
      probes = made.probes;
      order = made.order;
      seats = subst (AreSeatsOf f) (sym same) (seats_are deques c.args.workers c.args.probes c.args.order c.in_ok-deques.reaches.items before roots made.workers made.reaches made.views theirs new now count deals f refl);
      views = ap (map view_of) same ∙ views;
      roots = λ h. ap (λ vs. sum_by h (flat_map roots_of vs)) (ap (map view_of) same ∙ views) ∙ roots_dealt c.args.workers c.args.probes c.args.order roots low h;
      room = All-same (λ (seat : Seat). room_of seat ≡ None) _ _ same (seats_room deques c.args.workers c.args.probes c.args.order c.in_ok-deques.reaches.items before roots made.workers made.reaches made.views theirs new now count deals);
      balance = All-same (λ (seat : Seat). Gave (view_of seat) []) _ _ same (seats_gave deques c.args.workers c.args.probes c.args.order c.in_ok-deques.reaches.items before roots made.workers made.reaches made.views theirs new now count deals);
    }
