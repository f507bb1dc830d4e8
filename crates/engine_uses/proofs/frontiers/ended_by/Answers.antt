use Rattle.std.proofs.Common.{◌≡◌, length, arith}
use Rattle.steal_frontier.proofs.Kept.{seats_used}
use Rattle.engine_uses.proofs.frontiers.ended_by.Goals as goal

pub gather-requires : goal.gather-requires
gather-requires g c =
    let before = c.in_ok-frontier.seats in
    let after = c.in_ok-seats.seats in
    let count : length after.items ≡ length before.items = (let n = c.in_ok-seats.ensures.count in first_of (omega arith, omega (arith, before.ok.0, after.ok.0))) in
    seats_used c.in_ok-frontier.frontier before.items after.items count (λ k d low. c.in_ok-seats.ensures.kept k d (first_of (omega arith, omega (arith, before.ok.0)))) c.in_ok-frontier.ensures.seats
