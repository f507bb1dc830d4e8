use Rattle.std.proofs.Common.{refl}
use Rattle.steal_frontier.specs.declared.seat.Seat.{Seat}
use Rattle.steal_frontier.specs.Seats.{view_of, workers_of}
use Rattle.steal_frontier.proofs.Balanced.{found_gave}
use Rattle.steal_frontier.proofs.Kept.{holding_keeps, missing_keeps, nothing_gave, stolen_count}
use Rattle.std.proofs.Common.{Some}
use Rattle.steal_frontier.proofs.seat.Seat.take.Goals as goal

pub returns-in-Some-clause-keeps : goal.returns-in-Some-clause-keeps
returns-in-Some-clause-keeps c =
    let mid = c.find.new.self in
    let new : Seat = record { reach = mid.reach; stack = mid.stack; held = Some c.in-Some.family; ended = mid.ended; roots = mid.roots } in
    holding_keeps c.args.self.now new c.find.ensures.deques (workers_of c.args.frontier.now) c.in-Some.family (view_of mid) c.in-Some.ensures.found refl c.in-Some.ensures.fits

pub returns-in-Some-clause-balance : goal.returns-in-Some-clause-balance
returns-in-Some-clause-balance c = λ given before.
    found_gave (workers_of c.args.frontier.now) (view_of c.args.self.now) c.in-Some.family given c.requires.free before (view_of c.find.new.self) (stolen_count c.args.frontier.now.deques c.args.self.now.reach c.requires.seat.reach) c.in-Some.ensures.found

pub returns-in-None-clause-keeps : goal.returns-in-None-clause-keeps
returns-in-None-clause-keeps c = missing_keeps c.args.self.now c.find.new.self c.find.ensures.deques (workers_of c.args.frontier.now) c.in-None.ensures.nothing

pub returns-in-None-clause-balance : goal.returns-in-None-clause-balance
returns-in-None-clause-balance c = nothing_gave c.args.self.now c.find.new.self c.find.ensures.deques (workers_of c.args.frontier.now) c.in-None.ensures.nothing
