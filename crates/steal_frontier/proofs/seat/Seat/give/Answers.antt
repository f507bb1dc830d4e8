use Rattle.std.proofs.Common.{sym, refl}
use Rattle.steal_frontier.specs.declared.seat.Seat.{Seat}
use Rattle.steal_frontier.specs.Seats.{view_of}
use Rattle.steal_frontier.specs.Gives.{Gives}
use Rattle.steal_frontier.proofs.Given.{gives_gave}
use Rattle.steal_frontier.proofs.Kept.{gives_of, giving_keeps}
use Rattle.steal_frontier.proofs.seat.Seat.give.Goals as goal

pub returns : goal.returns
returns c =
    let old = c.args.self.now in
    let new : Seat = record { reach = c.offer_last.new.reach; stack = c.append.new.self; held = c.take.new.self; ended = c.push.new.self; roots = old.roots } in
    let gives : Gives (view_of old) c.args.how c.args.children.items (view_of new) =
    gives_of old new c.args.how c.args.children.items c.in-Some.family c.reverse.new.self.items c.offer_last.new.families.items (sym c.in-Some.ensures.value) c.reverse.ensures.items c.offer_last.ensures.offered c.in-Ok-append.ensures.items c.in-Ok.ensures.items c.take.ensures.after refl in record {
      keeps = giving_keeps old new c.offer_last.ensures.deques c.args.frontier.now c.args.how c.args.children.items c.requires.seat c.requires.fits gives;
      gives = gives;
      balance = gives_gave (view_of old) (view_of new) c.args.how c.args.children.items gives c.requires.seat.sound;
    }
