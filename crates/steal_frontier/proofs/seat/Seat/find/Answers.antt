use Rattle.std.proofs.Common.{rules, ◌≡◌, ◌<◌, ◌∷◌, [], List, ap, subst}
use Rattle.std.proofs.lemmas.Option.{slice_get_within}
use Rattle.probe_family.specs.declared.family.Family.{Family}
use Rattle.deque_reach.specs.Reaches as Reaches
use Rattle.deque_reach.specs.Reaches.{deques_of}
use Rattle.deque_reach.proofs.Reached.{IfNone_then}
use Rattle.steal_frontier.specs.Seats.{view_of, workers_of}
use Rattle.steal_frontier.specs.Tries.{others_of, MissesEach}
use Rattle.steal_frontier.proofs.Tried.{each_rises}
use Rattle.steal_frontier.proofs.Kept.{misses_count}
use Rattle.steal_frontier.proofs.seat.Seat.find.Goals as goal

pub returns-clause-nothing : goal.returns-clause-nothing
returns-clause-nothing c = IfNone_then c.steal_from_others.result c.steal_from_others.ensures.missed (λ others.
    let old = c.args.self.now in
    let workers = workers_of c.args.frontier.now in
    let number = old.reach.number in
    let new = Reaches.view_of c.steal_from_others.new.reach in
    let empty : old.stack.items ≡ [] = search rules in
    let same : c.pop.new.self.items ≡ old.stack.items = search rules in
    let missed : MissesEach (Reaches.view_of old.reach) (number ∷ others_of workers number) new = (Reaches.view_of c.pop-2.new.self, c.in_default-pop.ensures.missed, subst (λ n. MissesEach (Reaches.view_of c.pop-2.new.self) (others_of workers n) new) c.in_default-pop.ensures.deques.number others) in
    let low : number < workers = slice_get_within (deques_of c.args.frontier.now.deques) number _ c.requires.reach.own in record {
      stack = empty;
      missed = missed;
      each = each_rises (Reaches.view_of old.reach) new workers number low (misses_count c.args.frontier.now.deques old.reach c.requires.reach) missed;
      rest = ap (λ (l : List Family). record (view_of old) { reach = new; stack = l }) same;
    })
