use Rattle.std.proofs.Common.{rules, ◌≡◌, Some, ap, ◌∙◌, sym, refl, arith}
use Rattle.crossbeam_deque.specs.Handles.{worker_deque, worker_view}
use Rattle.deque_reach.specs.Lanes.{IsLaneTo}
use Rattle.deque_reach.proofs.Kept.{takes}
use Rattle.deque_reach.proofs.Reached.{AllZip-changed, lane_missed}
use Rattle.deque_reach.proofs.reach.Reach.pop.Goals as goal

pub pop_as-requires-clause-fifo : goal.pop_as-requires-clause-fifo
pop_as-requires-clause-fifo c = λ _. takes _ _ (search rules) (search rules)

pub returns-in-None-clause-deques : goal.returns-in-None-clause-deques
returns-in-None-clause-deques c =
    let deque : worker_deque c.pop_as.new.self ≡ worker_deque c.args.self.now.owner = search rules in
    let view : worker_view c.pop_as.new.self ≡ worker_view c.args.self.now.owner = search rules in
    let parts = ap (λ v. v.parts) view in
    record {
      number = refl;
      deques = λ d of. record {
        own = of.own ∙ ap Some (sym deque);
        lanes = AllZip-changed IsLaneTo _ c.args.self.now.lanes.items c.args.self.now.number c.index_mut.result.now c.miss.new.self c.index_mut.ensures.value c.miss.ensures.deque of.lanes;
        parts = omega arith;
        probes = ap (λ v. v.probes) view ∙ of.probes;
        order = ap (λ v. v.order) view ∙ of.order;
      };
    }

pub returns-in-None-clause-missed : goal.returns-in-None-clause-missed
returns-in-None-clause-missed c =
    let view : worker_view c.pop_as.new.self ≡ worker_view c.args.self.now.owner = search rules in
    let m = lane_missed c.args.self.now.lanes.items c.args.self.now.number c.index_mut.result.now c.miss.new.self (search rules) c.index_mut.ensures.value c.miss.ensures in
    (c.miss.new.self.misses, m.2, rw (m.0, m.1, view))
