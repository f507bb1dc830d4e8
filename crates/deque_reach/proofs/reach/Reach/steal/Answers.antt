use Rattle.std.proofs.Common.{ap, ◌∙◌, sym, refl, arith}
use Rattle.std.proofs.lemmas.Option.{IfSome_then}
use Rattle.std.proofs.lemmas.List.{length-map, get_or-map}
use Rattle.std.proofs.lemmas.List.Elements.{All-get_or}
use Rattle.crossbeam_deque.specs.Handles.{stealer_deque, worker_view}
use Rattle.deque_reach.specs.Lanes.{IsLaneTo, KnowsSame}
use Rattle.deque_reach.specs.Reaches.{deques_of}
use Rattle.deque_reach.proofs.Reached.{IfNone_then, lane_low, known_fits, AllZip-at, AllZip-changed, lane_missed, lane_took}
use Rattle.deque_reach.proofs.reach.Reach.steal.Goals as goal

pub index_mut-requires : goal.index_mut-requires
index_mut-requires c = let low = lane_low (deques_of c.args.deques.now) c.args.self.now.lanes.items c.args.from c.requires.deque c.requires.deques.lanes in omega arith

pub steal-requires-clause-deque : goal.steal-requires-clause-deque
steal-requires-clause-deque c = AllZip-at IsLaneTo (deques_of c.args.deques.now) c.args.self.now.lanes.items c.args.from (stealer_deque c.index.result.now) c.index_mut.result.now c.requires.deque
    (ap stealer_deque c.index.ensures ∙ sym (get_or-map stealer_deque c.args.deques.now.thieves.items c.args.from c.index.result.now (stealer_deque c.index.result.now) (omega (arith, c.requires.deque, length-map c.args.deques.now.thieves.items stealer_deque))))
    c.index_mut.ensures.value c.requires.deques.lanes

pub returns-clause-deques : goal.returns-clause-deques
returns-clause-deques c = record {
  number = refl;
  deques = λ d of. record {
    own = of.own;
    lanes = AllZip-changed IsLaneTo _ c.args.self.now.lanes.items c.args.from c.index_mut.result.now c.steal.new.self c.index_mut.ensures.value c.steal.ensures.deque of.lanes;
    parts = of.parts;
    probes = of.probes;
    order = of.order;
  };
}

pub returns-clause-stolen : goal.returns-clause-stolen
returns-clause-stolen c = IfSome_then c.steal.result c.steal.ensures.stolen (λ f took.
    let t = lane_took c.args.self.now.lanes.items c.args.from c.index_mut.result.now c.steal.new.self f (lane_low (deques_of c.args.deques.now) c.args.self.now.lanes.items c.args.from c.requires.deque c.requires.deques.lanes) c.index_mut.ensures.value took in
    rw (t.0, t.1))

pub returns-clause-fits : goal.returns-clause-fits
returns-clause-fits c = IfSome_then c.steal.result c.steal.ensures.fits (λ f fits.
    let same = All-get_or (KnowsSame (worker_view c.args.self.now.owner)) c.args.self.now.lanes.items c.args.from c.index_mut.result.now (lane_low (deques_of c.args.deques.now) c.args.self.now.lanes.items c.args.from c.requires.deque c.requires.deques.lanes) c.args.self.now.same in
    known_fits (worker_view c.args.self.now.owner) _ c.index_mut.result.now f c.index_mut.ensures.value same fits)

pub returns-clause-missed : goal.returns-clause-missed
returns-clause-missed c = IfNone_then c.steal.result c.steal.ensures.missed (λ missed.
    let m = lane_missed c.args.self.now.lanes.items c.args.from c.index_mut.result.now c.steal.new.self (lane_low (deques_of c.args.deques.now) c.args.self.now.lanes.items c.args.from c.requires.deque c.requires.deques.lanes) c.index_mut.ensures.value missed in
    (c.steal.new.self.misses, m.2, rw (m.0, m.1)))
