use Rattle.std.proofs.Common.{arith, ap, sym}
use Rattle.std.proofs.lemmas.Option.{slice_get_within}
use Rattle.crossbeam_deque.specs.Handles.{worker_view}
use Rattle.deque_reach.specs.Lanes.{IsLaneTo}
use Rattle.deque_reach.specs.Reaches.{deques_of}
use Rattle.deque_reach.proofs.Reached.{AllZip-length}
use Rattle.deque_reach.proofs.Made.{new_lanes_know, new_lanes_took, new_lanes_missed}
use Rattle.deque_reach.proofs.make.new_reach.Goals as goal

pub invariant_of-result : goal.invariant_of-result
invariant_of-result c =
    let is = c.requires.owner.view in
    let parts = ap (λ v. v.parts) is in
    let low = slice_get_within (deques_of c.args.deques.now) c.args.number _ c.requires.own in
    let count = AllZip-length IsLaneTo (deques_of c.args.deques.now) c.args.lanes.items c.requires.lanes.lanes in
    record {
      fifo = c.requires.owner.fifo;
      begun = ap (λ v. v.begun) is;
      part = omega arith;
      own_lane = omega arith;
      same = new_lanes_know _ _ c.args.lanes.items c.requires.lanes.new (worker_view c.args.owner) (ap (λ v. v.probes) is) (ap (λ v. v.order) is);
    }

pub returns-clause-view : goal.returns-clause-view
returns-clause-view c =
    let count = AllZip-length IsLaneTo (deques_of c.args.deques.now) c.args.lanes.items c.requires.lanes.lanes in
    rw (new_lanes_took _ _ c.args.lanes.items c.requires.lanes.new, new_lanes_missed _ _ c.args.lanes.items c.requires.lanes.new, sym count, c.requires.owner.view)
