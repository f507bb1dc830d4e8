use Rattle.std.proofs.Common.{◌<◌, ◌∙◌, get_or, set, length, ap, arith}
use Rattle.std.proofs.lemmas.List.{take_all}
use Rattle.live_rows.specs.Marks.{mark_at, empty_mark}
use Rattle.live_rows.proofs.Marks.{found_within}
use Rattle.live_rows.proofs.Numbers.{has_at}
use Rattle.live_rows.proofs.Cleared.{one_more_empty, others_stay, all_empty}
use Rattle.live_rows.proofs.live_rows.forget.Goals as goal

pub bounds-marks-get : goal.bounds-marks-get
bounds-marks-get c =
    let found = c.args.found.now.numbers in
    let row : get_or found c.loop-place.place 0 < length c.args.marks.now =
    found_within c.args.marks.now found c.requires (get_or found c.loop-place.place 0) (has_at found c.loop-place.place 0 (omega arith)) in
    omega (arith, row, c.get.ensures)

pub loop-place-preserved : goal.loop-place-preserved
loop-place-preserved c =
    let found = c.args.found.now.numbers in
    let place = c.loop-place.place in
    let row : get_or found place 0 < length c.args.marks.now = found_within c.args.marks.now found c.requires (get_or found place 0) (has_at found place 0 (omega arith)) in
    let within : get_or found place 0 < length c.loop-place.marks = omega arith in
    record {
      done = λ r h. ap (λ q. mark_at (set c.loop-place.marks q empty_mark) r) c.get.ensures
          ∙ one_more_empty found place c.loop-place.marks c.args.marks.now (omega arith) within c.loop-place.invariant.done c.loop-place.invariant.same r h;
      same = λ r h. ap (λ q. mark_at (set c.loop-place.marks q empty_mark) r) c.get.ensures
          ∙ others_stay found place c.loop-place.marks c.args.marks.now (omega arith) within c.loop-place.invariant.done c.loop-place.invariant.same r h;
    }

pub returns : goal.returns
returns c =
    all_empty c.args.found.now.numbers c.loop-place.place c.loop-place.marks c.args.marks.now (take_all c.loop-place.place c.args.found.now.numbers (omega arith)) c.requires
    c.loop-place.invariant.done c.loop-place.invariant.same
