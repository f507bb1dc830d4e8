use Rattle.std.proofs.Common.{◌≡◌, ◌<◌, false, true, length, get_or, refl, ap, subst, arith}
use Rattle.circuit_types.specs.DataSources.{data_sources}
use Rattle.circuit_types.proofs.Cells.{cell_read}
use Rattle.level_unroll.specs.declared.queue.Wait.{Wait}
use Rattle.level_unroll.specs.Queue.{is_in, reads_cell}
use Rattle.level_unroll.proofs.Links.{more_waits}
use Rattle.level_unroll.proofs.Placing.{placed_waiting}
use Rattle.level_unroll.proofs.queue.Queue.place.Goals as goal

pub returns-in_ok-put_off-in-Some-clause-waits : goal.returns-in_ok-put_off-in-Some-clause-waits
returns-in_ok-put_off-in-Some-clause-waits c number le = more_waits c.args.self.now c.put_off.new.self _ c.in_ok-put_off-in-Some.ensures.waits number le

pub returns-in_ok-put_off-in-Some-clause-placed : goal.returns-in_ok-put_off-in-Some-clause-placed
returns-in_ok-put_off-in-Some-clause-placed c late old =
    let wait : Wait = record { cell = c.args.cell; earlier = get_or c.args.self.now.latest.items c.in-Some.other 0 } in
    let lt : c.in-Some.other < length c.args.self.now.latest.items = omega (arith, c.in-Some.ensures.within, ap length c.deref.ensures.value) in
    let cell = cell_read c.args.nets.now c.args.cell c.index-as_slice-cell.result _ c.as_slice.ensures c.requires.within c.index-as_slice-cell.is in
    placed_waiting (data_sources c.args.timing) c.args.nets.now late c.args.self.now c.put_off.new.self c.in-Some.other wait old lt refl
    c.in_ok-put_off-in-Some.ensures.latest c.in_ok-put_off-in-Some.ensures.waits c.put_off.ensures.flags c.put_off.ensures.ready c.requires.within c.requires.unlisted
    (subst (λ flags. is_in flags c.in-Some.other ≡ false) c.deref.ensures.value c.in-Some.ensures.awaits.0)
    (subst (λ of. reads_cell (data_sources c.args.timing of) c.in-Some.other ≡ true) cell c.in-Some.ensures.awaits.1)
