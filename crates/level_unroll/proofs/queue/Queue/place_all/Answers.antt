use Rattle.std.proofs.Common.{◌∙◌, arith}
use Rattle.circuit_types.specs.DataSources.{data_sources}
use Rattle.level_unroll.proofs.Placing.{none_woken, woken_before, woken_within, woken_unlisted, woken_next}
use Rattle.level_unroll.proofs.queue.Queue.place_all.Goals as goal

pub place-requires-clause-within : goal.place-requires-clause-within
place-requires-clause-within c =
    woken_within (data_sources c.args.timing) c.args.nets.now c.loop-number.self c.loop-number.number c.loop-number.invariant.woken c.index-wait.result.now (omega arith) c.index-wait.ensures

pub place-requires-clause-unlisted : goal.place-requires-clause-unlisted
place-requires-clause-unlisted c =
    woken_unlisted (data_sources c.args.timing) c.args.nets.now c.loop-number.self c.loop-number.number c.loop-number.invariant.woken c.index-wait.result.now (omega arith) c.index-wait.ensures

pub loop-number-smaller : goal.loop-number-smaller
loop-number-smaller c =
    woken_before (data_sources c.args.timing) c.args.nets.now c.loop-number.self c.loop-number.number c.loop-number.invariant.woken c.index-wait.result.now (omega arith) c.index-wait.ensures

pub loop-number-preserved : goal.loop-number-preserved
loop-number-preserved c = record {
  flags = c.place.ensures.flags ∙ c.loop-number.invariant.flags;
  woken = woken_next (data_sources c.args.timing) c.args.nets.now c.loop-number.self c.loop-number.number c.loop-number.invariant.woken c.index-wait.result.now (omega arith) c.index-wait.ensures
      c.place.new.self c.place.ensures.flags c.in_ok-place.ensures.waits c.in_ok-place.ensures.placed;
}

pub returns-clause-queue : goal.returns-clause-queue
returns-clause-queue c =
    none_woken (data_sources c.args.timing) c.args.nets.now c.loop-number.self c.loop-number.number c.loop-number.invariant.woken c.loop-number-test.false
