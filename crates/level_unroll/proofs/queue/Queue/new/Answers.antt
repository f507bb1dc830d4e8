use Rattle.std.proofs.Common.{◌≡◌, ℕ, false, length, replicate, refl, ap, ◌∙◌}
use Rattle.std.proofs.lemmas.List.{length-replicate}
use Rattle.circuit_types.specs.DataSources.{data_sources}
use Rattle.level_unroll.proofs.Placing.{start_queue, late_above}
use Rattle.level_unroll.proofs.queue.Queue.new.Goals as goal

pub loop-cell-init : goal.loop-cell-init
loop-cell-init c =
    let size : length c.as_slice-count.result.now ≡ length c.args.nets.now.cells = ap length c.as_slice-count.ensures in
    record {
      flags = c.in_ok-queue.ensures.listed ∙ ap (λ n. replicate n false) size;
      numbers = ap length c.in_ok-queue.ensures.latest ∙ (length-replicate {A = ℕ} (length c.as_slice-count.result.now) 0 ∙ size);
      queue = start_queue (data_sources c.args.timing) c.args.nets.now c.in_ok-queue.queue (length c.as_slice-count.result.now) size
          c.in_ok-queue.ensures.listed c.in_ok-queue.ensures.ready c.in_ok-queue.ensures.latest c.in_ok-queue.ensures.waits;
    }

pub loop-cell-preserved : goal.loop-cell-preserved
loop-cell-preserved c = record {
  flags = ap (λ l. l.items) c.place.ensures.flags ∙ c.loop-cell.invariant.flags;
  numbers = c.place.ensures.numbers;
  queue = late_above (data_sources c.args.timing) c.args.nets.now c.place.new.self c.loop-cell.cell _ refl (c.in_ok-place.ensures.placed _ c.loop-cell.invariant.queue);
}
