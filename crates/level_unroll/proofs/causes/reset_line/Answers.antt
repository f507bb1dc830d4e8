use Rattle.std.proofs.Common.{◌≡◌, ◌<◌, ◌+◌, ℕ, Bool, Some, length, refl, sym, ap, ◌∙◌, subst, arith}
use Rattle.circuit_types.specs.DataSources.{cell_at}
use Rattle.circuit_types.specs.Held.{has_open_reset}
use Rattle.circuit_types.proofs.Cells.{cell_read}
use Rattle.level_unroll.specs.Lines.{IsLeastLine, AtCellBelow}
use Rattle.level_unroll.specs.Shown.{kept_value}
use Rattle.level_unroll.proofs.Leasts.{least_yes, least_no, least_all}
use Rattle.level_unroll.proofs.causes.reset_line.Goals as goal
use Rattle.level_unroll.proofs.causes.reset_line.Goals.{then-has_open_reset, else-has_open_reset}

pub loop-cell-preserved : goal.loop-cell-preserved
loop-cell-preserved c =
    let test : ℕ → Bool = λ k. has_open_reset (kept_value c.args.held.now) (cell_at c.args.nets.now k) (cell_at c.args.nets.now k).kind in
    let lt : c.loop-cell.cell-index < length c.args.nets.now.cells = omega (arith, c.loop-cell-test.true, ap length c.as_slice-cell-items.ensures) in
    let cell = cell_read c.args.nets.now c.loop-cell.cell-index c.cell-item.result _ c.as_slice-cell-items.ensures lt c.cell-item.is in
    let here : c.has_open_reset.result ≡ test c.loop-cell.cell-index = c.has_open_reset.ensures ∙ ap (λ of. has_open_reset (kept_value c.args.held.now) of of.kind) cell in
    elim c.if-has_open_reset.branch [
      | then-has_open_reset w ↦
          subst (IsLeastLine (AtCellBelow c.args.nets.now test (c.loop-cell.cell-index + 1))) (sym (w.least-is ∙ ap (λ l. Some l) w.lesser.ensures))
          (least_yes c.args.nets.now test c.loop-cell.cell-index _ c.cell-item.result.line c.loop-cell.least refl (sym here ∙ w.if-has_open_reset.true) (sym (ap (λ of. of.line) cell)) c.loop-cell.invariant)
      | else-has_open_reset w ↦
          subst (IsLeastLine (AtCellBelow c.args.nets.now test (c.loop-cell.cell-index + 1))) (sym w.least-is)
          (least_no c.args.nets.now test c.loop-cell.cell-index _ c.loop-cell.least refl (sym here ∙ w.if-has_open_reset.false) c.loop-cell.invariant)
    ]

pub returns : goal.returns
returns c =
    least_all c.args.nets.now (λ k. has_open_reset (kept_value c.args.held.now) (cell_at c.args.nets.now k) (cell_at c.args.nets.now k).kind) c.loop-cell.cell-index c.loop-cell.least
    (omega (arith, c.loop-cell.auto, ap length c.as_slice-cell-items.ensures)) (omega (arith, c.loop-cell-test.false, ap length c.as_slice-cell-items.ensures)) c.loop-cell.invariant
