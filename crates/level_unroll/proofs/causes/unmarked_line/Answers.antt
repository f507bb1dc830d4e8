use Rattle.std.proofs.Common.{◌<◌, ◌+◌, ℕ, Bool, not, Some, length, refl, sym, ap, ◌∙◌, subst, arith}
use Rattle.circuit_types.proofs.Cells.{cell_read}
use Rattle.level_unroll.specs.Lines.{IsLeastLine, AtCellBelow}
use Rattle.level_unroll.specs.Queue.{is_in}
use Rattle.level_unroll.proofs.Leasts.{least_yes, least_no, least_all}
use Rattle.level_unroll.proofs.causes.unmarked_line.Goals as goal
use Rattle.level_unroll.proofs.causes.unmarked_line.Goals.{then-not-listed-i, else-not-listed-i}

pub loop-i-preserved : goal.loop-i-preserved
loop-i-preserved c =
    let test : ℕ → Bool = λ k. not (is_in c.args.listed.now k) in
    let lt : c.loop-i.i < length c.args.nets.now.cells = omega (arith, c.loop-i-test.true, ap length c.as_slice-cell-items.ensures) in
    let cell = cell_read c.args.nets.now c.loop-i.i c.cell-item.result _ c.as_slice-cell-items.ensures lt c.cell-item.is in
    elim c.if-not-listed-i.branch [
      | then-not-listed-i w ↦
          subst (IsLeastLine (AtCellBelow c.args.nets.now test (c.loop-i.i + 1))) (sym (w.least-is ∙ ap (λ l. Some l) w.lesser.ensures))
          (least_yes c.args.nets.now test c.loop-i.i _ c.cell-item.result.line c.loop-i.least refl (ap not w.if-not-listed-i.true) (sym (ap (λ of. of.line) cell)) c.loop-i.invariant)
      | else-not-listed-i w ↦
          subst (IsLeastLine (AtCellBelow c.args.nets.now test (c.loop-i.i + 1))) (sym w.least-is)
          (least_no c.args.nets.now test c.loop-i.i _ c.loop-i.least refl (ap not w.if-not-listed-i.false) c.loop-i.invariant)
    ]

pub returns : goal.returns
returns c =
    least_all c.args.nets.now (λ k. not (is_in c.args.listed.now k)) c.loop-i.i c.loop-i.least
    (omega (arith, c.loop-i.auto, ap length c.as_slice-cell-items.ensures)) (omega (arith, c.loop-i-test.false, ap length c.as_slice-cell-items.ensures)) c.loop-i.invariant
