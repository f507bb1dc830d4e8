use Rattle.std.proofs.Common.{◌∙◌}
use Rattle.share_notes.specs.Causes.{gap_lines, double_lines}
use Rattle.share_notes.specs.Shares.{numbered_shares}
use Rattle.share_notes.specs.declared.direction.Direction.TheVariants.{Input, Output}
use Rattle.share_notes.proofs.Dues.{silent, gap_due, double_due, clock_due, none_due, gaps_same, doubles_same}
use Rattle.share_notes.proofs.ports.roles_in_order.Goals as goal

pub returns-in-Some-clause-cause : goal.returns-in-Some-clause-cause
returns-in-Some-clause-cause c =
    let ins = numbered_shares Input c.args.wires.now in
    let outs = numbered_shares Output c.args.wires.now in
    gap_due c.args.count c.args.single.items c.args.clocks.now c.deref.result.now ins outs c.in-Some.line
    (c.deref.ensures.value ∙ gaps_same c.args.count c.args.single.items _ _ _ ins outs c.in_ok-gap_lines.ensures c.in_ok-inputs.ensures.shares c.in_ok-outputs.ensures.shares)
    c.in-Some.ensures

pub returns-in-Some-least-clause-cause : goal.returns-in-Some-least-clause-cause
returns-in-Some-least-clause-cause c =
    let ins = numbered_shares Input c.args.wires.now in
    let outs = numbered_shares Output c.args.wires.now in
    double_due c.args.count c.args.single.items c.args.clocks.now c.deref-2.result.now ins outs c.in-Some-least.line
    (silent c.deref.result.now (gap_lines c.args.count c.args.single.items ins outs)
    (c.deref.ensures.value ∙ gaps_same c.args.count c.args.single.items _ _ _ ins outs c.in_ok-gap_lines.ensures c.in_ok-inputs.ensures.shares c.in_ok-outputs.ensures.shares)
    c.in_default.ensures)
    (c.deref-2.ensures.value ∙ doubles_same _ _ _ ins outs c.in_ok-double_lines.ensures c.in_ok-inputs.ensures.shares c.in_ok-outputs.ensures.shares)
    c.in-Some-least.ensures

pub returns-in-Some-least-2-clause-cause : goal.returns-in-Some-least-2-clause-cause
returns-in-Some-least-2-clause-cause c =
    let ins = numbered_shares Input c.args.wires.now in
    let outs = numbered_shares Output c.args.wires.now in
    clock_due c.args.count c.args.single.items c.args.clocks.now ins outs c.in-Some-least-2.line
    (silent c.deref.result.now (gap_lines c.args.count c.args.single.items ins outs)
    (c.deref.ensures.value ∙ gaps_same c.args.count c.args.single.items _ _ _ ins outs c.in_ok-gap_lines.ensures c.in_ok-inputs.ensures.shares c.in_ok-outputs.ensures.shares)
    c.in_default.ensures)
    (silent c.deref-2.result.now (double_lines ins outs)
    (c.deref-2.ensures.value ∙ doubles_same _ _ _ ins outs c.in_ok-double_lines.ensures c.in_ok-inputs.ensures.shares c.in_ok-outputs.ensures.shares)
    c.in_default-least.ensures)
    c.in-Some-least-2.ensures

pub returns-clause-cause : goal.returns-clause-cause
returns-clause-cause c =
    let ins = numbered_shares Input c.args.wires.now in
    let outs = numbered_shares Output c.args.wires.now in
    none_due c.args.count c.args.single.items c.args.clocks.now ins outs
    (silent c.deref.result.now (gap_lines c.args.count c.args.single.items ins outs)
    (c.deref.ensures.value ∙ gaps_same c.args.count c.args.single.items _ _ _ ins outs c.in_ok-gap_lines.ensures c.in_ok-inputs.ensures.shares c.in_ok-outputs.ensures.shares)
    c.in_default.ensures)
    (silent c.deref-2.result.now (double_lines ins outs)
    (c.deref-2.ensures.value ∙ doubles_same _ _ _ ins outs c.in_ok-double_lines.ensures c.in_ok-inputs.ensures.shares c.in_ok-outputs.ensures.shares)
    c.in_default-least.ensures)
    c.in_default-least-2.ensures
