use Rattle.std.proofs.Common.{List, ap, ◌∙◌}
use Rattle.share_notes.specs.declared.mark.MarkedWire.{MarkedWire}
use Rattle.share_notes.specs.Causes.{form_lines, missing_lines}
use Rattle.share_notes.specs.Clocks.{clock_lines}
use Rattle.share_notes.specs.Marks.{marked_wires}
use Rattle.share_notes.specs.Shares.{share_count, single_lines}
use Rattle.share_notes.proofs.Dues.{silent, form_due, missing_due, causes_pass, roles_pass}
use Rattle.share_notes.proofs.FewShares.{few_ordered, placed_ordered}
use Rattle.share_notes.proofs.ports.roles_of.Goals as goal

pub returns-in-Some-clause-cause : goal.returns-in-Some-clause-cause
returns-in-Some-clause-cause c =
    form_due c.args.items.now c.args.nets.now c.deref-2.result.now c.in-Some.line
    (c.deref-2.ensures.value ∙ (c.in_ok-form_lines.ensures ∙ ap form_lines (c.deref.ensures.value ∙ c.in_ok-wires.ensures.wires)))
    c.in-Some.ensures

pub returns-in-Some-least-clause-cause : goal.returns-in-Some-least-clause-cause
returns-in-Some-least-clause-cause c =
    missing_due c.args.items.now c.args.nets.now c.deref-4.result.now c.in-Some-least.line
    (silent c.deref-2.result.now (form_lines (marked_wires c.args.items.now))
    (c.deref-2.ensures.value ∙ (c.in_ok-form_lines.ensures ∙ ap form_lines (c.deref.ensures.value ∙ c.in_ok-wires.ensures.wires)))
    c.in_default.ensures)
    (c.deref-4.ensures.value ∙ (c.in_ok-missing_lines.ensures ∙ ap missing_lines (c.deref-3.ensures.value ∙ c.in_ok-wires.ensures.wires)))
    c.in-Some-least.ensures

pub roles_in_order-requires-clause-placed : goal.roles_in_order-requires-clause-placed
roles_in_order-requires-clause-placed c =
    placed_ordered c.in_ok-wires.wires.items c.in_ok-ordered.ordered.items c.deref-8.result.now c.in_ok-ordered.ensures.permutation c.deref-8.ensures.value c.in_ok-wires.ensures.placed

pub roles_in_order-requires-clause-few : goal.roles_in_order-requires-clause-few
roles_in_order-requires-clause-few c =
    few_ordered c.args.items.now c.in_ok-wires.wires.items c.in_ok-ordered.ordered.items c.deref-8.result.now c.in_ok-wires.ensures.wires c.in_ok-ordered.ensures.permutation
    c.deref-8.ensures.value c.requires

pub returns-clause-roles : goal.returns-clause-roles
returns-clause-roles c =
    roles_pass c.args.items.now c.args.nets.now c.in_ok-wires.wires.items c.deref-8.result.now c.share_count-count.result c.in_ok-single.single.items c.deref-9.result.now
    c.in_ok-wires.ensures.wires
    (c.deref-8.ensures.value ∙ c.in_ok-ordered.ensures.order)
    (c.share_count-count.ensures ∙ ap share_count c.deref-5.ensures.value)
    (c.in_ok-single.ensures ∙ ap (single_lines c.share_count-count.result) c.deref-6.ensures.value)
    (c.deref-9.ensures.value ∙ (c.in_ok-clocks.ensures ∙ ap (λ (ws : List MarkedWire). clock_lines ws c.args.nets.now) c.deref-7.ensures.value))
    c.roles_in_order.result c.roles_in_order.ensures.roles

pub returns-clause-cause : goal.returns-clause-cause
returns-clause-cause c =
    causes_pass c.args.items.now c.args.nets.now c.in_ok-wires.wires.items c.deref-8.result.now c.share_count-count.result c.in_ok-single.single.items c.deref-9.result.now
    c.in_ok-wires.ensures.wires
    (c.deref-8.ensures.value ∙ c.in_ok-ordered.ensures.order)
    (c.share_count-count.ensures ∙ ap share_count c.deref-5.ensures.value)
    (c.in_ok-single.ensures ∙ ap (single_lines c.share_count-count.result) c.deref-6.ensures.value)
    (c.deref-9.ensures.value ∙ (c.in_ok-clocks.ensures ∙ ap (λ (ws : List MarkedWire). clock_lines ws c.args.nets.now) c.deref-7.ensures.value))
    (silent c.deref-2.result.now (form_lines (marked_wires c.args.items.now))
    (c.deref-2.ensures.value ∙ (c.in_ok-form_lines.ensures ∙ ap form_lines (c.deref.ensures.value ∙ c.in_ok-wires.ensures.wires)))
    c.in_default.ensures)
    (silent c.deref-4.result.now (missing_lines (marked_wires c.args.items.now))
    (c.deref-4.ensures.value ∙ (c.in_ok-missing_lines.ensures ∙ ap missing_lines (c.deref-3.ensures.value ∙ c.in_ok-wires.ensures.wires)))
    c.in_default-least.ensures)
    c.roles_in_order.result c.roles_in_order.ensures.cause
