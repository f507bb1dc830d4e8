use Rattle.std.proofs.Common.{Some, None, ◌∙◌, subst}
use Rattle.circuit_types.specs.DataSources.{gate_sources, data_sources}
use Rattle.circuit_types.specs.Order.{order_of}
use Rattle.level_unroll.proofs.Deciding.{all_within, all_listed, listed_same, resets_same, enables_same, Gates, Registers, gate_loop_due, register_loop_due, reset_due, enable_due, none_due}
use Rattle.level_unroll.proofs.unroll.levels.Goals as goal

pub unlisted_line-requires : goal.unlisted_line-requires
unlisted_line-requires c = all_within gate_sources c.args.nets c.deref.result.now (c.deref.ensures.value ∙ c.in_ok-levelled.ensures)

pub returns-in-Some-clause-cause : goal.returns-in-Some-clause-cause
returns-in-Some-clause-cause c =
    gate_loop_due c.args.roles.now c.args.timing c.args.nets c.in-Some.line
    (subst (Gates c.args.roles.now c.args.timing c.args.nets) c.in-Some.is
    (listed_same c.args.nets c.deref.result.now (order_of gate_sources c.args.nets) c.in_ok-line.field-0 (c.deref.ensures.value ∙ c.in_ok-levelled.ensures) c.in_ok-line.ensures))

pub unlisted_line-requires-2 : goal.unlisted_line-requires-2
unlisted_line-requires-2 c = all_within (data_sources c.args.timing) c.args.nets c.deref-2.result.now (c.deref-2.ensures.value ∙ c.in_ok-settled.ensures)

pub returns-in-Some-2-clause-cause : goal.returns-in-Some-2-clause-cause
returns-in-Some-2-clause-cause c =
    register_loop_due c.args.roles.now c.args.timing c.args.nets c.in-Some-2.line
    (subst (Gates c.args.roles.now c.args.timing c.args.nets) c.in_default.is
    (listed_same c.args.nets c.deref.result.now (order_of gate_sources c.args.nets) c.in_ok-line.field-0 (c.deref.ensures.value ∙ c.in_ok-levelled.ensures) c.in_ok-line.ensures))
    (subst (Registers c.args.roles.now c.args.timing c.args.nets) c.in-Some-2.is
    (listed_same c.args.nets c.deref-2.result.now (order_of (data_sources c.args.timing) c.args.nets) c.in_ok-line-2.field-0 (c.deref-2.ensures.value ∙ c.in_ok-settled.ensures) c.in_ok-line-2.ensures))

pub new-requires-clause-levelled : goal.new-requires-clause-levelled
new-requires-clause-levelled c =
    all_listed c.args.nets (order_of gate_sources c.args.nets)
    (subst (Gates c.args.roles.now c.args.timing c.args.nets) c.in_default.is
    (listed_same c.args.nets c.deref.result.now (order_of gate_sources c.args.nets) c.in_ok-line.field-0 (c.deref.ensures.value ∙ c.in_ok-levelled.ensures) c.in_ok-line.ensures))

pub returns-in-Some-reset_line-clause-cause : goal.returns-in-Some-reset_line-clause-cause
returns-in-Some-reset_line-clause-cause c =
    reset_due c.args.roles.now c.args.timing c.args.nets c.in-Some-reset_line.line
    (subst (Gates c.args.roles.now c.args.timing c.args.nets) c.in_default.is
    (listed_same c.args.nets c.deref.result.now (order_of gate_sources c.args.nets) c.in_ok-line.field-0 (c.deref.ensures.value ∙ c.in_ok-levelled.ensures) c.in_ok-line.ensures))
    (subst (Registers c.args.roles.now c.args.timing c.args.nets) c.in_default-2.is
    (listed_same c.args.nets c.deref-2.result.now (order_of (data_sources c.args.timing) c.args.nets) c.in_ok-line-2.field-0 (c.deref-2.ensures.value ∙ c.in_ok-settled.ensures) c.in_ok-line-2.ensures))
    (resets_same c.args.roles.now c.args.nets c.in_ok-held.held c.requires.wired c.in_ok-held.ensures (Some c.in-Some-reset_line.line) c.in-Some-reset_line.ensures)

pub returns-in-Some-enable_line-clause-cause : goal.returns-in-Some-enable_line-clause-cause
returns-in-Some-enable_line-clause-cause c =
    enable_due c.args.roles.now c.args.timing c.args.nets c.in-Some-enable_line.line
    (subst (Gates c.args.roles.now c.args.timing c.args.nets) c.in_default.is
    (listed_same c.args.nets c.deref.result.now (order_of gate_sources c.args.nets) c.in_ok-line.field-0 (c.deref.ensures.value ∙ c.in_ok-levelled.ensures) c.in_ok-line.ensures))
    (subst (Registers c.args.roles.now c.args.timing c.args.nets) c.in_default-2.is
    (listed_same c.args.nets c.deref-2.result.now (order_of (data_sources c.args.timing) c.args.nets) c.in_ok-line-2.field-0 (c.deref-2.ensures.value ∙ c.in_ok-settled.ensures) c.in_ok-line-2.ensures))
    (resets_same c.args.roles.now c.args.nets c.in_ok-held.held c.requires.wired c.in_ok-held.ensures None c.in_default-reset_line.ensures)
    (enables_same c.args.roles.now c.args.nets c.in_ok-held.held c.requires.wired c.in_ok-held.ensures (Some c.in-Some-enable_line.line) c.in-Some-enable_line.ensures)

pub returns-clause-levelled : goal.returns-clause-levelled
returns-clause-levelled c = record {
  order = c.from_vec.ensures ∙ c.in_ok-settled.ensures;
  each_settled =
      all_listed c.args.nets (order_of (data_sources c.args.timing) c.args.nets)
      (subst (Registers c.args.roles.now c.args.timing c.args.nets) c.in_default-2.is
      (listed_same c.args.nets c.deref-2.result.now (order_of (data_sources c.args.timing) c.args.nets) c.in_ok-line-2.field-0 (c.deref-2.ensures.value ∙ c.in_ok-settled.ensures) c.in_ok-line-2.ensures));
  timing = c.requires.timing;
}

pub returns-clause-cause : goal.returns-clause-cause
returns-clause-cause c =
    none_due c.args.roles.now c.args.timing c.args.nets
    (subst (Gates c.args.roles.now c.args.timing c.args.nets) c.in_default.is
    (listed_same c.args.nets c.deref.result.now (order_of gate_sources c.args.nets) c.in_ok-line.field-0 (c.deref.ensures.value ∙ c.in_ok-levelled.ensures) c.in_ok-line.ensures))
    (subst (Registers c.args.roles.now c.args.timing c.args.nets) c.in_default-2.is
    (listed_same c.args.nets c.deref-2.result.now (order_of (data_sources c.args.timing) c.args.nets) c.in_ok-line-2.field-0 (c.deref-2.ensures.value ∙ c.in_ok-settled.ensures) c.in_ok-line-2.ensures))
    (resets_same c.args.roles.now c.args.nets c.in_ok-held.held c.requires.wired c.in_ok-held.ensures None c.in_default-reset_line.ensures)
    (enables_same c.args.roles.now c.args.nets c.in_ok-held.held c.requires.wired c.in_ok-held.ensures None c.in_default-enable_line.ensures)
