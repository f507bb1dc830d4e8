use Rattle.certificate.proofs.LineForms.{no_run, no_run_order, no_run_model, no_run_end, run_made}
use Rattle.certificate.proofs.forms.run.Goals as goal

pub returns-in_err-notion : goal.returns-in_err-notion
returns-in_err-notion c = rw c.from_residual.ensures (no_run c.args.bytes.now c.in_err-notion.ensures)

pub returns-in_err-order : goal.returns-in_err-order
returns-in_err-order c =
    rw c.from_residual-in_err-order.ensures
    (no_run_order c.args.bytes.now c.in_ok-notion.notion c.in_ok-notion.rest.now c.in_ok-notion.ensures c.in_err-order.ensures)

pub returns-in_err-model : goal.returns-in_err-model
returns-in_err-model c =
    rw c.from_residual-in_err-model.ensures
    (no_run_model c.args.bytes.now c.in_ok-notion.notion c.in_ok-notion.rest.now c.in_ok-order.order c.in_ok-order.rest.now
    c.in_ok-notion.ensures c.in_ok-order.ensures c.in_err-model.ensures)

pub returns-in_err-rest : goal.returns-in_err-rest
returns-in_err-rest c =
    rw c.from_residual-in_err-rest.ensures
    (no_run_end c.args.bytes.now c.in_ok-notion.notion c.in_ok-notion.rest.now c.in_ok-order.order c.in_ok-order.rest.now
    c.in_ok-model.model c.in_ok-model.rest.now c.in_ok-notion.ensures c.in_ok-order.ensures c.in_ok-model.ensures c.in_err-rest.ensures)

pub returns : goal.returns
returns c =
    run_made c.args.bytes.now c.in_ok-notion.notion c.in_ok-order.order c.in_ok-model.model c.in_ok-notion.rest.now
    c.in_ok-order.rest.now c.in_ok-model.rest.now c.in_ok-rest.rest.now c.in_ok-notion.ensures c.in_ok-order.ensures
    c.in_ok-model.ensures c.in_ok-rest.ensures
