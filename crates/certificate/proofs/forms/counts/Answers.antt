use Rattle.certificate.proofs.LineForms.{no_counts, no_counts_rows, no_counts_tuples, no_counts_end, counts_made}
use Rattle.certificate.proofs.forms.counts.Goals as goal

pub returns-in_err-probes : goal.returns-in_err-probes
returns-in_err-probes c = rw c.from_residual.ensures (no_counts c.args.bytes.now c.in_err-probes.ensures)

pub returns-in_err-rows : goal.returns-in_err-rows
returns-in_err-rows c =
    rw c.from_residual-in_err-rows.ensures
    (no_counts_rows c.args.bytes.now c.in_ok-probes.probes c.in_ok-probes.rest.now c.in_ok-probes.ensures c.in_err-rows.ensures)

pub returns-in_err-tuples : goal.returns-in_err-tuples
returns-in_err-tuples c =
    rw c.from_residual-in_err-tuples.ensures
    (no_counts_tuples c.args.bytes.now c.in_ok-probes.probes c.in_ok-probes.rest.now c.in_ok-rows.rows c.in_ok-rows.rest.now
    c.in_ok-probes.ensures c.in_ok-rows.ensures c.in_err-tuples.ensures)

pub returns-in_err-rest : goal.returns-in_err-rest
returns-in_err-rest c =
    rw c.from_residual-in_err-rest.ensures
    (no_counts_end c.args.bytes.now c.in_ok-probes.probes c.in_ok-probes.rest.now c.in_ok-rows.rows c.in_ok-rows.rest.now
    c.in_ok-tuples.tuples c.in_ok-tuples.rest.now c.in_ok-probes.ensures c.in_ok-rows.ensures c.in_ok-tuples.ensures
    c.in_err-rest.ensures)

pub returns : goal.returns
returns c =
    counts_made c.args.bytes.now c.in_ok-probes.probes c.in_ok-rows.rows c.in_ok-tuples.tuples c.in_ok-probes.rest.now
    c.in_ok-rows.rest.now c.in_ok-tuples.rest.now c.in_ok-rest.rest.now c.in_ok-probes.ensures c.in_ok-rows.ensures
    c.in_ok-tuples.ensures c.in_ok-rest.ensures
