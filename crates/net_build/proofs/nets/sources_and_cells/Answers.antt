use Rattle.std.proofs.Common.{◌≤◌, ◌∙◌, sym, subst}
use Rattle.std.proofs.lemmas.Result.{err_from_is_err_and}
use Rattle.circuit_types.specs.Items.{kept_cells, bit_count}
use Rattle.circuit_types.specs.Nets.{net_causes, most_bits}
use Rattle.net_build.specs.Form.{Decides}
use Rattle.net_build.proofs.GoodLemmas.{good_items}
use Rattle.net_build.proofs.NetLemmas.{form_due, twice_due, all_decided, faults_of_reads, accepted}
use Rattle.net_build.proofs.WithinLemmas.{wires_within}
use Rattle.net_build.proofs.nets.sources_and_cells.Goals as goal

pub checked_ports-requires-clause-few_bits : goal.checked_ports-requires-clause-few_bits
checked_ports-requires-clause-few_bits c = subst (λ ws. bit_count ws ≤ most_bits) (sym c.in_ok-wires.ensures) c.requires.few_bits

pub returns-in_err-ports-clause-refused : goal.returns-in_err-ports-clause-refused
returns-in_err-ports-clause-refused c =
    let p = err_from_is_err_and c.from_residual-in_err-ports.result c.from_residual-in_err-ports.ensures.1 in
    rw (p.1, p.2) (form_due c.args.items.now c.in_err-ports.field-0.0 c.in_err-ports.ensures.due)

pub net_sources-requires-clause-good : goal.net_sources-requires-clause-good
net_sources-requires-clause-good c = good_items c.in_ok-wires.wires.list.now c.args.items.now (c.in_ok-wires.ensures ∙ c.requires.wires) c.in_ok-ports.ensures.clear

pub net_sources-requires-clause-within : goal.net_sources-requires-clause-within
net_sources-requires-clause-within c = wires_within c.in_ok-wires.wires.list.now c.args.items.now (c.in_ok-wires.ensures ∙ c.requires.wires)

pub net_sources-requires-clause-few_bits : goal.net_sources-requires-clause-few_bits
net_sources-requires-clause-few_bits c = subst (λ ws. bit_count ws ≤ most_bits) (sym c.in_ok-wires.ensures) c.requires.few_bits

pub returns-in_err-sources-clause-refused : goal.returns-in_err-sources-clause-refused
returns-in_err-sources-clause-refused c =
    let p = err_from_is_err_and c.from_residual-in_err-sources.result c.from_residual-in_err-sources.ensures.1 in
    rw (p.1, p.2) (twice_due c.args.items.now c.in_ok-wires.wires.list.now c.in_err-sources.field-0.0 (c.in_ok-wires.ensures ∙ c.requires.wires) c.in_ok-ports.ensures.clear c.in_err-sources.ensures.twice)

pub returns-in-Some-clause-refused : goal.returns-in-Some-clause-refused
returns-in-Some-clause-refused c =
    let items = c.args.items.now in
    let ws = c.in_ok-wires.wires.list.now in
    let s = c.in_ok-sources.sources.items in
    let made = c.in_ok-cells.ensures ws (kept_cells items) c.in_ok-ports.ensures.ports in
    subst (λ o. Decides o (net_causes items)) c.in-Some.is
    (all_decided items ws s c.read_faults-faults.result c.read_refusal.result (c.in_ok-wires.ensures ∙ c.requires.wires) c.in_ok-ports.ensures.clear c.in_ok-sources.ensures.sources c.in_ok-sources.ensures.once
    (faults_of_reads items ws c.args.list.now s c.as_slice.result.now c.as_slice-2.result.now c.in_ok-cells.cells.items c.as_slice-3.result.now c.read_faults-faults.result
    (sym c.in_ok-wires.ensures) c.as_slice.ensures.value c.as_slice-2.ensures.value c.as_slice-3.ensures.value made c.read_faults-faults.ensures)
    c.read_refusal.ensures)

pub returns-clause-nets : goal.returns-clause-nets
returns-clause-nets c =
    let items = c.args.items.now in
    let ws = c.in_ok-wires.wires.list.now in
    let s = c.in_ok-sources.sources.items in
    let made = c.in_ok-cells.ensures ws (kept_cells items) c.in_ok-ports.ensures.ports in
    accepted items ws c.args.list.now s c.as_slice.result.now c.in_ok-cells.cells.items c.in_ok-wires.ensures c.requires.wires c.as_slice.ensures.value c.in_ok-sources.ensures.sources made
    (subst (λ o. Decides o (net_causes items)) c.in_default.is
    (all_decided items ws s c.read_faults-faults.result c.read_refusal.result (c.in_ok-wires.ensures ∙ c.requires.wires) c.in_ok-ports.ensures.clear c.in_ok-sources.ensures.sources c.in_ok-sources.ensures.once
    (faults_of_reads items ws c.args.list.now s c.as_slice.result.now c.as_slice-2.result.now c.in_ok-cells.cells.items c.as_slice-3.result.now c.read_faults-faults.result
    (sym c.in_ok-wires.ensures) c.as_slice.ensures.value c.as_slice-2.ensures.value c.as_slice-3.ensures.value made c.read_faults-faults.ensures)
    c.read_refusal.ensures))
