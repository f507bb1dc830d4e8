use Rattle.std.proofs.Common.{length, refl, subst}
use Rattle.circuit_types.specs.Items.{cells}
use Rattle.net_build.specs.Faults.{faults_in}
use Rattle.net_build.specs.Form.{fault_causes, Decides}
use Rattle.net_build.proofs.DueLemmas.{faults_decide_so, fault_due, all_clear}
use Rattle.net_build.proofs.form.checked_ports.Goals as goal

pub returns-in-Some-clause-due : goal.returns-in-Some-clause-due
returns-in-Some-clause-due c =
    let ws = c.args.wires.now.list.now in
    let items = c.args.items.now in
    fault_due items ws (length (cells items)) c.requires.wires c.requires.few_bits refl c.requires.few_cells c.in-Some.refusal
    (subst (λ o. Decides o (fault_causes items)) c.in-Some.is
    (faults_decide_so items ws ws (faults_in c.in_ok-faults.faults) c.refusal_of.result refl c.requires.wires c.in_ok-faults.ensures.faults c.refusal_of.ensures))

pub returns-clause-clear : goal.returns-clause-clear
returns-clause-clear c =
    let ws = c.args.wires.now.list.now in
    let items = c.args.items.now in
    all_clear items ws (length (cells items)) c.requires.wires c.requires.few_bits refl c.requires.few_cells
    (subst (λ o. Decides o (fault_causes items)) c.in_default.is
    (faults_decide_so items ws ws (faults_in c.in_ok-faults.faults) c.refusal_of.result refl c.requires.wires c.in_ok-faults.ensures.faults c.refusal_of.ensures))
