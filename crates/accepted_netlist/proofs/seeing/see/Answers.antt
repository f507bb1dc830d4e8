use Rattle.std.proofs.Common.{sym, ap, subst}
use Rattle.std.proofs.lemmas.Result.{err_from_is_err_and}
use Rattle.circuit_types.specs.declared.circuit.Circuit.{Circuit}
use Rattle.circuit_types.specs.declared.nets.Nets.{Nets}
use Rattle.circuit_types.specs.declared.probes.Probes.{Probes}
use Rattle.circuit_types.specs.declared.roles.Roles.{Roles}
use Rattle.circuit_types.specs.DataSources.{IsWired}
use Rattle.circuit_types.specs.InputBits.{FitsNets}
use Rattle.circuit_types.specs.Items.{top_items}
use Rattle.term_build.specs.TermInstance.{AreProbesOf, HasEachShare}
use Rattle.accepted_netlist.proofs.EachShare.{each-share}
use Rattle.accepted_netlist.proofs.Premises.{are-probes}
use Rattle.accepted_netlist.proofs.Steps.{bits-within, netlist, netlist-of, module-due, roles-due, levels-due, probes-due, seen-clear, probes-are}
use Rattle.accepted_netlist.proofs.seeing.see.Goals as goal

pub returns-in_err-nets-clause-refused : goal.returns-in_err-nets-clause-refused
returns-in_err-nets-clause-refused c =
    let p = err_from_is_err_and c.from_residual.result c.from_residual.ensures.1 in
    rw (p.1, p.2) (module-due c.args.question c.args.tree.now c.in_err-nets.field-0.0 c.in_err-nets.ensures.refused)

pub returns-in_err-roles-clause-refused : goal.returns-in_err-roles-clause-refused
returns-in_err-roles-clause-refused c =
    let tree = c.args.tree.now in
    let nets = c.in_ok-nets.nets in
    let is = netlist-of tree nets c.in_ok-nets.ensures.nets c.in_ok-nets.ensures.clear in
    let p = err_from_is_err_and c.from_residual-in_err-roles.result c.from_residual-in_err-roles.ensures.1 in
    rw (p.1, p.2) (roles-due c.args.question tree (netlist tree nets) is c.in_err-roles.field-0.0 c.in_err-roles.ensures.cause)

pub returns-in_err-circuit-clause-refused : goal.returns-in_err-circuit-clause-refused
returns-in_err-circuit-clause-refused c =
    let tree = c.args.tree.now in
    let nets = c.in_ok-nets.nets in
    let is = netlist-of tree nets c.in_ok-nets.ensures.nets c.in_ok-nets.ensures.clear in
    let p = err_from_is_err_and c.from_residual-in_err-circuit.result c.from_residual-in_err-circuit.ensures.1 in
    rw (p.1, p.2)
    (levels-due c.args.question tree (netlist tree nets) is c.in_ok-roles.ensures.cause c.in_ok-roles.roles c.in_ok-roles.ensures.roles
    c.in_err-circuit.field-0.0 c.in_err-circuit.ensures.cause)

pub returns-in_err-probes-clause-refused : goal.returns-in_err-probes-clause-refused
returns-in_err-probes-clause-refused c =
    let tree = c.args.tree.now in
    let nets = c.in_ok-nets.nets in
    let is = netlist-of tree nets c.in_ok-nets.ensures.nets c.in_ok-nets.ensures.clear in
    let p = err_from_is_err_and c.from_residual-in_err-probes.result c.from_residual-in_err-probes.ensures.1 in
    rw (p.1, p.2)
    (probes-due c.args.question tree (netlist tree nets) is c.in_ok-roles.ensures.cause c.in_ok-roles.roles c.in_ok-roles.ensures.roles
    c.in_ok-circuit.ensures.cause c.in_ok-circuit.circuit c.in_ok-circuit.ensures.circuit c.in_err-probes.field-0.0 c.in_err-probes.ensures.cause)

pub returns-clause-seen : goal.returns-clause-seen
returns-clause-seen c =
    let asked = c.args.question in
    let tree = c.args.tree.now in
    let items = top_items tree in
    let nets = c.in_ok-nets.nets in
    let roles = c.in_ok-roles.roles in
    let circuit = c.in_ok-circuit.circuit in
    let n = netlist tree nets in
    let is = netlist-of tree nets c.in_ok-nets.ensures.nets c.in_ok-nets.ensures.clear in
    let roles_are = c.in_ok-roles.ensures.roles in
    let circuit_is = c.in_ok-circuit.ensures.circuit in
    let nets_are = ap (λ (v : Circuit). v.nets) circuit_is in
    let fits = subst (λ (v : Nets). FitsNets roles v) (sym nets_are) c.in_ok-roles.ensures.fits in
    let list_is = ap (λ (v : Probes). v.list) c.in_ok-probes.ensures.probes in
    record {
      netlist = n;
      made = is;
      clear = seen-clear asked tree n is c.in_ok-roles.ensures.cause roles roles_are c.in_ok-circuit.ensures.cause circuit circuit_is c.in_ok-probes.ensures.cause;
      roles = roles_are;
      circuit = circuit_is;
      probes = probes-are asked n roles circuit c.in_ok-probes.probes roles_are circuit_is c.in_ok-probes.ensures.probes;
      fits = fits;
      wired = subst IsWired (sym nets_are) c.in_ok-nets.ensures.wired;
      levelled = c.in_ok-circuit.ensures.levelled;
      shares = subst HasEachShare (sym roles_are) (each-share items nets (subst (λ (r : Roles). FitsNets r nets) roles_are c.in_ok-roles.ensures.fits) c.in_ok-roles.ensures.cause);
      of_circuit = subst (AreProbesOf circuit) (sym list_is) (are-probes roles circuit fits asked.model c.in_ok-probes.ensures.cause);
      within = bits-within items nets circuit.nets c.in_ok-nets.ensures.nets nets_are;
    }
