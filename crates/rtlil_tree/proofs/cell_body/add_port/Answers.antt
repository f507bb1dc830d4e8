use Rattle.std.proofs.Common.{◌≡◌, ◌∙◌, not, take, sym, ap, arith}
use Rattle.std.proofs.lemmas.Result.{IfOk-weaker}
use Rattle.rtlil_tree.specs.Names.{is_among, port_names}
use Rattle.rtlil_tree.proofs.SeenLemmas.{any_port, port_seen, port_unseen, port_in_set, port_count, early_port, late_ports}
use Rattle.rtlil_tree.proofs.cell_body.add_port.Goals as goal

pub returns-then-has_port-clause-new : goal.returns-then-has_port-clause-new
returns-then-has_port-clause-new c =
    let port = c.args.port.now in
    let few = c.min-few.result in
    sym (ap not (port_seen port few c.args.connects.now (sym (any_port port (take few c.args.connects.now)) ∙ (sym c.has_port.ensures ∙ c.if-has_port.true))))

pub returns-then-has_port-clause-ports : goal.returns-then-has_port-clause-ports
returns-then-has_port-clause-ports c = λ h. absurd cc

pub returns-then-few-lt-MOST_FEW-clause-new : goal.returns-then-few-lt-MOST_FEW-clause-new
returns-then-few-lt-MOST_FEW-clause-new c =
    let port = c.args.port.now in
    let few = c.min-few.result in
    sym (ap not (port_unseen port few c.args.connects.now (omega arith) (sym (any_port port (take few c.args.connects.now)) ∙ (sym c.has_port.ensures ∙ c.if-has_port.false))))

pub returns-then-few-lt-MOST_FEW-clause-ports : goal.returns-then-few-lt-MOST_FEW-clause-ports
returns-then-few-lt-MOST_FEW-clause-ports c = λ h.
    let count = port_count c.args.connects.now in
    early_port c.args.port.now (port_names c.args.connects.now) c.args.ports.now (omega (arith, count)) c.requires

pub returns-clause-new : goal.returns-clause-new
returns-clause-new c =
    let port = c.args.port.now in
    let few = c.min-few.result in
    let eight : few ≡ 8 = omega arith in
    let none = ap (λ n. is_among port (port_names (take n c.args.connects.now))) (sym eight) ∙ (sym (any_port port (take few c.args.connects.now)) ∙ (sym c.has_port.ensures ∙ c.if-has_port.false)) in
    let same = port_in_set port c.args.connects.now c.args.ports.now c.requires none in
    IfOk-weaker c.add.result (λ added. added ≡ not (is_among port c.args.ports.now)) (λ added. added ≡ not (is_among port (port_names c.args.connects.now)))
    (λ added h. h ∙ ap not same) c.add.ensures.new

pub returns-clause-ports : goal.returns-clause-ports
returns-clause-ports c =
    let count = port_count c.args.connects.now in
    late_ports c.add.result c.args.port.now (port_names c.args.connects.now) c.args.ports.now c.add.new.self (omega (arith, count)) c.requires c.add.ensures.names
