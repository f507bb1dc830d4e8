use Rattle.std.proofs.Common.{length, sym, ap, ◌∙◌, arith}
use Rattle.std.proofs.lemmas.Result.{err_from_is_err_and}
use Rattle.circuit_types.specs.declared.probes.Probes.{Probes}
use Rattle.term_build.specs.SourceTerms.{source_term}
use Rattle.term_build.specs.TermInstance.{HasRoots}
use Rattle.accepted_netlist.proofs.Steps.{same-length, tuples-due, terms-due, accepted, instance-is}
use Rattle.accepted_netlist.proofs.netlist.accept_tree.Goals as goal

pub overflow_cast-listed : goal.overflow_cast-listed
overflow_cast-listed c =
    let few = c.in_ok-seen.ensures.seen.of_circuit.few in
    let count = ap length c.as_slice-listed.ensures in
    omega (arith, few, count)

pub tuple_counts-requires-clause-few_probes : goal.tuple_counts-requires-clause-few_probes
tuple_counts-requires-clause-few_probes c =
    let few = c.in_ok-seen.ensures.seen.of_circuit.few in
    let count = ap length c.as_slice-listed.ensures in
    omega (arith, few, count)

pub returns-in_err-counts-clause-refused : goal.returns-in_err-counts-clause-refused
returns-in_err-counts-clause-refused c =
    let seen = c.in_ok-seen.ensures.seen in
    let counted = ap length (c.as_slice-listed.ensures ∙ ap (λ (v : Probes). v.list) seen.probes) in
    let p = err_from_is_err_and c.from_residual-in_err-counts.result c.from_residual-in_err-counts.ensures.1 in
    rw (p.1, p.2)
    (tuples-due c.args.question c.args.tree.now seen.netlist seen.made seen.clear (length c.as_slice-listed.result.now) counted
    c.in_err-counts.field-0.0 c.in_err-counts.ensures.cause)

pub returns-in_err-instance-clause-refused : goal.returns-in_err-instance-clause-refused
returns-in_err-instance-clause-refused c =
    let seen = c.in_ok-seen.ensures.seen in
    let counted = ap length (c.as_slice-listed.ensures ∙ ap (λ (v : Probes). v.list) seen.probes) in
    let p = err_from_is_err_and c.from_residual-in_err-instance.result c.from_residual-in_err-instance.ensures.1 in
    rw (p.1, p.2)
    (terms-due c.args.question c.args.tree.now seen.netlist seen.made seen.clear (length c.as_slice-listed.result.now) counted c.in_ok-counts.ensures.cause
    c.in_ok-seen.seen.roles c.in_ok-seen.seen.circuit seen.roles seen.circuit c.in_err-instance.field-0.0 c.in_err-instance.ensures.cause)

pub returns-clause-accepted : goal.returns-clause-accepted
returns-clause-accepted c =
    let asked = c.args.question in
    let seen = c.in_ok-seen.ensures.seen in
    let listed = ap (λ (v : Probes). v.list) seen.probes in
    let counted = ap length (c.as_slice-listed.ensures ∙ listed) in
    record {
      netlist = seen.netlist;
      accepted = accepted asked c.args.tree.now seen.netlist seen.made seen.clear (length c.as_slice-listed.result.now) counted c.in_ok-counts.ensures.cause
          c.in_ok-seen.seen.roles c.in_ok-seen.seen.circuit seen.roles seen.circuit c.in_ok-instance.ensures.cause;
      circuit = seen.circuit;
      probes = seen.probes;
      instance = instance-is asked seen.netlist c.in_ok-seen.seen.roles c.in_ok-seen.seen.circuit c.in_ok-seen.seen.probes.list c.in_ok-instance.instance seen.roles seen.circuit
          listed c.in_ok-instance.ensures.instance;
    }

pub returns-clause-known : goal.returns-clause-known
returns-clause-known c =
    let seen = c.in_ok-seen.ensures.seen in
    let has = c.in_ok-instance.ensures.instance in
    let one_each = same-length (HasRoots c.in_ok-instance.instance.table.nodes (source_term c.args.question.notion c.in_ok-seen.seen.roles c.in_ok-seen.seen.circuit))
    c.in_ok-instance.instance.probes c.in_ok-seen.seen.probes.list has.roots in
    let count = ap length c.as_slice-listed.ensures ∙ sym one_each in
    record {
      fitting = c.in_ok-instance.ensures.fitting;
      table = has.table;
      one_each = one_each;
      counted = c.in_ok-counts.ensures.made ∙ (λ i. record { n = count i; t = c.args.question.order });
      within = seen.within;
    }
