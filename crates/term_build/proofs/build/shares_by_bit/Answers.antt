use Rattle.std.proofs.Common.{List, length, subst, sym, ap, refl}
use Rattle.circuit_types.specs.Worlds.{input, secrets}
use Rattle.expr_table.specs.declared.node.Row.{Row}
use Rattle.term_build.specs.declared.leaves.Sort.TheVariants.{Input, Random}
use Rattle.term_build.specs.Building.{ShowBits}
use Rattle.term_build.specs.Leaves.{inputs_of, drawn_term}
use Rattle.term_build.proofs.CycleStep.{ShowBits-all, few-given, for-inputs, inputs-shares, known-leaves, made-given, no-secrets, timing-some}
use Rattle.term_build.proofs.build.shares_by_bit.Goals as goal

pub leaf_rows-requires-clause-known : goal.leaf_rows-requires-clause-known
leaf_rows-requires-clause-known c = known-leaves c.args.notion c.args.roles.now c.args.circuit.now Random c.args.table.now 1 c.requires.leaves (timing-some c.args.circuit.now.timing c.requires.levelled.timing)

pub share_rows-requires-clause-few : goal.share_rows-requires-clause-few
share_rows-requires-clause-few c = few-given c.args.notion c.args.roles.now c.args.circuit.now c.args.table.now c.in-Probing.is c.requires.leaves

pub share_rows-requires-clause-drawn : goal.share_rows-requires-clause-drawn
share_rows-requires-clause-drawn c =
    let roles = c.args.roles.now in
    let timing = c.args.circuit.now.timing in
    let nodes = c.args.table.now.nodes in
    let rows = c.in_ok-drawn-in-Probing.drawn.rows.items in
    let shows = ShowBits-all Random c.args.notion roles timing 0 1 refl (timing-some timing c.requires.levelled.timing) nodes rows c.in_ok-drawn-in-Probing.ensures.rows in
    subst (λ (read : List Row). ShowBits nodes read (λ b. drawn_term secrets roles timing (input b 0))) (sym c.deref.ensures.value)
    (subst (λ notion. ShowBits nodes rows (λ b. drawn_term (inputs_of notion) roles timing (input b 0))) c.in-Probing.is shows)

pub leaf_rows-requires-in-Ni : goal.leaf_rows-requires-in-Ni
leaf_rows-requires-in-Ni c = record {
  roles = for-inputs (length c.as_slice-count.result.now) c.args.roles.now c.args.circuit.now.nets c.requires.roles (ap length c.as_slice-count.ensures);
  first = no-secrets c.args.notion c.args.roles.now (inputs-shares c.args.notion c.in-Ni.is);
  few = c.requires.leaves.few_inputs;
  known = known-leaves c.args.notion c.args.roles.now c.args.circuit.now Input c.args.table.now 1 c.requires.leaves (timing-some c.args.circuit.now.timing c.requires.levelled.timing);
}

pub returns-in_ok-given-in-Ni : goal.returns-in_ok-given-in-Ni
returns-in_ok-given-in-Ni c =
    let timing = c.args.circuit.now.timing in
    made-given (inputs_of c.args.notion) c.args.roles.now timing c.args.table.now c.in_ok-given-in-Ni.given.rows.items (inputs-shares c.args.notion c.in-Ni.is)
    (ShowBits-all Input c.args.notion c.args.roles.now timing 0 1 refl (timing-some timing c.requires.levelled.timing) c.args.table.now.nodes c.in_ok-given-in-Ni.given.rows.items c.in_ok-given-in-Ni.ensures.rows)
