use Rattle.std.proofs.Common.{◌+◌, ◌≤◌, ◌<◌, Err, ap, ◌∙◌, arith}
use Rattle.expr_table.specs.declared.node.Node.TheVariants as node
use Rattle.expr_table.specs.Table.{Table, most_rows}
use Rattle.expr_table.proofs.Facts.{IsRowOf-node}
use Rattle.term_build.proofs.ManyTerms.{many-refused}
use Rattle.term_build.proofs.build.leaf_table.Goals as goal

pub returns-in_default-clause-cause : goal.returns-in_default-clause-cause
returns-in_default-clause-cause c = many-refused c.args.notion c.args.roles.now c.args.circuit.now c.too_many_terms.result c.too_many_terms.ensures (omega (arith, c.in_default.ensures))

pub returns-in_default-leaf_count-clause-cause : goal.returns-in_default-leaf_count-clause-cause
returns-in_default-leaf_count-clause-cause c =
    many-refused c.args.notion c.args.roles.now c.args.circuit.now c.too_many_terms-in_default-leaf_count.result c.too_many_terms-in_default-leaf_count.ensures (omega (arith, c.in_default-leaf_count.ensures))

pub returns-in-Ok-clause-leaves : goal.returns-in-Ok-clause-leaves
returns-in-Ok-clause-leaves c =
    let inputs = ap (λ (t : Table). t.inputs) c.in-Ok.ensures.made ∙ c.in-Some.ensures.0 in
    let randoms = ap (λ (t : Table). t.randoms) c.in-Ok.ensures.made ∙ c.in-Some-leaf_count.ensures.0 in
    let few_inputs : c.in-Some.inputs ≤ most_rows = c.in-Some.ensures.1 in
    let few_randoms : c.in-Some-leaf_count.randoms ≤ most_rows = c.in-Some-leaf_count.ensures.1 in
    record {
      inputs = inputs;
      randoms = randoms;
      few_inputs = omega (arith, ap (λ (t : Table). t.inputs) c.in-Ok.ensures.made);
      few_randoms = omega (arith, ap (λ (t : Table). t.randoms) c.in-Ok.ensures.made);
      constants = record {
        zero_row = IsRowOf-node c.in-Ok.table c.in-Ok.ensures.table 0 node.Zero c.in-Ok.ensures.table.zero_row;
        one_row = IsRowOf-node c.in-Ok.table c.in-Ok.ensures.table 1 node.One c.in-Ok.ensures.table.one_row;
      };
    }

pub returns-in-Err-TooManyTerms-clause-cause : goal.returns-in-Err-TooManyTerms-clause-cause
returns-in-Err-TooManyTerms-clause-cause c =
    let many : most_rows < 2 + c.in-Some.inputs + c.in-Some-leaf_count.randoms = c.make.ensures.too_many.0 (c.in-Err-TooManyTerms.is ∙ ap (λ e. Err e) c.in-Err-TooManyTerms.field-0-is) in
    many-refused c.args.notion c.args.roles.now c.args.circuit.now c.too_many_terms-in-Err-TooManyTerms.result c.too_many_terms-in-Err-TooManyTerms.ensures
    (omega (arith, c.in-Some.ensures.0, c.in-Some-leaf_count.ensures.0))
