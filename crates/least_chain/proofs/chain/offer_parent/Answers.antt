use Rattle.std.proofs.Common.{◌∙◌, sym, arith}
use Rattle.std.proofs.lemmas.Result.{on_ok_weaker}
use Rattle.once_random.proofs.Facts.{node_read}
use Rattle.live_rows.proofs.Facts.{roots_within}
use Rattle.expr_table.specs.declared.node.Node.TheVariants as node
use Rattle.least_chain.proofs.Waits.{waiting_idle, waiting_other, waiting_more}
use Rattle.least_chain.proofs.Turns.{not_xor, spare_serves}
use Rattle.least_chain.proofs.chain.offer_parent.Goals as goal

pub returns-in_default-clause-waiting : goal.returns-in_default-clause-waiting
returns-in_default-clause-waiting c roots done shows before =
    let nodes = c.args.table.now.nodes in
    waiting_idle nodes c.requires.table.earlier roots (roots_within nodes roots done c.args.live.now.marks shows) done c.args.live.now.alone c.args.waiting.now c.args.row.0 before
    (c.in_default.ensures nodes roots done shows)

pub returns-in-Xor-clause-waiting : goal.returns-in-Xor-clause-waiting
returns-in-Xor-clause-waiting c =
    on_ok_weaker c.push.result
    (λ more roots done shows before.
    let nodes = c.args.table.now.nodes in
    let only = c.in-Some.ensures nodes roots done shows in
    waiting_more nodes c.requires.table.earlier roots (roots_within nodes roots done c.args.live.now.marks shows) done c.args.live.now.alone c.args.waiting.now c.args.row.0 before
    c.in-Some.parent.0 c.in-Xor.field-0 c.in-Xor.field-1 c.push.new.self only.1
    (node_read nodes c.in-Some.parent.0 (node.Xor c.in-Xor.field-0 c.in-Xor.field-1) c.in-Xor.ensures) only.2
    (spare_serves nodes c.requires.table.earlier roots done c.args.live.now.marks shows c.args.row.0 c.in-Some.parent.0 c.requires.spare only.0 only.2)
    more)
    c.push.ensures.has

pub returns-in_default-node : goal.returns-in_default-node
returns-in_default-node c = record {
  waiting = λ roots done shows before.
      let nodes = c.args.table.now.nodes in
      let only = c.in-Some.ensures nodes roots done shows in
      waiting_other nodes c.requires.table.earlier roots (roots_within nodes roots done c.args.live.now.marks shows) done c.args.live.now.alone c.args.waiting.now c.args.row.0 before
      c.in-Some.parent.0 only.2
      (not_xor _ (λ a b is. c.in_default-node.not-Xor a b (sym (node_read nodes c.in-Some.parent.0 c.node.result c.node.ensures) ∙ is)));
  len = omega arith;
}
