use Rattle.rtlil_tree.proofs.Answering.{topped_holds, stopped_holds, all_trees, all_refusals}
use Rattle.std.proofs.lemmas.Result.{err_from_is_err_and}
use Rattle.rtlil_tree.proofs.read.read_tree.Goals as goal

pub returns-in_err-tree : goal.returns-in_err-tree
returns-in_err-tree c =
    let p = err_from_is_err_and c.from_residual.result c.from_residual.ensures.1 in
    let h = stopped_holds c.args.bytes.now c.in_err-tree.field-0.0 p.0 c.from_residual.result c.in_err-tree.ensures p.1 p.2 in
    record {
      tree = h.tree;
      refused = h.refused;
      all_trees = all_trees c.args.bytes.now c.from_residual.result h;
      all_refusals = all_refusals c.args.bytes.now c.from_residual.result h;
    }

pub returns : goal.returns
returns c =
    let h = topped_holds c.args.bytes.now c.in_ok-tree.tree c.topped.result c.in_ok-tree.ensures c.topped.ensures in
    record {
      tree = h.tree;
      refused = h.refused;
      all_trees = all_trees c.args.bytes.now c.topped.result h;
      all_refusals = all_refusals c.args.bytes.now c.topped.result h;
    }
