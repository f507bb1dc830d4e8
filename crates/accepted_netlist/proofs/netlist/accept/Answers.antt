use Rattle.std.proofs.lemmas.Result.{err_from_is_err_and}
use Rattle.circuit_types.specs.Causes.{IsRefusal}
use Rattle.accepted_netlist.specs.Known.{Keeps, KeepsTree}
use Rattle.accepted_netlist.specs.Netlist.{HasRefusal, IsRefusedTree}
use Rattle.accepted_netlist.proofs.Steps.{tree-of, text-due, tree-due, if-ok, if-err, kept-of}
use Rattle.accepted_netlist.proofs.netlist.accept.Goals as goal

pub returns-in_err-tree-clause-refused : goal.returns-in_err-tree-clause-refused
returns-in_err-tree-clause-refused c =
    let p = err_from_is_err_and c.from_residual.result c.from_residual.ensures.1 in
    rw (p.1, p.2) (text-due c.args.question c.args.bytes.now c.in_err-tree.field-0.0 c.requires.short c.in_err-tree.ensures.refused)

pub accept_tree-requires-clause-top : goal.accept_tree-requires-clause-top
accept_tree-requires-clause-top c = c.in_ok-tree.ensures.tree.1

pub returns-clause-accepted : goal.returns-clause-accepted
returns-clause-accepted c =
    let asked = c.args.question in
    let bytes = c.args.bytes.now in
    let tree = c.in_ok-tree.tree in
    if-ok c.accept_tree.result (KeepsTree asked tree) (Keeps asked bytes)
    (kept-of asked bytes tree (tree-of bytes tree c.requires.short c.in_ok-tree.ensures.tree)) c.accept_tree.ensures.accepted

pub returns-clause-refused : goal.returns-clause-refused
returns-clause-refused c =
    let asked = c.args.question in
    let bytes = c.args.bytes.now in
    let tree = c.in_ok-tree.tree in
    if-err c.accept_tree.result (IsRefusal (IsRefusedTree asked tree)) (IsRefusal (HasRefusal asked bytes))
    (tree-due asked bytes tree (tree-of bytes tree c.requires.short c.in_ok-tree.ensures.tree)) c.accept_tree.ensures.refused
