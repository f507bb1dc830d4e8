use Rattle.std.proofs.Common.{◌+◌, ◌++◌, ◌∷◌, [], length, ap, sym, ◌∙◌, subst, arith}
use Rattle.expr_table.specs.declared.node.Node.TheVariants as node
use Rattle.expr_table.specs.Table.{leaves}
use Rattle.expr_table.specs.Interning.{IsAbsent}
use Rattle.expr_table.proofs.Keys.{keys-numbered, IsNumbered-numbered, numbered-keys}
use Rattle.expr_table.proofs.Leaves.{leaves-random, length-leaves, absent-random}
use Rattle.expr_table.proofs.table.make.add_randoms.Goals as goal

pub add-requires-clause-numbered : goal.add-requires-clause-numbered
add-requires-clause-numbered c = IsNumbered-numbered c.loop-i.rows.entries (leaves c.args.inputs c.loop-i.i) c.loop-i.invariant

pub add-requires-clause-absent : goal.add-requires-clause-absent
add-requires-clause-absent c = subst (λ ns. IsAbsent ns (node.Random c.loop-i.i)) (sym (keys-numbered c.loop-i.rows.entries (leaves c.args.inputs c.loop-i.i) c.loop-i.invariant)) (absent-random c.args.inputs c.loop-i.i)

pub add-requires-clause-room : goal.add-requires-clause-room
add-requires-clause-room c =
    omega (arith, ap length (keys-numbered c.loop-i.rows.entries (leaves c.args.inputs c.loop-i.i) c.loop-i.invariant), length-leaves c.args.inputs c.loop-i.i)

pub loop-i-preserved : goal.loop-i-preserved
loop-i-preserved c =
    numbered-keys c.add.new.rows.entries (leaves c.args.inputs (c.loop-i.i + 1)) c.in_ok-add.ensures.numbered
    (c.in_ok-add.ensures.nodes ∙ ap (λ ns. ns ++ node.Random c.loop-i.i ∷ []) (keys-numbered c.loop-i.rows.entries (leaves c.args.inputs c.loop-i.i) c.loop-i.invariant) ∙ sym (leaves-random c.args.inputs c.loop-i.i))
