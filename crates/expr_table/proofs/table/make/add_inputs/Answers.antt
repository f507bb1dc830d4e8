use Rattle.std.proofs.Common.{◌+◌, ◌++◌, ◌∷◌, [], length, ap, sym, ◌∙◌, subst, arith}
use Rattle.expr_table.specs.declared.node.Node.TheVariants as node
use Rattle.expr_table.specs.Table.{leaves}
use Rattle.expr_table.specs.Interning.{IsAbsent}
use Rattle.expr_table.proofs.Keys.{keys-numbered, IsNumbered-numbered, numbered-keys}
use Rattle.expr_table.proofs.Leaves.{leaves-input, length-leaves, absent-input}
use Rattle.expr_table.proofs.table.make.add_inputs.Goals as goal

pub add-requires-clause-numbered : goal.add-requires-clause-numbered
add-requires-clause-numbered c = IsNumbered-numbered c.loop-i.rows.entries (leaves c.loop-i.i 0) c.loop-i.invariant

pub add-requires-clause-absent : goal.add-requires-clause-absent
add-requires-clause-absent c = subst (λ ns. IsAbsent ns (node.Input c.loop-i.i)) (sym (keys-numbered c.loop-i.rows.entries (leaves c.loop-i.i 0) c.loop-i.invariant)) (absent-input c.loop-i.i)

pub add-requires-clause-room : goal.add-requires-clause-room
add-requires-clause-room c =
    omega (arith, ap length (keys-numbered c.loop-i.rows.entries (leaves c.loop-i.i 0) c.loop-i.invariant), length-leaves c.loop-i.i 0)

pub loop-i-preserved : goal.loop-i-preserved
loop-i-preserved c =
    numbered-keys c.add.new.rows.entries (leaves (c.loop-i.i + 1) 0) c.in_ok-add.ensures.numbered
    (c.in_ok-add.ensures.nodes ∙ ap (λ ns. ns ++ node.Input c.loop-i.i ∷ []) (keys-numbered c.loop-i.rows.entries (leaves c.loop-i.i 0) c.loop-i.invariant) ∙ sym (leaves-input c.loop-i.i))
