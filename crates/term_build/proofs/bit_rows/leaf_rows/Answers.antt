use Rattle.std.proofs.Common.{◌≡◌, ◌+◌, ◌∙◌, List, [], length, take, replicate, subst, sym, ap, refl, arith, length-set}
use Rattle.std.proofs.lemmas.List.{append-nil}
use Rattle.circuit_types.specs.Worlds.{input}
use Rattle.expr_table.specs.declared.node.Row.{Row}
use Rattle.std.specs.declared.alloc.Global.{Global}
use Rattle.std.specs.declared.vec.Vec.{Vec}
use Rattle.expr_table.specs.Table.{IsRowOf}
use Rattle.expr_table.specs.Term.{Zero}
use Rattle.term_build.specs.Building.{ShowBits}
use Rattle.term_build.specs.Leaves.{leaf_term}
use Rattle.term_build.specs.Numbering.{leaves_before, leaves_up_to, numbered_term}
use Rattle.term_build.proofs.LeafRows.{leaves-init, leaves-no, leaves-yes, leaves-room, leaves-all, leaves-count, leaves-same}
use Rattle.term_build.proofs.bit_rows.leaf_rows.Goals.{then-is_leaf, else-is_leaf}
use Rattle.term_build.proofs.bit_rows.leaf_rows.Goals as goal

pub loop-input-init : goal.loop-input-init
loop-input-init c =
    let nodes = c.args.table.now.nodes in
    let zero_row = subst (λ k. IsRowOf nodes k Zero) c.zero.ensures.number c.zero.ensures.row in
    let items : c.in_ok-rows.rows.items ≡ replicate c.args.count c.zero.result = c.in_ok-rows.ensures.items_if_clones_equal (λ y e. e) in
    record {
      count = sym c.in_ok-rows.rows.ok.0 ∙ c.in_ok-rows.ensures.len;
      next = c.requires.first ∙ ap length (sym (append-nil (leaves_before c.args.sort c.args.notion c.args.roles.now c.args.cycle)));
      shows = subst (λ (rows : List Row). ShowBits nodes rows (λ b. leaf_term (numbered_term c.args.sort) (leaves_up_to c.args.sort c.args.notion c.args.roles.now c.args.cycle []) (input b c.args.cycle))) (sym items)
          (leaves-init c.args.sort c.args.notion c.args.roles.now c.args.cycle nodes c.args.count c.zero.result c.zero.ensures.number zero_row);
    }

pub leaf_row-requires : goal.leaf_row-requires
leaf_row-requires c =
    let room = leaves-room c.args.sort c.args.notion c.args.roles.now c.args.cycle (c.args.cycle + 1) c.as_slice-input-items.result.now c.loop-input.input-index _ refl c.as_slice-input-items.ensures c.loop-input-test.true (sym c.is_leaf.ensures ∙ c.if-is_leaf.true) in
    omega (arith, room, c.loop-input.invariant.next, c.requires.known)

pub overflow_add-next : goal.overflow_add-next
overflow_add-next c =
    let room = leaves-room c.args.sort c.args.notion c.args.roles.now c.args.cycle (c.args.cycle + 1) c.as_slice-input-items.result.now c.loop-input.input-index _ refl c.as_slice-input-items.ensures c.loop-input-test.true (sym c.is_leaf.ensures ∙ c.if-is_leaf.true) in
    omega (arith, room, c.loop-input.invariant.next, c.requires.known, c.requires.few)

pub loop-input-preserved : goal.loop-input-preserved
loop-input-preserved c =
    let sort = c.args.sort in
    let notion = c.args.notion in
    let roles = c.args.roles.now in
    let cycle = c.args.cycle in
    let nodes = c.args.table.now.nodes in
    let inputs = c.as_slice-input-items.result.now in
    let i = c.loop-input.input-index in
    elim c.if-is_leaf.branch [
      | then-is_leaf w ↦
          let h = sym c.is_leaf.ensures ∙ w.if-is_leaf.true in
          let rows_is = ap (λ (v : Vec Row Global). v.items) w.rows-is in
          let is = subst (λ n. IsRowOf nodes w.leaf_row.result.0 (numbered_term sort n)) c.loop-input.invariant.next w.leaf_row.ensures in
          record {
            count = ap length rows_is ∙ length-set c.loop-input.rows.items _ w.leaf_row.result ∙ c.loop-input.invariant.count;
            next = w.next-is ∙ ap (λ n. n + 1) c.loop-input.invariant.next ∙ sym (leaves-count sort notion roles cycle inputs i _ c.loop-input-test.true h);
            shows = subst (λ (rows : List Row). ShowBits nodes rows (λ b. leaf_term (numbered_term sort) (leaves_up_to sort notion roles cycle (take (i + 1) inputs)) (input b cycle))) (sym rows_is)
                (leaves-yes sort notion roles cycle nodes inputs i _ c.loop-input-test.true c.args.count c.loop-input.rows.items w.leaf_row.result c.requires.roles c.as_slice-input-items.ensures c.loop-input.invariant.count h is c.loop-input.invariant.shows);
          }
      | else-is_leaf w ↦
          let h = sym c.is_leaf.ensures ∙ w.if-is_leaf.false in
          let rows_is = ap (λ (v : Vec Row Global). v.items) w.rows-is in
          record {
            count = ap length rows_is ∙ c.loop-input.invariant.count;
            next = w.next-is ∙ c.loop-input.invariant.next ∙ ap length (sym (leaves-same sort notion roles cycle inputs i _ c.loop-input-test.true h));
            shows = subst (λ (rows : List Row). ShowBits nodes rows (λ b. leaf_term (numbered_term sort) (leaves_up_to sort notion roles cycle (take (i + 1) inputs)) (input b cycle))) (sym rows_is)
                (leaves-no sort notion roles cycle nodes inputs i _ c.loop-input-test.true c.loop-input.rows.items h c.loop-input.invariant.shows);
          }
    ]

pub returns-clause-next : goal.returns-clause-next
returns-clause-next c =
    c.loop-input.invariant.next
    ∙ ap length (leaves-all c.args.sort c.args.notion c.args.roles.now c.args.cycle (c.args.cycle + 1) c.as_slice-input-items.result.now c.loop-input.input-index refl c.as_slice-input-items.ensures c.loop-input-test.false)

pub returns-clause-rows : goal.returns-clause-rows
returns-clause-rows c =
    subst (λ ls. ShowBits c.args.table.now.nodes c.loop-input.rows.items (λ b. leaf_term (numbered_term c.args.sort) ls (input b c.args.cycle)))
    (leaves-all c.args.sort c.args.notion c.args.roles.now c.args.cycle (c.args.cycle + 1) c.as_slice-input-items.result.now c.loop-input.input-index refl c.as_slice-input-items.ensures c.loop-input-test.false)
    c.loop-input.invariant.shows
