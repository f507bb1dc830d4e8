use Rattle.std.proofs.Common.{◌≡◌, ◌||◌, sym, ap, ◌∙◌}
use Rattle.std.specs.Int.{from_bool}
use Rattle.expr_table.specs.Table.{node_at}
use Rattle.once_random.specs.Cuts as cuts
use Rattle.once_random.proofs.Facts.{node_read}
use Rattle.live_rows.specs.Marks.{mark_at}
use Rattle.chain_check.proofs.Masks.{masks_by}
use Rattle.chain_check.proofs.allowed.masks.Goals as goal
use Rattle.chain_check.proofs.allowed.masks.Goals.{then-is_cut, else-is_cut}

pub returns : goal.returns
returns c roots done shows uncut is_side =
    let nodes = c.args.table.now.nodes in
    let fresh : c.if-is_cut.fresh ≡ ((mark_at c.args.live.now.marks c.args.side.0).cut || cuts.is_random (node_at c.args.table.now.nodes c.args.side.0)) =
    elim c.if-is_cut.branch [
      | then-is_cut w ↦ w.fresh-is ∙ w.if-is_cut.true ∙ ap (λ b. b || cuts.is_random (node_at nodes c.args.side.0)) (sym w.if-is_cut.true ∙ c.is_cut.ensures)
      | else-is_cut w ↦ w.fresh-is ∙ w.is_random-fresh.ensures ∙ ap cuts.is_random (sym (node_read nodes c.args.side.0 w.node.result w.node.ensures))
          ∙ ap (λ b. b || cuts.is_random (node_at nodes c.args.side.0)) (sym w.if-is_cut.false ∙ c.is_cut.ensures)
    ] in
    masks_by nodes roots done c.args.row.0 c.args.side.0 c.requires.within uncut is_side c.args.live.now.marks shows
    c.if-is_cut.fresh c.is_root.result c.parents.result c.from-itself.result
    fresh c.is_root.ensures c.parents.ensures (c.from-itself.ensures ∙ ap from_bool c.is_live.ensures)
