use Rattle.std.proofs.Common.{◌∷◌, [], refl, ap}
use Rattle.std.proofs.lemmas.Result.{err_from_is_err_and}
use Rattle.rtlil_tree.proofs.Moves.{leads_out}
use Rattle.rtlil_tree.proofs.ModuleMoves.{cell_body_stopped, cell_added, cell_as, cell_item_names}
use Rattle.rtlil_tree.proofs.module_body.ModuleBody.cell.Goals as goal

pub returns-in_err-parameters-clause-cell : goal.returns-in_err-parameters-clause-cell
returns-in_err-parameters-clause-cell c = λ rest ah ms m.
    let p = err_from_is_err_and c.from_residual-in_err-parameters.result c.from_residual-in_err-parameters.ensures.1 in
    leads_out c.from_residual-in_err-parameters.result c.in_err-parameters.field-0.0 p.0 _ _ p.1 p.2
    (cell_body_stopped c.in_err-parameters.field-0.0 c.args.self.now c.args.lines.now c.read_cell_body.new.lines c.args.line c.args.kind.now c.args.name.now c.in_ok-add.field-0 c.requires c.in_ok-add.ensures.new c.if-not-branch.false
    c.in_err-parameters.ensures.body rest ah ms m)

pub returns-clause-cell : goal.returns-clause-cell
returns-clause-cell c =
    let pushed = cell_as c.args.self.now.items.items c.push.new.self.items c.args.line _ c.args.kind.now _ c.args.name.now _ c.args.self.now.held.items _ c.in_ok-parameters.field-0.parameters.items _ c.in_ok-parameters.field-0.connects.items
    c.in_ok-push.ensures.items c.in_text.ensures c.in_text-2.ensures c.taken-attributes.ensures.attributes c.from_vec.ensures c.from_vec-2.ensures in
    cell_added c.in_ok-push.field-0 c.args.self.now (record { items = c.push.new.self; held = c.taken-attributes.new.held; wires = c.args.self.now.wires; cells = c.add.new.self }) c.args.lines.now c.read_cell_body.new.lines c.args.line c.args.kind.now c.args.name.now c.in_ok-parameters.field-0 c.in_ok-add.field-0 c.requires c.in_ok-add.ensures.new c.if-not-branch.false
    c.in_ok-parameters.ensures.body pushed c.taken-attributes.ensures.none

pub returns-clause-names : goal.returns-clause-names
returns-clause-names c =
    cell_item_names c.args.self.now _ _ c.args.name.now c.requires c.in_ok-push.ensures.items refl (ap (λ n. n ∷ []) c.in_text-2.ensures) c.in_ok-add.ensures.names refl
