use Rattle.std.proofs.lemmas.Result.{err_from_is_err_and}
use Rattle.rtlil_tree.proofs.Moves.{leads_out}
use Rattle.rtlil_tree.proofs.FileMoves.{module_body_stopped, module_added, module_as, module_item_names}
use Rattle.rtlil_tree.proofs.file_body.FileBody.module.Goals as goal

pub returns-in_err-items-clause-module : goal.returns-in_err-items-clause-module
returns-in_err-items-clause-module c = λ rest ah.
    let p = err_from_is_err_and c.from_residual-in_err-items.result c.from_residual-in_err-items.ensures.1 in
    leads_out c.from_residual-in_err-items.result c.in_err-items.field-0.0 p.0 _ _ p.1 p.2
    (module_body_stopped c.in_err-items.field-0.0 c.args.self.now c.args.lines.now c.read_module_body.new.lines c.args.line c.args.name.now c.in_ok-add.field-0 c.requires c.in_ok-add.ensures.new c.if-not-branch.false
    c.in_err-items.ensures.body rest ah)

pub returns-clause-module : goal.returns-clause-module
returns-clause-module c =
    let pushed = module_as c.args.self.now.modules.items c.push.new.self.items c.args.line _ c.args.name.now _ c.args.self.now.held.items _ c.in_ok-items.items.items
    c.in_ok-push.ensures.items c.in_text.ensures c.taken-attributes.ensures.attributes c.from_vec.ensures in
    module_added c.in_ok-push.field-0 c.args.self.now (record { modules = c.push.new.self; held = c.taken-attributes.new.held; names = c.add.new.self }) c.args.lines.now c.read_module_body.new.lines c.args.line c.args.name.now c.in_ok-items.items c.in_ok-add.field-0
    c.requires c.in_ok-add.ensures.new c.if-not-branch.false c.in_ok-items.ensures.body pushed c.taken-attributes.ensures.none

pub returns-clause-names : goal.returns-clause-names
returns-clause-names c =
    module_item_names c.args.self.now (record { modules = c.push.new.self; held = c.taken-attributes.new.held; names = c.add.new.self }) _ c.args.name.now c.requires c.in_ok-push.ensures.items c.in_text.ensures c.in_ok-add.ensures.names
