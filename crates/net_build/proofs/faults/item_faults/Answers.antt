use Rattle.std.proofs.Common.{◌∙◌, sym}
use Rattle.net_build.proofs.FaultLemmas.{other_faults, scope_faults}
use Rattle.net_build.proofs.faults.item_faults.Goals as goal

pub returns-else-is_kept : goal.returns-else-is_kept
returns-else-is_kept c = scope_faults c.args.wires.now.list.now c.args.item.now c.in-Cell.cell c.in-Cell.is (sym c.is_kept.ensures ∙ c.if-is_kept.false)

pub returns-in_default : goal.returns-in_default
returns-in_default c = other_faults c.args.wires.now.list.now c.args.item.now c.in_default.not-Cell c.in_default.not-Connect
