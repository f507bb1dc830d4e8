use Rattle.std.proofs.Common.{refl}
use Rattle.circuit_types.specs.Nets.{Link, is_unsupported, is_module, is_unnamed, is_badly_sliced, is_mismatched, lacks_port}
use Rattle.circuit_types.specs.declared.tree.Cell.{Cell}
use Rattle.net_build.proofs.FaultLemmas.{as_found, one_line, none_line}
use Rattle.net_build.proofs.faults.kind_faults.Goals as goal

pub returns : goal.returns
returns c = as_found _ _ _ _ c.found.ensures (record {
  too_wide = refl;
  unsupported = one_line (λ (x : Cell). x.line) is_unsupported c.args.cell.now c.line_if.result _ c.line_if.ensures c.is_unsupported.ensures;
  hierarchy = one_line (λ (x : Cell). x.line) is_module c.args.cell.now c.line_if-2.result _ c.line_if-2.ensures c.is_module.ensures;
  no_wire = none_line (λ (l : Link). l.line) is_unnamed;
  bad_slice = none_line (λ (l : Link). l.line) is_badly_sliced;
  mismatch = λ h. none_line (λ (l : Link). l.line) is_mismatched;
  missing = one_line (λ (x : Cell). x.line) lacks_port c.args.cell.now c.line_if-3.result _ c.line_if-3.ensures c.lacks_port.ensures;
})
