use Rattle.std.proofs.Common.{◌≡◌, ◌++◌, take}
use Rattle.std.specs.List.{flat_map}
use Rattle.rtlil_print.specs.Printed.{parameter_line}
use Rattle.rtlil_print.proofs.cell.push_parameters.Given as goal

abbrev pub invariant-loop-parameter : goal.invariant-loop-parameter
invariant-loop-parameter l = l.text.items ≡ l.fn.text.items ++ flat_map (parameter_line l.fn.indent) (take l.parameter-index l.parameters)
