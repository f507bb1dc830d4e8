use Rattle.std.proofs.Common.{◌≡◌, ◌++◌, take}
use Rattle.std.specs.List.{flat_map}
use Rattle.rtlil_print.specs.Printed.{port_connect_line}
use Rattle.rtlil_print.proofs.cell.push_connects.Given as goal

abbrev pub invariant-loop-connect : goal.invariant-loop-connect
invariant-loop-connect l = l.text.items ≡ l.fn.text.items ++ flat_map (port_connect_line l.fn.indent) (take l.connect-index l.connects)
