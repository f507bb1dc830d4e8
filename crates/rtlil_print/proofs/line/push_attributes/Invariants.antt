use Rattle.std.proofs.Common.{◌≡◌, ◌++◌, take}
use Rattle.std.specs.List.{flat_map}
use Rattle.rtlil_print.specs.Printed.{attribute_line}
use Rattle.rtlil_print.proofs.line.push_attributes.Given as goal

abbrev pub invariant-loop-attribute : goal.invariant-loop-attribute
invariant-loop-attribute l = l.text.items ≡ l.fn.text.items ++ flat_map (attribute_line l.fn.indent) (take l.attribute-index l.attributes)
