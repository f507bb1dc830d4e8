use Rattle.std.proofs.Common.{◌≤◌, length, take}
use Rattle.std.specs.List.{flat_map}
use Rattle.gadget_maker.specs.Gadget.{name_of, crossing_wires}
use Rattle.gadget_maker.specs.Listed.{Puts}
use Rattle.gadget_maker.proofs.wires.put_crossings.Given as goal

abbrev pub invariant-loop-crossing : goal.invariant-loop-crossing
invariant-loop-crossing l = Puts l.fn.listing l.listing l.crossing-index (flat_map (crossing_wires (name_of l.letter)) (take l.crossing-index l.crossings)) × (l.crossing-index ≤ length l.crossings)
