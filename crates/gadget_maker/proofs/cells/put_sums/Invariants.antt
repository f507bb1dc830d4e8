use Rattle.std.proofs.Common.{◌≤◌, length, take}
use Rattle.std.specs.List.{flat_map}
use Rattle.gadget_maker.specs.Gadget.{sum_cells}
use Rattle.gadget_maker.specs.Listed.{Puts}
use Rattle.gadget_maker.proofs.cells.put_sums.Given as goal

abbrev pub invariant-loop-crossing : goal.invariant-loop-crossing
invariant-loop-crossing l = Puts l.fn.listing l.listing l.crossing-index (flat_map (sum_cells l.shares) (take l.crossing-index l.crossings)) × (l.crossing-index ≤ length l.crossings)
