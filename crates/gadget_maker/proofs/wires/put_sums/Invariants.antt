use Rattle.std.proofs.Common.{◌≤◌, length, take}
use Rattle.std.specs.List.{flat_map}
use Rattle.gadget_maker.specs.Gadget.{sum_wires}
use Rattle.gadget_maker.specs.Listed.{Puts}
use Rattle.gadget_maker.proofs.wires.put_sums.Given as goal

abbrev pub invariant-loop-pair : goal.invariant-loop-pair
invariant-loop-pair l = Puts l.fn.listing l.listing l.pair-index (flat_map (sum_wires l.shares) (take l.pair-index l.pairs)) × (l.pair-index ≤ length l.pairs)
