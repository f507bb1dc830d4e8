use Rattle.std.proofs.Common.{◌≤◌, length, take}
use Rattle.std.specs.List.{flat_map}
use Rattle.gadget_maker.specs.Gadget.{product_wires}
use Rattle.gadget_maker.specs.Listed.{Puts}
use Rattle.gadget_maker.proofs.wires.put_products.Given as goal

abbrev pub invariant-loop-pair : goal.invariant-loop-pair
invariant-loop-pair l = Puts l.fn.listing l.listing l.pair-index (flat_map product_wires (take l.pair-index l.pairs)) × (l.pair-index ≤ length l.pairs)
