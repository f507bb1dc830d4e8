use Rattle.std.proofs.Common.{◌≡◌}
use Rattle.std.specs.List.{flat_map, range_with_len}
use Rattle.gadget_maker.specs.Gadget.{row_of_crossings}
use Rattle.gadget_maker.proofs.pairs.crossings.Given as goal

abbrev pub invariant-loop-first : goal.invariant-loop-first
invariant-loop-first l = l.crossings.items ≡ flat_map (row_of_crossings l.shares) (range_with_len 0 l.first)
