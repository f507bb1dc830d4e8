use Rattle.std.proofs.Common.{◌≡◌}
use Rattle.std.specs.List.{flat_map, range_with_len}
use Rattle.gadget_maker.specs.Gadget.{row_of_pairs}
use Rattle.gadget_maker.proofs.pairs.pairs.Given as goal

abbrev pub invariant-loop-first : goal.invariant-loop-first
invariant-loop-first l = l.pairs.items ≡ flat_map (row_of_pairs l.shares) (range_with_len 0 l.first)
