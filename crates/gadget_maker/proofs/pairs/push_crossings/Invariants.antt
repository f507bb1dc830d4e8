use Rattle.std.proofs.Common.{◌≡◌, ◌++◌}
use Rattle.std.specs.List.{flat_map, range_with_len}
use Rattle.gadget_maker.specs.Gadget.{crossings_at}
use Rattle.gadget_maker.proofs.pairs.push_crossings.Given as goal

abbrev pub invariant-loop-second : goal.invariant-loop-second
invariant-loop-second l = l.crossings.items ≡ l.fn.crossings.items ++ flat_map (crossings_at l.shares l.first) (range_with_len 0 l.second)
