use Rattle.std.proofs.Common.{◌≡◌, ◌++◌, ◌∷◌, []}
use Rattle.std.specs.List.{flat_map, range_with_len}
use Rattle.gadget_maker.specs.Gadget.{pair}
use Rattle.gadget_maker.proofs.pairs.push_row.Given as goal

abbrev pub invariant-loop-second : goal.invariant-loop-second
invariant-loop-second l = l.pairs.items ≡ l.fn.pairs.items ++ flat_map (λ j. pair l.first j ∷ []) (range_with_len 0 l.second)
