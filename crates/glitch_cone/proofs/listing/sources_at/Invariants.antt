use Rattle.std.proofs.Common.{◌≡◌, map, take}
use Rattle.glitch_cone.specs.Numbers.{source_at}
use Rattle.glitch_cone.proofs.listing.sources_at.Given as goal

abbrev pub invariant-loop-number : goal.invariant-loop-number
invariant-loop-number l = l.list.items ≡ map (source_at l.sources) (take l.number-index l.numbers)
