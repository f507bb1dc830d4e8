use Rattle.std.proofs.Common.{◌≡◌, take, map}
use Rattle.net_build.specs.Ports.{pin_at}
use Rattle.net_build.proofs.cells.pins_of.Given as goal

abbrev pub invariant-loop-read : goal.invariant-loop-read
invariant-loop-read l = l.pins.items ≡ map (pin_at l.sources) (take l.read-index l.reads)
