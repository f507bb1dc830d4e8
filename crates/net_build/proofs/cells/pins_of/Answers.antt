use Rattle.std.proofs.Common.{◌∙◌, ap, map}
use Rattle.std.proofs.lemmas.List.{take_all}
use Rattle.net_build.specs.Ports.{pin_at}
use Rattle.net_build.proofs.cells.pins_of.Goals as goal

pub returns : goal.returns
returns c = c.loop-read.invariant ∙ ap (map (pin_at c.args.sources.now)) (take_all c.loop-read.read-index c.args.reads.now c.loop-read-test.false)
