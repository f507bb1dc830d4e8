use Rattle.glitch_cone.specs.Cones.{AreOwn}
use Rattle.glitch_cone.proofs.cones.own_cones.Given as goal

abbrev pub invariant-loop-number : goal.invariant-loop-number
invariant-loop-number l = AreOwn l.model l.nets l.sources l.number l.cones
