use Rattle.glitch_cone.proofs.Halfway.{IsHalfway}
use Rattle.glitch_cone.proofs.cones.glitch_cones.Given as goal

abbrev pub invariant-loop-cell : goal.invariant-loop-cell
invariant-loop-cell l = IsHalfway l.circuit l.sources l.places l.cell-index l.cones
