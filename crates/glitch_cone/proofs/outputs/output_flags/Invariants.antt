use Rattle.glitch_cone.proofs.Flags.{AreFlags}
use Rattle.glitch_cone.proofs.outputs.output_flags.Given as goal

-- the flags of the first outputs
abbrev pub invariant-loop-output : goal.invariant-loop-output
invariant-loop-output l = AreFlags l.nets l.sources l.roles.outputs l.output-index l.flags.items
