use Rattle.std.proofs.Common.{sym, ◌∙◌}
use Rattle.circuit_types.specs.declared.nets.Source.TheVariants.{Cell}
use Rattle.glitch_cone.proofs.cones.Cones.follow.Goals as goal

pub put-requires-clause-number : goal.put-requires-clause-number
put-requires-clause-number c x is = c.requires.places (Cell c.args.cell) x (sym c.of.ensures ∙ is)
