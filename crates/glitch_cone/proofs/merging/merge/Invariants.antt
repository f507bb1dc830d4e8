use Rattle.std.proofs.Common.{◌+◌, length}
use Rattle.glitch_cone.proofs.Unions.{IsMerged}
use Rattle.glitch_cone.proofs.merging.merge.Given as goal

-- what is merged, followed by what is left of each list
abbrev pub invariant-loop-least : goal.invariant-loop-least
invariant-loop-least l = IsMerged l.left l.right l.merged.items l.lefts l.rights

abbrev pub decreases-loop-least : goal.decreases-loop-least
decreases-loop-least l = length l.lefts + length l.rights
