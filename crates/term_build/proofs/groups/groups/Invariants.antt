use Rattle.std.proofs.Common.{◌≡◌, map, take}
use Rattle.circuit_types.specs.Worlds.{group_of}
use Rattle.term_build.specs.declared.leaves.Sort.TheVariants.{Input}
use Rattle.term_build.specs.Numbering.{leaves_before, leaves_up_to}
use Rattle.term_build.proofs.groups.groups.Given as goal

abbrev pub invariant-loop-cycle : goal.invariant-loop-cycle
invariant-loop-cycle l = l.groups.items ≡ map (group_of l.roles) (leaves_before Input l.notion l.roles l.cycle)

abbrev pub invariant-loop-input : goal.invariant-loop-input
invariant-loop-input l = l.groups.items ≡ map (group_of l.roles) (leaves_up_to Input l.notion l.roles l.cycle (take l.input-index l.input-items))
