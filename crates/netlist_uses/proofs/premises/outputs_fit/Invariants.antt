use Rattle.std.proofs.Common.{All, ◌<◌, take}
use Rattle.circuit_types.specs.declared.roles.OutputShare.{OutputShare}
use Rattle.netlist_uses.proofs.premises.outputs_fit.Given as goal

abbrev pub invariant-loop-output : goal.invariant-loop-output
invariant-loop-output l = All (λ (o : OutputShare). o.bit < l.count) (take l.output-index l.outputs)
