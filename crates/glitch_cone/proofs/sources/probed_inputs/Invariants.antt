use Rattle.std.proofs.Common.{◌≡◌, take}
use Rattle.circuit_types.specs.Probes.{probed_inputs}
use Rattle.glitch_cone.proofs.sources.probed_inputs.Given as goal

abbrev pub invariant-loop-input : goal.invariant-loop-input
invariant-loop-input l = l.sources.items ≡ probed_inputs (take l.input-index l.inputs)
