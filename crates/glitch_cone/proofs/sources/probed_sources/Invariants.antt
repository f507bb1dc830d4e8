use Rattle.std.proofs.Common.{◌≡◌, ◌++◌, map}
use Rattle.std.specs.List.{range_with_len}
use Rattle.circuit_types.specs.declared.nets.Source.TheVariants.{Cell}
use Rattle.circuit_types.specs.Probes.{probed_inputs}
use Rattle.glitch_cone.proofs.sources.probed_sources.Given as goal

abbrev pub invariant-loop-cell : goal.invariant-loop-cell
invariant-loop-cell l = l.sources.items ≡ probed_inputs l.roles.inputs ++ map (λ k. Cell k) (range_with_len 0 l.cell)
