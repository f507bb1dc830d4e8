use Rattle.std.proofs.Common.{◌++◌, ◌∙◌, ap}
use Rattle.circuit_types.specs.Signals.{signal_bits}
use Rattle.net_build.proofs.expand.bits_of.Goals as goal

pub returns : goal.returns
returns c = c.in_ok-push_signal.ensures ∙ ap (λ v. v ++ signal_bits c.args.wires.now.list.now c.args.signal.now) c.new-bits.ensures.items
