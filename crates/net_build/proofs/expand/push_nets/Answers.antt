use Rattle.std.proofs.Common.{◌+◌, refl}
use Rattle.net_build.proofs.BitLemmas.{pushed}
use Rattle.circuit_types.specs.declared.nets.SignalBit.TheVariants.{Net}
use Rattle.net_build.proofs.expand.push_nets.Goals as goal

pub loop-bit-preserved : goal.loop-bit-preserved
loop-bit-preserved c =
    pushed (λ k. Net k) c.loop-bit.bits.items c.push.new.self.items _ c.loop-bit.bit (c.args.first + c.args.count) (Net c.loop-bit.bit)
    c.loop-bit-test.true refl c.in_ok-push.ensures.items c.loop-bit.invariant
