use Rattle.std.proofs.Common.{◌+◌}
use Rattle.circuit_types.specs.Bits.{value_bit}
use Rattle.net_build.proofs.BitLemmas.{pushed}
use Rattle.net_build.proofs.expand.push_value.Goals as goal

pub loop-place-preserved : goal.loop-place-preserved
loop-place-preserved c =
    pushed (value_bit c.args.value.now) c.loop-place.bits.items c.push.new.self.items _ c.loop-place.place (c.args.low + c.args.count) c.value_bit.result
    c.loop-place-test.true c.value_bit.ensures c.in_ok-push.ensures.items c.loop-place.invariant
