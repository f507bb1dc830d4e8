use Rattle.std.proofs.Common.{subst}
use Rattle.net_build.specs.Ends.{ReplacesAmong}
use Rattle.net_build.proofs.EndLemmas.{settled_more, seen_more}
use Rattle.net_build.proofs.resolve.follow_all.Goals as goal

pub loop-bit-preserved : goal.loop-bit-preserved
loop-bit-preserved c =
    let ds = c.args.drivers.now in
    let r = subst (λ w. ReplacesAmong w c.in_ok-end.end c.loop-bit.sources c.settle.new.sources) c.as_slice.ensures.value c.settle.ensures in (
      settled_more ds c.loop-bit.bit c.in_ok-end.end c.loop-bit.sources c.settle.new.sources c.loop-bit.seen c.follow.new.seen c.follow.new.way.items
          c.loop-bit.invariant.0 c.in_ok-end.ensures r,
      seen_more ds c.loop-bit.bit c.in_ok-end.end c.loop-bit.seen c.follow.new.seen c.follow.new.way.items c.in_ok-end.ensures c.loop-bit.invariant.1,
      c.clear.ensures.items,
    )
