use Rattle.level_unroll.proofs.Waits.{pin_below, reads_pin}
use Rattle.level_unroll.proofs.queue.awaited_pin.Goals as goal

pub unlisted-requires : goal.unlisted-requires
unlisted-requires c = pin_below _ c.args.pins.now c.loop-pin.pin-index _ c.requires c.loop-pin-test.true

pub returns-in-Some-clause-awaits : goal.returns-in-Some-clause-awaits
returns-in-Some-clause-awaits c = (c.in-Some.ensures.awaits.0, reads_pin c.args.pins.now c.loop-pin.pin-index c.in-Some.other _ c.loop-pin-test.true c.in-Some.ensures.awaits.1)
