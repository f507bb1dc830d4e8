use Rattle.std.proofs.Common.{◌++◌, take, get_or, subst}
use Rattle.std.proofs.lemmas.List.{take_all, get_or_default}
use Rattle.circuit_types.specs.declared.nets.Pin.{Pin}
use Rattle.circuit_types.specs.declared.nets.Source.TheVariants.{Input}
use Rattle.net_build.specs.Reading.{AreReadFaults}
use Rattle.net_build.proofs.ReadLemmas.{none_added, pins_more}
use Rattle.net_build.proofs.reads.with_pins.Goals as goal

pub loop-pin-init : goal.loop-pin-init
loop-pin-init c = λ earlier h. none_added earlier c.args.before h

pub loop-pin-preserved : goal.loop-pin-preserved
loop-pin-preserved c = λ earlier h.
    let none : Pin = record { line = 0; source = Input 0 } in
    let pin = get_or c.args.pins.now c.loop-pin.pin-index none in
    pins_more earlier c.args.pins.now c.loop-pin.pin-index pin c.with_pin-faults.result c.loop-pin-test.true
    (get_or_default c.args.pins.now c.loop-pin.pin-index none pin c.loop-pin-test.true)
    (c.with_pin-faults.ensures (earlier ++ take c.loop-pin.pin-index c.args.pins.now) (c.loop-pin.invariant earlier h))

pub returns : goal.returns
returns c = λ earlier h.
    subst (λ v. AreReadFaults (earlier ++ v) c.loop-pin.faults) (take_all c.loop-pin.pin-index c.args.pins.now c.loop-pin-test.false) (c.loop-pin.invariant earlier h)
