use Rattle.std.proofs.Common.{true, false, refl, ap}
use Rattle.net_build.specs.Reading.{is_missing, is_unknown}
use Rattle.net_build.proofs.ReadLemmas.{pin_more, other_pin}
use Rattle.net_build.proofs.reads.with_pin.Goals as goal

pub returns-in-Missing : goal.returns-in-Missing
returns-in-Missing c = λ earlier h.
    pin_more earlier c.args.pin c.args.faults (record { undriven = c.earlier.result; unknown = c.args.faults.unknown }) true false
    (ap is_missing c.in-Missing.is) (ap is_unknown c.in-Missing.is) c.earlier.ensures refl h

pub returns-in-Unknown : goal.returns-in-Unknown
returns-in-Unknown c = λ earlier h.
    pin_more earlier c.args.pin c.args.faults (record { undriven = c.args.faults.undriven; unknown = c.earlier-in-Unknown.result }) false true
    (ap is_missing c.in-Unknown.is) (ap is_unknown c.in-Unknown.is) refl c.earlier-in-Unknown.ensures h

pub returns-in_default : goal.returns-in_default
returns-in_default c = λ earlier h.
    let o = other_pin c.args.pin.source c.in_default.not-Missing c.in_default.not-Unknown in
    pin_more earlier c.args.pin c.args.faults c.args.faults false false o.0 o.1 refl refl h
