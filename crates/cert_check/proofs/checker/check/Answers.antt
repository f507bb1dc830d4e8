use Rattle.std.proofs.Common.{◌≡◌, sym, ap, ◌∙◌, subst, arith, Option, Ok}
use Rattle.std.specs.Prelude.{MatchOption}
use Rattle.certificate.specs.Lines.{HasNoLineAt, StandsAt}
use Rattle.certificate.specs.declared.fault.Why.{Why}
use Rattle.certificate.specs.declared.entries.Header.{Header}
use Rattle.cert_check.specs.Sound.{Judged, KeepsSound, stage_of}
use Rattle.cert_check.specs.Stages.{judge}
use Rattle.cert_check.proofs.Checks.{one_further}
use Rattle.cert_check.proofs.RightLines.{moves_on, stays_within}
use Rattle.cert_check.proofs.checker.check.Goals as goal

pub loop-alloc-preserved : goal.loop-alloc-preserved
loop-alloc-preserved c =
    let x = c.args.instance.now in
    let bytes = c.args.bytes.now in
    let place = c.loop-alloc.place in
    let line = c.in-Some.line in
    let after = c.in-Some.after in
    let old = stage_of c.loop-alloc.state in
    let new = stage_of c.take.new.self in
    let stands : StandsAt bytes place line after =
    subst (λ form. MatchOption form (HasNoLineAt bytes place) (λ found. StandsAt bytes place found.0 found.1)) c.in-Some.is c.in_ok-line.ensures in
    let on = moves_on bytes place line after stands in
    let right : judge x c.header_of-header.result old line ≡ Ok new =
    subst (λ (why : Option Why). Judged (judge x c.header_of-header.result old line) new why) c.in_default-2.is c.in_ok-why.ensures.judged in
    let same = ap (λ (h : Header). judge x h old line) (sym c.header_of-header.ensures) in
    record {
      within = stays_within bytes place line after c.loop-alloc.invariant.within stands;
      counted = omega (arith, on, c.loop-alloc.invariant.counted);
      closed = omega (arith, c.in_ok-why.ensures.counted, c.loop-alloc.invariant.closed);
      sound = subst (λ (why : Option Why). KeepsSound x c.take.new.self why) c.in_default-2.is c.in_ok-why.ensures.sound;
      halfway = one_further x c.args.model c.args.order bytes c.loop-alloc.number place old line after new c.loop-alloc.invariant.halfway stands (same ∙ right);
    }
