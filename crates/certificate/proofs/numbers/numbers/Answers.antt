use Rattle.std.proofs.Common.{ℕ, ◌^◌, List, sym, refl, subst, arith, codes}
use Rattle.certificate.specs.Parts.{NumbersFirst}
use Rattle.certificate.proofs.Numerals.{number_shorter}
use Rattle.certificate.proofs.NumberLists.{first_more}
use Rattle.certificate.proofs.numbers.numbers.Goals as goal

pub loop-number-init : goal.loop-number-init
loop-number-init c = subst (λ (ns : List ℕ). NumbersFirst c.args.bytes.now ns c.args.bytes.now) (sym c.new-numbers.ensures.items) refl

pub loop-number-preserved : goal.loop-number-preserved
loop-number-preserved c =
    subst (λ (ns : List ℕ). NumbersFirst c.args.bytes.now ns c.in-Some.others.now) (sym c.in_ok-push.ensures.items)
    (first_more c.args.bytes.now c.loop-number.numbers.items c.loop-number.rest.now c.in-Some.number c.in-Some.others.now
    c.loop-number.invariant c.in-Some.ensures)

pub loop-number-smaller : goal.loop-number-smaller
loop-number-smaller c =
    number_shorter (2 ^ 32) (codes " ") c.loop-number.rest.now c.in-Some.number c.in-Some.others.now c.in-Some.ensures (omega arith)
