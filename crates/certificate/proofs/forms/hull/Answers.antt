use Rattle.std.proofs.Common.{ℕ, List, sym, subst}
use Rattle.certificate.specs.declared.line.Line.TheVariants.{Hull}
use Rattle.certificate.specs.Lines.{IsHull}
use Rattle.certificate.specs.Parts.{LineFirst}
use Rattle.certificate.proofs.LineForms.{no_hull, no_hull_text, hull_made}
use Rattle.certificate.proofs.forms.hull.Goals as goal

pub returns-in_default : goal.returns-in_default
returns-in_default c = no_hull c.args.bytes.now (rw c.in_default.is at c.in_ok-members.ensures)

pub returns-then-not-is_hull : goal.returns-then-not-is_hull
returns-then-not-is_hull c =
    no_hull_text c.args.bytes.now c.in-Some.members.items c.as_slice.result.now c.in-Some.rest.now c.is_hull.result
    (rw c.in-Some.is at c.in_ok-members.ensures) c.as_slice.ensures.value c.is_hull.ensures c.if-not-is_hull.true

pub returns : goal.returns
returns c =
    subst (λ (ms : List ℕ). LineFirst c.args.bytes.now (Hull ms) c.in-Some.rest.now) (sym c.from_vec.ensures)
    (hull_made c.args.bytes.now c.in-Some.members.items c.in-Some.rest.now (rw c.in-Some.is at c.in_ok-members.ensures)
    (subst (λ (ms : List ℕ). IsHull ms) c.as_slice.ensures.value (c.is_hull.ensures.0 c.if-not-is_hull.false)))
