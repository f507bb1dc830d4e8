use Rattle.std.proofs.Common.{ℕ, List, sym, subst}
use Rattle.certificate.specs.declared.line.Line.TheVariants.{Cuts}
use Rattle.certificate.specs.Parts.{LineFirst}
use Rattle.certificate.proofs.LineForms.{no_cuts, cuts_made}
use Rattle.certificate.proofs.forms.cuts.Goals as goal

pub returns-in_default : goal.returns-in_default
returns-in_default c = no_cuts c.args.bytes.now (rw c.in_default.is at c.in_ok-rows.ensures)

pub returns : goal.returns
returns c =
    subst (λ (rs : List ℕ). LineFirst c.args.bytes.now (Cuts rs) c.in-Some.rest.now) (sym c.from_vec.ensures)
    (cuts_made c.args.bytes.now c.in-Some.rows.items c.in-Some.rest.now (rw c.in-Some.is at c.in_ok-rows.ensures))
