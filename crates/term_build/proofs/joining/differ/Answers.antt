use Rattle.std.proofs.Common.{sym, ap, ◌∙◌, subst, refl, [], ◌∷◌, Err}
use Rattle.expr_table.specs.Table.{xor_at}
use Rattle.term_build.specs.Building.{StopsAt}
use Rattle.term_build.proofs.Making.{IsShort-full}
use Rattle.term_build.proofs.joining.differ.Goals as goal

pub returns-in-Err-TooManyTerms : goal.returns-in-Err-TooManyTerms
returns-in-Err-TooManyTerms c =
    let old = c.args.table.now in
    let t = xor_at old.nodes c.args.a c.args.b in
    let full = c.xor.ensures.too_many.0 (c.in-Err-TooManyTerms.is ∙ ap (λ e. Err e) c.in-Err-TooManyTerms.field-0-is) in
    subst (StopsAt old (t ∷ [])) (sym c.too_many_terms.ensures) (refl, IsShort-full old t full.0 full.1)
