-- When the terms need too many rows.
use Rattle.std.proofs.Common.{◌≡◌, ◌+◌, ◌<◌, refl, sym, subst, arith, inl}
use Rattle.circuit_types.specs.declared.circuit.Circuit.{Circuit}
use Rattle.circuit_types.specs.declared.refusal.Refusal.TheVariants.{Limit}
use Rattle.circuit_types.specs.declared.refusal.Stop.{Stop}
use Rattle.circuit_types.specs.declared.refusal.Stop.TheVariants.{Refused}
use Rattle.circuit_types.specs.declared.refusal.Which.TheVariants as which
use Rattle.circuit_types.specs.declared.roles.Roles.{Roles}
use Rattle.circuit_types.specs.Causes.{IsRefusal}
use Rattle.circuit_types.specs.Due.{IsDue}
use Rattle.expr_table.specs.declared.instance.Notion.{Notion}
use Rattle.expr_table.specs.Table.{leaves, most_rows, terms}
use Rattle.expr_table.proofs.Facts.{length-leaves, length-terms}
use Rattle.term_build.specs.TermInstance.{input_count, made_terms, random_count, term_causes, row_terms}
use Rattle.term_build.proofs.Making.{with_terms-longer}

-- more leaves than rows
pub many-leaves : (notion : Notion) (roles : Roles) (circuit : Circuit) → most_rows < 2 + input_count notion roles circuit + random_count notion roles circuit → IsDue (term_causes notion roles circuit) (Limit which.Terms)
unfolding term_causes row_terms
many-leaves notion roles circuit many =
    let i = input_count notion roles circuit in
    let r = random_count notion roles circuit in
    inl (omega (arith, many, length-leaves i r, length-terms (leaves i r), with_terms-longer (terms (leaves i r)) (made_terms notion roles circuit)), refl)

pub many-refused : (notion : Notion) (roles : Roles) (circuit : Circuit) (stop : Stop) → stop ≡ Refused (Limit which.Terms) → most_rows < 2 + input_count notion roles circuit + random_count notion roles circuit
    → IsRefusal (IsDue (term_causes notion roles circuit)) stop
many-refused notion roles circuit stop is many = subst (IsRefusal (IsDue (term_causes notion roles circuit))) (sym is) (many-leaves notion roles circuit many)
