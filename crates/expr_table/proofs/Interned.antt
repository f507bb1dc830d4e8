-- What interning a term that has a row already, or has none, answers.
use Rattle.std.proofs.Common.{Ok, Err, refl, sym, ◌∙◌, true≢false}
use Rattle.expr_table.specs.declared.node.Row.{Row}
use Rattle.expr_table.specs.declared.table.TermStop.TheVariants.{TooManyTerms}
use Rattle.expr_table.specs.Term.{Term}
use Rattle.expr_table.specs.Table.{Table, IsTable, IsRowOf, IsNew, IsFull, terms}
use Rattle.expr_table.specs.Interning.{Interns}
use Rattle.expr_table.proofs.Rows.{has_term-row, with_term-there, Extends-self}

module _ (t : Table) (table : IsTable t) (s : Term) where
  pub Interns-there : (row : Row) → IsRowOf t.nodes row.0 s → Interns s t t (Ok row)
  Interns-there row is =
      let there = has_term-row t.nodes row.0 s is in
      record {
        row = is;
        terms = sym (with_term-there (terms t.nodes) s there);
        kept = Extends-self t;
        table = table;
        stopped = tt;
        too_many = (λ e. cc, λ p. absurd (true≢false (sym there ∙ p.0)));
        no_memory = λ e. cc;
      }

  pub Interns-full : IsNew t s → IsFull t → Interns s t t (Err TooManyTerms)
  Interns-full new full =
      record { row = tt; terms = tt; kept = Extends-self t; table = table; stopped = refl; too_many = (λ e. (new, full), λ p. refl); no_memory = λ e. cc }
