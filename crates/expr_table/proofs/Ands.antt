-- The simplified conjunction, on rows.
use Rattle.std.proofs.Common.{◌≡◌, ◌<◌, length, None, Some, sym, ap, ◌∙◌}
use Rattle.std.proofs.lemmas.Bool.{cond-true, cond-false}
use Rattle.expr_table.specs.declared.node.Row.{Row}
use Rattle.expr_table.specs.declared.table.gate.Gate.TheVariants as gate
use Rattle.expr_table.specs.Term.{Term, Zero, One, is_same, and_of, ordered_and}
use Rattle.expr_table.specs.Table.{Table, IsTable, IsRowOf, terms, term_at}
use Rattle.expr_table.specs.Gates.{Simplifies}
use Rattle.expr_table.proofs.Order.{is_same-equal, is_same-other}
use Rattle.expr_table.proofs.Xors.{numbers_apart, not_term, row_term}

-- the cases of the definition
pub and_of-zero_left : (a b : Term) → a ≡ Zero → and_of a b ≡ Zero
unfolding and_of
and_of-zero_left a b e = cond-true (is_same a Zero) Zero _ (is_same-equal a Zero e)

pub and_of-zero_right : (a b : Term) → (a ≡ Zero → ⊥) → b ≡ Zero → and_of a b ≡ Zero
unfolding and_of
and_of-zero_right a b left e = cond-false (is_same a Zero) Zero _ (is_same-other a Zero left) ∙ cond-true (is_same b Zero) Zero _ (is_same-equal b Zero e)

module _ (a b : Term) (left : a ≡ Zero → ⊥) (right : b ≡ Zero → ⊥) where
  pub and_of-one_left : a ≡ One → and_of a b ≡ b
  unfolding and_of
  and_of-one_left e =
      cond-false (is_same a Zero) Zero _ (is_same-other a Zero left) ∙ cond-false (is_same b Zero) Zero _ (is_same-other b Zero right)
      ∙ cond-true (is_same a One) b _ (is_same-equal a One e)

  module _ (no_one : a ≡ One → ⊥) where
    pub and_of-one_right : b ≡ One → and_of a b ≡ a
    unfolding and_of
    and_of-one_right e =
        cond-false (is_same a Zero) Zero _ (is_same-other a Zero left) ∙ cond-false (is_same b Zero) Zero _ (is_same-other b Zero right)
        ∙ cond-false (is_same a One) b _ (is_same-other a One no_one) ∙ cond-true (is_same b One) a _ (is_same-equal b One e)

    module _ (no_one' : b ≡ One → ⊥) where
      pub and_of-same : a ≡ b → and_of a b ≡ a
      unfolding and_of
      and_of-same e =
          cond-false (is_same a Zero) Zero _ (is_same-other a Zero left) ∙ cond-false (is_same b Zero) Zero _ (is_same-other b Zero right)
          ∙ cond-false (is_same a One) b _ (is_same-other a One no_one) ∙ cond-false (is_same b One) a _ (is_same-other b One no_one')
          ∙ cond-true (is_same a b) a _ (is_same-equal a b e)

      pub and_of-other : (a ≡ b → ⊥) → and_of a b ≡ ordered_and a b
      unfolding and_of
      and_of-other e =
          cond-false (is_same a Zero) Zero _ (is_same-other a Zero left) ∙ cond-false (is_same b Zero) Zero _ (is_same-other b Zero right)
          ∙ cond-false (is_same a One) b _ (is_same-other a One no_one) ∙ cond-false (is_same b One) a _ (is_same-other b One no_one')
          ∙ cond-false (is_same a b) a _ (is_same-other a b e)

module _ (t : Table) (table : IsTable t) (a b zero : Row) (al : a.0 < length t.nodes) (bl : b.0 < length t.nodes) (is : IsRowOf t.nodes zero.0 Zero) where
  abbrev at : Row → Term
  at row = term_at (terms t.nodes) row.0

  pub And-zero_left : a.0 ≡ zero.0 → Simplifies gate.And t.nodes a b (Some a)
  And-zero_left e = let same = row_term t table a zero Zero e is in record { within = al; term = same ∙ sym (and_of-zero_left (at a) (at b) same) }

  module _ (a_other : a.0 ≡ zero.0 → ⊥) where
    pub And-zero_right : b.0 ≡ zero.0 → Simplifies gate.And t.nodes a b (Some b)
    And-zero_right e =
        let same = row_term t table b zero Zero e is in
        record { within = bl; term = same ∙ sym (and_of-zero_right (at a) (at b) (not_term t table a zero Zero al is a_other) same) }

    module _ (b_other : b.0 ≡ zero.0 → ⊥) (one : Row) (is_one : IsRowOf t.nodes one.0 One) where
      no_zero : at a ≡ Zero → ⊥
      no_zero = not_term t table a zero Zero al is a_other

      no_zero' : at b ≡ Zero → ⊥
      no_zero' = not_term t table b zero Zero bl is b_other

      pub And-one_left : a.0 ≡ one.0 → Simplifies gate.And t.nodes a b (Some b)
      And-one_left e = record { within = bl; term = sym (and_of-one_left (at a) (at b) no_zero no_zero' (row_term t table a one One e is_one)) }

      module _ (a_no_one : a.0 ≡ one.0 → ⊥) where
        no_one : at a ≡ One → ⊥
        no_one = not_term t table a one One al is_one a_no_one

        pub And-one_right : b.0 ≡ one.0 → Simplifies gate.And t.nodes a b (Some a)
        And-one_right e = record { within = al; term = sym (and_of-one_right (at a) (at b) no_zero no_zero' no_one (row_term t table b one One e is_one)) }

        module _ (b_no_one : b.0 ≡ one.0 → ⊥) where
          no_one' : at b ≡ One → ⊥
          no_one' = not_term t table b one One bl is_one b_no_one

          pub And-same : a.0 ≡ b.0 → Simplifies gate.And t.nodes a b (Some a)
          And-same e = record { within = al; term = sym (and_of-same (at a) (at b) no_zero no_zero' no_one no_one' (ap (term_at (terms t.nodes)) e)) }

          pub And-last : (a.0 ≡ b.0 → ⊥) → Simplifies gate.And t.nodes a b None
          And-last apart = (
            λ same. apart (ap (λ (r : Row). r.0) same),
            and_of-other (at a) (at b) no_zero no_zero' no_one no_one' (numbers_apart t table a b al bl apart),
          )
