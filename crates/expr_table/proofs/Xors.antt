-- The simplified exclusive or, on rows.
use Rattle.std.proofs.Common.{◌≡◌, ◌<◌, length, Option, None, Some, unwrap_or, refl, sym, ap, ◌∙◌, subst, arith, IfSome}
use Rattle.std.specs.Option.{option_map}
use Rattle.std.proofs.lemmas.Bool.{cond-true, cond-false}
use Rattle.expr_table.specs.declared.node.Node.{Node}
use Rattle.expr_table.specs.declared.node.Row.{Row}
use Rattle.expr_table.specs.declared.node.Node.TheVariants as node
use Rattle.expr_table.specs.Term.{Term, Zero, One, Input, Random, And, Xor, is_same, xor_of, without_one, ordered_xor}
use Rattle.expr_table.specs.Table.{Table, IsTable, IsRowOf, node_at, terms, term_at, term_of}
use Rattle.expr_table.specs.declared.table.gate.Gate.TheVariants as gate
use Rattle.expr_table.specs.Gates.{Simplifies}
use Rattle.expr_table.proofs.Order.{is_same-equal, is_same-other}
use Rattle.expr_table.proofs.Rows.{row-term, row-below, SidesBelow}

-- the cases of the definition
pub xor_of-same : (a b : Term) → a ≡ b → xor_of a b ≡ Zero
unfolding xor_of
xor_of-same a b e = cond-true (is_same a b) Zero _ (is_same-equal a b e)

pub xor_of-zero_left : (a b : Term) → (a ≡ b → ⊥) → a ≡ Zero → xor_of a b ≡ b
unfolding xor_of
xor_of-zero_left a b other e = cond-false (is_same a b) Zero _ (is_same-other a b other) ∙ cond-true (is_same a Zero) b _ (is_same-equal a Zero e)

pub xor_of-zero_right : (a b : Term) → (a ≡ b → ⊥) → (a ≡ Zero → ⊥) → b ≡ Zero → xor_of a b ≡ a
unfolding xor_of
xor_of-zero_right a b other left e =
    cond-false (is_same a b) Zero _ (is_same-other a b other) ∙ cond-false (is_same a Zero) b _ (is_same-other a Zero left)
    ∙ cond-true (is_same b Zero) a _ (is_same-equal b Zero e)

pub xor_of-other : (a b : Term) → (a ≡ b → ⊥) → (a ≡ Zero → ⊥) → (b ≡ Zero → ⊥) → xor_of a b ≡ unwrap_or (without_one a b) (unwrap_or (without_one b a) (ordered_xor a b))
unfolding xor_of
xor_of-other a b other left right =
    cond-false (is_same a b) Zero _ (is_same-other a b other) ∙ cond-false (is_same a Zero) b _ (is_same-other a Zero left)
    ∙ cond-false (is_same b Zero) a _ (is_same-other b Zero right)

pub without_one-one : (a b c : Term) → a ≡ One → b ≡ Xor One c → without_one a b ≡ Some c
without_one-one a b c e f = λ i. without_one (e i) (f i)

pub without_one-first : (a b : Term) → (a ≡ One → ⊥) → without_one a b ≡ None
without_one-first Zero b h = refl
without_one-first One b h = absurd (h refl)
without_one-first (Input i) b h = refl
without_one-first (Random i) b h = refl
without_one-first (And x y) b h = refl
without_one-first (Xor x y) b h = refl

pub without_one-side : (a x y : Term) → (x ≡ One → ⊥) → without_one a (Xor x y) ≡ None
without_one-side One Zero y h = refl
without_one-side One One y h = absurd (h refl)
without_one-side One (Input i) y h = refl
without_one-side One (Random i) y h = refl
without_one-side One (And c d) y h = refl
without_one-side One (Xor c d) y h = refl
without_one-side Zero x y h = refl
without_one-side (Input i) x y h = refl
without_one-side (Random i) x y h = refl
without_one-side (And c d) x y h = refl
without_one-side (Xor c d) x y h = refl

pub without_one-other : (a b : Term) → ((x y : Term) → b ≡ Xor x y → ⊥) → without_one a b ≡ None
without_one-other One Zero h = refl
without_one-other One One h = refl
without_one-other One (Input i) h = refl
without_one-other One (Random i) h = refl
without_one-other One (And x y) h = refl
without_one-other One (Xor x y) h = absurd (h x y refl)
without_one-other Zero b h = refl
without_one-other (Input i) b h = refl
without_one-other (Random i) b h = refl
without_one-other (And c d) b h = refl
without_one-other (Xor c d) b h = refl

module _ (t : Table) (table : IsTable t) where
  abbrev at : Row → Term
  at row = term_at (terms t.nodes) row.0

  pub numbers_apart : (a b : Row) → a.0 < length t.nodes → b.0 < length t.nodes → (a.0 ≡ b.0 → ⊥) → at a ≡ at b → ⊥
  numbers_apart a b al bl apart e = apart (table.distinct a.0 b.0 al bl e)

  -- a row that is not that of a term has another
  pub not_term : (a r : Row) (s : Term) → a.0 < length t.nodes → IsRowOf t.nodes r.0 s → (a.0 ≡ r.0 → ⊥) → at a ≡ s → ⊥
  not_term a r s al is apart e = numbers_apart a r al is.within apart (e ∙ sym is.term)

  pub Xor-at : (b side c : Row) → b.0 < length t.nodes → node_at t.nodes b.0 ≡ node.Xor side c → at b ≡ Xor (at side) (at c)
  Xor-at b side c bl e = row-term t table b.0 bl ∙ ap (term_of (terms t.nodes)) e

  pub Xor-sides : (b side c : Row) → b.0 < length t.nodes → node_at t.nodes b.0 ≡ node.Xor side c → (side.0 < length t.nodes) × (c.0 < length t.nodes)
  Xor-sides b side c bl e = let below : SidesBelow b.0 (node.Xor side c) = subst (SidesBelow b.0) e (row-below t table b.0) in (omega arith, omega arith)

  -- a row whose node is no Xor has no Xor as its term
  not_Xor : (n : Node) (x y : Term) → ((p q : Row) → n ≡ node.Xor p q → ⊥) → term_of (terms t.nodes) n ≡ Xor x y → ⊥
  not_Xor node.Zero x y h e = cc
  not_Xor node.One x y h e = cc
  not_Xor (node.Input i) x y h e = cc
  not_Xor (node.Random i) x y h e = cc
  not_Xor (node.And p q) x y h e = cc
  not_Xor (node.Xor p q) x y h e = h p q refl

  pub no_Xor-at : (b : Row) → b.0 < length t.nodes → ((p q : Row) → node_at t.nodes b.0 ≡ node.Xor p q → ⊥) → (x y : Term) → at b ≡ Xor x y → ⊥
  no_Xor-at b bl h x y e = not_Xor (node_at t.nodes b.0) x y h (sym (row-term t table b.0 bl) ∙ e)

  -- what is known of a row with the number of another
  pub row_term : (r other : Row) (s : Term) → r.0 ≡ other.0 → IsRowOf t.nodes other.0 s → at r ≡ s
  row_term r other s e is = ap (term_at (terms t.nodes)) e ∙ is.term

  pub Xor-same : (a b zero : Row) → a.0 ≡ b.0 → IsRowOf t.nodes zero.0 Zero → Simplifies gate.Xor t.nodes a b (Some zero)
  Xor-same a b zero e is = record { within = is.within; term = is.term ∙ sym (xor_of-same (at a) (at b) (ap (term_at (terms t.nodes)) e)) }

  module _ (a b zero : Row) (al : a.0 < length t.nodes) (bl : b.0 < length t.nodes) (is : IsRowOf t.nodes zero.0 Zero) (apart : a.0 ≡ b.0 → ⊥) where
    pub Xor-zero_left : a.0 ≡ zero.0 → Simplifies gate.Xor t.nodes a b (Some b)
    Xor-zero_left e = record { within = bl; term = sym (xor_of-zero_left (at a) (at b) (numbers_apart a b al bl apart) (row_term a zero Zero e is)) }

    module _ (a_other : a.0 ≡ zero.0 → ⊥) where
      pub Xor-zero_right : b.0 ≡ zero.0 → Simplifies gate.Xor t.nodes a b (Some a)
      Xor-zero_right e = record {
        within = al;
        term = sym (xor_of-zero_right (at a) (at b) (numbers_apart a b al bl apart) (not_term a zero Zero al is a_other) (row_term b zero Zero e is));
      }

      module _ (b_other : b.0 ≡ zero.0 → ⊥) where
        other : xor_of (at a) (at b) ≡ unwrap_or (without_one (at a) (at b)) (unwrap_or (without_one (at b) (at a)) (ordered_xor (at a) (at b)))
        other = xor_of-other (at a) (at b) (numbers_apart a b al bl apart) (not_term a zero Zero al is a_other) (not_term b zero Zero bl is b_other)

        -- from what the looks for One found
        pub Xor-one : (c : Row) → c.0 < length t.nodes → without_one (at a) (at b) ≡ Some (at c) → Simplifies gate.Xor t.nodes a b (Some c)
        Xor-one c cl e = record { within = cl; term = sym (other ∙ ap (λ o. unwrap_or o (unwrap_or (without_one (at b) (at a)) (ordered_xor (at a) (at b)))) e) }

        pub Xor-last : without_one (at a) (at b) ≡ None → (r : Option Row) → IfSome r (λ (c : Row). c.0 < length t.nodes)
            → option_map (λ (c : Row). term_at (terms t.nodes) c.0) r ≡ without_one (at b) (at a) → Simplifies gate.Xor t.nodes a b r
        Xor-last none (Some c) cl e = record {
          within = cl;
          term = sym (other ∙ ap (λ o. unwrap_or o (unwrap_or (without_one (at b) (at a)) (ordered_xor (at a) (at b)))) none ∙ ap (λ o. unwrap_or o (ordered_xor (at a) (at b))) (sym e));
        }
        Xor-last none None cl e = (
          λ same. apart (ap (λ (r : Row). r.0) same),
          other ∙ ap (λ o. unwrap_or o (unwrap_or (without_one (at b) (at a)) (ordered_xor (at a) (at b)))) none ∙ ap (λ o. unwrap_or o (ordered_xor (at a) (at b))) (sym e),
        )

  pub without_one-found : (a b one side c : Row) → b.0 < length t.nodes → IsRowOf t.nodes one.0 One → a.0 ≡ one.0 → side.0 ≡ one.0 → node_at t.nodes b.0 ≡ node.Xor side c
      → Some (at c) ≡ without_one (at a) (at b)
  without_one-found a b one side c bl is first second e =
      sym (without_one-one (at a) (at b) (at c) (row_term a one One first is) (Xor-at b side c bl e ∙ ap (λ s. Xor s (at c)) (row_term side one One second is)))

  pub without_one-no_side : (a b side c one : Row) → b.0 < length t.nodes → IsRowOf t.nodes one.0 One → (side.0 ≡ one.0 → ⊥) → node_at t.nodes b.0 ≡ node.Xor side c → None ≡ without_one (at a) (at b)
  without_one-no_side a b side c one bl is other e =
      sym (ap (without_one (at a)) (Xor-at b side c bl e)
      ∙ without_one-side (at a) (at side) (at c) (not_term side one One (Xor-sides b side c bl e).0 is other))

  pub without_one-no_Xor : (a b : Row) → b.0 < length t.nodes → ((p q : Row) → node_at t.nodes b.0 ≡ node.Xor p q → ⊥) → None ≡ without_one (at a) (at b)
  without_one-no_Xor a b bl h = sym (without_one-other (at a) (at b) (no_Xor-at b bl h))

  pub without_one-no_one : (a b one : Row) → a.0 < length t.nodes → IsRowOf t.nodes one.0 One → (a.0 ≡ one.0 → ⊥) → None ≡ without_one (at a) (at b)
  without_one-no_one a b one al is other = sym (without_one-first (at a) (at b) (not_term a one One al is other))
