-- When a side masks a row, by the number of its live parents.
use Rattle.std.proofs.Common.{◌≡◌, ℕ, ◌<◌, Bool, true, false, not, ◌&&◌, ◌||◌, ◌==◌, List, length, refl, sym, ap, ◌∙◌, subst, arith, ⊎_elim, inr}
use Rattle.std.specs.Int.{from_bool}
use Rattle.std.proofs.lemmas.Bool.{cases_Bool, and_parts, or_cases, or_right, eqb-true, eq-eqb, not-true, false_from_ne_true}
use Rattle.std.proofs.Math.Bool.{and_assoc, or_comm}
use Rattle.expr_table.specs.declared.node.Node.{Node}
use Rattle.expr_table.specs.declared.node.Node.TheVariants as node
use Rattle.expr_table.specs.declared.node.Row.{Row}
use Rattle.expr_table.specs.Table.{node_at, sides, has}
use Rattle.once_random.specs.Cuts.{is_random, is_fresh, has_no_parent_but, masks, is_masked, is_allowed}
use Rattle.once_random.specs.Live.{is_live, is_live_parent, live_parents}
use Rattle.once_random.specs.Numbers.{all_below, count_below}
use Rattle.once_random.proofs.Alone.{alone}
use Rattle.once_random.proofs.Facts.{all_below-at, all_below-from, count_none, count_some, same_tests, has_left, has_right}
use Rattle.live_rows.specs.declared.mark.Mark.{Mark}
use Rattle.live_rows.specs.Marks.{mark_at}
use Rattle.live_rows.specs.Shown.{Shows}

-- where e fails, no other number passes exactly where none does
none_but : (test : ℕ → Bool) (n e : ℕ) → test e ≡ false → all_below n (λ i. i == e || not (test i)) ≡ (count_below n test == 0)
none_but test n e fails =
    same_tests _ _
    (λ all. eq-eqb _ 0 (count_none test n (λ i l.
    ⊎_elim (λ s. subst (λ k. test k ≡ false) (sym (eqb-true i e s)) fails) (λ s. not-true (test i) s)
    (or_cases (i == e) (not (test i)) (all_below-at n (λ i. i == e || not (test i)) all i l)))))
    (λ none. all_below-from n (λ i. i == e || not (test i)) (λ i l.
    or_right (i == e) (not (test i)) (ap not (false_from_ne_true (test i) (λ t.
    let some = count_some test n i l t in let zero : count_below n test ≡ 0 = eqb-true _ 0 none in omega arith)))))

and_both : (b : Bool) → ((b && true) && true) ≡ b
and_both true = refl
and_both false = refl

module _ (nodes : List Node) (roots cuts : List ℕ) (e side : ℕ) (lt : e < length nodes) (uncut : has cuts e ≡ false) (is_side : has (sides (node_at nodes e)) side ≡ true) where
  -- a row that is not cut is a live parent of its side exactly where it is live
  reads-live : is_live_parent nodes roots cuts side e ≡ is_live nodes roots cuts e
  reads-live =
      ap (λ b. (is_live nodes roots cuts e && not b) && has (sides (node_at nodes e)) side) uncut
      ∙ ap (λ b. (is_live nodes roots cuts e && true) && b) is_side
      ∙ and_both (is_live nodes roots cuts e)

  -- so the side has no other live parent exactly where it has one for that, and no more
  no_other : has_no_parent_but nodes roots cuts e side ≡ (live_parents nodes roots cuts side == from_bool (is_live nodes roots cuts e))
  no_other =
      ⊎_elim
      (λ t. alone (is_live_parent nodes roots cuts side) (length nodes) e lt (reads-live ∙ t) ∙ ap (λ b. live_parents nodes roots cuts side == from_bool b) (sym t))
      (λ f. none_but (is_live_parent nodes roots cuts side) (length nodes) e (reads-live ∙ f) ∙ ap (λ b. live_parents nodes roots cuts side == from_bool b) (sym f))
      (cases_Bool (is_live nodes roots cuts e))

  -- what the marks and the side's node say
  pub masks_by : (marks : List Mark) → Shows nodes roots cuts marks → (fresh root : Bool) (parents itself : ℕ)
      → fresh ≡ ((mark_at marks side).cut || is_random (node_at nodes side)) → root ≡ (mark_at marks side).root → parents ≡ (mark_at marks side).parents → itself ≡ from_bool (mark_at marks e).live
      → ((fresh && not root) && (parents == itself)) ≡ masks nodes roots cuts e side
  masks_by marks shows fresh root parents itself fresh_is root_is parents_is itself_is =
      ap (λ b. (b && not root) && (parents == itself)) (fresh_is ∙ ap (λ b. b || is_random (node_at nodes side)) (shows.cut side) ∙ or_comm (has cuts side) (is_random (node_at nodes side)))
      ∙ ap (λ b. (is_fresh nodes cuts side && not b) && (parents == itself)) (root_is ∙ shows.root side)
      ∙ ap (λ k. (is_fresh nodes cuts side && not (has roots side)) && (k == itself)) (parents_is ∙ shows.parents side)
      ∙ ap (λ k. (is_fresh nodes cuts side && not (has roots side)) && (live_parents nodes roots cuts side == k)) (itself_is ∙ ap from_bool (shows.live e))
      ∙ ap (λ b. (is_fresh nodes cuts side && not (has roots side)) && b) (sym no_other)
      ∙ and_assoc (is_fresh nodes cuts side) (not (has roots side)) (has_no_parent_but nodes roots cuts e side)

module _ (nodes : List Node) (e : ℕ) (a b : Row) (is : node_at nodes e ≡ node.Xor a b) where
  -- the sides of an Xor are its sides
  pub left_side : has (sides (node_at nodes e)) a.0 ≡ true
  left_side = has_left (node_at nodes e) a b (inr is)

  pub right_side : has (sides (node_at nodes e)) b.0 ≡ true
  right_side = has_right (node_at nodes e) a b (inr is)

-- a cut that is allowed was not made before
pub allowed_uncut : (nodes : List Node) (roots cuts : List ℕ) (e : ℕ) → is_allowed nodes roots cuts e ≡ true → has cuts e ≡ false
allowed_uncut nodes roots cuts e h = not-true (has cuts e) (and_parts (not (has cuts e)) (is_masked nodes roots cuts e (node_at nodes e)) h).0
