-- The gates of two terms the other way round.
use Rattle.std.proofs.Common.{◌≡◌, Option, None, Some, unwrap_or, ◌⊎◌, inl, inr, refl, sym, ap, ◌∙◌, ⊎_elim}
use Rattle.expr_table.specs.declared.table.gate.Gate.TheVariants as gate
use Rattle.std.proofs.lemmas.Bool.{cases_Bool}
use Rattle.expr_table.specs.Term.{Term, Zero, One, Xor, is_same, xor_of, and_of, without_one, ordered_xor}
use Rattle.expr_table.proofs.Order.{is_same-exact, is_same-equal}
use Rattle.expr_table.proofs.Ands.{and_of-zero_left, and_of-zero_right, and_of-one_left, and_of-one_right, and_of-same, and_of-other}
use Rattle.expr_table.proofs.Ordered.{ordered_gate-turned}
use Rattle.expr_table.proofs.Xors.{xor_of-same, xor_of-zero_left, xor_of-zero_right, xor_of-other}

same_or_not : (s t : Term) → (s ≡ t) ⊎ (s ≡ t → ⊥)
same_or_not s t = ⊎_elim (λ e. inl (is_same-exact s t e)) (λ e. inr (λ same. let yes = is_same-equal s t same in cc)) (cases_Bool (is_same s t))

without_one-once : (a b c : Term) → without_one a b ≡ Some c → without_one b a ≡ None
without_one-once One (Xor x d) c e = refl
without_one-once _ _ c e = cc

last-turned : (a b : Term) → (a ≡ b → ⊥)
    → unwrap_or (without_one a b) (unwrap_or (without_one b a) (ordered_xor a b)) ≡ unwrap_or (without_one b a) (unwrap_or (without_one a b) (ordered_xor b a))
last-turned a b other = by (without_one a b) refl
  where
    by : (o : Option Term) → without_one a b ≡ o
        → unwrap_or (without_one a b) (unwrap_or (without_one b a) (ordered_xor a b)) ≡ unwrap_or (without_one b a) (unwrap_or (without_one a b) (ordered_xor b a))
    by (Some c) e =
        ap (λ o. unwrap_or o (unwrap_or (without_one b a) (ordered_xor a b))) e ∙ sym (ap (λ o. unwrap_or o (ordered_xor b a)) e)
        ∙ sym (ap (λ o. unwrap_or o (unwrap_or (without_one a b) (ordered_xor b a))) (without_one-once a b c e))
    by None e =
        ap (λ o. unwrap_or o (unwrap_or (without_one b a) (ordered_xor a b))) e ∙ ap (unwrap_or (without_one b a)) (ordered_gate-turned gate.Xor a b other)
        ∙ sym (ap (λ o. unwrap_or (without_one b a) (unwrap_or o (ordered_xor b a))) e)

pub xor_of-turned : (a b : Term) → xor_of a b ≡ xor_of b a
xor_of-turned a b =
    ⊎_elim (λ e. xor_of-same a b e ∙ sym (xor_of-same b a (sym e)))
    (λ other. ⊎_elim
    (λ left. xor_of-zero_left a b other left ∙ sym (xor_of-zero_right b a (λ e. other (sym e)) (λ e. other (left ∙ sym e)) left))
    (λ left. ⊎_elim
    (λ right. xor_of-zero_right a b other left right ∙ sym (xor_of-zero_left b a (λ e. other (sym e)) right))
    (λ right. xor_of-other a b other left right ∙ last-turned a b other ∙ sym (xor_of-other b a (λ e. other (sym e)) right left))
    (same_or_not b Zero))
    (same_or_not a Zero))
    (same_or_not a b)

and_of-turned_zero : (a b : Term) → a ≡ Zero → and_of a b ≡ and_of b a
and_of-turned_zero a b left =
    and_of-zero_left a b left
    ∙ ⊎_elim (λ right. sym (and_of-zero_left b a right)) (λ right. sym (and_of-zero_right b a right left)) (same_or_not b Zero)

pub and_of-turned : (a b : Term) → and_of a b ≡ and_of b a
and_of-turned a b =
    ⊎_elim (and_of-turned_zero a b)
    (λ left. ⊎_elim (λ right. sym (and_of-turned_zero b a right))
    (λ right. ⊎_elim
    (λ one. and_of-one_left a b left right one
    ∙ ⊎_elim (λ one'. one' ∙ sym one ∙ sym (and_of-one_left b a right left one')) (λ one'. sym (and_of-one_right b a right left one' one)) (same_or_not b One))
    (λ one. ⊎_elim
    (λ one'. and_of-one_right a b left right one one' ∙ sym (and_of-one_left b a right left one'))
    (λ one'. ⊎_elim
    (λ same. and_of-same a b left right one one' same ∙ same ∙ sym (and_of-same b a right left one' one (sym same)))
    (λ other. and_of-other a b left right one one' other ∙ ordered_gate-turned gate.And a b other ∙ sym (and_of-other b a right left one' one (λ e. other (sym e))))
    (same_or_not a b))
    (same_or_not b One))
    (same_or_not a One))
    (same_or_not b Zero))
    (same_or_not a Zero)
