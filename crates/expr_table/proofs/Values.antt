-- The simplified gates have the values of the gates.
use Rattle.std.proofs.Common.{◌≡◌, Bool, true, false, ◌&&◌, List, unwrap_or, refl, sym, ap, ◌∙◌, ⊎_elim}
use Rattle.std.specs.Ordering.{is_gt}
use Rattle.std.proofs.lemmas.Bool.{cases_Bool, cond-true, cond-false}
use Rattle.expr_table.specs.Term.{Term, Zero, One, And, Xor, term_cmp, is_same, xor_of, and_of, without_one, ordered_xor, ordered_and}
use Rattle.expr_table.specs.Values.{xor, eval}
use Rattle.expr_table.proofs.Order.{is_same-exact}

-- a bit with itself, with false on the right, and with the sides changed
pub xor-self : (x : Bool) → xor x x ≡ false
xor-self true = refl
xor-self false = refl

pub xor-false : (x : Bool) → xor x false ≡ x
xor-false true = refl
xor-false false = refl

pub xor-turned : (x y : Bool) → xor x y ≡ xor y x
xor-turned true true = refl
xor-turned true false = refl
xor-turned false true = refl
xor-turned false false = refl

true-twice : (x : Bool) → xor true (xor true x) ≡ x
true-twice true = refl
true-twice false = refl

and-turned : (x y : Bool) → (x && y) ≡ (y && x)
and-turned true true = refl
and-turned true false = refl
and-turned false true = refl
and-turned false false = refl

and-self : (x : Bool) → (x && x) ≡ x
and-self true = refl
and-self false = refl

module _ (inputs randoms : List Bool) where
  abbrev at : Term → Bool
  at t = eval inputs randoms t

  -- the gates in order have the values of their sides
  eval-ordered_xor : (a b : Term) → at (ordered_xor a b) ≡ xor (at a) (at b)
  eval-ordered_xor a b =
      ⊎_elim
      (λ h. ap at (cond-true (is_gt (term_cmp a b)) (Xor b a) (Xor a b) h) ∙ xor-turned (at b) (at a))
      (λ h. ap at (cond-false (is_gt (term_cmp a b)) (Xor b a) (Xor a b) h))
      (cases_Bool (is_gt (term_cmp a b)))

  eval-ordered_and : (a b : Term) → at (ordered_and a b) ≡ (at a && at b)
  eval-ordered_and a b =
      ⊎_elim
      (λ h. ap at (cond-true (is_gt (term_cmp a b)) (And b a) (And a b) h) ∙ and-turned (at b) (at a))
      (λ h. ap at (cond-false (is_gt (term_cmp a b)) (And b a) (And a b) h))
      (cases_Bool (is_gt (term_cmp a b)))

  -- where a look for One finds a term, it has the value of the two
  eval-without_one : (a b other : Term) → at other ≡ xor (at a) (at b) → at (unwrap_or (without_one a b) other) ≡ xor (at a) (at b)
  eval-without_one One (Xor One c) other h = sym (true-twice (at c))
  eval-without_one a b other h = h

  pub eval-xor_of : (a b : Term) → at (xor_of a b) ≡ xor (at a) (at b)
  unfolding xor_of
  eval-xor_of a b =
      ⊎_elim
      (λ h. ap at (cond-true (is_same a b) Zero _ h) ∙ sym (ap (λ t. xor (at a) (at t)) (sym (is_same-exact a b h)) ∙ xor-self (at a)))
      (λ h. ap at (cond-false (is_same a b) Zero _ h)
      ∙ ⊎_elim
      (λ l. ap at (cond-true (is_same a Zero) b _ l) ∙ sym (ap (λ t. xor (at t) (at b)) (is_same-exact a Zero l)))
      (λ l. ap at (cond-false (is_same a Zero) b _ l)
      ∙ ⊎_elim
      (λ r. ap at (cond-true (is_same b Zero) a _ r) ∙ sym (ap (λ t. xor (at a) (at t)) (is_same-exact b Zero r) ∙ xor-false (at a)))
      (λ r. ap at (cond-false (is_same b Zero) a _ r)
      ∙ eval-without_one a b (unwrap_or (without_one b a) (ordered_xor a b))
      (eval-without_one b a (ordered_xor a b) (eval-ordered_xor a b ∙ xor-turned (at a) (at b)) ∙ xor-turned (at b) (at a)))
      (cases_Bool (is_same b Zero)))
      (cases_Bool (is_same a Zero)))
      (cases_Bool (is_same a b))

  pub eval-and_of : (a b : Term) → at (and_of a b) ≡ (at a && at b)
  unfolding and_of
  eval-and_of a b =
      ⊎_elim
      (λ h. ap at (cond-true (is_same a Zero) Zero _ h) ∙ sym (ap (λ t. at t && at b) (is_same-exact a Zero h)))
      (λ h. ap at (cond-false (is_same a Zero) Zero _ h)
      ∙ ⊎_elim
      (λ r. ap at (cond-true (is_same b Zero) Zero _ r) ∙ sym (ap (λ t. at a && at t) (is_same-exact b Zero r) ∙ and-turned (at a) false))
      (λ r. ap at (cond-false (is_same b Zero) Zero _ r)
      ∙ ⊎_elim
      (λ l. ap at (cond-true (is_same a One) b _ l) ∙ sym (ap (λ t. at t && at b) (is_same-exact a One l)))
      (λ l. ap at (cond-false (is_same a One) b _ l)
      ∙ ⊎_elim
      (λ o. ap at (cond-true (is_same b One) a _ o) ∙ sym (ap (λ t. at a && at t) (is_same-exact b One o) ∙ and-turned (at a) true))
      (λ o. ap at (cond-false (is_same b One) a _ o)
      ∙ ⊎_elim
      (λ s. ap at (cond-true (is_same a b) a _ s) ∙ sym (ap (λ t. at a && at t) (sym (is_same-exact a b s)) ∙ and-self (at a)))
      (λ s. ap at (cond-false (is_same a b) a _ s) ∙ eval-ordered_and a b)
      (cases_Bool (is_same a b)))
      (cases_Bool (is_same b One)))
      (cases_Bool (is_same a One)))
      (cases_Bool (is_same b Zero)))
      (cases_Bool (is_same a Zero))
