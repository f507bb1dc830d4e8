-- What the first element that passes a test says of the elements before it, and none of all.
use Rattle.std.proofs.Common.{◌≡◌, ℕ, zero, suc, ◌<◌, Bool, true, false, cond, List, [], ◌∷◌, Some, None, subst, arith, ⊎_elim}
use Rattle.std.specs.List.{find, slice_get}
use Rattle.std.proofs.lemmas.Bool.{cases_Bool}

module _ {X : Type 0} (p : X → Bool) where
  pub none-passes : (xs : List X) → find p xs ≡ None → (k : ℕ) (x : X) → slice_get xs k ≡ Some x → p x ≡ false
  none-passes [] e k x h = absurd cc
  none-passes (y ∷ ys) e zero x h =
      ⊎_elim
      (λ (t : p y ≡ true). let wrong : Some y ≡ None = subst (λ b. cond b (Some y) (find p ys) ≡ None) t e in absurd cc)
      (λ (f : p y ≡ false). let same : y ≡ x = cc in subst (λ v. p v ≡ false) same f)
      (cases_Bool (p y))
  none-passes (y ∷ ys) e (suc k) x h =
      ⊎_elim
      (λ (t : p y ≡ true). let wrong : Some y ≡ None = subst (λ b. cond b (Some y) (find p ys) ≡ None) t e in absurd cc)
      (λ (f : p y ≡ false). none-passes ys (subst (λ b. cond b (Some y) (find p ys) ≡ None) f e) k x h)
      (cases_Bool (p y))

  -- it passes, and none before it does
  pub record IsFound (xs : List X) (x : X) : Type 0 where
    pub place : ℕ
    pub there : slice_get xs place ≡ Some x
    pub passes : p x ≡ true
    pub before : (k : ℕ) (y : X) → k < place → slice_get xs k ≡ Some y → p y ≡ false

  before-more : (y : X) (ys : List X) (place : ℕ) → p y ≡ false → ((k : ℕ) (v : X) → k < place → slice_get ys k ≡ Some v → p v ≡ false)
      → (k : ℕ) (v : X) → k < suc place → slice_get (y ∷ ys) k ≡ Some v → p v ≡ false
  before-more y ys place f h zero v lt e = let same : y ≡ v = cc in subst (λ w. p w ≡ false) same f
  before-more y ys place f h (suc k) v lt e = h k v (omega arith) e

  pub found : (xs : List X) (x : X) → find p xs ≡ Some x → IsFound xs x
  found [] x e = absurd cc
  found (y ∷ ys) x e =
      ⊎_elim
      (λ (t : p y ≡ true).
      let here : Some y ≡ Some x = subst (λ b. cond b (Some y) (find p ys) ≡ Some x) t e in
      let same : y ≡ x = cc in
      record { place = zero; there = here; passes = subst (λ v. p v ≡ true) same t; before = λ k v lt h. absurd (omega arith) })
      (λ (f : p y ≡ false).
      let rest = found ys x (subst (λ b. cond b (Some y) (find p ys) ≡ Some x) f e) in
      record { place = suc rest.place; there = rest.there; passes = rest.passes; before = before-more y ys rest.place f rest.before })
      (cases_Bool (p y))
