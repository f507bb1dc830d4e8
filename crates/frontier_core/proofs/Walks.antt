-- Walks through families: each gives something, and then what the next ones give, in order.
use Rattle.std.proofs.Common.{◌≡◌, ℕ, zero, suc, ◌<◌, ◌≤◌, List, [], ◌∷◌, ◌++◌, refl, ap, ◌∙◌, arith}
use Rattle.std.specs.List.{flat_map, AllByRecursion}
use Rattle.probe_family.specs.declared.family.Family.{Family}

-- two functions that agree on each of some families give the same of all
pub flat_map_among : {A : Type 0} (Q : Family → Type 0) (f h : Family → List A) → ((g : Family) → Q g → f g ≡ h g) → (gs : List Family) → AllByRecursion Q gs → flat_map f gs ≡ flat_map h gs
flat_map_among Q f h same [] all = refl
flat_map_among Q f h same (g ∷ gs) all = ap (λ l. l ++ flat_map f gs) (same g all.0) ∙ ap (λ l. h g ++ l) (flat_map_among Q f h same gs all.1)

module _ {A : Type 0} (give : Family → List A) (next : Family → List Family) where
  -- what a family gives in so many generations
  abbrev pub walk : ℕ → Family → List A
  walk zero f = []
  walk (suc n) f = give f ++ flat_map (walk n) (next f)

  -- where the next ones weigh less, as many generations as the family weighs are enough
  module _ (weight : Family → ℕ) (P : Family → Type 0) (some : (f : Family) → P f → 1 ≤ weight f) (lighter : (f : Family) → P f → AllByRecursion (λ g. (weight g < weight f) × P g) (next f)) where
    pub walk_enough : (m n : ℕ) (f : Family) → P f → weight f ≤ m → weight f ≤ n → walk m f ≡ walk n f
    walk_enough zero n f is m_more n_more = let one = some f is in absurd (omega arith)
    walk_enough (suc m) zero f is m_more n_more = let one = some f is in absurd (omega arith)
    walk_enough (suc m) (suc n) f is m_more n_more =
        ap (λ l. give f ++ l) (flat_map_among (λ g. (weight g < weight f) × P g) (walk m) (walk n)
        (λ g lt. let less = lt.0 in walk_enough m n g lt.1 (omega arith) (omega arith)) (next f) (lighter f is))

    -- a family gives its own, and then what the next ones give
    pub walk_on : (n : ℕ) (f : Family) → P f → weight f ≡ n → walk n f ≡ give f ++ flat_map (λ g. walk (weight g) g) (next f)
    walk_on zero f is e = let one = some f is in absurd (omega arith)
    walk_on (suc n) f is e =
        ap (λ l. give f ++ l) (flat_map_among (λ g. (weight g < weight f) × P g) (walk n) (λ g. walk (weight g) g)
        (λ g lt. let less = lt.0 in walk_enough n (weight g) g lt.1 (omega arith) (omega arith)) (next f) (lighter f is))
