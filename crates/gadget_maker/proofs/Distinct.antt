-- Names none of which stands twice.
use Rattle.std.proofs.Common.{◌≡◌, ℕ, zero, suc, ◌+◌, ◌<◌, ◌≤◌, Bool, true, false, not, ◌&&◌, ◌||◌, ◌⊎◌, inl, inr, List, [], ◌∷◌, ◌++◌, refl, sym, ap, subst, ◌∙◌, arith}
use Rattle.std.specs.Prelude.{IsTrue}
use Rattle.std.specs.List.{flat_map, range_with_len}
use Rattle.std.specs.Str.{bytes_eq}
use Rattle.std.proofs.lemmas.Bool.{and_parts}
use Rattle.std.proofs.lemmas.List.Folds.{list_any-append}
use Rattle.std.proofs.lemmas.Slice.Eq.{bytes_eq-Decides}
use Rattle.rtlil_tree.specs.Names.{is_among, are_distinct}
use Rattle.gadget_maker.proofs.Each.{Each, each_weaker, each_flat, each_from}

abbrev pub Distinct : List (List ℕ) → Type 0
Distinct names = IsTrue (are_distinct names)

not_true : (b : Bool) → (b ≡ true → ⊥) → b ≡ false
not_true true h = absurd (h refl)
not_true false h = refl

turned : (b : Bool) → not b ≡ true → b ≡ false
turned true h = let wrong : false ≡ true = h in absurd cc
turned false h = refl

not_among : (name : List ℕ) (names : List (List ℕ)) → Each (λ other. name ≡ other → ⊥) names → is_among name names ≡ false
not_among name [] h = refl
not_among name (other ∷ names) h =
    ap (λ b. b || is_among name names) (not_true (bytes_eq name other) (λ e. h.0 ((bytes_eq-Decides name other).0 e))) ∙ not_among name names h.1

pub distinct_more : (name : List ℕ) (names : List (List ℕ)) → Each (λ other. name ≡ other → ⊥) names → Distinct names → Distinct (name ∷ names)
distinct_more name names h d = ap (λ b. not b && are_distinct names) (not_among name names h) ∙ d

among_neither : (name : List ℕ) (xs ys : List (List ℕ)) → is_among name xs ≡ false → is_among name ys ≡ false → is_among name (xs ++ ys) ≡ false
among_neither name xs ys a b = list_any-append (bytes_eq name) xs ys ∙ (ap (λ v. v || is_among name ys) a ∙ b)

-- where no name can stand on both sides
pub distinct-append : (P Q : List ℕ → Type 0) → ((s : List ℕ) → P s → Q s → ⊥) → (xs ys : List (List ℕ)) → Each P xs → Each Q ys
    → Distinct xs → Distinct ys → Distinct (xs ++ ys)
distinct-append P Q never [] ys p q a b = b
distinct-append P Q never (x ∷ xs) ys p q a b =
    let parts = and_parts (not (is_among x xs)) (are_distinct xs) a in
    let others = not_among x ys (each_weaker Q (λ y. x ≡ y → ⊥) (λ y r e. never y (subst P e p.0) r) ys q) in
    ap (λ v. not v && are_distinct (xs ++ ys)) (among_neither x xs ys (turned (is_among x xs) parts.0) others)
    ∙ distinct-append P Q never xs ys p.1 q parts.1 b

-- ---- by number

-- no name, or this one
abbrev pub AtMost : List ℕ → List (List ℕ) → Type 0
AtMost s names = (names ≡ []) ⊎ (names ≡ s ∷ [])

pub at_most_each : (P : List ℕ → Type 0) (s : List ℕ) (names : List (List ℕ)) → P s → AtMost s names → Each P names
at_most_each P s names p (inl e) = subst (Each P) (sym e) tt
at_most_each P s names p (inr e) = subst (Each P) (sym e) (p, tt)

pub at_most_distinct : (s : List ℕ) (names : List (List ℕ)) → AtMost s names → Distinct names
at_most_distinct s names (inl e) = subst Distinct (sym e) refl
at_most_distinct s names (inr e) = subst Distinct (sym e) refl

-- names of which each tells its number
module _ (Is : ℕ → List ℕ → Type 0) (tells : (k m : ℕ) (s : List ℕ) → Is k s → Is m s → k ≡ m) (f : ℕ → List (List ℕ)) where
  abbrev IsAbove : ℕ → List ℕ → Type 0
  IsAbove a s = (k : ℕ) × (a < k) × Is k s

  above : (a n : ℕ) → ((k : ℕ) → a ≤ k → k < a + suc n → Each (Is k) (f k)) → Each (IsAbove a) (flat_map f (range_with_len (a + 1) n))
  above a n h =
      each_flat (λ k. (a < k) × (k < a + suc n)) (IsAbove a) f
      (λ k within. each_weaker (Is k) (IsAbove a) (λ s is. (k, within.0, is)) (f k) (h k (omega (arith, within.0)) within.1))
      (range_with_len (a + 1) n)
      (each_from (λ k. (a < k) × (k < a + suc n)) (a + 1) n (λ k low high. (omega arith, omega arith)))

  pub distinct_flat : (a n : ℕ) → ((k : ℕ) → a ≤ k → k < a + n → Each (Is k) (f k)) → ((k : ℕ) → a ≤ k → k < a + n → Distinct (f k))
      → Distinct (flat_map f (range_with_len a n))
  distinct_flat a zero h d = refl
  distinct_flat a (suc n) h d =
      distinct-append (Is a) (IsAbove a) (λ s here there. absurd (omega (arith, tells a there.0 s here there.2, there.1))) (f a)
      (flat_map f (range_with_len (a + 1) n)) (h a (omega arith) (omega arith)) (above a n h) (d a (omega arith) (omega arith))
      (distinct_flat (a + 1) n (λ k low high. h k (omega arith) (omega arith)) (λ k low high. d k (omega arith) (omega arith)))
