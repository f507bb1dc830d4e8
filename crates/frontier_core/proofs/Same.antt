-- Tests of equality of families and of closed families.
use Rattle.std.proofs.Common.{◌≡◌, Bool, true, false, ◌&&◌, eqb, List, [], ◌∷◌, refl, sym, ap, ◌∙◌}
use Rattle.std.proofs.lemmas.Bool.{and_from, and_parts, eq-eqb, eqb-true, true≢false}
use Rattle.probe_family.specs.declared.ending.Closed.{Closed}
use Rattle.probe_family.specs.declared.family.Family.{Family}
use Rattle.probe_family.specs.declared.part.Part.{Part}

module _ {X : Type 0} (same : X → X → Bool) where
  abbrev pub same_lists : List X → List X → Bool
  same_lists [] [] = true
  same_lists [] (y ∷ ys) = false
  same_lists (x ∷ xs) [] = false
  same_lists (x ∷ xs) (y ∷ ys) = same x y && same_lists xs ys

  module _ (itself : (x : X) → same x x ≡ true) (equal : (x y : X) → same x y ≡ true → x ≡ y) where
    lists_itself : (xs : List X) → same_lists xs xs ≡ true
    lists_itself [] = refl
    lists_itself (x ∷ xs) = and_from (same x x) (same_lists xs xs) (itself x) (lists_itself xs)

    lists_equal : (xs ys : List X) → same_lists xs ys ≡ true → xs ≡ ys
    lists_equal [] [] is = refl
    lists_equal [] (y ∷ ys) is = absurd (true≢false (sym is))
    lists_equal (x ∷ xs) [] is = absurd (true≢false (sym is))
    lists_equal (x ∷ xs) (y ∷ ys) is =
        let both = and_parts (same x y) (same_lists xs ys) is in ap (λ z. z ∷ xs) (equal x y both.0) ∙ ap (λ zs. y ∷ zs) (lists_equal xs ys both.1)

abbrev same_bits : Bool → Bool → Bool
same_bits true true = true
same_bits true false = false
same_bits false true = false
same_bits false false = true

bits_itself : (b : Bool) → same_bits b b ≡ true
bits_itself true = refl
bits_itself false = refl

bits_equal : (a b : Bool) → same_bits a b ≡ true → a ≡ b
bits_equal true true is = refl
bits_equal true false is = absurd (true≢false (sym is))
bits_equal false true is = absurd (true≢false (sym is))
bits_equal false false is = refl

abbrev same_parts : Part → Part → Bool
same_parts a b = eqb a.take b.take && same_lists same_bits a.set b.set

parts_itself : (a : Part) → same_parts a a ≡ true
parts_itself a = and_from (eqb a.take a.take) (same_lists same_bits a.set a.set) (eq-eqb a.take a.take refl) (lists_itself same_bits bits_itself bits_equal a.set)

parts_equal : (a b : Part) → same_parts a b ≡ true → a ≡ b
parts_equal a b is =
    let both = and_parts (eqb a.take b.take) (same_lists same_bits a.set b.set) is in
    ap (λ k. record { take = k; set = a.set }) (eqb-true a.take b.take both.0) ∙ ap (λ s. record { take = b.take; set = s }) (lists_equal same_bits bits_itself bits_equal a.set b.set both.1)

-- the same size, bound and parts
abbrev pub same_family : Family → Family → Bool
same_family f g = eqb f.size g.size && (eqb f.bound g.bound && same_lists same_parts f.parts g.parts)

pub family_itself : (f : Family) → same_family f f ≡ true
family_itself f =
    and_from (eqb f.size f.size) (eqb f.bound f.bound && same_lists same_parts f.parts f.parts) (eq-eqb f.size f.size refl)
    (and_from (eqb f.bound f.bound) (same_lists same_parts f.parts f.parts) (eq-eqb f.bound f.bound refl) (lists_itself same_parts parts_itself parts_equal f.parts))

pub family_equal : (f g : Family) → same_family f g ≡ true → f ≡ g
family_equal f g is =
    let first = and_parts (eqb f.size g.size) (eqb f.bound g.bound && same_lists same_parts f.parts g.parts) is in
    let second = and_parts (eqb f.bound g.bound) (same_lists same_parts f.parts g.parts) first.1 in
    ap (λ k. record { size = k; bound = f.bound; parts = f.parts }) (eqb-true f.size g.size first.0)
    ∙ (ap (λ k. record { size = g.size; bound = k; parts = f.parts }) (eqb-true f.bound g.bound second.0)
    ∙ ap (λ ps. record { size = g.size; bound = g.bound; parts = ps }) (lists_equal same_parts parts_itself parts_equal f.parts g.parts second.1))

-- the same family under the same hull
abbrev pub same_closed : Closed → Closed → Bool
same_closed c d = same_family c.family d.family && same_lists same_bits c.hull d.hull

pub closed_itself : (c : Closed) → same_closed c c ≡ true
closed_itself c = and_from (same_family c.family c.family) (same_lists same_bits c.hull c.hull) (family_itself c.family) (lists_itself same_bits bits_itself bits_equal c.hull)

pub closed_equal : (c d : Closed) → same_closed c d ≡ true → c ≡ d
closed_equal c d is =
    let both = and_parts (same_family c.family d.family) (same_lists same_bits c.hull d.hull) is in
    ap (λ f. record { family = f; hull = c.hull }) (family_equal c.family d.family both.0) ∙ ap (λ s. record { family = d.family; hull = s }) (lists_equal same_bits bits_itself bits_equal c.hull d.hull both.1)
