-- The parts that are chosen from sides.
use Rattle.std.proofs.Common.{◌≡◌, ℕ, zero, suc, ◌+◌, ◌-◌, ◌<◌, Bool, List, [], ◌∷◌, ◌++◌, length, map, take, get_or, refl, sym, ap, ◌∙◌, arith, append_assoc}
use Rattle.std.proofs.lemmas.List.{map-append}
use Rattle.std.specs.List.{flat_map}
use Rattle.bit_rows.specs.Sets.{meet, minus}
use Rattle.probe_family.specs.declared.part.Part.{Part}
use Rattle.probe_family.specs.declared.choice.Choice.{Choice}
use Rattle.probe_family.specs.Choices.{part_of_choice, parts_of}
use Rattle.probe_family.specs.Families.{part_of}
use Rattle.family_split.specs.declared.sides.Sides.{Sides}
use Rattle.family_split.specs.Children.{split_parts}
use Rattle.family_split.specs.Later.{AreInside}
use Rattle.family_split.specs.Sides.{sides_of, FitSides, split_sides}

pub fit_sides : (hull : List Bool) (parts : List Part) (js : List ℕ) → AreInside parts js → FitSides (map (sides_of hull) parts) js
fit_sides hull [] [] inside = tt
fit_sides hull [] (j ∷ js) inside = absurd inside
fit_sides hull (part ∷ parts) [] inside = absurd inside
fit_sides hull (part ∷ parts) (j ∷ js) inside = (inside.0, fit_sides hull parts js inside.1)

-- the sides of parts give the split parts
pub split_sides_are : (hull : List Bool) (parts : List Part) (js : List ℕ) → split_sides (map (sides_of hull) parts) js ≡ split_parts hull parts js
split_sides_are hull [] js = refl
split_sides_are hull (part ∷ parts) [] = refl
split_sides_are hull (part ∷ parts) (j ∷ js) = ap (λ l. part_of j (meet part.set hull) ∷ part_of (part.take - j) (minus part.set hull) ∷ l) (split_sides_are hull parts js)

-- the two parts of one more of the sides
pub split_more : (sides : List Sides) (js : List ℕ) (i : ℕ) (d : Sides) → FitSides sides js → i < length sides
    → split_sides (take (i + 1) sides) (take (i + 1) js) ≡ split_sides (take i sides) (take i js) ++ part_of (get_or js i 0) (get_or sides i d).inside ∷ part_of ((get_or sides i d).take - get_or js i 0) (get_or sides i d).outside ∷ []
split_more [] js i d fit lt = absurd (omega arith)
split_more (side ∷ sides) [] i d fit lt = absurd fit
split_more (side ∷ sides) (j ∷ js) zero d fit lt = refl
split_more (side ∷ sides) (j ∷ js) (suc i) d fit lt =
    let e : suc i + 1 ≡ suc (i + 1) = omega arith in
    ap (λ k. split_sides (take k (side ∷ sides)) (take k (j ∷ js))) e
    ∙ ap (λ l. part_of j side.inside ∷ part_of (side.take - j) side.outside ∷ l) (split_more sides js i d fit.1 (omega arith))

-- a loop's step: two choices more
pub parts_two : (before mid after : List Choice) (a b : Choice) → mid ≡ before ++ a ∷ [] → after ≡ mid ++ b ∷ [] → parts_of after ≡ parts_of before ++ part_of_choice a ∷ part_of_choice b ∷ []
parts_two before mid after a b mid_is after_is =
    ap parts_of after_is
    ∙ (map-append part_of_choice mid (b ∷ [])
    ∙ (ap (λ l. l ++ part_of_choice b ∷ []) (ap parts_of mid_is ∙ map-append part_of_choice before (a ∷ []))
    ∙ append_assoc (parts_of before) (part_of_choice a ∷ []) (part_of_choice b ∷ [])))

-- a loop's step: what comes from the next of a list is added, and what is to come is that of the others
pub added_next : {X Y : Type 0} (g : X → List Y) (old new all : List Y) (x : X) (rest xs : List X) → new ≡ old ++ g x → xs ≡ x ∷ rest → old ++ flat_map g xs ≡ all → new ++ flat_map g rest ≡ all
added_next g old new all x rest xs added next so_far =
    ap (λ l. l ++ flat_map g rest) added
    ∙ (append_assoc old (g x) (flat_map g rest) ∙ (ap (λ l. old ++ flat_map g l) (sym next) ∙ so_far))
