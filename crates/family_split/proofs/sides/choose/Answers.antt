use Rattle.std.proofs.Common.{◌∙◌, ◌-◌, ◌++◌, ◌≤◌, ℕ, [], ◌∷◌, take, get_or, sym, ap, subst, arith}
use Rattle.std.proofs.lemmas.List.{take_all}
use Rattle.family_split.proofs.Zips.{zip_long, zip_at}
use Rattle.probe_family.specs.Families.{part_of}
use Rattle.family_split.specs.declared.sides.Sides.{Sides}
use Rattle.family_split.specs.Sides.{split_sides}
use Rattle.family_split.proofs.SideParts.{split_more, parts_two}
use Rattle.family_split.proofs.sides.choose.Goals as goal

pub bounds-numbers-i : goal.bounds-numbers-i
bounds-numbers-i c = omega (arith, zip_long (λ (side : Sides) (j : ℕ). j ≤ side.take) c.args.sides.now c.args.numbers.now c.requires)

pub overflow_sub-side : goal.overflow_sub-side
overflow_sub-side c =
    subst (λ (side : Sides). get_or c.args.numbers.now c.loop-i.i 0 ≤ side.take) (sym c.index-sides-i.is)
    (zip_at (λ (side : Sides) (j : ℕ). j ≤ side.take) c.args.sides.now c.args.numbers.now c.loop-i.i c.index-sides-i.result 0 c.requires c.loop-i-test.true)

pub loop-i-preserved : goal.loop-i-preserved
loop-i-preserved c =
    let j = get_or c.args.numbers.now c.loop-i.i 0 in
    let side = c.index-sides-i.result in
    parts_two c.loop-i.choices.items c.push.new.self.items c.push-in-loop-i.new.self.items _ _ c.in_ok-push.ensures.items c.in_ok-push-2.ensures.items
    ∙ (ap (λ l. l ++ part_of j side.inside ∷ part_of (side.take - j) side.outside ∷ []) c.loop-i.invariant
    ∙ (ap (λ (other : Sides). split_sides (take c.loop-i.i c.args.sides.now) (take c.loop-i.i c.args.numbers.now) ++ part_of j other.inside ∷ part_of (other.take - j) other.outside ∷ []) c.index-sides-i.is
    ∙ sym (split_more c.args.sides.now c.args.numbers.now c.loop-i.i side c.requires c.loop-i-test.true)))

pub returns : goal.returns
returns c =
    c.loop-i.invariant
    ∙ (ap (λ l. split_sides l (take c.loop-i.i c.args.numbers.now)) (take_all c.loop-i.i c.args.sides.now (omega arith))
    ∙ ap (split_sides c.args.sides.now) (take_all c.loop-i.i c.args.numbers.now (omega (arith, zip_long (λ (side : Sides) (j : ℕ). j ≤ side.take) c.args.sides.now c.args.numbers.now c.requires))))
