use Rattle.std.proofs.Common.{◌≡◌, ◌∙◌, ◌++◌, length, sym, ap, subst, append-nil}
use Rattle.std.proofs.lemmas.List.Elements.{All-from_recursion, All-same}
use Rattle.std.specs.List.{flat_map}
use Rattle.probe_family.specs.Choices.{parts_of}
use Rattle.probe_family.specs.Families.{family_over, IsFamily}
use Rattle.family_split.specs.Children.{child_of, children_of, split_parts}
use Rattle.family_split.specs.Later.{AreInside, later, takes_of}
use Rattle.family_split.specs.Sides.{FitSides, split_sides}
use Rattle.family_split.proofs.Insides.{takes_inside, others_are_later}
use Rattle.family_split.proofs.SideParts.{fit_sides, split_sides_are, added_next}
use Rattle.family_split.proofs.Partition.{children_are}
use Rattle.family_split.proofs.split.children.Goals as goal

pub loop-parts-init : goal.loop-parts-init
loop-parts-init c =
    let e : c.as_mut_slice-numbers.result.now ≡ takes_of c.as_slice-parts.result.now = c.as_mut_slice-numbers.ensures.value ∙ c.in_ok-takes.ensures in
    record {
      inside = subst (AreInside c.as_slice-parts.result.now) (sym e) (takes_inside c.as_slice-parts.result.now);
      so_far = ap (λ l. l ++ flat_map (child_of c.args.family.now c.args.hull.now) (later c.as_slice-parts.result.now c.as_mut_slice-numbers.result.now)) c.new-children.ensures.items
          ∙ ap (λ js. flat_map (child_of c.args.family.now c.args.hull.now) (later c.as_slice-parts.result.now js)) e;
    }

pub choose-requires : goal.choose-requires
choose-requires c =
    subst (λ sides. FitSides sides c.step_down.new.numbers) (sym (c.deref.ensures.value ∙ c.in_ok-sides.ensures))
    (fit_sides c.args.hull.now c.as_slice-parts.result.now c.step_down.new.numbers c.step_down.ensures.inside)

-- the choices of the numbers are the split parts
chosen_are : (c : goal.After-drop-choices-in-loop-parts) → parts_of c.deref-in-loop-parts.result.now ≡ split_parts c.args.hull.now c.args.family.now.parts c.step_down.new.numbers
chosen_are c =
    ap parts_of c.deref-in-loop-parts.ensures.value
    ∙ (c.in_ok-choices.ensures
    ∙ (ap (λ sides. split_sides sides c.step_down.new.numbers) (c.deref.ensures.value ∙ c.in_ok-sides.ensures)
    ∙ (split_sides_are c.args.hull.now c.as_slice-parts.result.now c.step_down.new.numbers
    ∙ ap (λ parts. split_parts c.args.hull.now parts c.step_down.new.numbers) c.as_slice-parts.ensures)))

pub loop-parts-preserved : goal.loop-parts-preserved
loop-parts-preserved c = record {
  inside = c.step_down.ensures.inside;
  so_far = added_next (child_of c.args.family.now c.args.hull.now) c.loop-parts.children.items c.add_family_over.new.families.items _ c.step_down.new.numbers
      (later c.as_slice-parts.result.now c.step_down.new.numbers) (later c.as_slice-parts.result.now c.loop-parts.numbers)
      (c.in_ok-add_family_over.ensures.added ∙ ap (λ parts. c.loop-parts.children.items ++ family_over c.args.family.now.size c.args.family.now.bound parts) (chosen_are c))
      c.loop-parts-test.ensures.next c.loop-parts.invariant.so_far;
}

all_are : (c : goal.After-drop-sides-2) → c.loop-parts.children.items ≡ children_of c.args.family.now c.args.hull.now
unfolding children_of
all_are c =
    let child = child_of c.args.family.now c.args.hull.now in
    sym (append-nil c.loop-parts.children.items)
    ∙ (ap (λ ls. c.loop-parts.children.items ++ flat_map child ls) (sym c.loop-parts-test.ensures.next)
    ∙ (c.loop-parts.invariant.so_far
    ∙ (ap (λ parts. flat_map child (later parts (takes_of parts))) c.as_slice-parts.ensures
    ∙ ap (flat_map child) (sym (others_are_later c.args.family.now.parts)))))

pub returns-clause-children : goal.returns-clause-children
returns-clause-children c = all_are c

pub returns-clause-families : goal.returns-clause-families
returns-clause-families c =
    let n = length c.args.hull.now in
    All-same (IsFamily n) c.loop-parts.children.items (children_of c.args.family.now c.args.hull.now) (all_are c)
    (All-from_recursion (IsFamily n) (children_of c.args.family.now c.args.hull.now) (children_are n c.args.family.now c.args.hull.now c.requires))
