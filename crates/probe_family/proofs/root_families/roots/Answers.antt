use Rattle.std.proofs.Common.{◌≡◌, ◌-◌, ◌∙◌, [], length, min, ap, arith}
use Rattle.std.proofs.lemmas.List.Elements.{All-from_recursion, All-same}
use Rattle.std.specs.List.{flat_map, range_with_len}
use Rattle.probe_family.specs.Families.{IsFamily}
use Rattle.probe_family.specs.Roots.{roots_of, roots_of_size, sets_of}
use Rattle.probe_family.proofs.Ranges.{range_step}
use Rattle.probe_family.proofs.RootTuples.{each_root, of_probes}
use Rattle.probe_family.proofs.root_families.roots.Goals as goal

pub loop-size-preserved : goal.loop-size-preserved
loop-size-preserved c =
    range_step (roots_of_size c.args.instance.now.notion c.in_ok-sets.sets) 1 (c.loop-size.size - 1) _ c.loop-size.size [] c.loop-size.roots.items _
    (omega arith) (omega arith) c.loop-size.invariant c.in_ok-add_roots_of_size.ensures

all_are : (c : goal.After-drop-sets-4) → c.loop-size.roots.items ≡ roots_of c.args.instance.now c.args.order
unfolding roots_of
all_are c =
    let sizes : c.loop-size.size - 1 ≡ min c.args.order (of_probes c.args.instance.now) = omega (arith, ap length c.as_slice.ensures) in
    c.loop-size.invariant
    ∙ (ap (λ sets. flat_map (roots_of_size c.args.instance.now.notion sets) (range_with_len 1 (c.loop-size.size - 1))) c.in_ok-sets.ensures
    ∙ ap (λ n. flat_map (roots_of_size c.args.instance.now.notion (sets_of c.args.instance.now)) (range_with_len 1 n)) sizes)

pub returns-clause-roots : goal.returns-clause-roots
returns-clause-roots c = all_are c

pub returns-clause-families : goal.returns-clause-families
returns-clause-families c =
    let n = of_probes c.args.instance.now in
    All-same (IsFamily n) c.loop-size.roots.items (roots_of c.args.instance.now c.args.order) (all_are c)
    (All-from_recursion (IsFamily n) (roots_of c.args.instance.now c.args.order) (each_root c.args.instance.now c.args.order c.requires.order))
