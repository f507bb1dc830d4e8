use Rattle.std.proofs.Common.{◌≡◌, ◌-◌, ◌++◌, [], ◌∷◌}
use Rattle.std.specs.List.{flat_map, range_with_len}
use Rattle.probe_family.specs.Families.{part_of, family_over}
use Rattle.probe_family.proofs.root_families.add_mixed_roots.Given as goal

abbrev pub invariant-loop-internal : goal.invariant-loop-internal
invariant-loop-internal l =
    l.roots.items ≡ l.fn.roots.items ++ flat_map (λ j. family_over l.size j (part_of j l.sets.internal ∷ part_of (l.size - j) l.sets.output ∷ [])) (range_with_len 0 l.internal)
