use Rattle.std.proofs.Common.{ℕ, ◌-◌, List, [], ◌∷◌, refl, arith}
use Rattle.probe_family.specs.declared.family.Family.{Family}
use Rattle.probe_family.specs.Families.{part_of, family_over}
use Rattle.probe_family.proofs.Ranges.{range_step}
use Rattle.probe_family.proofs.root_families.add_mixed_roots.Goals as goal

pub loop-internal-preserved : goal.loop-internal-preserved
loop-internal-preserved c =
    let root : ℕ → List Family = λ j. family_over c.args.size j (part_of j c.args.sets.now.internal ∷ part_of (c.args.size - j) c.args.sets.now.output ∷ []) in
    range_step root 0 c.loop-internal.internal _ c.loop-internal.internal c.args.roots.now.items c.loop-internal.roots.items _ refl (omega arith) c.loop-internal.invariant c.in_ok-add_family_over.ensures.added
