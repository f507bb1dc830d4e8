-- Stacks from the top down, and how many families a search of them goes through.
use Rattle.std.proofs.Common.{◌≡◌, ℕ, ◌<◌, List, [], ◌∷◌, ◌++◌, length, reverse, ap, arith}
use Rattle.std.proofs.lemmas.List.{reverse-append, length-append}
use Rattle.std.proofs.lemmas.List.Concat.{flat_map-append}
use Rattle.std.specs.List.{flat_map}
use Rattle.expr_table.specs.declared.instance.Instance.{Instance}
use Rattle.probe_family.specs.declared.family.Family.{Family}
use Rattle.probe_family.specs.Families.{IsFamily}
use Rattle.frontier_core.proofs.Trees.{next_of, visits, visits_on}

-- the last of a list is on top
pub reverse_last : {X : Type 0} (xs : List X) (x : X) → reverse (xs ++ x ∷ []) ≡ x ∷ reverse xs
reverse_last xs x = reverse-append xs (x ∷ [])

-- how many families a search goes through that begins with these
abbrev pub visits_left : Instance → List Family → ℕ
visits_left x families = length (flat_map (visits x) families)

pub fewer_left : (x : Instance) (family : Family) (families : List Family) → IsFamily (length x.probes) family → visits_left x families < visits_left x (family ∷ families)
fewer_left x family families is =
    omega (arith, length-append (visits x family) (flat_map (visits x) families), ap length (visits_on x family is))

pub fewer_with_next : (x : Instance) (family : Family) (families : List Family) → IsFamily (length x.probes) family → visits_left x (next_of x family ++ families) < visits_left x (family ∷ families)
fewer_with_next x family families is =
    omega (
      arith,
      length-append (visits x family) (flat_map (visits x) families),
      ap length (visits_on x family is),
      ap length (flat_map-append (visits x) (next_of x family) families),
      length-append (flat_map (visits x) (next_of x family)) (flat_map (visits x) families),
    )
