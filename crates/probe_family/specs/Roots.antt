-- The families that a search begins with.
use Rattle.std.specs.Prelude.{ℕ, ◌+◌, ◌-◌, min, Bool, true, not, List, [], ◌∷◌, length, map, replicate}
use Rattle.std.specs.List.{flat_map, range_with_len}
use Rattle.expr_table.specs.declared.instance.Instance.{Instance}
use Rattle.expr_table.specs.declared.instance.Notion.{Notion}
use Rattle.expr_table.specs.declared.instance.Notion.TheVariants.{Probing, Ni, Sni}
use Rattle.expr_table.specs.declared.instance.ProbeRoots.{ProbeRoots}
use Rattle.probe_family.specs.declared.family.Family.{Family}
use Rattle.probe_family.specs.declared.probe_sets.ProbeSets.{ProbeSets}
use Rattle.probe_family.specs.Families.{part_of, family_over}

-- the set of all probes
abbrev pub all_set : Instance → List Bool
all_set x = replicate (length x.probes) true

-- the set of the probes of output shares
abbrev pub output_set : Instance → List Bool
output_set x = map (λ (probe : ProbeRoots). probe.output) x.probes

-- the set of the other probes
abbrev pub internal_set : Instance → List Bool
internal_set x = map (λ (probe : ProbeRoots). not probe.output) x.probes

-- the sets that roots are made of
abbrev pub sets_of : Instance → ProbeSets
sets_of x = record { all = all_set x; internal = internal_set x; output = output_set x }

-- The families of the tuples of k probes. The tuples of a family have one bound: for strong non-interference they take
-- the same number of internal probes.
abbrev pub roots_of_size : Notion → ProbeSets → ℕ → List Family
roots_of_size Probing sets k = family_over k 0 (part_of k sets.all ∷ [])
roots_of_size Ni sets k = family_over k k (part_of k sets.all ∷ [])
roots_of_size Sni sets k =
    flat_map (λ j. family_over k j (part_of j sets.internal ∷ part_of (k - j) sets.output ∷ [])) (range_with_len 0 (k + 1))

-- the families of the tuples of at most t probes, by size and then by bound
unfoldable pub roots_of : Instance → ℕ → List Family
roots_of x t = flat_map (roots_of_size x.notion (sets_of x)) (range_with_len 1 (min t (length x.probes)))
