-- The entries that a search writes: each hull with its least chain.
use Rattle.std.specs.Prelude.{ℕ, ◌≡◌, Bool, IsTrue, List, [], ◌∷◌, ◌++◌, length, map, reverse}
use Rattle.bit_rows.specs.Sets.{is_in, members}
use Rattle.expr_table.specs.declared.instance.Instance.{Instance}
use Rattle.once_random.specs.Cuts.{least_chain}
use Rattle.once_random.specs.Provable.{is_provable}
use Rattle.once_random.specs.Tuples.{roots_of}
use Rattle.probe_family.specs.declared.ending.Closed.{Closed}
use Rattle.probe_family.specs.declared.family.Family.{Family}
use Rattle.probe_family.specs.Families.{is_in_part}
use Rattle.family_split.specs.Children.{HasInside, children_of}
use Rattle.certificate.specs.declared.entries.Entry.{Entry}

-- the members of the hull, and the rows of the least chain for what they see, the first cut first
abbrev pub entry_of : Instance → Closed → Entry
entry_of x closed = record {
  hull = members closed.hull;
  cuts = reverse (least_chain x.table.nodes (roots_of x (members closed.hull)));
}

abbrev pub entries_of : Instance → List Closed → List Entry
entries_of x closed = map (entry_of x) closed

-- The set lies in the family's parts, has at least as many probes of each part as the part takes, and is provable within the
-- family's bound as a whole.
pub record IsHullOf (x : Instance) (family : Family) (hull : List Bool) : Type 0 where
  pub probes : length hull ≡ length x.probes
  pub parts : (p : ℕ) → IsTrue (is_in hull p) → IsTrue (is_in_part family.parts p)
  pub enough : HasInside hull family
  pub provable : IsTrue (is_provable x (roots_of x (members hull)) family.bound)

-- Families wait. Each closed family in turn is the first of them, under such a hull, and its children wait in its place; at the
-- end none waits. A search lists its families so: each one before its children, in order.
abbrev pub IsPreorder : Instance → List Family → List Closed → Type 0
IsPreorder x waiting [] = waiting ≡ []
IsPreorder x (family ∷ waiting) (c ∷ closed) =
    (c.family ≡ family) × IsHullOf x family c.hull × IsPreorder x (children_of family c.hull ++ waiting) closed
IsPreorder x [] (c ∷ closed) = ⊥
