-- What a certificate proves: its entries, one after the other, close the families of an instance.
use Rattle.std.specs.Prelude.{ℕ, ◌≡◌, nat_lt, nat_le, Bool, true, ◌&&◌, IsTrue, List, [], ◌∷◌, ◌++◌, length, reverse}
use Rattle.std.specs.List.{list_all}
use Rattle.circuit_types.specs.declared.probes.Model.{Model}
use Rattle.bit_rows.specs.Sets.{members, set_of}
use Rattle.expr_table.specs.declared.instance.Instance.{Instance}
use Rattle.expr_table.specs.declared.node.Node.{Node}
use Rattle.expr_table.specs.Table.{has}
use Rattle.once_random.specs.Cuts.{is_allowed}
use Rattle.once_random.specs.Groups.{is_within}
use Rattle.once_random.specs.Tuples.{roots_of}
use Rattle.tuple_rank.specs.Tuples.{tuples}
use Rattle.probe_family.specs.declared.family.Family.{Family}
use Rattle.probe_family.specs.declared.part.Part.{Part}
use Rattle.probe_family.specs.Families.{count_in, is_in_part}
use Rattle.probe_family.specs.Roots as root
use Rattle.family_split.specs.Children.{children_of}
use Rattle.certificate.specs.declared.entries.Header.{Header}
use Rattle.certificate.specs.declared.entries.Entry.{Entry}
use Rattle.certificate.specs.Certificates.{IsCertificate}

-- ---- a hull

-- the set of the numbers below n that a hull lists
abbrev pub hull_set : ℕ → List ℕ → List Bool
hull_set n hull = set_of n (has hull)

-- as many of the numbers are in the part's set as the part takes, or more
abbrev pub has_take : List ℕ → Part → Bool
has_take hull part = nat_le part.take (count_in part.set hull)

-- each number is in the set of some part of the family, and of each part there are at least as many as it takes
abbrev pub is_hull_for : Family → List ℕ → Bool
is_hull_for family hull = list_all (is_in_part family.parts) hull && list_all (has_take hull) family.parts

-- ---- cuts

-- each cut is allowed after those made before it; the latest stands first
abbrev pub is_chain : List Node → List ℕ → List ℕ → Bool
is_chain nodes roots [] = true
is_chain nodes roots (e ∷ cuts) = is_allowed nodes roots cuts e && is_chain nodes roots cuts

-- the rows are rows of the table and, cut in this order, a chain for what the probes of the set see
abbrev pub is_chain_for : Instance → List Bool → List ℕ → Bool
is_chain_for x probes rows =
    list_all (λ row. nat_lt row (length x.table.nodes)) rows
    && is_chain x.table.nodes (roots_of x (members probes)) (reverse rows)

-- once these rows are cut, what the probes of the set see leaves each group at most so many live leaves
abbrev pub is_bounded : Instance → List Bool → ℕ → List ℕ → Bool
is_bounded x probes bound rows = is_within x (roots_of x (members probes)) (reverse rows) bound

-- ---- entries

-- The entry proves all tuples of the family that lie inside its hull: by one chain, since a chain for the hull serves each
-- tuple inside it.
pub record IsProof (x : Instance) (family : Family) (entry : Entry) : Type 0 where
  pub hull : IsTrue (is_hull_for family entry.hull)
  pub chain : IsTrue (is_chain_for x (hull_set (length x.probes) entry.hull) entry.cuts)
  pub bounded : IsTrue (is_bounded x (hull_set (length x.probes) entry.hull) family.bound entry.cuts)

-- Families wait. Each entry in turn proves the first of them; its children under the hull, which have the tuples that do
-- not lie inside, wait in its place. At the end these are left.
abbrev pub Closes : Instance → List Family → List Entry → List Family → Type 0
Closes x waiting [] left = waiting ≡ left
Closes x (family ∷ waiting) (entry ∷ entries) left =
    IsProof x family entry × Closes x (children_of family (hull_set (length x.probes) entry.hull) ++ waiting) entries left
Closes x [] (entry ∷ entries) left = ⊥

-- ---- certified

-- what the first lines have to say of the instance
abbrev pub header_of : Instance → Model → ℕ → Header
header_of x model order = record {
  notion = x.notion;
  order = order;
  model = model;
  probes = length x.probes;
  rows = length x.table.nodes;
  tuples = length (tuples (length x.probes) order);
}

-- The bytes are the certificate of these entries for the instance, the order and the model, and the entries close all
-- families of the order's tuples.
pub record IsCertified (x : Instance) (model : Model) (order : ℕ) (bytes : List ℕ) (entries : List Entry) : Type 0 where
  pub text : IsCertificate bytes (header_of x model order) entries
  pub closes : Closes x (root.roots_of x order) entries []
