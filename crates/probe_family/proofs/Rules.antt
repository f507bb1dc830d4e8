-- The rules of a family, by recursion on its parts.
use Rattle.std.proofs.Common.{◌≡◌, ℕ, zero, suc, ◌<◌, true, false, List, [], ◌∷◌, length, refl, sym, subst, arith, get_or, All, AllPairs}
use Rattle.std.proofs.lemmas.Bool.{or_from, false_from_ne_true}
use Rattle.std.proofs.lemmas.List.Elements.{All-head, All-tail}
use Rattle.bit_rows.specs.Sets.{is_in}
use Rattle.probe_family.specs.declared.part.Part.{Part}
use Rattle.probe_family.specs.declared.family.Family.{Family}
use Rattle.probe_family.specs.Families.{is_in_part, AreDisjoint, IsPart, IsFamily}
use Rattle.probe_family.proofs.Members.{length-members}
use Rattle.probe_family.proofs.Takes.{AreApart, AreBelow, HaveEnough}

pairs_head : (part : Part) (parts : List Part) → AllPairs AreDisjoint (part ∷ parts) → All (AreDisjoint part) parts
pairs_head part parts all k d lt = all zero (suc k) d (omega arith) (omega arith)

pub pairs_tail : (part : Part) (parts : List Part) → AllPairs AreDisjoint (part ∷ parts) → AllPairs AreDisjoint parts
pairs_tail part parts all i j d lt in' = all (suc i) (suc j) d (omega arith) (omega arith)

in_no_part : (part : Part) (parts : List Part) → All (AreDisjoint part) parts → (p : ℕ) → is_in part.set p ≡ true → is_in_part parts p ≡ false
in_no_part part [] all p is = refl
in_no_part part (other ∷ parts) all p is =
    or_from (is_in other.set p) (is_in_part parts p)
    (false_from_ne_true (is_in other.set p) (λ is'. All-head (AreDisjoint part) other parts all p is is'))
    (in_no_part part parts (All-tail (AreDisjoint part) other parts all) p is)

pub apart_from : (parts : List Part) → AllPairs AreDisjoint parts → AreApart parts
apart_from [] all = tt
apart_from (part ∷ parts) all = (in_no_part part parts (pairs_head part parts all), apart_from parts (pairs_tail part parts all))

below_from : (n : ℕ) (parts : List Part) → All (IsPart n) parts → AreBelow n parts
below_from n [] all = tt
below_from n (part ∷ parts) all = ((All-head (IsPart n) part parts all).below, below_from n parts (All-tail (IsPart n) part parts all))

enough_from : (n : ℕ) (parts : List Part) → All (IsPart n) parts → HaveEnough 0 parts
enough_from n [] all = tt
enough_from n (part ∷ parts) all =
    let first : IsPart n part = All-head (IsPart n) part parts all in
    (omega (arith, first.enough, length-members part.set), enough_from n parts (All-tail (IsPart n) part parts all))

-- the rules that the reasoning on tuples needs
pub record AreParts (n : ℕ) (parts : List Part) : Type 0 where
  pub apart : AreApart parts
  pub below : AreBelow n parts

pub are_parts : (n : ℕ) (family : Family) → IsFamily n family → AreParts n family.parts
are_parts n family is = record { apart = apart_from family.parts is.disjoint; below = below_from n family.parts is.parts }

pub enough_of : (n : ℕ) (family : Family) → IsFamily n family → HaveEnough 0 family.parts
enough_of n family is = enough_from n family.parts is.parts

-- one of a family's parts
pub item_is_part : (n : ℕ) (family : Family) (items : List Part) (i : ℕ) (part : Part) → IsFamily n family → items ≡ family.parts → i < length items → part ≡ get_or items i part → IsPart n part
item_is_part n family items i part is items_are lt at =
    subst (IsPart n) (sym at) (subst (All (IsPart n)) (sym items_are) is.parts i part lt)
