-- The proof tree is a preorder of the families that a search begins with, where each tuple is proved; and its hulls have members.
use Rattle.std.proofs.Common.{◌≡◌, ℕ, zero, suc, ◌+◌, ◌<◌, ◌≤◌, Bool, true, false, not, ◌&&◌, List, [], ◌∷◌, ◌++◌, length, Option, None, Some, refl, sym, ap, ◌∙◌, subst, arith}
use Rattle.std.specs.Prelude.{All}
use Rattle.std.specs.List.{AllByRecursion, flat_map, list_all}
use Rattle.std.specs.Option.{option_map_or}
use Rattle.std.proofs.lemmas.Bool.{false≢true, not-false, true≢false}
use Rattle.std.proofs.lemmas.List.Concat.{flat_map-append}
use Rattle.std.proofs.lemmas.List.Elements.{All-from_recursion}
use Rattle.bit_rows.specs.Sets.{is_in, members}
use Rattle.bit_rows.proofs.Facts.{members-ascend}
use Rattle.certificate.specs.declared.entries.Entry.{Entry}
use Rattle.certificate.specs.Lines.{IsHull}
use Rattle.expr_table.specs.declared.instance.Instance.{Instance}
use Rattle.expr_table.specs.Table.{has}
use Rattle.once_random.specs.Tuples.{is_proved}
use Rattle.tuple_rank.specs.Tuples.{IsTuple, rank_of, tuples}
use Rattle.tuple_rank.proofs.Order.{rank_is_place}
use Rattle.probe_family.specs.declared.ending.Closed.{Closed}
use Rattle.probe_family.specs.declared.family.Family.{Family}
use Rattle.probe_family.specs.Families.{IsFamily}
use Rattle.probe_family.specs.Least.{least_of}
use Rattle.probe_family.specs.Roots.{roots_of}
use Rattle.family_split.specs.Children.{children_of}
use Rattle.extend_set.specs.Hull.{hull_of}
use Rattle.extend_set.proofs.Hulls.{hull_is, hull_least, hull_length, hull_provable, hull_within, least_inside, members-has}
use Rattle.frontier_core.specs.Search.{IsSearched}
use Rattle.frontier_core.specs.Tree.{closed_under, first_of, tree_of, under}
use Rattle.frontier_core.proofs.Search.{children_are_searched, least_fails, least_is_tuple_of, roots_are_searched}
use Rattle.frontier_core.proofs.Stacks.{fewer_with_next, visits_left}
use Rattle.frontier_core.proofs.Trees.{next_of, under_hull}
use Rattle.cert_check.specs.Entries.{IsHullOf, IsPreorder, entries_of}
use Rattle.maskverif_cli.proofs.Finding.{none-passes}

all-append : {X : Type 0} (P : X → Type 0) (xs ys : List X) → AllByRecursion P xs → AllByRecursion P ys → AllByRecursion P (xs ++ ys)
all-append P [] ys a b = b
all-append P (x ∷ xs) ys a b = (a.0, all-append P xs ys a.1 b)

-- ---- a hull in which a tuple lies has a member

left-holds : (a b : Bool) → a && b ≡ true → a ≡ true
left-holds true b e = refl
left-holds false b e = e

some-has : (ms : List ℕ) (p : ℕ) → has ms p ≡ true → 0 < length ms
some-has [] p e = absurd (false≢true e)
some-has (m ∷ ms) p e = omega arith

has-member : (hull : List Bool) (tuple : List ℕ) → 1 ≤ length tuple → list_all (is_in hull) tuple ≡ true → 0 < length (members hull)
has-member hull [] some lies = absurd (omega arith)
has-member hull (p ∷ ps) some lies = some-has (members hull) p (members-has hull p (left-holds (is_in hull p) (list_all (is_in hull) ps) lies))

-- a hull is a set of the probes, and has a member
pub record IsWritable (n : ℕ) (closed : Closed) : Type 0 where
  pub long : length closed.hull ≡ n
  pub hull : IsHull (members closed.hull)

module _ (x : Instance) (t : ℕ) (none : first_of x t ≡ None) where
  abbrev n : ℕ
  n = length x.probes

  each-proved : (tuple : List ℕ) → IsTuple n t tuple → is_proved x tuple ≡ true
  each-proved tuple is =
      not-false (is_proved x tuple)
      (none-passes (λ w. not (is_proved x w)) (tuples n t) none (rank_of n t tuple) tuple ((rank_is_place n t tuple (rank_of n t tuple) is).1 refl))

  -- each family that the search has before it has a hull
  hull-there : (family : Family) → IsSearched x t family → (o : Option (List Bool)) → hull_of x family ≡ o → (hull : List Bool) × (hull_of x family ≡ Some hull)
  hull-there family is (Some hull) e = (hull, e)
  hull-there family is None e = absurd (true≢false (sym (each-proved (least_of family) (least_is_tuple_of x t family is)) ∙ least_fails x t family is e))

  hull-of : (family : Family) (hull : List Bool) → IsSearched x t family → hull_of x family ≡ Some hull → IsHullOf x family hull
  hull-of family hull is found =
      let greedy = hull_is x family hull found in
      record {
        probes = hull_length x family hull greedy;
        parts = hull_within x family hull greedy is.rules;
        enough = least_inside n family is.rules hull (hull_least x family hull greedy is.rules);
        provable = hull_provable x family hull greedy is.rules;
      }

  writable : (family : Family) (hull : List Bool) → IsSearched x t family → hull_of x family ≡ Some hull → IsWritable n (closed_under family hull)
  writable family hull is found =
      let greedy = hull_is x family hull found in
      let least = least_is_tuple_of x t family is in
      record {
        long = hull_length x family hull greedy;
        hull = record {
          some = has-member hull (least_of family) least.some (hull_least x family hull greedy is.rules);
          ascending = members-ascend hull;
        };
      }

  -- what the families give, of which the first is closed and its children wait in its place
  gives : (family : Family) (waiting : List Family) (hull : List Bool) → IsSearched x t family → hull_of x family ≡ Some hull
      → flat_map (under x) (family ∷ waiting) ≡ closed_under family hull ∷ flat_map (under x) (children_of family hull ++ waiting)
  gives family waiting hull is found =
      ap (λ (l : List Closed). l ++ flat_map (under x) waiting) (under_hull x family hull is.rules found)
      ∙ ap (λ (l : List Closed). closed_under family hull ∷ l) (sym (flat_map-append (under x) (children_of family hull) waiting))

  -- fewer families are left to go through
  fewer : (family : Family) (waiting : List Family) (hull : List Bool) → IsSearched x t family → hull_of x family ≡ Some hull
      → visits_left x (children_of family hull ++ waiting) < visits_left x (family ∷ waiting)
  fewer family waiting hull is found =
      let next : next_of x family ≡ children_of family hull = ap (λ (o : Option (List Bool)). option_map_or (children_of family) o []) found in
      subst (λ (l : List Family). visits_left x (l ++ waiting) < visits_left x (family ∷ waiting)) next (fewer_with_next x family waiting is.rules)

  -- what is given is a preorder of what waits, and its hulls can be written
  pub record IsListed (waiting : List Family) (closed : List Closed) : Type 0 where
    pub preorder : IsPreorder x waiting closed
    pub hulls : AllByRecursion (IsWritable n) closed

  listed : (k : ℕ) (waiting : List Family) → visits_left x waiting < k → AllByRecursion (IsSearched x t) waiting → IsListed waiting (flat_map (under x) waiting)
  listed zero waiting less all = absurd (omega arith)
  listed (suc k) [] less all = record { preorder = refl; hulls = tt }
  listed (suc k) (family ∷ waiting) less all =
      let is = all.0 in
      let there = hull-there family is (hull_of x family) refl in
      let hull = there.0 in
      let found = there.1 in
      let children = children_of family hull in
      let lighter = fewer family waiting hull is found in
      let rest = listed k (children ++ waiting) (omega arith)
      (all-append (IsSearched x t) children waiting (children_are_searched x t family hull is) all.1) in
      subst (IsListed (family ∷ waiting)) (sym (gives family waiting hull is found))
      (record { preorder = (refl, hull-of family hull is found, rest.preorder); hulls = (writable family hull is found, rest.hulls) })

  -- the proof tree
  pub tree-listed : t ≤ 8 → IsListed (roots_of x t) (tree_of x t)
  unfolding tree_of
  tree-listed few = listed (visits_left x (roots_of x t) + 1) (roots_of x t) (omega arith) (roots_are_searched x t few)

  are-families : (fs : List Family) → AllByRecursion (IsSearched x t) fs → AllByRecursion (IsFamily n) fs
  are-families [] all = tt
  are-families (f ∷ fs) all = (all.0.rules, are-families fs all.1)

  pub roots-families : t ≤ 8 → All (IsFamily n) (roots_of x t)
  roots-families few = All-from_recursion (IsFamily n) (roots_of x t) (are-families (roots_of x t) (roots_are_searched x t few))

-- the hulls have a flag for each probe, and the entries that are written of them have members
long-each : (n : ℕ) (closed : List Closed) → AllByRecursion (IsWritable n) closed → AllByRecursion (λ (c : Closed). length c.hull ≡ n) closed
long-each n [] all = tt
long-each n (c ∷ closed) all = (all.0.long, long-each n closed all.1)

pub all-long : (n : ℕ) (closed : List Closed) → AllByRecursion (IsWritable n) closed → All (λ (c : Closed). length c.hull ≡ n) closed
all-long n closed all = All-from_recursion (λ (c : Closed). length c.hull ≡ n) closed (long-each n closed all)

hull-each : (x : Instance) (n : ℕ) (closed : List Closed) → AllByRecursion (IsWritable n) closed → AllByRecursion (λ (e : Entry). IsHull e.hull) (entries_of x closed)
hull-each x n [] all = tt
hull-each x n (c ∷ closed) all = (all.0.hull, hull-each x n closed all.1)

pub all-hulls : (x : Instance) (n : ℕ) (closed : List Closed) → AllByRecursion (IsWritable n) closed → All (λ (e : Entry). IsHull e.hull) (entries_of x closed)
all-hulls x n closed all = All-from_recursion (λ (e : Entry). IsHull e.hull) (entries_of x closed) (hull-each x n closed all)
