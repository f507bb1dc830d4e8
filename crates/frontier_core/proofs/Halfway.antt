-- How far the families of a search are put in preorder.
use Rattle.std.proofs.Common.{◌≡◌, ℕ, ◌+◌, ◌<◌, ◌≤◌, Bool, true, false, not, ◌&&◌, List, [], ◌∷◌, ◌++◌, length, map, reverse, refl, sym, ap, ◌∙◌, subst, arith, Some, count_by, sum_by, All, Any, ⊎_elim, append_assoc}
use Rattle.std.proofs.lemmas.Bool.{and_from, cases_lt, true≢false}
use Rattle.std.proofs.lemmas.List.{append-nil}
use Rattle.std.proofs.lemmas.List.Concat.{flat_map-append}
use Rattle.std.proofs.lemmas.List.Elements.{All-from_recursion, recursion_from_All}
use Rattle.std.proofs.lemmas.List.Sums.{sum_by-append, sum_by-cons}
use Rattle.std.proofs.lemmas.Option.{get_or_from_slice_get, slice_get_within}
use Rattle.std.specs.Cmp.Lexicographic.{bytes_decides}
use Rattle.std.specs.List.{flat_map, list_all, AllByRecursion}
use Rattle.std.specs.Str.{bytes_eq}
use Rattle.bit_rows.specs.Sets.{is_in}
use Rattle.expr_table.specs.declared.instance.Instance.{Instance}
use Rattle.tuple_rank.specs.Tuples.{IsTuple}
use Rattle.probe_family.specs.declared.ending.Closed.{Closed}
use Rattle.probe_family.specs.declared.ending.Ended.{Ended}
use Rattle.probe_family.specs.declared.ending.Ending.{Ending}
use Rattle.probe_family.specs.declared.ending.Ending.TheVariants.{Proved, Failed, Beyond}
use Rattle.probe_family.specs.declared.family.Family.{Family}
use Rattle.probe_family.specs.Families.{IsFamily, is_tuple_of}
use Rattle.probe_family.specs.Least.{least_of}
use Rattle.probe_family.specs.Roots.{roots_of}
use Rattle.probe_family.proofs.AllTuples.{least_is_tuple}
use Rattle.probe_family.proofs.Bits.{one_if}
use Rattle.probe_family.proofs.Ranges.{append_All, weaken_All}
use Rattle.probe_family.proofs.RootTuples.{in_one_root}
use Rattle.family_split.specs.Children.{children_of}
use Rattle.family_split.proofs.Partition.{count_children}
use Rattle.extend_set.specs.Hull.{hull_of}
use Rattle.probe_family.specs.Often.{families_of}
use Rattle.frontier_core.specs.Balance.{EndsRight, failed_rank, failed_ranks, given_by, given_of}
use Rattle.frontier_core.specs.Closings.{AreApart, IsSmall, TakesOut, closing_of, closings_of}
use Rattle.frontier_core.specs.Preorder.{IsWhole}
use Rattle.frontier_core.specs.Search.{IsSearched}
use Rattle.frontier_core.specs.Tree.{tree_of, under}
use Rattle.frontier_core.proofs.Bounds.{all_are_searched, first_All, mapped_All}
use Rattle.frontier_core.proofs.Hulls.{hull_least, hull_length}
use Rattle.frontier_core.proofs.Places.{at_All, fewer_All, place_of_one}
use Rattle.frontier_core.proofs.Same.{closed_equal, closed_itself, family_equal, family_itself, same_closed, same_family}
use Rattle.frontier_core.proofs.Search.{children_are_searched, least_is_tuple_of, roots_are_searched}
use Rattle.frontier_core.proofs.Sums.{sum-flat_map, sum-map, sum-ones, sum-plus, sum-reverse, sum-same}
use Rattle.frontier_core.proofs.Trees.{under_hull}

-- closed under its hull
abbrev pub IsRight : Instance → Closed → Type 0
IsRight x c = hull_of x c.family ≡ Some c.hull

module _ (x : Instance) (t : ℕ) where
  -- What is in order, and then what the waiting families give, is the proof tree. The records have the waiting families
  -- and the children of their own, each as often, and the waiting families have each tuple at most once.
  pub record IsHalfway (waiting : List Family) (records preorder : List Closed) : Type 0 where
    pub searched : AllByRecursion (IsSearched x t) waiting
    pub known : AllByRecursion (λ (c : Closed). IsSearched x t c.family) records
    pub right : AllByRecursion (IsRight x) records
    pub tree : preorder ++ flat_map (under x) waiting ≡ tree_of x t
    pub as_often : (h : Family → ℕ) → sum_by (λ (c : Closed). h c.family) records ≡ sum_by h waiting + sum_by (λ (c : Closed). sum_by h (children_of c.family c.hull)) records
    pub once : (tuple : List ℕ) → IsTuple (length x.probes) t tuple → count_by (λ f. is_tuple_of f tuple) waiting ≤ 1

  -- ---- at the beginning

  none_later : (how : Ending) (ranks : List ℕ) → failed_rank how ++ ranks ≡ [] → ranks ≡ []
  none_later (Proved hull) ranks none = none
  none_later (Failed rank) ranks none = absurd (cc none)
  none_later (Beyond best) ranks none = none

  -- the closed ones of some ended families: each under its hull, with the families and what was given
  record AreProved (es : List Ended) (closed : List Closed) (families given : List Family) : Type 0 where
    right : AllByRecursion (IsRight x) closed
    are : map (λ (c : Closed). c.family) closed ≡ families
    gave : flat_map (λ (c : Closed). children_of c.family c.hull) closed ≡ given

  -- where none failed, each is proved
  one_proved : (f : Family) (how : Ending) (es : List Ended) → EndsRight x t [] f how → failed_rank how ++ failed_ranks es ≡ [] → AreProved es (closings_of es) (families_of es) (given_of es)
      → AreProved es (closing_of f how ++ closings_of es) (f ∷ families_of es) (given_by f how ++ given_of es)
  one_proved f (Proved hull) es right none rest = record {
    right = (right, rest.right);
    are = ap (λ l. f ∷ l) rest.are;
    gave = ap (λ l. children_of f hull ++ l) rest.gave;
  }
  one_proved f (Failed rank) es right none rest = absurd (cc none)
  one_proved f (Beyond best) es right none rest = absurd (true≢false (sym right.0))

  each_proved : (es : List Ended) → AllByRecursion (λ (e : Ended). EndsRight x t [] e.family e.how) es → failed_ranks es ≡ [] → AreProved es (closings_of es) (families_of es) (given_of es)
  each_proved [] right none = record { right = tt; are = refl; gave = refl }
  each_proved (e ∷ es) right none = again (one_proved e.family e.how es right.0 none (each_proved es right.1 (none_later e.how (failed_ranks es) none)))
    where
      again : {closed : List Closed} {families given : List Family} → AreProved es closed families given → AreProved (e ∷ es) closed families given
      again is = record { right = is.right; are = is.are; gave = is.gave }

  whole_proved : (roots : List Family) (ended : List Ended) → IsWhole x t roots ended → AreProved ended (closings_of ended) (families_of ended) (given_of ended)
  whole_proved roots ended whole =
      each_proved ended (recursion_from_All (λ (e : Ended). EndsRight x t [] e.family e.how) ended (subst (λ ranks. All (λ (e : Ended). EndsRight x t ranks e.family e.how) ended) whole.none_failed whole.balanced.right)) whole.none_failed

  -- the closed families are such as a search has
  closings_known : (roots : List Family) (ended : List Ended) → IsWhole x t roots ended → AllByRecursion (λ (c : Closed). IsSearched x t c.family) (closings_of ended)
  closings_known roots ended whole =
      mapped_All (IsSearched x t) (λ (c : Closed). c.family) (closings_of ended)
      (subst (AllByRecursion (IsSearched x t)) (sym (whole_proved roots ended whole).are) (first_All (IsSearched x t) (families_of ended) [] (all_are_searched x t [] ended whole.balanced)))

  pub closings_small : (roots : List Family) (ended : List Ended) → IsWhole x t roots ended → All IsSmall (closings_of ended)
  closings_small roots ended whole =
      All-from_recursion IsSmall (closings_of ended)
      (weaken_All (λ (c : Closed). IsSearched x t c.family) IsSmall (λ c is. let size = is.rules.size in let small = is.rules.small in omega arith) (closings_of ended) (closings_known roots ended whole))

  pub halfway_begins : (roots : List Family) (ended : List Ended) (waiting : List Family) (records preorder : List Closed) → IsWhole x t roots ended → waiting ≡ roots → records ≡ reverse (closings_of ended) → preorder ≡ [] → IsHalfway waiting records preorder
  unfolding tree_of
  halfway_begins roots ended waiting records preorder whole wait are none =
      let proved = whole_proved roots ended whole in
      let all : (h : Closed → ℕ) → sum_by h records ≡ sum_by h (closings_of ended) = λ h. ap (sum_by h) are ∙ sum-reverse h (closings_of ended) in
      let roots_wait : waiting ≡ roots_of x t = wait ∙ whole.roots_are in record {
        searched = subst (AllByRecursion (IsSearched x t)) (sym roots_wait) (roots_are_searched x t whole.few);
        known = fewer_All (λ (c : Closed). IsSearched x t c.family) records (closings_of ended) (λ h. let e = all h in omega arith) (closings_known roots ended whole);
        right = fewer_All (IsRight x) records (closings_of ended) (λ h. let e = all h in omega arith) proved.right;
        tree = ap (λ l. l ++ flat_map (under x) waiting) none ∙ ap (flat_map (under x)) roots_wait;
        as_often = λ h. omega (
          arith,
          all (λ (c : Closed). h c.family),
          all (λ (c : Closed). sum_by h (children_of c.family c.hull)),
          sum-map h (λ (c : Closed). c.family) (closings_of ended),
          ap (sum_by h) proved.are,
          whole.balanced.as_often h,
          ap (sum_by h) (append-nil (families_of ended)),
          sum_by-append h (roots_of x t) (given_of ended),
          ap (sum_by h) roots_wait,
          sum-flat_map h (λ (c : Closed). children_of c.family c.hull) (closings_of ended),
          ap (sum_by h) proved.gave,
        );
        once = λ tuple is. let one = in_one_root x t tuple is in subst (λ l. count_by (λ f. is_tuple_of f tuple) l ≤ 1) (sym roots_wait) (omega arith);
      }

  -- ---- each tuple is in at most one record

  abbrev count : List ℕ → Family → ℕ
  count tuple f = one_if (is_tuple_of f tuple)

  abbrev own : List ℕ → Closed → ℕ
  own tuple c = one_if (is_tuple_of c.family tuple && list_all (is_in c.hull) tuple)

  split : (a b : Bool) → one_if a ≡ one_if (a && b) + one_if (a && not b)
  split true true = refl
  split true false = refl
  split false b = refl

  each_split : (tuple : List ℕ) (cs : List Closed) → AllByRecursion (λ (c : Closed). IsSearched x t c.family) cs → AllByRecursion (λ (c : Closed). count tuple c.family ≡ own tuple c + sum_by (count tuple) (children_of c.family c.hull)) cs
  each_split tuple [] known = tt
  each_split tuple (c ∷ cs) known =
      (split (is_tuple_of c.family tuple) (list_all (is_in c.hull) tuple) ∙ ap (λ n. own tuple c + n) (sym (count_children c.hull tuple (length x.probes) c.family known.0.rules)), each_split tuple cs known.1)

  first_own : (b : Bool) (n : ℕ) → (b ≡ true → n ≡ 1) → one_if b ≤ n
  first_own true n is = let e = is refl in omega arith
  first_own false n is = omega arith

  own_of_least : (tuple : List ℕ) (c : Closed) → IsSearched x t c.family → IsRight x c → least_of c.family ≡ tuple → own tuple c ≡ 1
  own_of_least tuple c known right e =
      ap one_if (and_from (is_tuple_of c.family tuple) (list_all (is_in c.hull) tuple)
      (subst (λ s. is_tuple_of c.family s ≡ true) e (least_is_tuple (length x.probes) c.family known.rules))
      (subst (λ s. list_all (is_in c.hull) s ≡ true) e (hull_least x c.family known.rules c.hull right)))

  least_own : (tuple : List ℕ) (cs : List Closed) → AllByRecursion (λ (c : Closed). IsSearched x t c.family) cs → AllByRecursion (IsRight x) cs → sum_by (λ (c : Closed). one_if (bytes_eq (least_of c.family) tuple)) cs ≤ sum_by (own tuple) cs
  least_own tuple [] known right = omega arith
  least_own tuple (c ∷ cs) known right =
      omega (
        arith,
        sum_by-cons (λ (d : Closed). one_if (bytes_eq (least_of d.family) tuple)) c cs,
        sum_by-cons (own tuple) c cs,
        first_own (bytes_eq (least_of c.family) tuple) (own tuple c) (λ e. own_of_least tuple c known.0 right.0 ((bytes_decides (least_of c.family) tuple).0 e)),
        least_own tuple cs known.1 right.1,
      )

  -- ---- a family is taken out

  module _ (family : Family) (rest : List Family) (records preorder : List Closed) (half : IsHalfway (family ∷ rest) records preorder) where
    -- it is there
    pub is_there : Any (λ (c : Closed). c.family ≡ family) records
    is_there =
        let h : Family → ℕ = λ f. one_if (same_family f family) in
        let first = sum_by-cons h family rest in
        let here = ap one_if (family_itself family) in
        let all = half.as_often h in
        let found = place_of_one (λ (c : Closed). same_family c.family family) records (omega arith) in
        (found.0, found.1, slice_get_within records found.0 found.1 found.2, get_or_from_slice_get records found.0 found.1 found.1 found.2, family_equal found.1.family family found.3)

    own_few : (tuple : List ℕ) → IsTuple (length x.probes) t tuple → count_by (λ (c : Closed). bytes_eq (least_of c.family) tuple) records ≤ 1
    own_few tuple is =
        omega (
          arith,
          least_own tuple records half.known half.right,
          half.as_often (count tuple),
          half.once tuple is,
          sum-same (λ (c : Closed). count tuple c.family) (λ (c : Closed). own tuple c + sum_by (count tuple) (children_of c.family c.hull)) records (each_split tuple records half.known),
          sum-plus (own tuple) (λ (c : Closed). sum_by (count tuple) (children_of c.family c.hull)) records,
        )

    -- no two records have one least tuple
    pub are_apart : AreApart records
    are_apart tuple = ⊎_elim
        (λ few. omega arith)
        (λ many.
        let found = place_of_one (λ (c : Closed). bytes_eq (least_of c.family) tuple) records (omega arith) in
        let known : IsSearched x t found.1.family = at_All (λ (c : Closed). IsSearched x t c.family) records found.0 found.1 half.known found.2 in
        let is : IsTuple (length x.probes) t tuple = subst (IsTuple (length x.probes) t) ((bytes_decides (least_of found.1.family) tuple).0 found.3) (least_is_tuple_of x t found.1.family known) in
        own_few tuple is)
        (cases_lt (count_by (λ (c : Closed). bytes_eq (least_of c.family) tuple) records) 2)

    module _ (others : List Closed) (taken : Closed) (out : TakesOut family records others taken) where
      -- it was one of the records
      of_taken : (P : Closed → Type 0) → AllByRecursion P records → P taken
      of_taken P all =
          let h : Closed → ℕ = λ d. one_if (same_closed taken d) in
          let less = out.others h in
          let here = ap one_if (closed_itself taken) in
          let found = place_of_one (same_closed taken) records (omega arith) in
          subst P (sym (closed_equal taken found.1 found.3)) (at_All P records found.0 found.1 all found.2)

      of_others : (P : Closed → Type 0) → AllByRecursion P records → AllByRecursion P others
      of_others P all = fewer_All P others records (λ h. let less = out.others h in omega arith) all

      pub taken_is_family : IsFamily (length x.probes) taken.family
      taken_is_family = (of_taken (λ (c : Closed). IsSearched x t c.family) half.known).rules

      pub taken_hull : length taken.hull ≡ length x.probes
      taken_hull = hull_length x taken.family taken.hull (of_taken (IsRight x) half.right)

      pub fewer_records : length others < length records
      fewer_records = omega (arith, out.others (λ c. 1), sum-ones others, sum-ones records)

      pub halfway_more : IsHalfway (children_of taken.family taken.hull ++ rest) others (preorder ++ taken ∷ [])
      halfway_more =
          let right : hull_of x taken.family ≡ Some taken.hull = of_taken (IsRight x) half.right in
          let known : IsSearched x t taken.family = of_taken (λ (c : Closed). IsSearched x t c.family) half.known in record {
            searched = append_All (IsSearched x t) (children_of taken.family taken.hull) rest (children_are_searched x t taken.family taken.hull known) half.searched.1;
            known = of_others (λ (c : Closed). IsSearched x t c.family) half.known;
            right = of_others (IsRight x) half.right;
            tree = append_assoc preorder (taken ∷ []) (flat_map (under x) (children_of taken.family taken.hull ++ rest))
                ∙ (ap (λ l. preorder ++ taken ∷ l) (flat_map-append (under x) (children_of taken.family taken.hull) rest)
                ∙ (ap (λ l. preorder ++ (l ++ flat_map (under x) rest)) (sym (under_hull x taken.family taken.hull known.rules right))
                ∙ (ap (λ f. preorder ++ (under x f ++ flat_map (under x) rest)) out.is ∙ half.tree)));
            as_often = λ h. omega (
              arith,
              half.as_often h,
              out.others (λ (c : Closed). h c.family),
              out.others (λ (c : Closed). sum_by h (children_of c.family c.hull)),
              ap h out.is,
              sum_by-cons h family rest,
              sum_by-append h (children_of taken.family taken.hull) rest,
            );
            once = λ tuple is. omega (
              arith,
              half.once tuple is,
              sum_by-cons (λ f. one_if (is_tuple_of f tuple)) family rest,
              sum_by-append (λ f. one_if (is_tuple_of f tuple)) (children_of taken.family taken.hull) rest,
              count_children taken.hull tuple (length x.probes) taken.family known.rules,
              and_less (is_tuple_of taken.family tuple) (not (list_all (is_in taken.hull) tuple)),
              ap (λ f. one_if (is_tuple_of f tuple)) out.is,
            );
          }
        where
          and_less : (a b : Bool) → one_if (a && b) ≤ one_if a
          and_less true true = omega arith
          and_less true false = omega arith
          and_less false b = omega arith

  -- ---- at the end

  pub halfway_ends : (records preorder : List Closed) → IsHalfway [] records preorder → preorder ≡ tree_of x t
  halfway_ends records preorder half = sym (append-nil preorder) ∙ half.tree
