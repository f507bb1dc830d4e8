-- How far a search has come as it begins, after each family, and as it ends.
use Rattle.std.proofs.Common.{◌≡◌, ℕ, ◌≤◌, Bool, true, false, ◌||◌, List, [], ◌∷◌, ◌++◌, length, refl, sym, ap, ◌∙◌, subst, arith, Option, None, Some, ⊎_elim, append_assoc, All}
use Rattle.std.proofs.lemmas.Bool.{cases_Bool, le-leb, leb-true, leb-false, or_cases, true≢false}
use Rattle.std.proofs.lemmas.List.{append-nil}
use Rattle.std.proofs.lemmas.List.Concat.{flat_map-append}
use Rattle.std.proofs.lemmas.List.Elements.{All-from_recursion, All-head, All-tail, All-append}
use Rattle.std.proofs.lemmas.List.Folds.{list_any-append}
use Rattle.std.specs.List.{flat_map}
use Rattle.expr_table.specs.declared.instance.Instance.{Instance}
use Rattle.expr_table.specs.Instance.{IsFitting}
use Rattle.expr_table.specs.Table.{IsTable}
use Rattle.once_random.specs.Tuples.{is_proved}
use Rattle.tuple_rank.specs.Tuples.{IsTuple, rank_of}
use Rattle.probe_family.specs.declared.ending.Closed.{Closed as ClosedFamily}
use Rattle.probe_family.specs.declared.family.Family.{Family}
use Rattle.probe_family.specs.Families.{is_tuple_of}
use Rattle.probe_family.specs.Least.{least_of}
use Rattle.probe_family.specs.Roots.{roots_of}
use Rattle.family_split.specs.Children.{children_of}
use Rattle.extend_set.specs.Hull.{hull_of}
use Rattle.frontier_core.specs.Search.{IsSearched, is_beyond, least_rank}
use Rattle.frontier_core.specs.Tree.{closed_under, tree_of, under}
use Rattle.frontier_core.specs.Verdict.{IsVerdict}
use Rattle.frontier_core.proofs.First.{first_fails, none_fails}
use Rattle.frontier_core.proofs.Search.{is_among, roots_are_searched, in_a_root, children_are_searched, least_is_tuple_of, least_is_below, least_fails, in_a_child}
use Rattle.frontier_core.proofs.Trees.{under_hull}
use Rattle.worker_pool.specs.declared.found.Found.{Found}
use Rattle.worker_pool.specs.declared.found.Found.TheVariants.{Closed, Failed}
use Rattle.worker_pool.specs.Found.{Closes, best_of, verdict_of}
use Rattle.worker_pool.specs.Halfway.{HasFound, IsHalfway}

or_left : (a b : Bool) → a ≡ true → (a || b) ≡ true
or_left a b is = ap (λ c. c || b) is

or_right : (a b : Bool) → b ≡ true → (a || b) ≡ true
or_right true b is = refl
or_right false b is = is

-- a greater rank is beyond what a lesser one is
beyond_more : (best : Option ℕ) (a b : ℕ) → is_beyond best a ≡ true → a ≤ b → is_beyond best b ≡ true
beyond_more None a b is le = absurd (true≢false (sym is))
beyond_more (Some r) a b is le = let l = leb-true r a is in le-leb r b (omega arith)

-- a family that is closed leaves the best rank
closes_best : (family : Family) (hull : List Bool) (old new : Found) → Closes family hull old new → best_of new ≡ best_of old
closes_best family hull (Closed old) (Closed new) closes = refl
closes_best family hull (Closed old) (Failed tuple rank) closes = absurd closes
closes_best family hull (Failed tuple rank) new closes = ap best_of closes

module _ (x : Instance) (t : ℕ) where
  -- at the beginning nothing is closed and the roots wait
  pub tree_begins : (closed : List ClosedFamily) (waiting : List Family) → closed ≡ [] → waiting ≡ roots_of x t → closed ++ flat_map (under x) waiting ≡ tree_of x t
  unfolding tree_of
  tree_begins closed waiting none are = ap (λ l. l ++ flat_map (under x) waiting) none ∙ ap (flat_map (under x)) are

  pub begins : (waiting : List Family) (found : Found) → t ≤ 8 → waiting ≡ roots_of x t → HasFound x t waiting found → IsHalfway x t waiting found
  begins waiting found small are has = record {
    searched = subst (All (IsSearched x t)) (sym are) (All-from_recursion (IsSearched x t) (roots_of x t) (roots_are_searched x t small));
    has_found = has;
    others = λ tuple is fails. or_left (is_among tuple waiting) (is_beyond (best_of found) (rank_of (length x.probes) t tuple)) (ap (is_among tuple) are ∙ in_a_root x t tuple is);
  }

  -- a tuple is in a family that waits or beyond the best rank
  abbrev IsLeft : List Family → Option ℕ → List ℕ → Type 0
  IsLeft waiting best tuple = (is_among tuple waiting || is_beyond best (rank_of (length x.probes) t tuple)) ≡ true

  among_left : (waiting : List Family) (best : Option ℕ) (tuple : List ℕ) → is_among tuple waiting ≡ true → IsLeft waiting best tuple
  among_left waiting best tuple is = or_left (is_among tuple waiting) (is_beyond best (rank_of (length x.probes) t tuple)) is

  beyond_left : (waiting : List Family) (best : Option ℕ) (tuple : List ℕ) → is_beyond best (rank_of (length x.probes) t tuple) ≡ true → IsLeft waiting best tuple
  beyond_left waiting best tuple is = or_right (is_among tuple waiting) (is_beyond best (rank_of (length x.probes) t tuple)) is

  -- where the family that is searched next goes, with its tuples
  next_goes : (family : Family) (rest : List Family) (best : Option ℕ) (tuple : List ℕ) (P : Type 0) → IsLeft (family ∷ rest) best tuple
      → (is_tuple_of family tuple ≡ true → P) → (is_among tuple rest ≡ true → P) → (is_beyond best (rank_of (length x.probes) t tuple) ≡ true → P) → P
  next_goes family rest best tuple P left first later past = ⊎_elim
      (λ among. ⊎_elim first later (or_cases (is_tuple_of family tuple) (is_among tuple rest) among))
      past
      (or_cases (is_among tuple (family ∷ rest)) (is_beyond best (rank_of (length x.probes) t tuple)) left)

  closes_tree : (family : Family) (hull : List Bool) (rest : List Family) (old new : Found) → IsSearched x t family → hull_of x family ≡ Some hull → HasFound x t (family ∷ rest) old → Closes family hull old new → HasFound x t (children_of family hull ++ rest) new
  closes_tree family hull rest (Closed old) (Closed new) is found has closes =
      ap (λ l. l ++ flat_map (under x) (children_of family hull ++ rest)) closes
      ∙ (append_assoc old.items (closed_under family hull ∷ []) (flat_map (under x) (children_of family hull ++ rest))
      ∙ (ap (λ l. old.items ++ closed_under family hull ∷ l) (flat_map-append (under x) (children_of family hull) rest)
      ∙ (ap (λ l. old.items ++ (l ++ flat_map (under x) rest)) (sym (under_hull x family hull is.rules found)) ∙ has)))
  closes_tree family hull rest (Closed old) (Failed tuple rank) is found has closes = absurd closes
  closes_tree family hull rest (Failed tuple rank) new is found has closes = subst (HasFound x t (children_of family hull ++ rest)) (sym closes) has

  -- a family that is proved makes room for its children
  pub proved : (family : Family) (hull : List Bool) (rest : List Family) (old new : Found) → IsTable x.table → IsFitting x → hull_of x family ≡ Some hull → Closes family hull old new → IsHalfway x t (family ∷ rest) old → IsHalfway x t (children_of family hull ++ rest) new
  proved family hull rest old new table fitting found closes half =
      let is : IsSearched x t family = All-head (IsSearched x t) family rest half.searched in
      let best : best_of new ≡ best_of old = closes_best family hull old new closes in record {
        searched = All-append (IsSearched x t) (children_of family hull) rest
            (All-from_recursion (IsSearched x t) (children_of family hull) (children_are_searched x t family hull is)) (All-tail (IsSearched x t) family rest half.searched);
        has_found = closes_tree family hull rest old new is found half.has_found closes;
        others = λ tuple is_tuple fails. subst (λ b. IsLeft (children_of family hull ++ rest) b tuple) (sym best)
            (next_goes family rest (best_of old) tuple (IsLeft (children_of family hull ++ rest) (best_of old) tuple) (half.others tuple is_tuple fails)
            (λ first. among_left (children_of family hull ++ rest) (best_of old) tuple
            (list_any-append (λ f. is_tuple_of f tuple) (children_of family hull) rest ∙ or_left (is_among tuple (children_of family hull)) (is_among tuple rest) (in_a_child x t family hull tuple table fitting is found first fails)))
            (λ later. among_left (children_of family hull ++ rest) (best_of old) tuple
            (list_any-append (λ f. is_tuple_of f tuple) (children_of family hull) rest ∙ or_right (is_among tuple (children_of family hull)) (is_among tuple rest) later))
            (λ past. beyond_left (children_of family hull ++ rest) (best_of old) tuple past));
      }

  -- a family without a hull leaves its least tuple, which comes before the best one
  pub failed : (family : Family) (rest : List Family) (old new : Found) → hull_of x family ≡ None → is_beyond (best_of old) (least_rank x t family) ≡ false
      → best_of new ≡ Some (least_rank x t family) → ((w : List Family) → IsTuple (length x.probes) t (least_of family) → is_proved x (least_of family) ≡ false → HasFound x t w new) → IsHalfway x t (family ∷ rest) old → IsHalfway x t rest new
  failed family rest old new none first_one best has half =
      let is : IsSearched x t family = All-head (IsSearched x t) family rest half.searched in record {
        searched = All-tail (IsSearched x t) family rest half.searched;
        has_found = has rest (least_is_tuple_of x t family is) (least_fails x t family is none);
        others = λ tuple is_tuple fails. subst (λ b. IsLeft rest b tuple) (sym best)
            (next_goes family rest (best_of old) tuple (IsLeft rest (Some (least_rank x t family)) tuple) (half.others tuple is_tuple fails)
            (λ first. beyond_left rest (Some (least_rank x t family)) tuple (le-leb (least_rank x t family) (rank_of (length x.probes) t tuple) (least_is_below x t family tuple is first)))
            (λ later. among_left rest (Some (least_rank x t family)) tuple later)
            (λ past. beyond_left rest (Some (least_rank x t family)) tuple (le-leb (least_rank x t family) (rank_of (length x.probes) t tuple) (below_best (best_of old) (rank_of (length x.probes) t tuple) (least_rank x t family) past first_one))));
      }
    where
      below_best : (best : Option ℕ) (rank least : ℕ) → is_beyond best rank ≡ true → is_beyond best least ≡ false → least ≤ rank
      below_best None rank least past here = absurd (true≢false (sym past))
      below_best (Some b) rank least past here = let p = leb-true b rank past in let h = leb-false b least here in omega arith

  -- a family beyond the best rank has no tuple of lesser rank
  pub left_alone : (family : Family) (rest : List Family) (found : Found) (best : ℕ) → best_of found ≡ Some best → best ≤ least_rank x t family → IsHalfway x t (family ∷ rest) found → IsHalfway x t rest found
  left_alone family rest found best known le half =
      let is : IsSearched x t family = All-head (IsSearched x t) family rest half.searched in record {
        searched = All-tail (IsSearched x t) family rest half.searched;
        has_found = has found known half.has_found;
        others = λ tuple is_tuple fails.
            next_goes family rest (best_of found) tuple (IsLeft rest (best_of found) tuple) (half.others tuple is_tuple fails)
            (λ first. beyond_left rest (best_of found) tuple
            (ap (λ b. is_beyond b (rank_of (length x.probes) t tuple)) known ∙ (let more = least_is_below x t family tuple is first in le-leb best (rank_of (length x.probes) t tuple) (omega arith))))
            (λ later. among_left rest (best_of found) tuple later)
            (λ past. beyond_left rest (best_of found) tuple past);
      }
    where
      has : (f : Found) → best_of f ≡ Some best → HasFound x t (family ∷ rest) f → HasFound x t rest f
      has (Closed closed) e h = absurd (cc e)
      has (Failed tuple rank) e h = h

  -- once no family waits
  pub ends : (found : Found) → IsHalfway x t [] found → IsVerdict x t (verdict_of found)
  ends (Closed closed) half = (
    none_fails x t (λ tuple is. ⊎_elim (λ passes. passes) (λ fails. absurd (true≢false (sym (half.others tuple is fails)))) (cases_Bool (is_proved x tuple))),
    sym (append-nil closed.items) ∙ half.has_found,
  )
  ends (Failed tuple rank) half =
      let has = half.has_found in
      first_fails x t tuple.items has.0 has.1 (λ other is fails. let past = leb-true rank (rank_of (length x.probes) t other) (half.others other is fails) in let e = has.2 in omega arith)
