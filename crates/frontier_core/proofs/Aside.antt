-- Closed families that were put aside in a map under their least tuples.
use Rattle.std.proofs.Common.{◌≡◌, ℕ, zero, suc, Bool, true, false, cond, List, [], ◌∷◌, ◌++◌, refl, sym, ap, ◌∙◌, subst, arith, Option, None, Some, All, sum_by, ⊎_elim}
use Rattle.std.proofs.lemmas.Bool.{cases_Bool, cond-true, cond-false, true≢false}
use Rattle.std.proofs.lemmas.Cmp.{nat_list_cmp_total, on_total}
use Rattle.std.proofs.lemmas.List.Elements.{All-from_recursion, recursion_from_All}
use Rattle.std.proofs.lemmas.List.Sums.{sum_by-append, sum_by-cons}
use Rattle.std.proofs.lemmas.Map.Entries.{place_from_lookup, sum_by-insert_entry, sum_by-remove_entry}
use Rattle.std.proofs.lemmas.Map.Text.{is_eq-slice_cmp}
use Rattle.std.proofs.lemmas.Option.{same_Some}
use Rattle.std.specs.BTreeMap.{insert_entry, is_at}
use Rattle.std.specs.Cmp.{IsTotalOrder}
use Rattle.std.specs.Cmp.Lexicographic.{bytes_decides, slice_cmp}
use Rattle.std.specs.List.{slice_get, AllByRecursion}
use Rattle.std.specs.List.Sorted.{IsStrictlySortedBy}
use Rattle.std.specs.Map.{keys_of, lookup, remove_entry, values_of}
use Rattle.std.specs.Option.{option_map, unwrap_or}
use Rattle.std.specs.Ordering.{is_eq, match_ordering, nat_cmp}
use Rattle.std.specs.declared.cmp.Ordering.{Ordering}
use Rattle.std.specs.declared.cmp.Ordering.TheVariants.{Less, Equal, Greater}
use Rattle.std.specs.Str.{bytes_eq}
use Rattle.arrayvec.specs.ArrayVec.{ArrayVec}
use Rattle.probe_family.specs.declared.ending.Closed.{Closed}
use Rattle.probe_family.specs.declared.family.Family.{Family}
use Rattle.probe_family.specs.Least.{least_of}
use Rattle.probe_family.proofs.Bits.{one_if}
use Rattle.probe_family.proofs.Ranges.{append_All}
use Rattle.frontier_core.specs.Closings.{AreApart, IsSmall, TakesOut}
use Rattle.frontier_core.proofs.Bounds.{first_All}
use Rattle.frontier_core.proofs.Places.{at_All, counted_at, get-left, one_place}
use Rattle.frontier_core.proofs.Same.{family_equal, family_itself, same_family}
use Rattle.frontier_core.proofs.Sums.{sum-zero}

abbrev Tuple : Type 0
Tuple = ArrayVec ℕ

-- the order of the keys
abbrev pub by_items : Tuple → Tuple → Ordering
by_items v w = slice_cmp nat_cmp v.items w.items

total : IsTotalOrder by_items
total = on_total (λ (v : Tuple). v.items) nat_list_cmp_total

key_equal : (k q : Tuple) → is_at (by_items k) q ≡ true → k.items ≡ q.items
key_equal k q is = (bytes_decides k.items q.items).0 (sym (is_eq-slice_cmp k.items q.items) ∙ is)

equal_key : (k q : Tuple) → k.items ≡ q.items → is_at (by_items k) q ≡ true
equal_key k q e = is_eq-slice_cmp k.items q.items ∙ (bytes_decides k.items q.items).1 e

-- an entry's key is the least tuple of its family
abbrev pub IsKeyed : Tuple × Closed → Type 0
IsKeyed e = e.0.items ≡ least_of e.1.family

-- the family's least tuple is this one
abbrev has_least : List ℕ → Closed → Bool
has_least tuple c = bytes_eq (least_of c.family) tuple

least_is : (tuple : List ℕ) (c : Closed) → least_of c.family ≡ tuple → has_least tuple c ≡ true
least_is tuple c e = (bytes_decides (least_of c.family) tuple).1 e

module _ (P : Tuple × Closed → Type 0) where
  insert_All : (k : Tuple) (v : Closed) → ((q : Tuple) → is_at (by_items k) q ≡ true → P (q, v)) → (es : List (Tuple × Closed)) → AllByRecursion P es → AllByRecursion P (insert_entry by_items es k v)
  insert_All k v each [] all = (each k (equal_key k k refl), tt)
  insert_All k v each (e ∷ es) all = by_case (by_items k e.0) refl (insert_All k v each es all.1)
    where
      by_case : (o : Ordering) → by_items k e.0 ≡ o → AllByRecursion P (insert_entry by_items es k v) → AllByRecursion P (match_ordering o ((k, v) ∷ e ∷ es) ((e.0, v) ∷ es) (e ∷ insert_entry by_items es k v))
      by_case Less is rest = (each k (equal_key k k refl), all)
      by_case Equal is rest = (each e.0 (ap is_eq is), all.1)
      by_case Greater is rest = (all.0, rest)

  remove_All : (test : Tuple → Bool) (es : List (Tuple × Closed)) → AllByRecursion P es → AllByRecursion P (remove_entry test es)
  remove_All test [] all = tt
  remove_All test (e ∷ es) all = by_case (test e.0) (remove_All test es all.1)
    where
      by_case : (b : Bool) → AllByRecursion P (remove_entry test es) → AllByRecursion P (cond b es (e ∷ remove_entry test es))
      by_case true rest = all.1
      by_case false rest = (all.0, rest)

-- where a look-up finds nothing, no key passes
nothing_found : (test : Tuple → Bool) (es : List (Tuple × Closed)) → lookup test es ≡ None → AllByRecursion (λ e. test e.0 ≡ false) es
nothing_found test [] none = tt
nothing_found test (e ∷ es) none = ⊎_elim
    (λ passes. absurd (cc (sym (cond-true (test e.0) (Some e.1) (lookup test es) passes) ∙ none)))
    (λ fails. (fails, nothing_found test es (sym (cond-false (test e.0) (Some e.1) (lookup test es) fails) ∙ none)))
    (cases_Bool (test e.0))

values_All : (P : Closed → Type 0) (es : List (Tuple × Closed)) → AllByRecursion (λ e. P e.1) es → AllByRecursion P (values_of es)
values_All P [] all = tt
values_All P (e ∷ es) all = (all.0, values_All P es all.1)

entries_All : (P : Closed → Type 0) (es : List (Tuple × Closed)) → AllByRecursion P (values_of es) → AllByRecursion (λ e. P e.1) es
entries_All P [] all = tt
entries_All P (e ∷ es) all = (all.0, entries_All P es all.1)

value_at : (es : List (Tuple × Closed)) (i : ℕ) (k : Tuple) (c : Closed) → slice_get es i ≡ Some (k, c) → slice_get (values_of es) i ≡ Some c
value_at [] i k c at = absurd (cc at)
value_at (e ∷ es) zero k c at = ap (λ (p : Tuple × Closed). Some p.1) (same_Some e (k, c) at)
value_at (e ∷ es) (suc i) k c at = value_at es i k c at

second_part : (xs ys : List Closed) → AllByRecursion IsSmall (xs ++ ys) → AllByRecursion IsSmall ys
second_part [] ys all = all
second_part (x ∷ xs) ys all = second_part xs ys all.1

nothing_removed : (test : Tuple → Bool) (es : List (Tuple × Closed)) → AllByRecursion (λ e. test e.0 ≡ false) es → remove_entry test es ≡ es
nothing_removed test [] none = refl
nothing_removed test (e ∷ es) none = cond-false (test e.0) es (e ∷ remove_entry test es) none.0 ∙ ap (λ l. e ∷ l) (nothing_removed test es none.1)

pub removed_none : (test : Tuple → Bool) (es new : List (Tuple × Closed)) → lookup test es ≡ None → new ≡ remove_entry test es → new ≡ es
removed_none test es new none is = is ∙ nothing_removed test es (nothing_found test es none)

-- what holds of the records that are left
pub kept_by_remove : (test : Tuple → Bool) (es new : List (Tuple × Closed)) (coming : List Closed) → new ≡ remove_entry test es → All IsKeyed es → All IsSmall (values_of es ++ coming) → All IsKeyed new × All IsSmall (values_of new ++ coming)
kept_by_remove test es new coming is keyed small =
    let smalls : AllByRecursion IsSmall (values_of es ++ coming) = recursion_from_All IsSmall (values_of es ++ coming) small in (
      subst (All IsKeyed) (sym is) (All-from_recursion IsKeyed (remove_entry test es) (remove_All IsKeyed test es (recursion_from_All IsKeyed es keyed))),
      subst (λ l. All IsSmall (values_of l ++ coming)) (sym is)
          (All-from_recursion IsSmall (values_of (remove_entry test es) ++ coming)
          (append_All IsSmall (values_of (remove_entry test es)) coming
          (values_All IsSmall (remove_entry test es) (remove_All (λ e. IsSmall e.1) test es (entries_All IsSmall es (first_All IsSmall (values_of es) coming smalls))))
          (second_part (values_of es) coming smalls))),
    )

pub kept_by_pop : (es : List (Tuple × Closed)) (before coming : List Closed) (c : Closed) → before ≡ coming ++ c ∷ [] → AllByRecursion IsSmall (values_of es ++ before) → All IsSmall (values_of es ++ coming)
kept_by_pop es before coming c popped small =
    let parts : AllByRecursion IsSmall (values_of es ++ (coming ++ c ∷ [])) = subst (λ l. AllByRecursion IsSmall (values_of es ++ l)) popped small in
    All-from_recursion IsSmall (values_of es ++ coming) (append_All IsSmall (values_of es) coming (first_All IsSmall (values_of es) (coming ++ c ∷ []) parts)
    (first_All IsSmall coming (c ∷ []) (second_part (values_of es) (coming ++ c ∷ []) parts)))

pub popped_small : (es : List (Tuple × Closed)) (before coming : List Closed) (c : Closed) → before ≡ coming ++ c ∷ [] → AllByRecursion IsSmall (values_of es ++ before) → IsSmall c
popped_small es before coming c popped small =
    (second_part coming (c ∷ []) (second_part (values_of es) (coming ++ c ∷ []) (subst (λ l. AllByRecursion IsSmall (values_of es ++ l)) popped small))).0

module _ (family : Family) where
  -- What was put aside and what is still to come are, as often, the old ones, and the family is not among those put
  -- aside.
  pub record IsAside (old : List Closed) (entries : List (Tuple × Closed)) (coming : List Closed) : Type 0 where
    pub keyed : AllByRecursion IsKeyed entries
    pub small : AllByRecursion IsSmall (values_of entries ++ coming)
    pub same : (h : Closed → ℕ) → sum_by h (values_of entries ++ coming) ≡ sum_by h old
    pub others : AllByRecursion (λ e. e.1.family ≡ family → ⊥) entries

  -- a family whose key is not there is not there
  not_there : (k : Tuple) (es : List (Tuple × Closed)) → k.items ≡ least_of family → AllByRecursion IsKeyed es → AllByRecursion (λ e. is_at (by_items k) e.0 ≡ false) es → AllByRecursion (λ e. e.1.family ≡ family → ⊥) es
  not_there k [] key keyed none = tt
  not_there k (e ∷ es) key keyed none =
      ((λ is. true≢false (sym (equal_key k e.0 (key ∙ (ap least_of (sym is) ∙ sym keyed.0))) ∙ none.0)), not_there k es key keyed.1 none.1)

  pub aside_begins : (k : Tuple) (old : List Closed) (entries : List (Tuple × Closed)) (coming : List Closed) → k.items ≡ least_of family → values_of entries ++ coming ≡ old → AllByRecursion IsKeyed entries → AllByRecursion IsSmall (values_of entries ++ coming)
      → lookup (is_at (by_items k)) entries ≡ None → IsAside old entries coming
  aside_begins k old entries coming key are keyed small none = record {
    keyed = keyed;
    small = small;
    same = λ h. ap (sum_by h) are;
    others = not_there k entries key keyed (nothing_found (is_at (by_items k)) entries none);
  }

  -- one that was put aside is taken out
  pub aside_taken : (k : Tuple) (old : List Closed) (entries : List (Tuple × Closed)) (coming : List Closed) (c d : Closed) (i : ℕ) → k.items ≡ least_of family → values_of entries ++ coming ≡ old → AllByRecursion IsKeyed entries → AreApart old
      → slice_get old i ≡ Some d → d.family ≡ family → lookup (is_at (by_items k)) entries ≡ Some c → TakesOut family old (values_of (remove_entry (is_at (by_items k)) entries) ++ coming) c
  aside_taken k old entries coming c d i key are keyed apart at is found =
      let place = place_from_lookup (is_at (by_items k)) entries c found in
      let keys : place.1.items ≡ least_of c.family = at_All IsKeyed entries place.0 (place.1, c) keyed place.2 in
      let one : least_of c.family ≡ least_of family = sym keys ∙ (sym (key_equal k place.1 place.3) ∙ key) in
      let there : slice_get old place.0 ≡ Some c = subst (λ l. slice_get l place.0 ≡ Some c) are (get-left (values_of entries) coming place.0 c (value_at entries place.0 place.1 c place.2)) in
      let same : c ≡ d = one_place (has_least (least_of family)) old place.0 i c d (apart (least_of family)) there at (least_is (least_of family) c one) (least_is (least_of family) d (ap least_of is)) in
      record {
        is = ap (λ (e : Closed). e.family) same ∙ is;
        others = λ h. omega (
          arith,
          sum_by-append h (values_of (remove_entry (is_at (by_items k)) entries)) coming,
          sum_by-append h (values_of entries) coming,
          ap (sum_by h) are,
          sum_by-remove_entry h (is_at (by_items k)) entries,
          ap (λ o. unwrap_or (option_map h o) 0) found,
        );
      }

  -- the next one is the family's
  pub aside_next : (old : List Closed) (entries : List (Tuple × Closed)) (before coming : List Closed) (c : Closed) → before ≡ coming ++ c ∷ [] → c.family ≡ family → IsAside old entries before → TakesOut family old (values_of entries ++ coming) c
  aside_next old entries before coming c popped is it = record {
    is = is;
    others = λ h. omega (arith, it.same h, sum_by-append h (values_of entries) before, sum_by-append h (values_of entries) coming, ap (sum_by h) popped, sum_by-append h coming (c ∷ []), sum_by-cons h c []);
  }

  -- one that is not the family's is put aside
  pub aside_more : (k : Tuple) (old : List Closed) (entries : List (Tuple × Closed)) (before coming : List Closed) (c : Closed) → k.items ≡ least_of c.family → before ≡ coming ++ c ∷ [] → (c.family ≡ family → ⊥) → AreApart old
      → IsStrictlySortedBy by_items (keys_of entries) → IsAside old entries before → IsAside old (insert_entry by_items entries k c) coming
  aside_more k old entries before coming c key popped is_not apart ordered it =
      let parts : AllByRecursion IsSmall (values_of entries ++ (coming ++ c ∷ [])) = subst (λ l. AllByRecursion IsSmall (values_of entries ++ l)) popped it.small in
      let kept : AllByRecursion IsSmall (coming ++ c ∷ []) = second_part (values_of entries) (coming ++ c ∷ []) parts in record {
        keyed = insert_All IsKeyed k c (λ q at. sym (key_equal k q at) ∙ key) entries it.keyed;
        small = append_All IsSmall (values_of (insert_entry by_items entries k c)) coming
            (values_All IsSmall (insert_entry by_items entries k c) (insert_All (λ e. IsSmall e.1) k c (λ q at. (second_part coming (c ∷ []) kept).0) entries (entries_All IsSmall entries (first_All IsSmall (values_of entries) (coming ++ c ∷ []) parts))))
            (first_All IsSmall coming (c ∷ []) kept);
        same = λ h. omega (
          arith,
          it.same h,
          sum_by-append h (values_of (insert_entry by_items entries k c)) coming,
          sum_by-append h (values_of entries) before,
          ap (sum_by h) popped,
          sum_by-append h coming (c ∷ []),
          sum_by-cons h c [],
          sum_by-insert_entry h total entries k c ordered,
          ap (λ o. unwrap_or (option_map h o) 0) (absent (lookup (is_at (by_items k)) entries) refl),
        );
        others = insert_All (λ e. e.1.family ≡ family → ⊥) k c (λ q at. is_not) entries it.others;
      }
    where
      -- no other family has its least tuple
      absent : (o : Option Closed) → lookup (is_at (by_items k)) entries ≡ o → lookup (is_at (by_items k)) entries ≡ None
      absent None none = none
      absent (Some d) found =
          let place = place_from_lookup (is_at (by_items k)) entries d found in
          let one : least_of d.family ≡ least_of c.family = sym (at_All IsKeyed entries place.0 (place.1, d) it.keyed place.2) ∙ (sym (key_equal k place.1 place.3) ∙ key) in
          let aside = counted_at (has_least (least_of c.family)) (values_of entries) place.0 d (value_at entries place.0 place.1 d place.2) (least_is (least_of c.family) d one) in
          let all = it.same (λ e. one_if (has_least (least_of c.family) e)) in
          let few = apart (least_of c.family) in
          absurd (omega (
            arith,
            sum_by-append (λ e. one_if (has_least (least_of c.family) e)) (values_of entries) before,
            ap (sum_by (λ e. one_if (has_least (least_of c.family) e))) popped,
            sum_by-append (λ e. one_if (has_least (least_of c.family) e)) coming (c ∷ []),
            sum_by-cons (λ e. one_if (has_least (least_of c.family) e)) c [],
            ap one_if (least_is (least_of c.family) c refl),
          ))

  -- the family was there
  pub aside_ends : (old : List Closed) (entries : List (Tuple × Closed)) (coming : List Closed) (d : Closed) (i : ℕ) → coming ≡ [] → slice_get old i ≡ Some d → d.family ≡ family → IsAside old entries coming → ⊥
  aside_ends old entries coming d i none at is it =
      let test : Closed → Bool = λ c. same_family c.family family in
      let there = counted_at test old i d at (ap (λ f. same_family f family) is ∙ family_itself family) in
      let all = it.same (λ c. one_if (test c)) in
      omega (
        arith,
        sum_by-append (λ c. one_if (test c)) (values_of entries) coming,
        ap (sum_by (λ c. one_if (test c))) none,
        sum-zero (λ c. one_if (test c)) (values_of entries) (values_All (λ c. one_if (test c) ≡ 0) entries (each entries it.others)),
      )
    where
      differs : (b : Bool) → (b ≡ true → ⊥) → one_if b ≡ 0
      differs true never = absurd (never refl)
      differs false never = refl

      each : (es : List (Tuple × Closed)) → AllByRecursion (λ e. e.1.family ≡ family → ⊥) es → AllByRecursion (λ e. one_if (same_family e.1.family family) ≡ 0) es
      each [] others = tt
      each (e ∷ es) others = (differs (same_family e.1.family family) (λ same. others.0 (family_equal e.1.family family same)), each es others.1)
