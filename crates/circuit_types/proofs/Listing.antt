-- What holds of lists in which each cell stands after its sources, and of the order.
use Rattle.std.proofs.Common.{◌≡◌, ℕ, zero, suc, ◌+◌, ◌-◌, ◌<◌, ◌≤◌, ◌⊎◌, Bool, true, false, not, ◌&&◌, ◌||◌, ◌==◌, cond, List, [], ◌∷◌, ◌++◌, length, take, get_or, Option, Some, None, refl, sym, ap, ◌∙◌, subst, arith, true≢false, ⊎_elim}
use Rattle.std.specs.Option.{option_map_or}
use Rattle.std.specs.List.{find, list_any, list_all, range_with_len}
use Rattle.std.proofs.lemmas.Bool.{cases_Bool, cases_lt, cases_eq, cond-true, cond-false, and_parts, and_from, and_left, not-true, not_from_false, not-false, both_ways, or_left, or_right, or_parts, eq-eqb}
use Rattle.std.proofs.lemmas.List.{take-append-le, take_more, take_all, get_or_append_left, get_or-append_right, length_push}
use Rattle.circuit_types.specs.declared.nets.NetCell.{NetCell}
use Rattle.circuit_types.specs.declared.nets.Nets.{Nets}
use Rattle.circuit_types.specs.declared.nets.Source.{Source}
use Rattle.circuit_types.specs.declared.nets.Source.TheVariants as source
use Rattle.circuit_types.specs.DataSources.{cell_at}
use Rattle.circuit_types.specs.Order.{has, is_ready, may_be_next, next_cell, listed_after, order_of, StandsAfter, IsOrder, IsClosed, IsLeastClosed}
use Rattle.circuit_types.proofs.Ranges.{none_found, find_passes, find_fails, has-push, has-push_left, has-push_same, has-push_cases}

-- a source that is ready stays so when the set grows
ready_more : (done more : ℕ → Bool) → ((k : ℕ) → done k ≡ true → more k ≡ true) → (s : Source) → is_ready done s ≡ true → is_ready more s ≡ true
ready_more done more grows (source.Cell k) h = grows k h
ready_more done more grows (source.Input b) h = refl
ready_more done more grows source.Zero h = refl
ready_more done more grows source.One h = refl
ready_more done more grows source.Unknown h = refl
ready_more done more grows source.Missing h = refl

pub all_ready_more : (done more : ℕ → Bool) → ((k : ℕ) → done k ≡ true → more k ≡ true) → (ss : List Source) → list_all (is_ready done) ss ≡ true → list_all (is_ready more) ss ≡ true
all_ready_more done more grows [] h = refl
all_ready_more done more grows (s ∷ ss) h =
    let p = and_parts (is_ready done s) (list_all (is_ready done) ss) h in
    and_from (is_ready more s) (list_all (is_ready more) ss) (ready_more done more grows s p.0) (all_ready_more done more grows ss p.1)

module _ (reads : NetCell → List Source) (nets : Nets) where
  pub listed_after-none : (n : ℕ) (listed : List ℕ) → next_cell reads nets listed ≡ None → listed_after reads nets n listed ≡ listed
  listed_after-none zero listed none = refl
  listed_after-none (suc n) listed none = ap (λ o. option_map_or (λ k. listed_after reads nets n (listed ++ k ∷ [])) o listed) none

  pub listed_after-some : (n : ℕ) (listed : List ℕ) (k : ℕ) → next_cell reads nets listed ≡ Some k → listed_after reads nets (suc n) listed ≡ listed_after reads nets n (listed ++ k ∷ [])
  listed_after-some n listed k some = ap (λ o. option_map_or (λ k. listed_after reads nets n (listed ++ k ∷ [])) o listed) some

  -- what may be next
  next_is : (listed : List ℕ) (k : ℕ) → next_cell reads nets listed ≡ Some k → (k < length nets.cells) × (may_be_next reads nets (has listed) k ≡ true)
  next_is listed k is =
      let h = find_passes (may_be_next reads nets (has listed)) (length nets.cells) 0 k is in (omega (arith, h.1), h.2)

  empty_is_order : IsOrder reads nets []
  empty_is_order = record {
    within = λ k h. absurd (true≢false (sym h));
    once = λ i l. absurd (omega arith);
    after = λ i l. absurd (omega arith);
  }

  push_is_order : (listed : List ℕ) (k : ℕ) → k < length nets.cells → may_be_next reads nets (has listed) k ≡ true → IsOrder reads nets listed → IsOrder reads nets (listed ++ k ∷ [])
  push_is_order listed k lt next old =
      let parts = and_parts (not (has listed k)) (list_all (is_ready (has listed)) (reads (cell_at nets k))) next in
      let len : length (listed ++ k ∷ []) ≡ length listed + 1 = length_push listed k in
      record {
        within = λ j h. ⊎_elim (λ l. old.within j l) (λ e. subst (λ n. n < length nets.cells) e lt) (has-push_cases listed k j h);
        once = λ i l. ⊎_elim
            (λ before. at_before (λ t m. not (has t m) ≡ true) listed k i before (old.once i before))
            (λ ge. let e : length listed ≡ i = omega arith in subst (λ n. not (has (take n (listed ++ k ∷ [])) (get_or (listed ++ k ∷ []) n 0)) ≡ true) e (at_end (λ t m. not (has t m) ≡ true) listed k parts.0))
            (cases_lt i (length listed));
        after = λ i l. ⊎_elim
            (λ before. at_before (λ t m. list_all (is_ready (has t)) (reads (cell_at nets m)) ≡ true) listed k i before (old.after i before))
            (λ ge. let e : length listed ≡ i = omega arith in subst (λ n. list_all (is_ready (has (take n (listed ++ k ∷ [])))) (reads (cell_at nets (get_or (listed ++ k ∷ []) n 0))) ≡ true) e (at_end (λ t m. list_all (is_ready (has t)) (reads (cell_at nets m)) ≡ true) listed k parts.1))
            (cases_lt i (length listed));
      }
    where
      at_before : (P : List ℕ → ℕ → Type 0) (listed : List ℕ) (k i : ℕ) → i < length listed → P (take i listed) (get_or listed i 0) → P (take i (listed ++ k ∷ [])) (get_or (listed ++ k ∷ []) i 0)
      at_before P listed k i l h =
          let t : take i (listed ++ k ∷ []) ≡ take i listed = take-append-le i listed (k ∷ []) (omega arith) in
          let g : get_or (listed ++ k ∷ []) i 0 ≡ get_or listed i 0 = get_or_append_left listed (k ∷ []) 0 i l in
          subst (λ m. P (take i (listed ++ k ∷ [])) m) (sym g) (subst (λ xs. P xs (get_or listed i 0)) (sym t) h)

      at_end : (P : List ℕ → ℕ → Type 0) (listed : List ℕ) (k : ℕ) → P listed k → P (take (length listed) (listed ++ k ∷ [])) (get_or (listed ++ k ∷ []) (length listed) 0)
      at_end P listed k h =
          let t : take (length listed) (listed ++ k ∷ []) ≡ listed = take-append-le (length listed) listed (k ∷ []) (omega arith) ∙ take_all (length listed) listed (omega arith) in
          let z : length listed - length listed ≡ 0 = omega arith in
          let g : get_or (listed ++ k ∷ []) (length listed) 0 ≡ k = get_or-append_right listed (k ∷ []) (length listed) (length listed) 0 refl (omega arith) ∙ ap (λ n. get_or (k ∷ []) n 0) z in
          subst (λ m. P (take (length listed) (listed ++ k ∷ [])) m) (sym g) (subst (λ xs. P xs k) (sym t) h)

  listed_is_order : (n : ℕ) (listed : List ℕ) → IsOrder reads nets listed → IsOrder reads nets (listed_after reads nets n listed)
  listed_is_order zero listed old = old
  listed_is_order (suc n) listed old = go (λ more h. listed_is_order n more h) (next_cell reads nets listed) refl
    where
      go : ((more : List ℕ) → IsOrder reads nets more → IsOrder reads nets (listed_after reads nets n more)) → (o : Option ℕ) → next_cell reads nets listed ≡ o → IsOrder reads nets (option_map_or (λ k. listed_after reads nets n (listed ++ k ∷ [])) o listed)
      go rest None is = old
      go rest (Some k) is = let h = next_is listed k is in rest (listed ++ k ∷ []) (push_is_order listed k h.0 h.1 old)

  pub order_is_order : IsOrder reads nets (order_of reads nets)
  unfolding order_of
  order_is_order = listed_is_order (length nets.cells) [] empty_is_order

  listed_length : (n : ℕ) (listed : List ℕ) → length (listed_after reads nets n listed) ≤ length listed + n
  listed_length zero listed = omega arith
  listed_length (suc n) listed = go (λ more. listed_length n more) (next_cell reads nets listed)
    where
      go : ((more : List ℕ) → length (listed_after reads nets n more) ≤ length more + n) → (o : Option ℕ) → length (option_map_or (λ k. listed_after reads nets n (listed ++ k ∷ [])) o listed) ≤ length listed + suc n
      go rest None = omega arith
      go rest (Some k) = omega (arith, rest (listed ++ k ∷ []), length_push listed k)

  order_is : order_of reads nets ≡ listed_after reads nets (length nets.cells) []
  unfolding order_of
  order_is = refl

  pub order_length : length (order_of reads nets) ≤ length nets.cells
  order_length = let e : length (order_of reads nets) ≡ length (listed_after reads nets (length nets.cells) []) = ap length order_is in omega (arith, listed_length (length nets.cells) [])

  -- what a closed set holds of such a list
  pub closed_holds : (cells : List ℕ) (holds : ℕ → Bool) → ((k : ℕ) → has cells k ≡ true → k < length nets.cells) → StandsAfter reads nets cells → IsClosed reads nets holds → (i : ℕ) → i ≤ length cells → (k : ℕ) → has (take i cells) k ≡ true → holds k ≡ true
  closed_holds cells holds within after closed zero le k h = absurd (true≢false (sym h))
  closed_holds cells holds within after closed (suc i) le k h =
      let lt : i < length cells = omega arith in
      let more : take (suc i) cells ≡ take i cells ++ get_or cells i 0 ∷ [] = let e : suc i ≡ i + 1 = omega arith in ap (λ n. take n cells) e ∙ take_more cells i 0 lt in
      ⊎_elim
      (λ l. closed_holds cells holds within after closed i (omega arith) k l)
      (λ e. subst (λ n. holds n ≡ true) e
      (closed (get_or cells i 0) (within (get_or cells i 0) (has_at cells i lt))
      (all_ready_more (has (take i cells)) holds (λ j l. closed_holds cells holds within after closed i (omega arith) j l) (reads (cell_at nets (get_or cells i 0))) (after i lt))))
      (has-push_cases (take i cells) (get_or cells i 0) k (subst (λ xs. has xs k ≡ true) more h))
    where
      has_at : (xs : List ℕ) (i : ℕ) → i < length xs → has xs (get_or xs i 0) ≡ true
      has_at [] i l = absurd (omega arith)
      has_at (x ∷ xs) zero l = or_left (x == x) (has xs x) (eq-eqb x x refl)
      has_at (x ∷ xs) (suc i) l = or_right (x == get_or xs i 0) (has xs (get_or xs i 0)) (has_at xs i (omega arith))

-- how many numbers of a range are not in a list
module _ where
  sum_le : (a b c d : ℕ) → a ≤ c → b ≤ d → a + b ≤ c + d
  sum_le a b c d h k = omega arith

  sum_lt : (a b c d : ℕ) → a ≤ c → b < d → a + b < c + d
  sum_lt a b c d h k = omega arith

  lt_sum : (a b c d : ℕ) → a < c → b ≤ d → a + b < c + d
  lt_sum a b c d h k = omega arith

  both_zero : (a b : ℕ) → a + b ≡ 0 → (a ≡ 0) × (b ≡ 0)
  both_zero a b e = (omega arith, omega arith)

  apart : (a b : ℕ) → a ≡ b → a < b → ⊥
  apart a b e l = omega arith

  zero_one : (a b : ℕ) → a ≡ 0 → b ≡ 1 → a < b
  zero_one a b h k = omega arith

  one_le : (b : Bool) → cond b 0 1 ≤ 1
  one_le true = omega arith
  one_le false = omega arith

  one_mono : (a b : Bool) → (a ≡ true → b ≡ true) → cond b 0 1 ≤ cond a 0 1
  one_mono a true h = omega arith
  one_mono false false h = omega arith
  one_mono true false h = absurd (true≢false (sym (h refl)))

  left : List ℕ → ℕ → ℕ → ℕ
  left listed s zero = 0
  left listed s (suc m) = cond (has listed s) 0 1 + left listed (s + 1) m

  left_le : (listed : List ℕ) (m s : ℕ) → left listed s m ≤ m
  unfolding left
  left_le listed zero s = omega arith
  left_le listed (suc m) s = omega (arith, sum_le _ _ _ _ (one_le (has listed s)) (left_le listed m (s + 1)))

  left_zero : (listed : List ℕ) (m s : ℕ) → left listed s m ≡ 0 → (j : ℕ) → s ≤ j → j < s + m → has listed j ≡ true
  unfolding left
  left_zero listed zero s none j le lt = absurd (omega arith)
  left_zero listed (suc m) s none j le lt =
      let parts = both_zero (cond (has listed s) 0 1) (left listed (s + 1) m) none in
      ⊎_elim
      (λ same. subst (λ n. has listed n ≡ true) same
      (⊎_elim (λ t. t) (λ f. absurd (apart 0 1 (sym parts.0 ∙ cond-false (has listed s) 0 1 f) (omega arith))) (cases_Bool (has listed s))))
      (λ other. left_zero listed m (s + 1) parts.1 j (omega arith) (omega arith))
      (cases_eq s j)

  left_mono : (listed : List ℕ) (k m s : ℕ) → left (listed ++ k ∷ []) s m ≤ left listed s m
  unfolding left
  left_mono listed k zero s = omega arith
  left_mono listed k (suc m) s = sum_le _ _ _ _ (one_mono (has listed s) (has (listed ++ k ∷ []) s) (has-push_left listed k s)) (left_mono listed k m (s + 1))

  left_less : (listed : List ℕ) (k m s : ℕ) → s ≤ k → k < s + m → has listed k ≡ false → left (listed ++ k ∷ []) s m < left listed s m
  unfolding left
  left_less listed k zero s le lt f = absurd (omega arith)
  left_less listed k (suc m) s le lt f =
      ⊎_elim
      (λ same.
      let a : cond (has (listed ++ k ∷ []) s) 0 1 ≡ 0 = cond-true (has (listed ++ k ∷ []) s) 0 1 (subst (λ n. has (listed ++ k ∷ []) n ≡ true) (sym same) (has-push_same listed k)) in
      let b : cond (has listed s) 0 1 ≡ 1 = cond-false (has listed s) 0 1 (subst (λ n. has listed n ≡ false) (sym same) f) in
      lt_sum _ _ _ _ (zero_one _ _ a b) (left_mono listed k m (s + 1)))
      (λ other. sum_lt _ _ _ _ (one_mono (has listed s) (has (listed ++ k ∷ []) s) (has-push_left listed k s)) (left_less listed k m (s + 1) (omega arith) (omega arith) f))
      (cases_eq s k)

module _ (reads : NetCell → List Source) (nets : Nets) where
  unlisted_next : (listed : List ℕ) (k : ℕ) → may_be_next reads nets (has listed) k ≡ true → has listed k ≡ false
  unlisted_next listed k h = not-true (has listed k) (and_parts (not (has listed k)) (list_all (is_ready (has listed)) (reads (cell_at nets k))) h).0

  saturates : (n : ℕ) (listed : List ℕ) → left listed 0 (length nets.cells) ≤ n → next_cell reads nets (listed_after reads nets n listed) ≡ None
  saturates zero listed few =
      none_found (may_be_next reads nets (has listed)) (length nets.cells) 0 (λ j le lt.
      and_left (not (has listed j)) (list_all (is_ready (has listed)) (reads (cell_at nets j)))
      (ap not (left_zero listed (length nets.cells) 0 (omega arith) j le lt)))
  saturates (suc n) listed few = go (λ more h. saturates n more h) (next_cell reads nets listed) refl
    where
      go : ((more : List ℕ) → left more 0 (length nets.cells) ≤ n → next_cell reads nets (listed_after reads nets n more) ≡ None) → (o : Option ℕ) → next_cell reads nets listed ≡ o → next_cell reads nets (option_map_or (λ k. listed_after reads nets n (listed ++ k ∷ [])) o listed) ≡ None
      go rest None is = is
      go rest (Some k) is =
          let h = next_is reads nets listed k is in
          let less = left_less listed k (length nets.cells) 0 (omega arith) (omega (arith, h.0)) (unlisted_next listed k h.1) in
          rest (listed ++ k ∷ []) (omega (arith, less))

  order_is_full : next_cell reads nets (order_of reads nets) ≡ None
  order_is_full = subst (λ xs. next_cell reads nets xs ≡ None) (sym (order_is reads nets)) (saturates (length nets.cells) [] (left_le [] (length nets.cells) 0))

  order_is_closed : IsClosed reads nets (has (order_of reads nets))
  order_is_closed k lt ready =
      let none = find_fails (may_be_next reads nets (has (order_of reads nets))) (length nets.cells) 0 order_is_full k (omega arith) (omega arith) in
      ⊎_elim
      (λ t. t)
      (λ f. absurd (both_ways (may_be_next reads nets (has (order_of reads nets)) k) none
      (and_from (not (has (order_of reads nets) k)) (list_all (is_ready (has (order_of reads nets))) (reads (cell_at nets k))) (ap not f) ready)))
      (cases_Bool (has (order_of reads nets) k))

  pub order_is_least : IsLeastClosed reads nets (has (order_of reads nets))
  order_is_least = record {
    closed = order_is_closed;
    least = λ other closed k h.
        let order = order_is_order reads nets in
        closed_holds reads nets (order_of reads nets) other order.within order.after closed (length (order_of reads nets)) (omega arith) k
        (subst (λ xs. has xs k ≡ true) (sym (take_all (length (order_of reads nets)) (order_of reads nets) (omega arith))) h);
  }
