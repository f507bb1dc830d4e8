-- The first tuple that is not proved, by ranks.
use Rattle.std.proofs.Common.{◌≡◌, ℕ, zero, suc, ◌<◌, ◌≤◌, Bool, true, false, not, List, [], ◌∷◌, length, refl, ap, sym, ◌∙◌, arith, None, Some, ⊎_elim}
use Rattle.std.proofs.lemmas.Bool.{cases_Bool, cases_lt, cond-true, cond-false, true≢false}
use Rattle.std.proofs.lemmas.Option.{same_Some}
use Rattle.std.specs.List.{find, slice_get}
use Rattle.expr_table.specs.declared.instance.Instance.{Instance}
use Rattle.once_random.specs.Tuples.{is_proved}
use Rattle.tuple_rank.specs.Tuples.{IsTuple, rank_of, tuples}
use Rattle.tuple_rank.proofs.Order.{contains_at, rank-at, rank_is_place, rank_keeps_order, tuples_are_all}
use Rattle.frontier_core.specs.First.{AreAllProved, IsFirstUnproved}
use Rattle.frontier_core.specs.Tree.{first_of}

-- where none passes
find_nothing : {X : Type 0} (p : X → Bool) (xs : List X) → ((k : ℕ) (w : X) → slice_get xs k ≡ Some w → p w ≡ false) → find p xs ≡ None
find_nothing p [] none = refl
find_nothing p (y ∷ ys) none = cond-false (p y) (Some y) (find p ys) (none 0 y refl) ∙ find_nothing p ys (λ k w at. none (suc k) w at)

-- where one passes and none before it
find_place : {X : Type 0} (p : X → Bool) (xs : List X) (i : ℕ) (v : X) → slice_get xs i ≡ Some v → p v ≡ true → ((k : ℕ) (w : X) → k < i → slice_get xs k ≡ Some w → p w ≡ false) → find p xs ≡ Some v
find_place p [] i v at passes before = absurd (cc at)
find_place p (y ∷ ys) zero v at passes before = let e : y ≡ v = same_Some y v at in cond-true (p y) (Some y) (find p ys) (ap p e ∙ passes) ∙ ap (λ z. Some z) e
find_place p (y ∷ ys) (suc i) v at passes before =
    cond-false (p y) (Some y) (find p ys) (before 0 y (omega arith) refl)
    ∙ find_place p ys i v at passes (λ k w lt at'. before (suc k) w (omega arith) at')

-- where none is found
found_nothing : {X : Type 0} (p : X → Bool) (xs : List X) → find p xs ≡ None → (k : ℕ) (w : X) → slice_get xs k ≡ Some w → p w ≡ false
found_nothing p [] none k w at = absurd (cc at)
found_nothing p (y ∷ ys) none zero w at = ⊎_elim
    (λ passes. absurd (cc (sym (cond-true (p y) (Some y) (find p ys) passes) ∙ none)))
    (λ fails. ap p (sym (same_Some y w at)) ∙ fails)
    (cases_Bool (p y))
found_nothing p (y ∷ ys) none (suc k) w at = ⊎_elim
    (λ passes. absurd (cc (sym (cond-true (p y) (Some y) (find p ys) passes) ∙ none)))
    (λ fails. found_nothing p ys (sym (cond-false (p y) (Some y) (find p ys) fails) ∙ none) k w at)
    (cases_Bool (p y))

-- where one is found
record IsFound {X : Type 0} (p : X → Bool) (xs : List X) (v : X) : Type 0 where
  place : ℕ
  there : slice_get xs place ≡ Some v
  passes : p v ≡ true
  before : (k : ℕ) (w : X) → k < place → slice_get xs k ≡ Some w → p w ≡ false

none_before : {X : Type 0} (p : X → Bool) (y : X) (ys : List X) (i : ℕ) → p y ≡ false → ((k : ℕ) (w : X) → k < i → slice_get ys k ≡ Some w → p w ≡ false)
    → (k : ℕ) (w : X) → k < suc i → slice_get (y ∷ ys) k ≡ Some w → p w ≡ false
none_before p y ys i fails rest zero w lt at = ap p (sym (same_Some y w at)) ∙ fails
none_before p y ys i fails rest (suc k) w lt at = rest k w (omega arith) at

found_one : {X : Type 0} (p : X → Bool) (xs : List X) (v : X) → find p xs ≡ Some v → IsFound p xs v
found_one p [] v found = absurd (cc found)
found_one p (y ∷ ys) v found = ⊎_elim
    (λ passes. let e : y ≡ v = same_Some y v (sym (cond-true (p y) (Some y) (find p ys) passes) ∙ found) in record {
      place = 0;
      there = ap (λ z. Some z) e;
      passes = ap p (sym e) ∙ passes;
      before = λ k w lt at. absurd (omega (arith, lt));
    })
    (λ fails. let rest : IsFound p ys v = found_one p ys v (sym (cond-false (p y) (Some y) (find p ys) fails) ∙ found) in record {
      place = suc rest.place;
      there = rest.there;
      passes = rest.passes;
      before = none_before p y ys rest.place fails rest.before;
    })
    (cases_Bool (p y))

not_not : (b : Bool) → not b ≡ false → b ≡ true
not_not true is = refl
not_not false is = absurd (true≢false is)

not_so : (b : Bool) → not b ≡ true → b ≡ false
not_so true is = absurd (true≢false (sym is))
not_so false is = refl

module _ (x : Instance) (t : ℕ) where
  at_is_tuple : (k : ℕ) (w : List ℕ) → slice_get (tuples (length x.probes) t) k ≡ Some w → IsTuple (length x.probes) t w
  at_is_tuple k w at = (tuples_are_all (length x.probes) t w).1 (contains_at (tuples (length x.probes) t) k w at)

  -- where every tuple is proved
  pub none_fails : ((tuple : List ℕ) → IsTuple (length x.probes) t tuple → is_proved x tuple ≡ true) → first_of x t ≡ None
  none_fails all = find_nothing (λ tuple. not (is_proved x tuple)) (tuples (length x.probes) t) (λ k w at. ap not (all w (at_is_tuple k w at)))

  -- the one of least rank that is not proved
  pub first_fails : (tuple : List ℕ) → IsTuple (length x.probes) t tuple → is_proved x tuple ≡ false → ((other : List ℕ) → IsTuple (length x.probes) t other → is_proved x other ≡ false → rank_of (length x.probes) t tuple ≤ rank_of (length x.probes) t other) → first_of x t ≡ Some tuple
  first_fails tuple is fails least =
      find_place (λ other. not (is_proved x other)) (tuples (length x.probes) t) (rank_of (length x.probes) t tuple) tuple
      ((rank_is_place (length x.probes) t tuple (rank_of (length x.probes) t tuple) is).1 refl) (ap not fails)
      (λ k w lt at. ⊎_elim (λ passes. ap not passes)
      (λ fails_too. let least_one = least w (at_is_tuple k w at) fails_too in let place = rank-at (length x.probes) t k w at in absurd (omega arith))
      (cases_Bool (is_proved x w)))

  -- what it means that none is first
  pub none_says : first_of x t ≡ None → AreAllProved x t
  none_says none tuple is = not_not (is_proved x tuple)
      (found_nothing (λ other. not (is_proved x other)) (tuples (length x.probes) t) none (rank_of (length x.probes) t tuple) tuple
      ((rank_is_place (length x.probes) t tuple (rank_of (length x.probes) t tuple) is).1 refl))

  -- and that one is
  pub some_says : (tuple : List ℕ) → first_of x t ≡ Some tuple → IsFirstUnproved x t tuple
  some_says tuple first =
      let found : IsFound (λ other. not (is_proved x other)) (tuples (length x.probes) t) tuple = found_one (λ other. not (is_proved x other)) (tuples (length x.probes) t) tuple first in
      let is : IsTuple (length x.probes) t tuple = at_is_tuple found.place tuple found.there in record {
        is = is;
        fails = not_so (is_proved x tuple) found.passes;
        before = λ other is_other comes. not_not (is_proved x other)
            (found.before (rank_of (length x.probes) t other) other
            (let lt = (rank_keeps_order (length x.probes) t other tuple is_other is).0 comes in let place = rank-at (length x.probes) t found.place tuple found.there in omega arith)
            ((rank_is_place (length x.probes) t other (rank_of (length x.probes) t other) is_other).1 refl));
      }

  pub first_is : (tuple : List ℕ) → IsFirstUnproved x t tuple → first_of x t ≡ Some tuple
  first_is tuple first = first_fails tuple first.is first.fails (λ other is_other fails. ⊎_elim
      (λ lt. absurd (true≢false (sym (first.before other is_other ((rank_keeps_order (length x.probes) t other tuple is_other first.is).1 lt)) ∙ fails)))
      (λ le. le)
      (cases_lt (rank_of (length x.probes) t other) (rank_of (length x.probes) t tuple)))
