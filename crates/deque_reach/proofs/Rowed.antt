-- Rows of lanes while the deques are made.
use Rattle.std.proofs.Common.{◌≡◌, ℕ, ◌+◌, ◌-◌, ◌<◌, ◌≤◌, List, Vec, length, get_or, set, sym, ap, ◌∙◌, subst, ⊎_elim, arith, get_or-set_same, get_or-set_other}
use Rattle.std.proofs.lemmas.Bool.{cases_lt}
use Rattle.std.specs.Global.{Global}
use Rattle.crossbeam_deque.specs.Handles.{worker_view}
use Rattle.deque_reach.specs.declared.pass_view.PassView.{PassView}
use Rattle.deque_reach.specs.declared.lane.Lane.{Lane}
use Rattle.deque_reach.specs.Lanes.{IsLaneTo}
use Rattle.deque_reach.specs.Rows.{Owner, GivesParts, IsNewLane, GainsLane}

pub gave_more : (n : ℕ) (a b c : Owner) → GivesParts n a b → GivesParts 1 b c → GivesParts (n + 1) a c
gave_more n a b c p q = record {
  deque = q.deque ∙ p.deque;
  flavor = q.flavor ∙ p.flavor;
  view =
      let less : PassView → PassView = λ v. record v { parts = v.parts - 1 } in
      let with : ℕ → PassView = λ k. record (worker_view a) { parts = k } in
      q.view ∙ ap less p.view ∙ ap with (omega arith);
}

-- the owner is the same, but for its parts
pub gains_from : (n : ℕ) (a b : Owner) (old new : Vec Lane Global) → GivesParts n a b → GainsLane b old new → GainsLane a old new
gains_from n a b old new p g = record {
  lane = g.lane;
  items = g.items;
  deque = subst (λ d. IsLaneTo d g.lane) p.deque g.deque;
  is_new = subst (λ (v : ℕ × ℕ). IsNewLane v.0 v.1 g.lane) (λ i. (ap (λ v. v.probes) p.view i, ap (λ v. v.order) p.view i)) g.is_new;
}

module _ {X : Type 0} where
  -- one more element of the second list stands to that of the first as it should
  pub each_more : (R : X → X → Type 0) (xs ys : List X) (i : ℕ) (y : X) → i < length ys → ((k : ℕ) (d : X) → k < i → R (get_or xs k d) (get_or ys k d)) → ((d : X) → R (get_or xs i d) y)
      → (k : ℕ) (d : X) → k < i + 1 → R (get_or xs k d) (get_or (set ys i y) k d)
  each_more R xs ys i y low before here k d below = ⊎_elim
      (λ (less : k < i). subst (R (get_or xs k d)) (sym (get_or-set_other ys i k y d (λ e. omega arith))) (before k d less))
      (λ (more : i ≤ k).
      let is : i ≡ k = omega arith in
      subst (λ j. R (get_or xs j d) (get_or (set ys i y) j d)) is (subst (R (get_or xs i d)) (sym (get_or-set_same ys i y d low)) (here d)))
      (cases_lt k i)

  pub rest_same : (xs ys : List X) (i : ℕ) (y : X) → ((k : ℕ) (d : X) → i < k + 1 → get_or ys k d ≡ get_or xs k d) → (k : ℕ) (d : X) → i + 1 < k + 1 → get_or (set ys i y) k d ≡ get_or xs k d
  rest_same xs ys i y rest k d above = get_or-set_other ys i k y d (λ e. omega arith) ∙ rest k d (omega arith)
