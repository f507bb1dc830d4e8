-- What is found of a source, going back through cells that stand after their sources.
use Rattle.std.proofs.Common.{◌≡◌, ℕ, zero, suc, ◌+◌, ◌<◌, ◌≤◌, ◌⊎◌, Bool, true, false, ◌&&◌, List, [], ◌∷◌, ◌++◌, length, map, take, get_or, refl, sym, ap, ◌∙◌, subst, arith, true≢false, ⊎_elim}
use Rattle.std.specs.List.{list_all}
use Rattle.std.proofs.lemmas.Bool.{and_parts}
use Rattle.std.proofs.lemmas.List.{take_more, take_all}
use Rattle.circuit_types.specs.declared.nets.NetCell.{NetCell}
use Rattle.circuit_types.specs.declared.nets.Nets.{Nets}
use Rattle.circuit_types.specs.declared.nets.Source.{Source}
use Rattle.circuit_types.specs.declared.nets.Source.TheVariants as source
use Rattle.circuit_types.specs.DataSources.{cell_at}
use Rattle.circuit_types.specs.Found.{at_source, found_within, found}
use Rattle.circuit_types.specs.Order.{has, is_ready, StandsAfter}
use Rattle.circuit_types.proofs.Ranges.{has-push_cases}

module _ {V : Type 0} (leaf : Source → V) (of_cell : ℕ → List V → V) (reads : NetCell → List Source) (nets : Nets) where
  -- a source that is no cell is found at once
  leaf_within : (s : Source) → ((f : ℕ → V) (g : Source → V) → at_source f g s ≡ g s) → (m : ℕ) → found_within leaf of_cell reads nets m s ≡ leaf s
  leaf_within s is zero = refl
  leaf_within s is (suc m) = is (λ k. of_cell k (map (found_within leaf of_cell reads nets m) (reads (cell_at nets k)))) leaf

  pub found_leaf : (s : Source) → ((f : ℕ → V) (g : Source → V) → at_source f g s ≡ g s) → found leaf of_cell reads nets s ≡ leaf s
  unfolding found
  found_leaf s is = leaf_within s is (length nets.cells)

  -- two depths find the same of a source that is ready, where they do so of the cells of the set
  ready_same : (done : ℕ → Bool) (m n : ℕ)
      → ((k : ℕ) → done k ≡ true → found_within leaf of_cell reads nets m (source.Cell k) ≡ found_within leaf of_cell reads nets n (source.Cell k))
      → (s : Source) → is_ready done s ≡ true → found_within leaf of_cell reads nets m s ≡ found_within leaf of_cell reads nets n s
  ready_same done m n same (source.Cell k) h = same k h
  ready_same done m n same (source.Input b) h = leaf_within (source.Input b) (λ f g. refl) m ∙ sym (leaf_within (source.Input b) (λ f g. refl) n)
  ready_same done m n same source.Zero h = leaf_within source.Zero (λ f g. refl) m ∙ sym (leaf_within source.Zero (λ f g. refl) n)
  ready_same done m n same source.One h = leaf_within source.One (λ f g. refl) m ∙ sym (leaf_within source.One (λ f g. refl) n)
  ready_same done m n same source.Unknown h = leaf_within source.Unknown (λ f g. refl) m ∙ sym (leaf_within source.Unknown (λ f g. refl) n)
  ready_same done m n same source.Missing h = leaf_within source.Missing (λ f g. refl) m ∙ sym (leaf_within source.Missing (λ f g. refl) n)

  all_same : (done : ℕ → Bool) (m n : ℕ)
      → ((k : ℕ) → done k ≡ true → found_within leaf of_cell reads nets m (source.Cell k) ≡ found_within leaf of_cell reads nets n (source.Cell k))
      → (ss : List Source) → list_all (is_ready done) ss ≡ true → map (found_within leaf of_cell reads nets m) ss ≡ map (found_within leaf of_cell reads nets n) ss
  all_same done m n same [] h = refl
  all_same done m n same (s ∷ ss) h =
      let p = and_parts (is_ready done s) (list_all (is_ready done) ss) h in
      let a = ready_same done m n same s p.0 in
      let b = all_same done m n same ss p.1 in
      cc

  -- of the first i cells each depth of at least i finds the same
  depth_same : (cells : List ℕ) → StandsAfter reads nets cells → (i : ℕ) → i ≤ length cells → (k : ℕ) → has (take i cells) k ≡ true → (m n : ℕ) → i ≤ m → i ≤ n
      → found_within leaf of_cell reads nets m (source.Cell k) ≡ found_within leaf of_cell reads nets n (source.Cell k)
  depth_same cells after zero le k h m n a b = absurd (true≢false (sym h))
  depth_same cells after (suc i) le k h zero n a b = absurd (omega arith)
  depth_same cells after (suc i) le k h (suc m) zero a b = absurd (omega arith)
  depth_same cells after (suc i) le k h (suc m) (suc n) a b =
      let lt : i < length cells = omega arith in
      let next : suc i ≡ i + 1 = omega arith in
      let more : take (suc i) cells ≡ take i cells ++ get_or cells i 0 ∷ [] = ap (λ j. take j cells) next ∙ take_more cells i 0 lt in
      ⊎_elim
      (λ l. depth_same cells after i (omega arith) k l (suc m) (suc n) (omega arith) (omega arith))
      (λ e.
      let ready = subst (λ j. list_all (is_ready (has (take i cells))) (reads (cell_at nets j)) ≡ true) e (after i lt) in
      ap (of_cell k) (all_same (has (take i cells)) m n (λ j l. depth_same cells after i (omega arith) j l m n (omega arith) (omega arith)) (reads (cell_at nets k)) ready))
      (has-push_cases (take i cells) (get_or cells i 0) k (subst (λ xs. has xs k ≡ true) more h))

  pub found_cell : (cells : List ℕ) → StandsAfter reads nets cells → length cells ≤ length nets.cells → (k : ℕ) → has cells k ≡ true
      → found leaf of_cell reads nets (source.Cell k) ≡ of_cell k (map (found leaf of_cell reads nets) (reads (cell_at nets k)))
  unfolding found
  found_cell cells after few k h =
      depth_same cells after (length cells) (omega arith) k
      (subst (λ xs. has xs k ≡ true) (sym (take_all (length cells) cells (omega arith))) h)
      (length nets.cells) (suc (length nets.cells)) few (omega arith)
