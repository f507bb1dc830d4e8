-- Pairs and crossings are of the shares that there are.
use Rattle.std.proofs.Common.{◌≡◌, ℕ, ◌<◌, if◌then◌else◌, true, List, [], ◌∷◌, nat_lt, ltb-true}
use Rattle.std.proofs.lemmas.Bool.{cond_both}
use Rattle.gadget_maker.specs.Gadget.{shares_below, pair, row_of_pairs, pairs, pair_count, pair_number, crossing, crossings_at, row_of_crossings, crossings}
use Rattle.gadget_maker.specs.declared.pairs.Pair.{Pair}
use Rattle.gadget_maker.specs.declared.pairs.Crossing.{Crossing}
use Rattle.gadget_maker.proofs.Each.{Each, each_flat, each_below}
use Rattle.gadget_maker.proofs.Numbering.{random_within}

pub record IsPair (d : ℕ) (p : Pair) : Type 0 where
  pub first : p.first < d
  pub second : p.second < d

pub record IsCrossing (d : ℕ) (x : Crossing) : Type 0 where
  pub first : x.first < d
  pub second : x.second < d
  pub random : x.random < pair_count d

in_row : (d i : ℕ) → i < d → Each (IsPair d) (row_of_pairs d i)
in_row d i low =
    each_flat (λ j. j < d) (IsPair d) (λ j. pair i j ∷ []) (λ j high. (record { first = low; second = high }, tt)) (shares_below d) (each_below d)

pub pairs_within : (d : ℕ) → Each (IsPair d) (pairs d)
unfolding pairs
pairs_within d = each_flat (λ i. i < d) (IsPair d) (row_of_pairs d) (in_row d) (shares_below d) (each_below d)

at_both : (d i j : ℕ) → i < d → j < d → Each (IsCrossing d) (crossings_at d i j)
at_both d i j low high =
    let up : Crossing = crossing i j (pair_number d i j) in
    let down : Crossing = crossing i j (pair_number d j i) in
    cond_both (nat_lt i j) (up ∷ []) (if nat_lt j i then down ∷ [] else []) (Each (IsCrossing d))
    (λ e. (record { first = low; second = high; random = random_within d i j (ltb-true i j e) high }, tt))
    (λ e.
    cond_both (nat_lt j i) (down ∷ []) [] (Each (IsCrossing d))
    (λ f. (record { first = low; second = high; random = random_within d j i (ltb-true j i f) low }, tt))
    (λ f. tt))

in_crossing_row : (d i : ℕ) → i < d → Each (IsCrossing d) (row_of_crossings d i)
in_crossing_row d i low = each_flat (λ j. j < d) (IsCrossing d) (crossings_at d i) (λ j high. at_both d i j low high) (shares_below d) (each_below d)

pub crossings_within : (d : ℕ) → Each (IsCrossing d) (crossings d)
unfolding crossings
crossings_within d = each_flat (λ i. i < d) (IsCrossing d) (row_of_crossings d) (in_crossing_row d) (shares_below d) (each_below d)
