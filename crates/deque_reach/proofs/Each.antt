-- Each deque while all are drained, one after the other: what its owner pushed is what was taken there and what was left.
use Rattle.std.proofs.Common.{◌≡◌, ℕ, zero, suc, ◌+◌, List, [], ◌∷◌, ◌++◌, length, map, drop, sum_by, slice_index_or, sym, refl, ap, ◌∙◌, subst, arith, length-append, append_assoc, append-nil}
use Rattle.std.specs.List.{flat_map}
use Rattle.std.proofs.lemmas.List.Sums.{sum_by-append}
use Rattle.std.proofs.lemmas.List.Concat.{flat_map-append}
use Rattle.std.proofs.lemmas.List.Folds.{flat_map-map}
use Rattle.crossbeam_deque.specs.Handles.{worker_view}
use Rattle.probe_family.specs.declared.family.Family.{Family}
use Rattle.probe_family.specs.Often.{AsOften}
use Rattle.deque_reach.specs.declared.lane.Lane.{Lane}
use Rattle.deque_reach.specs.declared.reach.Reach.{Reach}
use Rattle.deque_reach.specs.Lanes.{taken_by}
use Rattle.deque_reach.specs.Rows.{Owner}
use Rattle.deque_reach.specs.Ends.{others, first_taken, JoinsFirsts, Drains}
use Rattle.deque_reach.specs.Reaches.{AreLeftFrom, IsLeftInEach, stolen_from}

-- what was stolen with the lanes of a number
abbrev pub column : List (List Lane) → ℕ → List Family
column lanes k = flat_map (λ row. slice_index_or (map taken_by row) k []) lanes

-- owners and what was left in their deques, the first of which has this number
abbrev EachFrom : List (List Lane) → ℕ → List Owner → List (List Family) → Type 0
EachFrom lanes k [] [] = Unit {0}
EachFrom lanes k (o ∷ os) (l ∷ ls) =
    AsOften (worker_view o).pushed ((worker_view o).taken ++ (column lanes k ++ l)) × EachFrom lanes (suc k) os ls
EachFrom lanes k [] (l ∷ ls) = ⊥
EachFrom lanes k (o ∷ os) [] = ⊥

-- of all owners these wait, the deques of the others were drained, and the rows lack the lanes to those
pub record Emptied (all owners : List Owner) (lanes rows : List (List Lane)) (left : List Family) : Type 0 where
  pub done : List Owner
  pub lefts : List (List Family)
  pub owners_are : all ≡ done ++ owners
  pub rows_are : rows ≡ map (drop (length done)) lanes
  pub left_is : left ≡ flat_map (λ l. l) lefts
  pub each : EachFrom lanes 0 done lefts

drop_none : (lanes : List (List Lane)) → lanes ≡ map (drop 0) lanes
drop_none [] = refl
drop_none (row ∷ rows) = ap (λ l. row ∷ l) (drop_none rows)

-- the lane after those that are dropped
others_drop : (n : ℕ) (row : List Lane) → others (drop n row) ≡ drop (suc n) row
others_drop zero [] = refl
others_drop zero (l ∷ ls) = refl
others_drop (suc n) [] = refl
others_drop (suc n) (l ∷ ls) = others_drop n ls

all_others : (n : ℕ) (lanes : List (List Lane)) → map others (map (drop n) lanes) ≡ map (drop (suc n)) lanes
all_others n [] = refl
all_others n (row ∷ rows) = ap (λ l. l ∷ map others (map (drop n) rows)) (others_drop n row) ∙ ap (λ l. drop (suc n) row ∷ l) (all_others n rows)

first_at : (n : ℕ) (row : List Lane) → first_taken (drop n row) ≡ slice_index_or (map taken_by row) n []
first_at zero [] = refl
first_at zero (l ∷ ls) = refl
first_at (suc n) [] = refl
first_at (suc n) (l ∷ ls) = first_at n ls

firsts_at : (n : ℕ) (lanes : List (List Lane)) → flat_map first_taken (map (drop n) lanes) ≡ column lanes n
firsts_at n [] = refl
firsts_at n (row ∷ rows) = ap (λ l. l ++ flat_map first_taken (map (drop n) rows)) (first_at n row) ∙ ap (λ l. slice_index_or (map taken_by row) n [] ++ l) (firsts_at n rows)

each_more : (lanes : List (List Lane)) (k m : ℕ) (o : Owner) (rest : List Family) (os : List Owner) (ls : List (List Family)) → m ≡ k + length os → EachFrom lanes k os ls
    → AsOften (worker_view o).pushed ((worker_view o).taken ++ (column lanes m ++ rest)) → EachFrom lanes k (os ++ o ∷ []) (ls ++ rest ∷ [])
each_more lanes k m o rest [] [] e each one =
    let same : m ≡ k = omega (arith, e) in (subst (λ n. AsOften (worker_view o).pushed ((worker_view o).taken ++ (column lanes n ++ rest))) same one, tt)
each_more lanes k m o rest [] (l ∷ ls) e each one = absurd each
each_more lanes k m o rest (p ∷ os) [] e each one = absurd each
each_more lanes k m o rest (p ∷ os) (l ∷ ls) e each one = (each.0, each_more lanes (suc k) m o rest os ls (omega (arith, e)) each.1 one)

pub none_emptied : (all : List Owner) (lanes : List (List Lane)) → Emptied all all lanes lanes []
none_emptied all lanes = record { done = []; lefts = []; owners_are = refl; rows_are = drop_none lanes; left_is = refl; each = tt }

module _ (all : List Owner) (lanes : List (List Lane)) where
  pub emptied_as : (os os' : List Owner) (rows rows' : List (List Lane)) (left left' : List Family) → os ≡ os' → rows ≡ rows' → left ≡ left' → Emptied all os lanes rows left → Emptied all os' lanes rows' left'
  emptied_as os os' rows rows' left left' a b c d = subst (λ (p : List Owner × List (List Lane) × List Family). Emptied all p.0 lanes p.1 p.2) (λ i. (a i, b i, c i)) d

  -- one more deque is drained
  pub emptied_more : (o p : Owner) (os : List Owner) (rows : List (List Lane)) (left left' : List Family) → Emptied all (o ∷ os) lanes rows left → JoinsFirsts o rows p → Drains (worker_view p) left left'
      → Emptied all os lanes (map others rows) left'
  emptied_more o p os rows left left' d j e =
      let pushed : (worker_view p).pushed ≡ (worker_view o).pushed = ap (λ v. v.pushed) j.view in
      let taken : (worker_view p).taken ≡ (worker_view o).taken ++ flat_map first_taken rows = ap (λ v. v.taken) j.view in
      let stolen : flat_map first_taken rows ≡ column lanes (length d.done) = ap (flat_map first_taken) d.rows_are ∙ firsts_at (length d.done) lanes in
      let longer : suc (length d.done) ≡ length (d.done ++ o ∷ []) = omega (arith, length-append d.done (o ∷ [])) in
      let one : AsOften (worker_view o).pushed ((worker_view o).taken ++ (column lanes (length d.done) ++ e.rest)) = λ h.
      let a = ap (sum_by h) pushed in
      let b = ap (sum_by h) taken in
      let c = ap (sum_by h) stolen in
      let f = e.balance h in
      omega (
        arith,
        sum_by-append h (worker_view o).taken (flat_map first_taken rows),
        sum_by-append h (worker_view o).taken (column lanes (length d.done) ++ e.rest),
        sum_by-append h (column lanes (length d.done)) e.rest,
        sum_by-append h (worker_view p).taken e.rest,
      ) in
      record {
        done = d.done ++ o ∷ [];
        lefts = d.lefts ++ e.rest ∷ [];
        owners_are = d.owners_are ∙ sym (append_assoc d.done (o ∷ []) os);
        rows_are = ap (map others) d.rows_are ∙ (all_others (length d.done) lanes ∙ ap (λ n. map (drop n) lanes) longer);
        left_is = e.added ∙ (ap (λ l. l ++ e.rest) d.left_is ∙ (ap (λ l. flat_map (λ x. x) d.lefts ++ l) (sym (append-nil e.rest)) ∙ sym (flat_map-append (λ x. x) d.lefts (e.rest ∷ []))));
        each = each_more lanes 0 (length d.done) o e.rest d.done d.lefts (omega arith) d.each one;
      }

-- ---- the reaches

stolen_is : (k : ℕ) (reaches : List Reach) → column (map (λ r. r.lanes.items) reaches) k ≡ stolen_from k reaches
stolen_is k reaches = flat_map-map (λ row. slice_index_or (map taken_by row) k []) (λ (r : Reach). r.lanes.items) reaches

left_from : (reaches : List Reach) (k : ℕ) (rs : List Reach) (lefts : List (List Family)) → EachFrom (map (λ r. r.lanes.items) reaches) k (map (λ r. r.owner) rs) lefts → AreLeftFrom reaches k rs lefts
left_from reaches k [] [] each = tt
left_from reaches k [] (l ∷ ls) each = absurd each
left_from reaches k (r ∷ rs) [] each = absurd each
left_from reaches k (r ∷ rs) (l ∷ ls) each = (
  subst (λ stolen. AsOften (worker_view r.owner).pushed ((worker_view r.owner).taken ++ (stolen ++ l))) (stolen_is k reaches) each.0,
  left_from reaches (suc k) rs ls each.1,
)

pub emptied_all : (reaches : List Reach) (rows : List (List Lane)) (left : List Family) → Emptied (map (λ r. r.owner) reaches) [] (map (λ r. r.lanes.items) reaches) rows left → IsLeftInEach reaches left
emptied_all reaches rows left d = record {
  lefts = d.lefts;
  all = d.left_is;
  each = left_from reaches 0 reaches d.lefts
      (subst (λ os. EachFrom (map (λ r. r.lanes.items) reaches) 0 os d.lefts) (sym (append-nil d.done) ∙ sym d.owners_are) d.each);
}
