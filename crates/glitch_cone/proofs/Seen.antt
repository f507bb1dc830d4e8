-- What the lists say of what the probes see, and how many entries they have.
use Rattle.std.proofs.Common.{◌≡◌, ◌<◌, ◌≤◌, ℕ, suc, ◌+◌, Bool, true, List, [], ◌∷◌, ◌++◌, length, map, take, All, refl, sym, ap, ◌∙◌, subst, arith, ⊎_elim}
use Rattle.std.specs.List.{filter, sum_by}
use Rattle.std.proofs.lemmas.Bool.{cases_Bool, cases_eq, cond_both}
use Rattle.std.proofs.lemmas.List.{length-map, length_push, get_or_push, get_or_append_left}
use Rattle.std.proofs.lemmas.List.Elements.{All-nil, All-cons, All-push}
use Rattle.std.proofs.lemmas.List.Sums.{sum_by-cons, sum_by_push}
use Rattle.cell_kinds.specs.declared.kind.CellKind.{CellKind}
use Rattle.cell_kinds.specs.declared.kind.CellKind.TheVariants.{Gate, Flop}
use Rattle.circuit_types.specs.declared.circuit.Circuit.{Circuit}
use Rattle.circuit_types.specs.declared.nets.Nets.{Nets}
use Rattle.circuit_types.specs.declared.nets.Source.{Source}
use Rattle.circuit_types.specs.declared.nets.Source.TheVariants as source
use Rattle.circuit_types.specs.declared.probes.Model.{Model}
use Rattle.circuit_types.specs.declared.probes.Model.TheVariants as model
use Rattle.circuit_types.specs.declared.roles.Roles.{Roles}
use Rattle.circuit_types.specs.DataSources.{cell_at, by_kind}
use Rattle.circuit_types.specs.Order.{has, IsLevelled}
use Rattle.circuit_types.specs.Probes.{seen_sources, probed_sources}
use Rattle.circuit_types.specs.Stable.{has_source, stable_sources}
use Rattle.glitch_cone.specs.declared.cones.Cones.{Cones}
use Rattle.glitch_cone.specs.declared.places.Places.{Places}
use Rattle.glitch_cone.specs.Cones.{sees_itself, own_numbers, list_at, kept_cone, entries_of, AreOwn, is_made, AreProbed, ShowsSeen, CountsSeen}
use Rattle.glitch_cone.specs.Numbers.{AscendsFrom, IsCone, source_at}
use Rattle.glitch_cone.specs.Places.{IsBitOrCell, ShowsPlaces}
use Rattle.glitch_cone.proofs.Listed.{all_bits_or_cells, bit_or_cell_within}
use Rattle.glitch_cone.proofs.Numbered.{cone_sources, same_cone, own_cone, cone_within}
use Rattle.glitch_cone.proofs.Behind.{one_number, cone_at, by_cells, input_stable}
use Rattle.glitch_cone.proofs.Halfway.{IsHalfway, all_done}

-- sums of lengths, entry by entry
pub entries_le : (xs : List (List ℕ)) (ss : List Source) (f : Source → ℕ) → length xs ≡ length ss → ((n : ℕ) → n < length ss → length (list_at xs n) ≤ f (source_at ss n)) → entries_of xs ≤ sum_by f ss
entries_le [] [] f len each = omega arith
entries_le [] (s ∷ ss) f len each = absurd (omega arith)
entries_le (x ∷ xs) [] f len each = absurd (omega arith)
entries_le (x ∷ xs) (s ∷ ss) f len each =
    let a = sum_by-cons (λ (ys : List ℕ). length ys) x xs in
    let b = sum_by-cons f s ss in
    let here : length x ≤ f s = each 0 (omega arith) in
    let rest : entries_of xs ≤ sum_by f ss = entries_le xs ss f (omega arith) (λ n lt. each (suc n) (omega arith)) in
    omega (arith, a, b, here, rest)

pub entries_ge : (xs : List (List ℕ)) (ss : List Source) (f : Source → ℕ) → length xs ≡ length ss → ((n : ℕ) → n < length ss → length (list_at xs n) ≡ f (source_at ss n)) → sum_by f ss ≤ entries_of xs
entries_ge [] [] f len each = omega arith
entries_ge [] (s ∷ ss) f len each = absurd (omega arith)
entries_ge (x ∷ xs) [] f len each = absurd (omega arith)
entries_ge (x ∷ xs) (s ∷ ss) f len each =
    let a = sum_by-cons (λ (ys : List ℕ). length ys) x xs in
    let b = sum_by-cons f s ss in
    let here : length x ≡ f s = each 0 (omega arith) in
    let rest : sum_by f ss ≤ entries_of xs = entries_ge xs ss f (omega arith) (λ n lt. each (suc n) (omega arith)) in
    omega (arith, a, b, here, rest)

-- where all lists are there, their entries are as many as the probes see
pub seen_total : (sources : List Source) (seen : Source → List Source) (lists : List (List ℕ)) → ShowsSeen sources seen lists → sum_by (λ s. length (seen s)) sources ≤ entries_of lists
seen_total sources seen lists shows =
    entries_ge lists sources (λ s. length (seen s)) shows.one_each
    (λ n lt. sym (length-map (list_at lists n) (source_at sources)) ∙ ap length (shows.each n lt))

-- one source more
pub own_more : (m : Model) (nets : Nets) (sources : List Source) (i next : ℕ) (s : Source) (old new : Cones) (own : List ℕ) → next ≡ i + 1 → s ≡ source_at sources i → own ≡ own_numbers m nets s i
    → new.lists.items ≡ old.lists.items ++ own ∷ [] → new.entries ≡ old.entries + length own → AreOwn m nets sources i old → AreOwn m nets sources next new
own_more m nets sources i next s old new own is at own_is lists entries was = record {
  lists = record {
    one_each = ap length lists ∙ length_push old.lists.items own ∙ ap (λ n. n + 1) was.lists.one_each ∙ sym is;
    counted = entries ∙ ap (λ n. n + length own) was.lists.counted ∙ sym (sum_by_push (λ (xs : List ℕ). length xs) old.lists.items own) ∙ sym (ap entries_of lists);
    ascend = subst (All (AscendsFrom 0)) (sym lists) (All-push (AscendsFrom 0) old.lists.items own was.lists.ascend
        (subst (AscendsFrom 0) (sym own_is) (cond_both (sees_itself m nets s) (i ∷ []) [] (AscendsFrom 0) (λ t. (omega arith, tt)) (λ f. tt))));
  };
  few =
      let one : length own ≤ 1 = subst (λ xs. length xs ≤ 1) (sym own_is) (cond_both (sees_itself m nets s) (i ∷ []) [] (λ xs. length xs ≤ 1) (λ t. omega arith) (λ f. omega arith)) in
      let few = was.few in
      omega arith;
  each = λ n lt.
      ap (λ ls. list_at ls n) lists
      ∙ ⊎_elim
      (λ e.
      let len : length old.lists.items ≡ n = was.lists.one_each ∙ sym e in
      get_or_push old.lists.items own [] n len ∙ own_is ∙ ap (λ t. own_numbers m nets t i) at ∙ ap (λ k. own_numbers m nets (source_at sources k) k) (sym e))
      (λ other.
      let l : n < i = omega arith in
      get_or_append_left old.lists.items (own ∷ []) [] n (let e = was.lists.one_each in omega arith) ∙ was.each n l)
      (cases_eq n i);
}

-- in the value model each list is there at once
pub value_seen : (nets : Nets) (roles : Roles) (sources : List Source) (most : ℕ) (cones : Cones) → AreOwn model.Value nets sources (length sources) cones → CountsSeen sources (seen_sources model.Value roles nets) most cones
value_seen nets roles sources most cones own = record {
  counted = own.lists.counted;
  bound =
      let le = entries_le cones.lists.items sources (λ s. length (seen_sources model.Value roles nets s)) own.lists.one_each
      (λ n lt. let e : length (list_at cones.lists.items n) ≡ 1 = ap length (own.each n lt) in omega arith) in
      let c = own.lists.counted in
      omega (arith, le, c);
  whole = λ le. record {
    one_each = own.lists.one_each;
    within = λ n lt. subst (All (λ k. k < length sources)) (sym (own.each n lt)) (All-cons (λ k. k < length sources) n [] lt (All-nil (λ k. k < length sources)));
    each = λ n lt. ap (map (source_at sources)) (own.each n lt);
  };
}

module _ (circuit : Circuit) (sources : List Source) (places : Places) (shows : ShowsPlaces circuit.nets sources (length sources) places) (levelled : IsLevelled circuit)
    (roles : Roles) (probed : AreProbed roles circuit.nets sources) where
  abbrev stable : Source → List Source
  stable = stable_sources roles circuit.nets

  abbrev seen : Source → List Source
  seen = seen_sources model.Glitch roles circuit.nets

  source_is : (n : ℕ) → n < length sources → IsBitOrCell circuit.nets (source_at sources n)
  source_is n lt = subst (All (IsBitOrCell circuit.nets)) (sym probed.list) (all_bits_or_cells roles circuit.nets probed.fits) n source.Missing lt

  one_seen : (n : ℕ) (xs : List ℕ) (s : Source) → n < length sources → source_at sources n ≡ s → stable s ≡ s ∷ [] → IsCone sources (stable s) xs → map (source_at sources) xs ≡ s ∷ []
  one_seen n xs s lt is st cone =
      let own = own_cone sources s n lt is (λ k l at. one_number circuit.nets sources places shows s n k lt l is at) in
      ap (map (source_at sources)) (same_cone sources (s ∷ []) xs (n ∷ []) (subst (λ ss. IsCone sources ss xs) st cone) own) ∙ ap (λ t. t ∷ []) is

  -- the sources of a cone are what a probe sees
  seen_at : (n : ℕ) (xs : List ℕ) → n < length sources → IsCone sources (stable (source_at sources n)) xs → map (source_at sources) xs ≡ seen (source_at sources n)
  seen_at n xs lt cone = go (source_at sources n) refl (source_is n lt) cone
    where
      of_cell : (k : ℕ) → k < length circuit.nets.cells → source_at sources n ≡ source.Cell k → IsCone sources (stable (source.Cell k)) xs → (kind : CellKind) → (cell_at circuit.nets k).kind ≡ kind
          → map (source_at sources) xs ≡ by_kind kind (filter (has_source (stable (source.Cell k))) (probed_sources roles circuit.nets)) (source.Cell k ∷ [])
      of_cell k w is c (Gate g) kind = cone_sources sources (stable (source.Cell k)) xs c ∙ ap (filter (has_source (stable (source.Cell k)))) probed.list
      of_cell k w is c (Flop f) kind = one_seen n xs (source.Cell k) lt is ((by_cells circuit.nets sources places shows roles probed).flop k f w kind) c

      go : (s : Source) → source_at sources n ≡ s → IsBitOrCell circuit.nets s → IsCone sources (stable s) xs → map (source_at sources) xs ≡ seen s
      go (source.Input bit) is w c = one_seen n xs (source.Input bit) lt is (input_stable circuit.nets sources places shows roles probed bit n lt is) c
      go (source.Cell k) is w c = of_cell k w is c (cell_at circuit.nets k).kind refl
      go source.Zero is w c = absurd w
      go source.One is w c = absurd w
      go source.Unknown is w c = absurd w
      go source.Missing is w c = absurd w

  list_is : (cones : Cones) (n : ℕ) → n < length sources → kept_cone places cones.lists.items (source_at sources n) ≡ list_at cones.lists.items n
  list_is cones n lt = cone_at circuit.nets sources places shows cones.lists.items (source_at sources n) _ (shows.own n lt)

  module _ (i : ℕ) (cones : Cones) (half : IsHalfway circuit sources places i cones) where
    abbrev done : ℕ → Bool
    done = has (take i circuit.order)

    made_list : (n : ℕ) → n < length sources → is_made circuit.nets done (source_at sources n) ≡ true → IsCone sources (stable (source_at sources n)) (list_at cones.lists.items n)
    made_list n lt made =
        subst (λ xs. IsCone sources (stable (source_at sources n)) xs) (list_is cones n lt)
        (half.made.made roles probed (source_at sources n) (bit_or_cell_within circuit.nets (source_at sources n) (source_is n lt)) made)

    few_at : (n : ℕ) → n < length sources → length (list_at cones.lists.items n) ≤ length (seen (source_at sources n))
    few_at n lt =
        ⊎_elim
        (λ t.
        let e : length (list_at cones.lists.items n) ≡ length (seen (source_at sources n)) =
        sym (length-map (list_at cones.lists.items n) (source_at sources)) ∙ ap length (seen_at n (list_at cones.lists.items n) lt (made_list n lt t)) in
        omega (arith, e))
        (λ f.
        let e : length (list_at cones.lists.items n) ≡ 0 = ap length (sym (list_is cones n lt) ∙ half.made.late (source_at sources n) f) in
        omega (arith, e))
        (cases_Bool (is_made circuit.nets done (source_at sources n)))

    bound_is : cones.entries ≤ sum_by (λ s. length (seen s)) sources
    bound_is =
        let le = entries_le cones.lists.items sources (λ s. length (seen s)) half.lists.one_each few_at in
        let c = half.lists.counted in
        omega (arith, le, c)

    -- past the limit
    pub counts_stopped : (most : ℕ) → most < cones.entries → CountsSeen sources seen most cones
    counts_stopped most lt = record {
      counted = half.lists.counted;
      bound = bound_is;
      whole = λ le. absurd (omega (arith, lt, le));
    }

    -- after all cells
    pub counts_all : (most : ℕ) → length circuit.order ≤ i → CountsSeen sources seen most cones
    counts_all most le = record {
      counted = half.lists.counted;
      bound = bound_is;
      whole = λ few. record {
        one_each = half.lists.one_each;
        within = λ n lt. cone_within sources (stable (source_at sources n)) (list_at cones.lists.items n) (cone n lt);
        each = λ n lt. seen_at n (list_at cones.lists.items n) lt (cone n lt);
      };
    }
      where
        cone : (n : ℕ) → n < length sources → IsCone sources (stable (source_at sources n)) (list_at cones.lists.items n)
        cone n lt = made_list n lt (all_done circuit sources places shows levelled i le (source_at sources n) (bit_or_cell_within circuit.nets (source_at sources n) (source_is n lt)))
