-- The list of all probes, and which refusal is due.
use Rattle.std.proofs.Common.{◌≡◌, ◌<◌, ◌≤◌, ℕ, suc, ◌+◌, ◌*◌, ◌/◌, ◌==◌, ◌&&◌, Bool, false, List, [], ◌∷◌, ◌++◌, length, map, get_or, refl, sym, ap, ◌∙◌, subst, inl, inr, arith, ⊎_elim}
use Rattle.std.specs.List.{flat_map, range_with_len, sum_by}
use Rattle.std.proofs.lemmas.Bool.{cases_lt}
use Rattle.std.proofs.lemmas.List.{length-append, length-map, get_or-map}
use Rattle.std.proofs.lemmas.List.FromFn.{fill_by_all, length-range_with_len}
use Rattle.std.proofs.lemmas.List.Sums.{sum_by-append, sum_by-cons}
use Rattle.std.proofs.lemmas.Nat.{div_below, le-div}
use Rattle.circuit_types.specs.declared.circuit.Circuit.{Circuit}
use Rattle.circuit_types.specs.declared.circuit.Timing.{Timing}
use Rattle.circuit_types.specs.declared.circuit.Timing.TheVariants.{Settled, Cycles}
use Rattle.circuit_types.specs.declared.nets.Source.{Source}
use Rattle.circuit_types.specs.declared.nets.Source.TheVariants.{Missing}
use Rattle.circuit_types.specs.declared.probes.Model.{Model}
use Rattle.circuit_types.specs.declared.probes.Probe.{Probe}
use Rattle.circuit_types.specs.declared.refusal.Refusal.TheVariants.{Limit}
use Rattle.circuit_types.specs.declared.refusal.Which.TheVariants as which
use Rattle.circuit_types.specs.declared.roles.Roles.{Roles}
use Rattle.circuit_types.specs.Due.{IsClear, IsDue}
use Rattle.circuit_types.specs.Order.{IsTiming}
use Rattle.circuit_types.specs.Probes.{cycles, probed_sources, seen_sources, name_bit, is_output_share, probe_on, probe_list, most_probes, most_seen, seen_count, probe_causes}
use Rattle.glitch_cone.specs.declared.listing.Wires.{Wires}
use Rattle.glitch_cone.specs.Cones.{list_at}
use Rattle.glitch_cone.specs.Numbers.{source_at}
use Rattle.glitch_cone.specs.Wires.{probe_of, cycle_probes}

-- a circuit runs a cycle at least
pub some_cycle : (timing : Timing) → IsTiming timing → 0 < cycles timing
some_cycle Settled is = omega arith
some_cycle (Cycles n) is = omega (arith, is.0)

flat_map_same : (f g : ℕ → List Probe) (ks : List ℕ) → ((k : ℕ) → f k ≡ g k) → flat_map f ks ≡ flat_map g ks
flat_map_same f g [] same = refl
flat_map_same f g (k ∷ ks) same = ap (λ front. front ++ flat_map f ks) (same k) ∙ ap (λ rest. g k ++ rest) (flat_map_same f g ks same)

flat_length : (f : ℕ → List Probe) (m : ℕ) (ks : List ℕ) → ((k : ℕ) → length (f k) ≡ m) → length (flat_map f ks) ≡ length ks * m
flat_length f m [] each = omega arith
flat_length f m (k ∷ ks) each =
    let a = length-append (f k) (flat_map f ks) in
    let b = each k in
    let c = flat_length f m ks each in
    let d : suc (length ks) * m ≡ m + length ks * m = omega arith in
    a ∙ ap (λ n. n + length (flat_map f ks)) b ∙ ap (λ n. m + n) c ∙ sym d

flat_sum : (h : Probe → ℕ) (f : ℕ → List Probe) (m : ℕ) (ks : List ℕ) → ((k : ℕ) → sum_by h (f k) ≡ m) → sum_by h (flat_map f ks) ≡ length ks * m
flat_sum h f m [] each = omega arith
flat_sum h f m (k ∷ ks) each =
    let a = sum_by-append h (f k) (flat_map f ks) in
    let b = each k in
    let c = flat_sum h f m ks each in
    let d : suc (length ks) * m ≡ m + length ks * m = omega arith in
    a ∙ ap (λ n. n + sum_by h (flat_map f ks)) b ∙ ap (λ n. m + n) c ∙ sym d

sum_map : (h : Probe → ℕ) (g : Source → Probe) (ss : List Source) → sum_by h (map g ss) ≡ sum_by (λ s. h (g s)) ss
sum_map h g [] = refl
sum_map h g (s ∷ ss) =
    sum_by-cons h (g s) (map g ss) ∙ ap (λ n. h (g s) + n) (sum_map h g ss) ∙ sym (sum_by-cons (λ t. h (g t)) s ss)

module _ (m : Model) (roles : Roles) (circuit : Circuit) where
  abbrev sources_of : List Source
  sources_of = probed_sources roles circuit.nets

  abbrev each_cycle : ℕ → List Probe
  each_cycle c = map (probe_on m roles circuit.nets circuit.timing c) sources_of

  abbrev total_of : ℕ
  total_of = sum_by (λ s. length (seen_sources m roles circuit.nets s)) sources_of

  list_is : probe_list m roles circuit ≡ flat_map each_cycle (range_with_len 0 (cycles circuit.timing))
  unfolding probe_list
  list_is = refl

  probe_count : length (probe_list m roles circuit) ≡ cycles circuit.timing * length sources_of
  probe_count =
      ap length list_is
      ∙ flat_length each_cycle (length sources_of) (range_with_len 0 (cycles circuit.timing)) (λ c. length-map sources_of (probe_on m roles circuit.nets circuit.timing c))
      ∙ ap (λ n. n * length sources_of) (length-range_with_len 0 (cycles circuit.timing))

  entry_count : seen_count (probe_list m roles circuit) ≡ cycles circuit.timing * total_of
  entry_count =
      ap seen_count list_is
      ∙ flat_sum (λ (p : Probe). length p.seen) each_cycle total_of (range_with_len 0 (cycles circuit.timing)) (λ c. sum_map (λ (p : Probe). length p.seen) (probe_on m roles circuit.nets circuit.timing c) sources_of)
      ∙ ap (λ n. n * total_of) (length-range_with_len 0 (cycles circuit.timing))

  -- what is above the limit in each cycle is above it in all
  above : (most n : ℕ) → 0 < cycles circuit.timing → most / cycles circuit.timing < n → most < cycles circuit.timing * n
  above most n some over =
      ⊎_elim (λ lt. lt)
      (λ le. let l : n * cycles circuit.timing ≤ most = omega arith in absurd (omega (arith, le-div n most (cycles circuit.timing) some l)))
      (cases_lt most (cycles circuit.timing * n))

  below : (most n : ℕ) → 0 < cycles circuit.timing → n ≤ most / cycles circuit.timing → most < cycles circuit.timing * n → ⊥
  below most n some under over =
      let l : most < n * cycles circuit.timing = omega arith in
      omega (arith, div_below most (cycles circuit.timing) n some l)

  pub probes_due : 0 < cycles circuit.timing → most_probes / cycles circuit.timing < length sources_of → IsDue (probe_causes m roles circuit) (Limit which.Probes)
  unfolding probe_causes
  probes_due some over = inl (subst (λ n. most_probes < n) (sym probe_count) (above most_probes (length sources_of) some over), refl)

  pub seen_due : 0 < cycles circuit.timing → length sources_of ≤ most_probes / cycles circuit.timing → most_seen / cycles circuit.timing < total_of → IsDue (probe_causes m roles circuit) (Limit which.Seen)
  unfolding probe_causes
  seen_due some under over =
      inr (
        λ h. below most_probes (length sources_of) some under (subst (λ n. most_probes < n) probe_count h),
        inl (subst (λ n. most_seen < n) (sym entry_count) (above most_seen total_of some over), refl),
      )

  pub none_due : 0 < cycles circuit.timing → length sources_of ≤ most_probes / cycles circuit.timing → total_of ≤ most_seen / cycles circuit.timing → IsClear (probe_causes m roles circuit)
  unfolding probe_causes
  none_due some under few = (
    λ h. below most_probes (length sources_of) some under (subst (λ n. most_probes < n) probe_count h),
    (λ h. below most_seen total_of some few (subst (λ n. most_seen < n) entry_count h), tt),
  )

  -- the probes of a cycle, by numbers
  module _ (wires : Wires) (sources : wires.sources.items ≡ sources_of)
      (outputs : (n : ℕ) → n < length wires.sources.items → get_or wires.outputs.items n false ≡ is_output_share roles circuit.nets (source_at wires.sources.items n))
      (seen : (n : ℕ) → n < length wires.sources.items → map (source_at wires.sources.items) (list_at wires.cones.items n) ≡ seen_sources m roles circuit.nets (source_at wires.sources.items n)) where
    abbrev probe_with : ℕ → Source → Bool → List Source → Probe
    probe_with c s output sees = record { source = s; cycle = c; name_bit = name_bit circuit.nets s; output = c + 1 == cycles circuit.timing && output; seen = sees }

    same_probe : (c n : ℕ) → n < length wires.sources.items → probe_of wires circuit.nets c (c + 1 == cycles circuit.timing) n ≡ probe_on m roles circuit.nets circuit.timing c (source_at wires.sources.items n)
    same_probe c n lt =
        ap (λ o. probe_with c (source_at wires.sources.items n) o (map (source_at wires.sources.items) (list_at wires.cones.items n))) (outputs n lt)
        ∙ ap (λ ss. probe_with c (source_at wires.sources.items n) (is_output_share roles circuit.nets (source_at wires.sources.items n)) ss) (seen n lt)

    same_cycle : (c : ℕ) → cycle_probes wires circuit.nets c (c + 1 == cycles circuit.timing) ≡ each_cycle c
    same_cycle c =
        let on = probe_on m roles circuit.nets circuit.timing c in
        let d : Probe = on Missing in
        sym (fill_by_all (probe_of wires circuit.nets c (c + 1 == cycles circuit.timing)) (map on wires.sources.items) (length wires.sources.items) d (length-map wires.sources.items on)
        (λ n lt. get_or-map on wires.sources.items n Missing d lt ∙ sym (same_probe c n lt)))
        ∙ ap (map on) sources

    pub same_list : flat_map (λ c. cycle_probes wires circuit.nets c (c + 1 == cycles circuit.timing)) (range_with_len 0 (cycles circuit.timing)) ≡ probe_list m roles circuit
    same_list = flat_map_same (λ c. cycle_probes wires circuit.nets c (c + 1 == cycles circuit.timing)) each_cycle (range_with_len 0 (cycles circuit.timing)) same_cycle ∙ sym list_is
