-- What is due and what is listed, where the parts are as the calls say.
use Rattle.std.proofs.Common.{◌≡◌, ◌<◌, ◌≤◌, ℕ, ◌+◌, ◌/◌, ◌==◌, false, List, All, length, get_or, sym, ap, ◌∙◌, subst, arith}
use Rattle.std.specs.List.{flat_map, range_with_len, sum_by}
use Rattle.circuit_types.specs.declared.circuit.Circuit.{Circuit}
use Rattle.circuit_types.specs.declared.nets.Source.{Source}
use Rattle.circuit_types.specs.declared.probes.Model.{Model}
use Rattle.circuit_types.specs.declared.refusal.Refusal.TheVariants.{Limit}
use Rattle.circuit_types.specs.declared.refusal.Which.TheVariants as which
use Rattle.circuit_types.specs.declared.roles.Roles.{Roles}
use Rattle.circuit_types.specs.DataSources.{IsWithin}
use Rattle.circuit_types.specs.Due.{IsClear, IsDue}
use Rattle.circuit_types.specs.InputBits.{FitsNets}
use Rattle.circuit_types.specs.Order.{IsLevelled}
use Rattle.circuit_types.specs.Probes.{cycles, probed_sources, seen_sources, is_output_share, probe_list, most_probes, most_seen, probe_causes}
use Rattle.circuit_types.proofs.ByCells.{settled_are_levelled}
use Rattle.glitch_cone.specs.declared.cones.Cones.{Cones}
use Rattle.glitch_cone.specs.declared.listing.Wires.{Wires}
use Rattle.glitch_cone.specs.Cones.{AreProbed, ShowsSeen, CountsSeen}
use Rattle.glitch_cone.specs.Numbers.{source_at}
use Rattle.glitch_cone.specs.Wires.{cycle_probes, AreWires}
use Rattle.glitch_cone.proofs.Listed.{all_bits_or_cells, all_within}
use Rattle.glitch_cone.proofs.Lists.{some_cycle, probes_due, seen_due, none_due, same_list}
use Rattle.glitch_cone.proofs.Seen.{seen_total}

module _ (m : Model) (roles : Roles) (circuit : Circuit) (levelled : IsLevelled circuit) (fits : FitsNets roles circuit.nets) where
  abbrev list : List Source
  list = probed_sources roles circuit.nets

  abbrev seen : Source → List Source
  seen = seen_sources m roles circuit.nets

  pub are_probed : (ss : List Source) → ss ≡ list → AreProbed roles circuit.nets ss
  are_probed ss is = record {
    levelled = settled_are_levelled circuit.nets circuit.timing levelled.each_settled;
    fits = fits;
    list = is;
  }

  module _ (ss : List Source) (len n : ℕ) (is : ss ≡ list) (len_is : len ≡ length ss) (n_is : n ≡ cycles circuit.timing) where
    some : 0 < cycles circuit.timing
    some = some_cycle circuit.timing levelled.timing

    pub probes_over : most_probes / n < len → IsDue (probe_causes m roles circuit) (Limit which.Probes)
    probes_over over =
        probes_due m roles circuit some
        (subst (λ k. most_probes / cycles circuit.timing < k) (len_is ∙ ap length is) (subst (λ k. most_probes / k < len) n_is over))

    under : len ≤ most_probes / n → length list ≤ most_probes / cycles circuit.timing
    under few = subst (λ k. k ≤ most_probes / cycles circuit.timing) (len_is ∙ ap length is) (subst (λ k. len ≤ most_probes / k) n_is few)

    pub seen_over : (cones : Cones) → len ≤ most_probes / n → CountsSeen ss seen (most_seen / n) cones → most_seen / n < cones.entries → IsDue (probe_causes m roles circuit) (Limit which.Seen)
    seen_over cones few counts over =
        let bound = counts.bound in
        let lt : most_seen / n < sum_by (λ s. length (seen s)) ss = omega (arith, bound, over) in
        seen_due m roles circuit some (under few)
        (subst (λ k. most_seen / cycles circuit.timing < k) (ap (sum_by (λ s. length (seen s))) is) (subst (λ k. most_seen / k < sum_by (λ s. length (seen s)) ss) n_is lt))

    pub none_over : (cones : Cones) → len ≤ most_probes / n → CountsSeen ss seen (most_seen / n) cones → cones.entries ≤ most_seen / n → IsClear (probe_causes m roles circuit)
    none_over cones few counts le =
        let total = seen_total ss seen cones.lists.items (counts.whole le) in
        let counted = counts.counted in
        let all : sum_by (λ s. length (seen s)) ss ≤ most_seen / n = omega (arith, total, counted, le) in
        none_due m roles circuit some (under few)
        (subst (λ k. k ≤ most_seen / cycles circuit.timing) (ap (sum_by (λ s. length (seen s))) is) (subst (λ k. sum_by (λ s. length (seen s)) ss ≤ most_seen / k) n_is all))

  module _ (wires : Wires) (ss : List Source) (most : ℕ) (cones : Cones) (sources : wires.sources.items ≡ list) (same : ss ≡ wires.sources.items) (lists : wires.cones ≡ cones.lists)
      (counts : CountsSeen ss seen most cones) (le : cones.entries ≤ most) where
    shows : ShowsSeen wires.sources.items seen wires.cones.items
    shows =
        subst (λ ls. ShowsSeen wires.sources.items seen ls) (sym (ap (λ v. v.items) lists))
        (subst (λ xs. ShowsSeen xs seen cones.lists.items) same (counts.whole le))

    pub are_wires : length wires.outputs.items ≡ length wires.sources.items → AreWires circuit.nets wires
    are_wires flags = record {
      within = subst (All (IsWithin circuit.nets)) (sym sources) (all_within circuit.nets list (all_bits_or_cells roles circuit.nets fits));
      one_flag_each = flags;
      one_list_each = shows.one_each;
      lists = shows.within;
    }

    pub list_same : (n : ℕ) → n ≡ cycles circuit.timing → ((k : ℕ) → k < length wires.sources.items → get_or wires.outputs.items k false ≡ is_output_share roles circuit.nets (source_at wires.sources.items k))
        → flat_map (λ c. cycle_probes wires circuit.nets c (c + 1 == n)) (range_with_len 0 n) ≡ probe_list m roles circuit
    list_same n n_is outputs =
        ap (λ k. flat_map (λ c. cycle_probes wires circuit.nets c (c + 1 == k)) (range_with_len 0 k)) n_is
        ∙ same_list m roles circuit wires sources outputs shows.each
