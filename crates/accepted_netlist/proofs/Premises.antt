-- What the steps from the tree to the instance need of those before them.
use Rattle.std.proofs.Common.{◌≡◌, ℕ, suc, zero, ◌+◌, ◌<◌, ◌≤◌, List, [], ◌∷◌, length, map, filter, sym, subst, arith}
use Rattle.std.specs.List.{flat_map, range_with_len}
use Rattle.std.proofs.lemmas.List.Elements.{All-weaker, All-from_recursion, recursion_from_All}
use Rattle.cell_kinds.specs.declared.kind.CellKind.{CellKind}
use Rattle.cell_kinds.specs.declared.kind.CellKind.TheVariants as kind
use Rattle.circuit_types.specs.declared.circuit.Circuit.{Circuit}
use Rattle.circuit_types.specs.declared.nets.Nets.{Nets}
use Rattle.circuit_types.specs.declared.nets.Source.{Source}
use Rattle.circuit_types.specs.declared.nets.Source.TheVariants as source
use Rattle.circuit_types.specs.declared.probes.Model.{Model}
use Rattle.circuit_types.specs.declared.probes.Probe.{Probe}
use Rattle.circuit_types.specs.declared.probes.Model.TheVariants as model
use Rattle.circuit_types.specs.declared.roles.Roles.{Roles}
use Rattle.circuit_types.specs.DataSources.{cell_at, by_kind, IsWithin}
use Rattle.circuit_types.specs.Due.{IsClear}
use Rattle.circuit_types.specs.InputBits.{FitsNets}
use Rattle.circuit_types.specs.Probes.{cycles, probed_sources, seen_sources, glitch_seen, probe_on, probe_list, probe_causes, most_probes}
use Rattle.circuit_types.specs.Stable.{has_source, stable_sources}
use Rattle.glitch_cone.specs.Places.{IsBitOrCell}
use Rattle.glitch_cone.proofs.Listed.{all_bits_or_cells}
use Rattle.net_build.proofs.EachLemmas.{Each, each-append, each_filter}
use Rattle.term_build.specs.TermInstance.{IsProbeOf, AreProbesOf}

-- there are few probes
few-probes : (m : Model) (roles : Roles) (circuit : Circuit) → IsClear (probe_causes m roles circuit) → length (probe_list m roles circuit) ≤ most_probes
unfolding probe_causes
few-probes m roles circuit clear = not-more (length (probe_list m roles circuit)) clear.0
  where
    not-more : (n : ℕ) → (most_probes < n → ⊥) → n ≤ most_probes
    not-more n h = omega (arith, h)

pub few-listed : (m : Model) (roles : Roles) (circuit : Circuit) (list : List Probe) → list ≡ probe_list m roles circuit → IsClear (probe_causes m roles circuit) → length list ≤ most_probes
few-listed m roles circuit list is clear = subst (λ (l : List Probe). length l ≤ most_probes) (sym is) (few-probes m roles circuit clear)

-- what a probe sees is of the nets
module _ (roles : Roles) (circuit : Circuit) (fits : FitsNets roles circuit.nets) where
  abbrev nets : Nets
  nets = circuit.nets

  bit-or-cell : (s : Source) → IsBitOrCell nets s → IsWithin nets s
  bit-or-cell (source.Input bit) h = h
  bit-or-cell (source.Cell k) h = h
  bit-or-cell source.Zero h = tt
  bit-or-cell source.One h = tt
  bit-or-cell source.Unknown h = tt
  bit-or-cell source.Missing h = tt

  probed-within : Each (IsWithin nets) (probed_sources roles nets)
  probed-within =
      recursion_from_All (IsWithin nets) (probed_sources roles nets)
      (All-weaker (IsBitOrCell nets) (IsWithin nets) bit-or-cell (probed_sources roles nets) (all_bits_or_cells roles nets fits))

  kind-within : (of : CellKind) (gate flop : List Source) → Each (IsWithin nets) gate → Each (IsWithin nets) flop → Each (IsWithin nets) (by_kind of gate flop)
  kind-within (kind.Gate g) gate flop a b = a
  kind-within (kind.Flop f) gate flop a b = b

  glitch-within : (s : Source) → IsWithin nets s → Each (IsWithin nets) (glitch_seen roles nets s)
  glitch-within (source.Cell k) h =
      kind-within (cell_at nets k).kind (filter (has_source (stable_sources roles nets (source.Cell k))) (probed_sources roles nets)) (source.Cell k ∷ [])
      (each_filter (IsWithin nets) (has_source (stable_sources roles nets (source.Cell k))) (probed_sources roles nets) probed-within) (h, tt)
  glitch-within (source.Input bit) h = (h, tt)
  glitch-within source.Zero h = (tt, tt)
  glitch-within source.One h = (tt, tt)
  glitch-within source.Unknown h = (tt, tt)
  glitch-within source.Missing h = (tt, tt)

  seen-within : (m : Model) (s : Source) → IsWithin nets s → Each (IsWithin nets) (seen_sources m roles nets s)
  seen-within model.Value s h = (h, tt)
  seen-within model.Glitch s h = glitch-within s h

  -- the probes of a cycle
  of-cycle : (m : Model) (c : ℕ) → c < cycles circuit.timing → (ss : List Source) → Each (IsWithin nets) ss → Each (IsProbeOf circuit) (map (probe_on m roles nets circuit.timing c) ss)
  of-cycle m c lt [] h = tt
  of-cycle m c lt (s ∷ ss) h = (
    record { cycle = lt; seen = All-from_recursion (IsWithin nets) (seen_sources m roles nets s) (seen-within m s h.0) },
    of-cycle m c lt ss h.1,
  )

  of-cycles : (m : Model) (first count : ℕ) → first + count ≤ cycles circuit.timing
      → Each (IsProbeOf circuit) (flat_map (λ c. map (probe_on m roles nets circuit.timing c) (probed_sources roles nets)) (range_with_len first count))
  of-cycles m first zero le = tt
  of-cycles m first (suc count) le =
      each-append (IsProbeOf circuit) (map (probe_on m roles nets circuit.timing first) (probed_sources roles nets))
      (flat_map (λ c. map (probe_on m roles nets circuit.timing c) (probed_sources roles nets)) (range_with_len (first + 1) count))
      (of-cycle m first (omega arith) (probed_sources roles nets) probed-within) (of-cycles m (first + 1) count (omega arith))

  each-probe : (m : Model) → Each (IsProbeOf circuit) (probe_list m roles circuit)
  unfolding probe_list
  each-probe m = of-cycles m 0 (cycles circuit.timing) (omega arith)

  pub are-probes : (m : Model) → IsClear (probe_causes m roles circuit) → AreProbesOf circuit (probe_list m roles circuit)
  are-probes m clear = record {
    each = All-from_recursion (IsProbeOf circuit) (probe_list m roles circuit) (each-probe m);
    few = few-probes m roles circuit clear;
  }
