use Rattle.std.proofs.Common.{◌≡◌, ◌<◌, ℕ, false, List, All, length, get_or, sym, ap, ◌∙◌, subst}
use Rattle.circuit_types.specs.declared.probes.Model.{Model}
use Rattle.circuit_types.specs.declared.probes.Probe.{Probe}
use Rattle.circuit_types.specs.declared.probes.Probes.{Probes}
use Rattle.circuit_types.specs.DataSources.{IsWithin}
use Rattle.circuit_types.specs.Probes.{is_output_share}
use Rattle.glitch_cone.specs.declared.listing.Wires.{Wires}
use Rattle.glitch_cone.specs.Numbers.{source_at}
use Rattle.glitch_cone.specs.Places.{IsBitOrCell, AreDistinct}
use Rattle.glitch_cone.proofs.Ending.{are_probed, probes_over, seen_over, none_over, are_wires, list_same}
use Rattle.glitch_cone.proofs.Listed.{all_bits_or_cells, all_distinct, all_within}
use Rattle.glitch_cone.proofs.probing.probes.Goals as goal

pub returns-then-len-cycles-clause-cause : goal.returns-then-len-cycles-clause-cause
returns-then-len-cycles-clause-cause c =
    probes_over c.args.model c.args.roles.now c.args.circuit.now c.requires.levelled c.requires.roles c.in_ok-sources.sources.items c.len.result c.cycles-cycles.result
    c.in_ok-sources.ensures (c.len.ensures ∙ c.in_ok-sources.sources.ok.0) c.cycles-cycles.ensures c.if-len-cycles.true

pub new-requires-clause-within : goal.new-requires-clause-within
new-requires-clause-within c =
    subst (All (IsBitOrCell c.args.circuit.now.nets)) (sym (c.deref.ensures.value ∙ c.in_ok-sources.ensures)) (all_bits_or_cells c.args.roles.now c.args.circuit.now.nets c.requires.roles)

pub new-requires-clause-distinct : goal.new-requires-clause-distinct
new-requires-clause-distinct c =
    subst AreDistinct (sym (c.deref.ensures.value ∙ c.in_ok-sources.ensures)) (all_distinct c.args.roles.now c.args.circuit.now.nets c.requires.roles)

pub seen_cones-requires-clause-within : goal.seen_cones-requires-clause-within
seen_cones-requires-clause-within c =
    subst (All (IsWithin c.args.circuit.now.nets)) (sym (c.deref-2.ensures.value ∙ c.in_ok-sources.ensures))
    (all_within c.args.circuit.now.nets _ (all_bits_or_cells c.args.roles.now c.args.circuit.now.nets c.requires.roles))

pub returns-then-cones-most-clause-cause : goal.returns-then-cones-most-clause-cause
returns-then-cones-most-clause-cause c =
    let is = c.deref-2.ensures.value ∙ c.in_ok-sources.ensures in
    seen_over c.args.model c.args.roles.now c.args.circuit.now c.requires.levelled c.requires.roles c.deref-2.result.now c.len.result c.cycles-cycles.result
    is (c.len.ensures ∙ c.in_ok-sources.sources.ok.0 ∙ ap length (sym c.deref-2.ensures.value)) c.cycles-cycles.ensures c.in_ok-cones.cones c.if-len-cycles.false
    (c.in_ok-cones.ensures c.args.roles.now (are_probed c.args.model c.args.roles.now c.args.circuit.now c.requires.levelled c.requires.roles c.deref-2.result.now is)) c.if-cones-most.true

pub probes-requires : goal.probes-requires
probes-requires c =
    let wires : Wires = record { sources = c.in_ok-sources.sources; outputs = c.in_ok-outputs.outputs; cones = c.into_lists.result } in
    let is = c.deref-2.ensures.value ∙ c.in_ok-sources.ensures in
    are_wires c.args.model c.args.roles.now c.args.circuit.now c.requires.levelled c.requires.roles wires c.deref-2.result.now _ c.in_ok-cones.cones
    c.in_ok-sources.ensures c.deref-2.ensures.value c.into_lists.ensures
    (c.in_ok-cones.ensures c.args.roles.now (are_probed c.args.model c.args.roles.now c.args.circuit.now c.requires.levelled c.requires.roles c.deref-2.result.now is)) c.if-cones-most.false
    (c.in_ok-outputs.ensures.len ∙ ap length c.deref-3.ensures.value)

abbrev probes_with : Model → List Probe → Probes
probes_with m list = record { model = m; list = list }

pub returns-clause-probes : goal.returns-clause-probes
returns-clause-probes c =
    let wires : Wires = record { sources = c.in_ok-sources.sources; outputs = c.in_ok-outputs.outputs; cones = c.into_lists.result } in
    let is = c.deref-2.ensures.value ∙ c.in_ok-sources.ensures in
    let outputs : (n : ℕ) → n < length c.in_ok-sources.sources.items → get_or c.in_ok-outputs.outputs.items n false ≡ is_output_share c.args.roles.now c.args.circuit.now.nets (source_at c.in_ok-sources.sources.items n) =
    subst (λ ss. (n : ℕ) → n < length ss → get_or c.in_ok-outputs.outputs.items n false ≡ is_output_share c.args.roles.now c.args.circuit.now.nets (source_at ss n)) c.deref-3.ensures.value c.in_ok-outputs.ensures.each in
    let same = list_same c.args.model c.args.roles.now c.args.circuit.now c.requires.levelled c.requires.roles wires c.deref-2.result.now _ c.in_ok-cones.cones
    c.in_ok-sources.ensures c.deref-2.ensures.value c.into_lists.ensures
    (c.in_ok-cones.ensures c.args.roles.now (are_probed c.args.model c.args.roles.now c.args.circuit.now c.requires.levelled c.requires.roles c.deref-2.result.now is)) c.if-cones-most.false
    c.cycles-cycles.result c.cycles-cycles.ensures outputs in
    ap (probes_with c.args.model) (c.from_vec.ensures ∙ c.in_ok-list.ensures ∙ same)

pub returns-clause-cause : goal.returns-clause-cause
returns-clause-cause c =
    let is = c.deref-2.ensures.value ∙ c.in_ok-sources.ensures in
    none_over c.args.model c.args.roles.now c.args.circuit.now c.requires.levelled c.requires.roles c.deref-2.result.now c.len.result c.cycles-cycles.result
    is (c.len.ensures ∙ c.in_ok-sources.sources.ok.0 ∙ ap length (sym c.deref-2.ensures.value)) c.cycles-cycles.ensures c.in_ok-cones.cones c.if-len-cycles.false
    (c.in_ok-cones.ensures c.args.roles.now (are_probed c.args.model c.args.roles.now c.args.circuit.now c.requires.levelled c.requires.roles c.deref-2.result.now is)) c.if-cones-most.false
