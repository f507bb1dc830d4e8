-- Where a circuit is probed, and what the probes see.
use Rattle.std.specs.Prelude.{ℕ, zero, suc, ◌+◌, ◌*◌, ◌<◌, ◌==◌, ◌&&◌, Bool, true, false, IsTrue, List, [], ◌∷◌, ◌++◌, map, filter, length, sum_by, slice_index_or, Option, None, Some}
use Rattle.std.specs.List.{flat_map, list_any, range_with_len}
use Rattle.circuit_types.specs.declared.circuit.Circuit.{Circuit}
use Rattle.circuit_types.specs.declared.circuit.Timing.{Timing}
use Rattle.circuit_types.specs.declared.circuit.Timing.TheVariants.{Settled, Cycles}
use Rattle.circuit_types.specs.declared.nets.Nets.{Nets}
use Rattle.circuit_types.specs.declared.nets.Source.{Source}
use Rattle.circuit_types.specs.declared.nets.Source.TheVariants as source
use Rattle.circuit_types.specs.declared.probes.Model.{Model}
use Rattle.circuit_types.specs.declared.probes.Model.TheVariants as model
use Rattle.circuit_types.specs.declared.probes.Probe.{Probe}
use Rattle.circuit_types.specs.declared.probes.Probes.{Probes}
use Rattle.circuit_types.specs.declared.refusal.Refusal.TheVariants.{Limit}
use Rattle.circuit_types.specs.declared.refusal.Which.TheVariants as which
use Rattle.circuit_types.specs.declared.roles.InputRole.{InputRole}
use Rattle.circuit_types.specs.declared.roles.OutputShare.{OutputShare}
use Rattle.circuit_types.specs.declared.roles.Roles.{Roles}
use Rattle.circuit_types.specs.Due.{Cause, of_all}
use Rattle.circuit_types.specs.DataSources.{cell_at, by_kind}
use Rattle.circuit_types.specs.InputBits.{is_probed}
use Rattle.circuit_types.specs.Stable.{is_same_source, has_source, stable_sources}
use Rattle.circuit_types.specs.Value.{Assignment, value}

-- how many cycles the circuit runs
abbrev pub cycles : Timing → ℕ
cycles Settled = 1
cycles (Cycles n) = n

-- the input bits other than the clock and held ones
abbrev pub probed_inputs : List InputRole → List Source
probed_inputs inputs = map (λ (i : InputRole). source.Input i.bit) (filter (λ (i : InputRole). is_probed i.role) inputs)

-- what is probed in each cycle: the input bits other than the clock and held ones in port order, then the cells in file order
unfoldable pub probed_sources : Roles → Nets → List Source
probed_sources roles nets =
    probed_inputs roles.inputs
    ++ map (λ k. source.Cell k) (range_with_len 0 (length nets.cells))

-- What a glitch-extended probe sees: of an input or a register that alone; of a gate the stable sources behind it, inputs in
-- port order and then cells by number.
abbrev pub glitch_seen : Roles → Nets → Source → List Source
glitch_seen roles nets (source.Cell k) =
    by_kind (cell_at nets k).kind
    (filter (has_source (stable_sources roles nets (source.Cell k))) (probed_sources roles nets))
    (source.Cell k ∷ [])
glitch_seen roles nets s = s ∷ []

-- in the value model a probe sees its own source alone
abbrev pub seen_sources : Model → Roles → Nets → Source → List Source
seen_sources model.Value roles nets s = s ∷ []
seen_sources model.Glitch roles nets s = glitch_seen roles nets s

-- the bit that names a source: the input bit, or the bit tied to the cell's output
abbrev pub name_bit : Nets → Source → ℕ
name_bit nets (source.Input bit) = bit
name_bit nets (source.Cell k) = (cell_at nets k).output
name_bit nets other = 0

-- a share of an output ends at the source
abbrev pub is_output_share : Roles → Nets → Source → Bool
is_output_share roles nets s =
    list_any (λ (o : OutputShare). is_same_source (slice_index_or nets.sources o.bit source.Missing) s) roles.outputs

-- the probe on a source in a cycle; an output probe stands in the last cycle alone
abbrev pub probe_on : Model → Roles → Nets → Timing → ℕ → Source → Probe
probe_on m roles nets timing c s = record {
  source = s;
  cycle = c;
  name_bit = name_bit nets s;
  output = c + 1 == cycles timing && is_output_share roles nets s;
  seen = seen_sources m roles nets s;
}

-- the probes of a circuit: cycle by cycle those on what is probed
unfoldable pub probe_list : Model → Roles → Circuit → List Probe
probe_list m roles circuit =
    flat_map (λ c. map (probe_on m roles circuit.nets circuit.timing c) (probed_sources roles circuit.nets)) (range_with_len 0 (cycles circuit.timing))

-- the most probes that there may be
abbrev pub most_probes : ℕ
most_probes = 65535

-- the most entries that all seen lists may have together
abbrev pub most_seen : ℕ
most_seen = 16777216

-- how many entries the seen lists have together
abbrev pub seen_count : List Probe → ℕ
seen_count probes = sum_by (λ (p : Probe). length p.seen) probes

-- the refusals of a circuit that has too many probes, or whose probes see too much
unfoldable pub probe_causes : Model → Roles → Circuit → List Cause
probe_causes m roles circuit =
    of_all (Limit which.Probes) (most_probes < length (probe_list m roles circuit))
    ∷ of_all (Limit which.Seen) (most_seen < seen_count (probe_list m roles circuit))
    ∷ []

-- a probe by its number
abbrev pub probe_at : List Probe → ℕ → Probe
probe_at probes p = slice_index_or probes p (record { source = source.Missing; cycle = 0; name_bit = 0; output = false; seen = [] })

-- the values that a probe sees
abbrev pub probe_values : Circuit → Assignment → Probe → List Bool
probe_values circuit env p = map (value circuit.timing circuit.nets env p.cycle) p.seen

-- What a tuple of probes observes: the values that its probes see, probe by probe. A tuple is a list of probe numbers, in
-- ascending order.
abbrev pub observation : Model → Roles → Circuit → List ℕ → Assignment → List Bool
observation m roles circuit tuple env = flat_map (λ p. probe_values circuit env (probe_at (probe_list m roles circuit) p)) tuple
