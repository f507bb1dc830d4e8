-- The probes of a cycle, by the numbers of their sources.
use Rattle.std.specs.Prelude.{ℕ, ◌<◌, ◌≡◌, ◌&&◌, Bool, false, List, length, map, All, slice_index_or}
use Rattle.std.specs.List.{range_with_len}
use Rattle.circuit_types.specs.declared.nets.Nets.{Nets}
use Rattle.circuit_types.specs.declared.probes.Probe.{Probe}
use Rattle.circuit_types.specs.Probes.{name_bit}
use Rattle.circuit_types.specs.DataSources.{IsWithin}
use Rattle.glitch_cone.specs.declared.listing.Wires.{Wires}
use Rattle.glitch_cone.specs.Cones.{list_at}
use Rattle.glitch_cone.specs.Numbers.{source_at}

-- the probe on a source in a cycle, where an output share may end in the last one
abbrev pub probe_of : Wires → Nets → ℕ → Bool → ℕ → Probe
probe_of wires nets cycle is_last n = record {
  source = source_at wires.sources.items n;
  cycle = cycle;
  name_bit = name_bit nets (source_at wires.sources.items n);
  output = is_last && slice_index_or wires.outputs.items n false;
  seen = map (source_at wires.sources.items) (list_at wires.cones.items n);
}

-- the probes of a cycle, in the order of their numbers
abbrev pub cycle_probes : Wires → Nets → ℕ → Bool → List Probe
cycle_probes wires nets cycle is_last = map (probe_of wires nets cycle is_last) (range_with_len 0 (length wires.sources.items))

-- each source has a flag and a list, and what is named is one of the netlist's
pub record AreWires (nets : Nets) (wires : Wires) : Type 0 where
  pub within : All (IsWithin nets) wires.sources.items
  pub one_flag_each : length wires.outputs.items ≡ length wires.sources.items
  pub one_list_each : length wires.cones.items ≡ length wires.sources.items
  pub lists : (n : ℕ) → n < length wires.sources.items → All (λ k. k < length wires.sources.items) (list_at wires.cones.items n)
