-- Where all bits end.
use Rattle.std.specs.Prelude.{◌≡◌, ℕ, ◌<◌, List, length, slice_index_or}
use Rattle.circuit_types.specs.Drives.{Drive, EndsAt}
use Rattle.circuit_types.specs.Items.{bit_count}
use Rattle.circuit_types.specs.declared.nets.NetWire.{NetWire}
use Rattle.circuit_types.specs.declared.nets.SignalBit.TheVariants as bit
use Rattle.circuit_types.specs.declared.nets.Source.{Source}
use Rattle.circuit_types.specs.declared.nets.Source.TheVariants as source

pub record AreSources (ws : List NetWire) (ds : List Drive) (sources : List Source) : Type 0 where
  pub each_bit : length sources ≡ bit_count ws
  pub ends : (k : ℕ) → k < length sources → EndsAt ws ds (bit.Net k) (slice_index_or sources k source.Missing)
