-- What drives each bit after some drives.
use Rattle.std.specs.Prelude.{◌≡◌, ℕ, ◌+◌, ◌<◌, Bool, true, false, ◌&&◌, nat_le, nat_lt, not, if◌then◌else◌, List, length, find, Option, Some, None, slice_index_or, slice_set}
use Rattle.circuit_types.specs.Items.{bit_count}
use Rattle.circuit_types.specs.Drives.{Drive, by_cell, by_bit, is_input, is_input_bit, is_net}
use Rattle.circuit_types.specs.Drives as drives
use Rattle.circuit_types.specs.declared.nets.NetWire.{NetWire}
use Rattle.circuit_types.specs.declared.nets.SignalBit.{SignalBit}
use Rattle.circuit_types.specs.declared.nets.SignalBit.TheVariants as bit
use Rattle.net_build.specs.declared.drivers.Driver.{Driver}
use Rattle.net_build.specs.declared.drivers.Driver.TheVariants as driver

abbrev pub code_of : drives.Driver → Driver
code_of (by_cell cell) = driver.Cell cell
code_of (by_bit b) = driver.Bit b

abbrev pub driver_or : Option Drive → Driver
driver_or None = driver.Nothing
driver_or (Some d) = code_of d.driver

-- an input is driven from the start; else the first drive counts
unfoldable pub first_driver : List NetWire → List Drive → ℕ → Driver
first_driver ws ds k = if is_input_bit ws k then driver.Input else driver_or (find (λ d. is_net k d.target) ds)

pub record KnowsDrivers (ws : List NetWire) (ds : List Drive) (drivers : List Driver) : Type 0 where
  pub size : length drivers ≡ bit_count ws
  pub each : (k : ℕ) → k < length drivers → slice_index_or drivers k driver.Nothing ≡ first_driver ws ds k

abbrev pub is_nothing : Driver → Bool
is_nothing driver.Nothing = true
is_nothing other = false

-- a wire's bit is among the bits
abbrev pub IsWithin : ℕ → SignalBit → Type 0
IsWithin n (bit.Net k) = k < n
IsWithin n other = Unit {0}

abbrev pub is_driven : List Driver → SignalBit → Bool
is_driven drivers (bit.Net k) = not (is_nothing (slice_index_or drivers k driver.Nothing))
is_driven drivers other = true

-- the drivers once this bit is driven, unless it is driven already
abbrev pub driven : List Driver → SignalBit → Driver → List Driver
driven drivers (bit.Net k) d = if is_nothing (slice_index_or drivers k driver.Nothing) then slice_set drivers k d else drivers
driven drivers other d = drivers

-- the bit is an input wire's
abbrev pub has_input : ℕ → NetWire → Bool
has_input k w = is_input w.port && (nat_le w.first k && nat_lt k (w.first + w.width))

-- one bit is driven by a cell's output
abbrev pub tied : ℕ → ℕ → SignalBit → Drive
tied line number bit = record { line = line; target = bit; driver = by_cell number }

-- one bit is driven by another
abbrev pub joined : ℕ → (SignalBit × SignalBit) → Drive
joined line pair = record { line = line; target = pair.0; driver = by_bit pair.1 }
