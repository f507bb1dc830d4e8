-- The bits of a signal over given wires, and whether it has the form that they need.
use Rattle.std.specs.Prelude.{ℕ, ◌+◌, ◌-◌, Bool, true, false, ◌&&◌, if◌then◌else◌, nat_lt, nat_le, List, [], ◌∷◌, ◌++◌, length, map, take, drop, sum_by, Option, Some, None, is_some}
use Rattle.std.specs.List.{list_all}
use Rattle.circuit_types.specs.Bits.{numbers, value_bit, value_width}
use Rattle.circuit_types.specs.Items.{wire_named}
use Rattle.circuit_types.specs.declared.nets.NetWire.{NetWire}
use Rattle.circuit_types.specs.declared.nets.SignalBit.{SignalBit}
use Rattle.circuit_types.specs.declared.nets.SignalBit.TheVariants.{Net}
use Rattle.circuit_types.specs.declared.signal.Signal.{Signal}
use Rattle.circuit_types.specs.declared.signal.Signal.TheOpen.{Signal-F}
use Rattle.circuit_types.specs.declared.signal.Signal.TheFolds.{fold-Signal}

-- the most bits that one signal may have
abbrev pub most_width : ℕ
most_width = 1048576

-- a missing wire has width 0
abbrev pub wire_width : Option NetWire → ℕ
wire_width None = 0
wire_width (Some w) = w.width

-- A slice takes so many bits, or none where its high place is below its low one.
abbrev pub slice_width : ℕ → ℕ → ℕ
slice_width high low = if nat_lt high low then 0 else high - low + 1

-- What a signal is like.
pub record Shape : Type 0 where
  pub width : ℕ
  -- neither it nor a signal inside it is wider than a signal may be
  pub narrow : Bool
  -- each wire that it names is there
  pub named : Bool
  -- each slice takes places that its signal has, the high one not below the low one
  pub sliced : Bool

-- one level of a signal, the shapes of its parts in their places
abbrev pub shape_step : List NetWire → Signal-F Shape → Shape
shape_step ws (Signal-F.Value v) =
    record { width = value_width v; narrow = nat_le (value_width v) most_width; named = true; sliced = true }
shape_step ws (Signal-F.Wire name) = let width = wire_width (wire_named ws name) in
    record { width = width; narrow = nat_le width most_width; named = is_some (wire_named ws name); sliced = true }
shape_step ws (Signal-F.Slice of high low) = let width = slice_width high low in record {
  width = width;
  narrow = of.narrow && nat_le width most_width;
  named = of.named;
  sliced = of.sliced && (nat_lt high of.width && nat_le low high);
}
shape_step ws (Signal-F.Join parts) = let width = sum_by (λ p. p.width) parts in record {
  width = width;
  narrow = list_all (λ p. p.narrow) parts && nat_le width most_width;
  named = list_all (λ p. p.named) parts;
  sliced = list_all (λ p. p.sliced) parts;
}

abbrev pub shape : List NetWire → Signal → Shape
shape ws = fold-Signal Shape (shape_step ws)

abbrev pub wire_bits : Option NetWire → List SignalBit
wire_bits None = []
wire_bits (Some w) = map (λ k. Net k) (numbers w.first w.width)

-- the last list first, one after another
abbrev pub joined_from_last : List (List SignalBit) → List SignalBit
joined_from_last [] = []
joined_from_last (part ∷ parts) = joined_from_last parts ++ part

abbrev pub bits_step : List NetWire → Signal-F (List SignalBit) → List SignalBit
bits_step ws (Signal-F.Value v) = map (value_bit v) (numbers 0 (value_width v))
bits_step ws (Signal-F.Wire name) = wire_bits (wire_named ws name)
bits_step ws (Signal-F.Slice of high low) = take (slice_width high low) (drop low of)
bits_step ws (Signal-F.Join parts) = joined_from_last parts

-- the bits of a signal, from place 0 on; the last part of a join is the least significant
abbrev pub signal_bits : List NetWire → Signal → List SignalBit
signal_bits ws = fold-Signal (List SignalBit) (bits_step ws)
