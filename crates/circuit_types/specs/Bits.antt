-- The bits of constants by their places, place 0 the least significant, after the Yosys RTLIL text
-- representation.
use Rattle.std.specs.Prelude.{ℕ, zero, suc, ◌+◌, ◌-◌, ◌*◌, ◌/◌, ◌%◌, ◌==◌, if◌then◌else◌, nat_lt, List, [], ◌∷◌, length, map, slice_index, slice_index_or}
use Rattle.std.specs.Int.{bit_at, cast_unsigned, w32}
use Rattle.circuit_types.specs.declared.signal.Bits.{Bits}
use Rattle.circuit_types.specs.declared.signal.BitValue.{BitValue}
use Rattle.circuit_types.specs.declared.signal.BitValue.TheVariants as written
use Rattle.circuit_types.specs.declared.signal.Value.{Value}
use Rattle.circuit_types.specs.declared.signal.Value.TheVariants as value
use Rattle.circuit_types.specs.declared.nets.SignalBit.{SignalBit}
use Rattle.circuit_types.specs.declared.nets.SignalBit.TheVariants.{Zero, One, Unknown}

-- so many numbers in a row, from the first on
abbrev pub numbers : ℕ → ℕ → List ℕ
numbers first zero = []
numbers first (suc n) = first ∷ numbers (first + 1) n

-- a written bit; `x`, `z`, `m` and `-` are unknown
abbrev pub written_bit : BitValue → SignalBit
written_bit written.Zero = Zero
written_bit written.One = One
written_bit other = Unknown

-- What the missing most significant bits are: unknown where the first written bit is, or where none is
-- written, and else 0.
abbrev pub missing_bit : List BitValue → SignalBit
missing_bit [] = Unknown
missing_bit (written.Zero ∷ bits) = Zero
missing_bit (written.One ∷ bits) = Zero
missing_bit (other ∷ bits) = Unknown

-- the last written bit is at place 0
unfoldable pub constant_bit : List BitValue → ℕ → SignalBit
constant_bit bits place =
    if nat_lt place (length bits) then written_bit (slice_index_or bits (length bits - 1 - place) written.X)
    else missing_bit bits

-- a bit of a number
unfoldable pub number_bit : ℕ → ℕ → SignalBit
number_bit number place = if bit_at number place == 1 then One else Zero

-- A number has 32 bits, two's complement; a text has eight for each byte, the first byte most significant.
abbrev pub value_bit : Value → ℕ → SignalBit
value_bit (value.Bits b) place = constant_bit b.written place
value_bit (value.Number n) place = number_bit (cast_unsigned w32 n) place
value_bit (value.Text text) place = number_bit (slice_index text (length text - 1 - place / 8)) (place % 8)

abbrev pub value_width : Value → ℕ
value_width (value.Bits b) = b.width
value_width (value.Number n) = 32
value_width (value.Text text) = 8 * length text
