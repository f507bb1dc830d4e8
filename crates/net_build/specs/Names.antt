-- The printed names of bits.
use Rattle.std.specs.Prelude.{ℕ, ◌-◌, Bool, ◌&&◌, ◌==◌, nat_le, nat_lt, if◌then◌else◌, List, [], ◌++◌, drop, find, Option, Some, None, codes, decimal}
use Rattle.circuit_types.specs.Nets.{begins_with_backslash}
use Rattle.circuit_types.specs.declared.nets.NetWire.{NetWire}

-- the bit is one of the wire's
abbrev pub has_bit : ℕ → NetWire → Bool
has_bit bit w = nat_le w.first bit && nat_lt (bit - w.first) w.width

-- the identifier without a leading backslash
abbrev pub bare : List ℕ → List ℕ
bare name = if begins_with_backslash name then drop 1 name else name

-- the place in brackets, where the wire's width is not 1
abbrev pub place_text : NetWire → ℕ → List ℕ
place_text w place = if w.width == 1 then [] else codes "[" ++ decimal place ++ codes "]"

abbrev pub bit_name : NetWire → ℕ → List ℕ
bit_name w place = bare w.name ++ place_text w place

abbrev pub name_in : Option NetWire → ℕ → List ℕ
name_in None bit = []
name_in (Some w) bit = bit_name w (bit - w.first)

-- the name of a bit; no name where no wire has it
unfoldable pub printed_name : List NetWire → ℕ → List ℕ
printed_name ws bit = name_in (find (has_bit bit) ws) bit
