-- The module that is verified.
use Rattle.std.specs.Prelude.{ℕ, ◌==◌, ◌&&◌, not, Bool, true, false, if◌then◌else◌, pos, List, length, Option, Some, None, count_by, position, codes}
use Rattle.std.specs.List.{list_any}
use Rattle.std.specs.Ordering.{int_eq}
use Rattle.std.specs.Str.{bytes_eq}
use Rattle.circuit_types.specs.declared.signal.BitValue.{BitValue}
use Rattle.circuit_types.specs.declared.signal.BitValue.TheVariants.{One}
use Rattle.circuit_types.specs.declared.signal.Value.{Value}
use Rattle.circuit_types.specs.declared.signal.Value.TheVariants.{Bits, Number, Text}
use Rattle.circuit_types.specs.declared.tree.Attribute.{Attribute}
use Rattle.circuit_types.specs.declared.tree.Module.{Module}
use Rattle.circuit_types.specs.declared.tree.Tree.{Tree}

abbrev pub is_one : BitValue → Bool
is_one One = true
is_one bit = false

-- a number other than 0, or bits with a 1
abbrev pub is_set : Value → Bool
is_set (Bits bits) = list_any is_one bits.written
is_set (Number number) = not (int_eq number (pos 0))
is_set (Text text) = false

-- the attribute `\top`, set
abbrev pub is_top_mark : Attribute → Bool
is_top_mark attribute = bytes_eq attribute.name (codes "\\top") && is_set attribute.value

abbrev pub is_marked : Module → Bool
is_marked unit = list_any is_top_mark unit.attributes

-- the place of the marked module, where exactly one is marked
abbrev pub only_marked : List Module → Option ℕ
only_marked modules = if count_by is_marked modules == 1 then position is_marked modules else None

-- the only module; or, of several, the only one that is marked
abbrev pub top_of : Tree → Option ℕ
top_of tree = if length tree.modules == 1 then Some 0 else only_marked tree.modules
