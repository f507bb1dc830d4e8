-- The bytes of a name, wherever they lie.
use Rattle.std.specs.Prelude.{ℕ, List}
use Rattle.circuit_types.specs.declared.name.Letters.{Letters}
use Rattle.circuit_types.specs.declared.name.Letters.TheVariants.{Text, Made}

abbrev pub bytes_of : Letters → List ℕ
bytes_of (Text text) = text.now
bytes_of (Made bytes) = bytes
