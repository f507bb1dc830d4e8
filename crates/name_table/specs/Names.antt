-- Names, each with a value.
use Rattle.std.specs.Prelude.{◌≡◌, ℕ, List, Option, Some, None, if◌then◌else◌}
use Rattle.std.specs.Map.{lookup}
use Rattle.std.specs.Option.{option_or}
use Rattle.std.specs.Str.{bytes_eq}

-- the value of the first of these names that is this one
abbrev pub value_of : {V : Type 0} → List ℕ → List (List ℕ × V) → Option V
value_of name table = lookup (bytes_eq name) table

-- The new table has the values of the old one, and this value of this name if the old one had none.
abbrev pub HasAlso : {V : Type 0} → List (List ℕ × V) → List (List ℕ × V) → List ℕ → V → Type 0
HasAlso old new name value = (other : List ℕ)
    → value_of other new ≡ option_or (value_of other old) (if bytes_eq other name then Some value else None)
