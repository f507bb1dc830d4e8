-- The least line of the cells that pass a test.
use Rattle.std.specs.Prelude.{ℕ, ◌<◌, ◌≡◌, Bool, IsTrue, Option, None, Some, min}
use Rattle.std.specs.Option.{option_map_or}
use Rattle.circuit_types.specs.declared.nets.Nets.{Nets}
use Rattle.circuit_types.specs.Due.{Never, IsLeast}
use Rattle.circuit_types.specs.DataSources.{cell_at}

-- the least line at which the cause holds, or none where it never holds
abbrev pub IsLeastLine : (ℕ → Type 0) → Option ℕ → Type 0
IsLeastLine holds None = Never holds
IsLeastLine holds (Some line) = IsLeast holds line

-- one of the first i cells passes, and stands at this line
abbrev pub AtCellBelow : Nets → (ℕ → Bool) → ℕ → ℕ → Type 0
AtCellBelow nets test i line = (k : ℕ) × (k < i) × IsTrue (test k) × ((cell_at nets k).line ≡ line)

-- the lesser of a line and the least one so far
abbrev pub lesser_line : Option ℕ → ℕ → ℕ
lesser_line least line = option_map_or (λ other. min line other) least line
