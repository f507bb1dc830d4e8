-- Lists of numbers: what contracts see of a list with room, and lists that have no number twice.
use Rattle.std.specs.Prelude.{ℕ, Bool, true, not, ◌&&◌, List, [], ◌∷◌, ◌++◌, if◌then◌else◌}
use Rattle.expr_table.specs.Table.{has}

-- what contracts see of a list of numbers: how many it has room for, and the numbers
pub record Held : Type 0 where
  pub room : ℕ
  pub numbers : List ℕ

-- an empty list with this room
abbrev pub none_held : ℕ → Held
none_held room = record { room = room; numbers = [] }

-- no number stands twice
abbrev pub are_distinct : List ℕ → Bool
are_distinct [] = true
are_distinct (x ∷ xs) = not (has xs x) && are_distinct xs

-- the list, with the number at its end where it was not there
abbrev pub with_added : List ℕ → ℕ → List ℕ
with_added xs x = if has xs x then xs else xs ++ x ∷ []
