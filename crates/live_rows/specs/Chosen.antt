-- The probes that are chosen, one after another.
use Rattle.std.specs.Prelude.{ℕ, Bool, nat_le, List, find, Option}
use Rattle.bit_rows.specs.Sets.{members}

-- the least number of the set that is at least start, if there is one
abbrev pub chosen_from : List Bool → ℕ → Option ℕ
chosen_from set start = find (λ i. nat_le start i) (members set)
