-- Sets of names.
use Rattle.std.specs.Prelude.{◌≡◌, ℕ, ◌||◌, List}
use Rattle.std.specs.Str.{bytes_eq}
use Rattle.rtlil_tree.specs.Names.{is_among}

-- the new list has the names of the old one, and this one
abbrev pub HasOneMore : List (List ℕ) → List (List ℕ) → List ℕ → Type 0
HasOneMore old new name = (x : List ℕ) → is_among x new ≡ (bytes_eq x name || is_among x old)

-- both lists have the same names
abbrev pub HaveSameNames : List (List ℕ) → List (List ℕ) → Type 0
HaveSameNames names others = (x : List ℕ) → is_among x names ≡ is_among x others
