-- What a sink has taken.
use Rattle.std.specs.Prelude.{ℕ, ◌≡◌, ◌≢◌, ◌<◌, ◌≤◌, List, [], ◌++◌, length, Option}
use Rattle.mv_files.specs.Told.{WhereTold}

-- a call takes n of the bytes, at least one
pub record TakesSome (n : ℕ) (bytes : List ℕ) : Type 0 where
  pub within : n ≤ length bytes
  pub some : 0 < n

-- the bytes were added at the end
abbrev pub Adds : List ℕ → List ℕ → List ℕ → Type 0
Adds bytes old new = new ≡ old ++ bytes

-- a first part of the bytes was added at the end, and some of the bytes were not
pub record AddsPart (bytes : List ℕ) (old new : Option (List ℕ)) : Type 0 where
  pub sent : List ℕ
  pub unsent : List ℕ
  pub parts : bytes ≡ sent ++ unsent
  pub some_unsent : unsent ≢ []
  pub added : WhereTold (Adds sent) old new
