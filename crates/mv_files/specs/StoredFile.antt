-- A file in memory.
use Rattle.std.specs.Prelude.{ℕ, List, []}

pub record Stored : Type 0 where
  pub name : List ℕ
  pub bytes : List ℕ
  -- the most bytes that it may come to hold
  pub room : ℕ

-- the name and the bytes
abbrev pub told_of : Stored → List ℕ × List ℕ
told_of file = (file.name, file.bytes)

abbrev pub no_file : Stored
no_file = record { name = []; bytes = []; room = 0 }

-- the name of a created file has at most so many bytes
abbrev pub most_name_bytes : ℕ
most_name_bytes = 256
