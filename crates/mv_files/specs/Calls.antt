-- The calls that were made to an object in memory.
use Rattle.std.specs.Prelude.{ℕ, Bool, ◌==◌, List}
use Rattle.std.specs.List.{list_any}
use Rattle.mv_files.specs.Counts.{counted}

pub record CallCount : Type 0 where
  -- the numbers of the calls that are to fail, where the first call has the number 0
  pub failing : List ℕ
  -- how many calls were made
  pub made : ℕ

-- the next call is to fail
abbrev pub is_failing : CallCount → Bool
is_failing calls = list_any (λ n. n == calls.made) calls.failing

-- one more call was made
abbrev pub after_call : CallCount → CallCount
after_call calls = record calls { made = counted calls.made }
