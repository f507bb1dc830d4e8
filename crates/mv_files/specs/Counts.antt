-- Counts of calls and of faults: at most 2^64 - 1, where they stand still.
use Rattle.std.specs.Prelude.{ℕ, ◌≡◌, ◌+◌, ◌-◌, ◌^◌, ◌≤◌, min, Result, OnOk, OnErr}

-- one more
abbrev pub counted : ℕ → ℕ
counted n = min (n + 1) (2 ^ 64 - 1)

-- the count rose, or it stands at its end
abbrev pub Rose : ℕ → ℕ → Type 0
Rose old new = counted old ≤ new

-- a call that fails has counted a fault, and one that succeeds leaves the count
pub record CountsFaults {T E : Type 0} (old new : ℕ) (result : Result T E) : Type 0 where
  pub later : old ≤ new
  pub within : new ≤ 2 ^ 64 - 1
  pub same : OnOk result (new ≡ old)
  pub cause : OnErr result (Rose old new)
