-- Where bits end by the drivers of all bits.
use Rattle.std.specs.Prelude.{◌≡◌, ℕ, ◌<◌, Bool, true, false, ◌⊎◌, List, [], ◌∷◌, length, slice_index_or}
use Rattle.circuit_types.specs.declared.nets.Source.{Source}
use Rattle.circuit_types.specs.declared.nets.Source.TheVariants as source
use Rattle.circuit_types.specs.declared.nets.SignalBit.TheVariants as bit
use Rattle.net_build.specs.declared.drivers.Driver.{Driver}
use Rattle.net_build.specs.declared.drivers.Driver.TheVariants as driver
use Rattle.net_build.specs.declared.resolve.Step.{Step}
use Rattle.net_build.specs.declared.resolve.Step.TheVariants.{To, At}

-- where following a bit with this driver goes
abbrev pub step_of : Driver → ℕ → Step
step_of driver.Nothing k = At source.Missing
step_of driver.Input k = At (source.Input k)
step_of (driver.Cell cell) k = At (source.Cell cell)
step_of (driver.Bit (bit.Net n)) k = To n
step_of (driver.Bit bit.Zero) k = At source.Zero
step_of (driver.Bit bit.One) k = At source.One
step_of (driver.Bit bit.Unknown) k = At source.Unknown

unfoldable pub step_at : List Driver → ℕ → Step
step_at ds k = step_of (slice_index_or ds k driver.Nothing) k

-- following the bit comes to this end
pub data Leads (ds : List Driver) : ℕ → Source → Type 0 where
  here : (k : ℕ) (end : Source) → step_at ds k ≡ At end → Leads ds k end
  on : (k next : ℕ) (end : Source) → step_at ds k ≡ To next → Leads ds next end → Leads ds k end

-- the bit's end: where following it leads, or Missing where that goes round
abbrev pub IsEndOf : List Driver → ℕ → Source → Type 0
IsEndOf ds k end = Leads ds k end ⊎ ((end ≡ source.Missing) × ((other : Source) → Leads ds k other → ⊥))

-- following a bit stays among the bits
abbrev pub IsClosed : List Driver → Type 0
IsClosed ds = (k n : ℕ) → k < length ds → step_at ds k ≡ To n → n < length ds

-- one of these numbers
abbrev pub Among : List ℕ → ℕ → Type 0
Among [] k = ⊥
Among (x ∷ xs) k = (x ≡ k) ⊎ Among xs k

abbrev pub is_seen : List Bool → ℕ → Bool
is_seen seen k = slice_index_or seen k false

abbrev pub end_at : List Source → ℕ → Source
end_at ends k = slice_index_or ends k source.Missing

-- the ends of the bits seen are known, and of no other
pub record IsSettled (ds : List Driver) (ends : List Source) (seen : List Bool) : Type 0 where
  pub all_ends : length ends ≡ length ds
  pub all_seen : length seen ≡ length ds
  pub known : (k : ℕ) → k < length ds → is_seen seen k ≡ true → IsEndOf ds k (end_at ends k)
  pub fresh : (k : ℕ) → is_seen seen k ≡ false → end_at ends k ≡ source.Missing

-- the bit was followed over those on the way, which were not seen before; all of them have this end
pub record HasFollowed (ds : List Driver) (start : ℕ) (before seen : List Bool) (way : List ℕ) (end : Source) : Type 0 where
  pub each : (k : ℕ) → Among way k → IsEndOf ds k end
  pub within : (k : ℕ) → Among way k → k < length ds
  pub marked : (k : ℕ) → is_seen seen k ≡ true → (is_seen before k ≡ true) ⊎ Among way k
  pub marks : (k : ℕ) → Among way k → is_seen seen k ≡ true
  pub kept : (k : ℕ) → is_seen before k ≡ true → is_seen seen k ≡ true
  pub reached : is_seen seen start ≡ true
  pub size : length seen ≡ length before

-- while a bit is followed: this one is next
pub record IsOnWay (ds : List Driver) (start bit : ℕ) (before seen : List Bool) (way : List ℕ) : Type 0 where
  pub inside : bit < length ds
  pub back : (k : ℕ) → Among way k → (end : Source) → IsEndOf ds bit end → IsEndOf ds k end
  pub steps : (k : ℕ) → Among way k → (n : ℕ) × (step_at ds k ≡ To n) × (Among way n ⊎ (n ≡ bit))
  pub within : (k : ℕ) → Among way k → k < length ds
  pub marked : (k : ℕ) → is_seen seen k ≡ true → (is_seen before k ≡ true) ⊎ Among way k
  pub marks : (k : ℕ) → Among way k → is_seen seen k ≡ true
  pub kept : (k : ℕ) → is_seen before k ≡ true → is_seen seen k ≡ true
  pub reached : (bit ≡ start) ⊎ (is_seen seen start ≡ true)
  pub size : length seen ≡ length before

-- some ends are replaced by one, all others stay
abbrev pub ReplacesAmong : List ℕ → Source → List Source → List Source → Type 0
ReplacesAmong way end old new = (length new ≡ length old)
    × ((k : ℕ) → k < length old → (Among way k × (end_at new k ≡ end)) ⊎ ((Among way k → ⊥) × (end_at new k ≡ end_at old k)))
