-- Turns that a number draws.
use Rattle.std.specs.Prelude.{ℕ, zero, suc, ◌≡◌, ◌<◌, ◌≤◌, ◌+◌, ◌*◌, ◌/◌, ◌%◌, ◌^◌, ◌⊎◌, IfSome, IsSome, IsTrue, None, [], length}
use Rattle.expr_table.specs.declared.instance.Instance.{Instance}
use Rattle.expr_table.specs.Table.{has}
use Rattle.frontier_core.specs.declared.event.Event.{Event}
use Rattle.frontier_core.specs.declared.event.Event.TheVariants.{Take, Proved, Failed, Beyond}
use Rattle.frontier_core.specs.Answer.{IsLeast}
use Rattle.frontier_core.specs.Balance.{failed_ranks}
use Rattle.frontier_core.specs.Core.{CoreState, IsIdle, after, held_by, is_allowed}
use Rattle.frontier_core.specs.Search.{least_rank}

-- the state after a draw (a linear congruential generator; Knuth, The Art of Computer Programming, volume 2)
abbrev pub next_state : ℕ → ℕ
next_state state = (state * 6364136223846793005 + 1442695040888963407) % 2 ^ 64

-- the state after so many draws
abbrev pub state_after : ℕ → ℕ → ℕ
state_after seed zero = seed
state_after seed (suc n) = next_state (state_after seed n)

-- the number that is drawn where this is the state after the draw; it is below 2^31
abbrev pub drawn_from : ℕ → ℕ
drawn_from state = state / 2 ^ 33

-- no worker from one number up to another holds a family
abbrev pub HoldNone : CoreState → ℕ → ℕ → Type 0
HoldNone core low high = (worker : ℕ) → low ≤ worker → worker < high → held_by core worker ≡ None

-- the first worker from a number on that holds a family
pub record IsFirstHolder (core : CoreState) (low worker : ℕ) : Type 0 where
  pub within : low ≤ worker
  pub holds : IsSome (held_by core worker)
  pub first : HoldNone core low worker

-- Whose turn it is: where a family is open, the worker's that was drawn; else the first one's, from that one upwards and
-- round, that holds a family.
pub record HasTurn (core : CoreState) (drawn worker : ℕ) : Type 0 where
  pub where_open : 0 < length core.open_families → worker ≡ drawn
  pub where_none : core.open_families ≡ []
      → IsFirstHolder core drawn worker ⊎ (HoldNone core drawn (length core.held) × IsFirstHolder core 0 worker)

-- each failed rank is greater than that of the least tuple of the worker's family
abbrev pub ComesFirst : Instance → ℕ → CoreState → ℕ → Type 0
ComesFirst x t core worker =
    IfSome (held_by core worker) (λ family. (rank : ℕ) → IsTrue (has (failed_ranks core.ended) rank) → least_rank x t family < rank)

-- the least failed rank, which is at most that of the least tuple of the worker's family
pub record IsKnown (x : Instance) (t : ℕ) (core : CoreState) (worker best : ℕ) : Type 0 where
  pub least : IsLeast (failed_ranks core.ended) best
  pub below : IfSome (held_by core worker) (λ family. best ≤ least_rank x t family)

-- What a worker does whose turn it is, with a number. One that holds no family takes the open one at the place that the
-- number has among them, round and round. One that holds a family ends it: as beyond the least failed rank where that
-- is at most the rank of its least tuple, and else as proved or failed.
abbrev pub IsTurnOf : Instance → ℕ → CoreState → ℕ → ℕ → Event → Type 0
IsTurnOf x t core worker number (Take doer place) = (doer ≡ worker) × (place ≡ number % length core.open_families)
IsTurnOf x t core worker number (Proved doer) = (doer ≡ worker) × ComesFirst x t core worker
IsTurnOf x t core worker number (Failed doer) = (doer ≡ worker) × ComesFirst x t core worker
IsTurnOf x t core worker number (Beyond doer best) = (doer ≡ worker) × IsLeast (failed_ranks core.ended) best

-- the core moves on by the worker's turn, which is allowed
pub record Moves (x : Instance) (t worker number : ℕ) (old new : CoreState) : Type 0 where
  pub event : Event
  pub turn : IsTurnOf x t old worker number event
  pub allowed : IsTrue (is_allowed x t old event)
  pub is : new ≡ after x t old event

-- the core moves on by the turn that a number draws
pub record TakesTurn (x : Instance) (t drawn : ℕ) (old new : CoreState) : Type 0 where
  pub worker : ℕ
  pub has_turn : HasTurn old (drawn % length old.held) worker
  pub moves : Moves x t worker (drawn / length old.held) old new

-- The core has come so many turns: something was open or held before each, and the numbers that the seed draws, one after the
-- other, drew them.
abbrev pub ComesTo : Instance → ℕ → ℕ → ℕ → CoreState → CoreState → Type 0
ComesTo x t seed zero first last = last ≡ first
ComesTo x t seed (suc n) first last =
    (before : CoreState) × ComesTo x t seed n first before × (IsIdle before → ⊥)
    × TakesTurn x t (drawn_from (state_after seed (suc n))) before last

-- the core goes to its end by the turns that the seed draws: after the last one nothing is open or held
pub record RunsTo (x : Instance) (t seed : ℕ) (first last : CoreState) : Type 0 where
  pub turns : ℕ
  pub comes : ComesTo x t seed turns first last
  pub over : IsIdle last
