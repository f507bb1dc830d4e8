-- The core of a search: its state, the events that it allows, and what each does.
use Rattle.std.specs.Prelude.{ℕ, ◌≡◌, ◌&&◌, nat_le, nat_lt, not, is_none, if◌then◌else◌, Bool, false, Option, None, List, [], ◌∷◌, ◌++◌, All, length, fold, remove, replicate, slice_get, slice_index_or, slice_set, unwrap_or}
use Rattle.std.specs.List.{flat_map}
use Rattle.std.specs.Option.{option_map_or, option_to_list}
use Rattle.expr_table.specs.declared.instance.Instance.{Instance}
use Rattle.expr_table.specs.Table.{has}
use Rattle.probe_family.specs.declared.ending.Ended.{Ended}
use Rattle.probe_family.specs.declared.ending.Ending.{Ending}
use Rattle.probe_family.specs.declared.ending.Ending.TheVariants as ending
use Rattle.probe_family.specs.declared.family.Family.{Family}
use Rattle.probe_family.specs.Least.{least_of}
use Rattle.probe_family.specs.Roots.{roots_of}
use Rattle.extend_set.specs.Hull.{hull_of, is_provable_within}
use Rattle.frontier_core.specs.declared.event.Event.{Event}
use Rattle.frontier_core.specs.declared.event.Event.TheVariants.{Take, Proved, Failed, Beyond}
use Rattle.frontier_core.specs.declared.event.Stepped.{Stepped}
use Rattle.frontier_core.specs.declared.event.Stepped.TheVariants.{Done, NotAllowed}
use Rattle.frontier_core.specs.Balance.{Balanced, failed_ranks, given_by}
use Rattle.frontier_core.specs.Search.{least_rank}

-- the roots, the open families, the family that each worker holds, and the ended families
pub record CoreState : Type 0 where
  pub roots : List Family
  pub open_families : List Family
  pub held : List (Option Family)
  pub ended : List Ended

-- a core whose workers hold nothing
abbrev pub core_with : Instance → ℕ → ℕ → List Family → List Ended → CoreState
core_with x t workers waiting ended =
    record { roots = roots_of x t; open_families = waiting; held = replicate workers None; ended = ended }

-- a core at its beginning: the roots are open
abbrev pub first_core : Instance → ℕ → ℕ → CoreState
first_core x t workers = core_with x t workers (roots_of x t) []

-- the family that the worker holds
abbrev pub held_by : CoreState → ℕ → Option Family
held_by core worker = slice_index_or core.held worker None

-- the families that are open or held
abbrev pub waiting_in : CoreState → List Family
waiting_in core = core.open_families ++ flat_map (λ held. option_to_list held) core.held

-- nothing is open or held
abbrev pub IsIdle : CoreState → Type 0
IsIdle core = (core.open_families ≡ []) × All (λ held. held ≡ None) core.held

-- the core is that of a search of the tuples of at most t probes
pub record IsCoreOf (x : Instance) (t : ℕ) (core : CoreState) : Type 0 where
  pub roots : core.roots ≡ roots_of x t
  pub balanced : Balanced x t (waiting_in core) core.ended

-- the family's least tuple is provable within its bound
abbrev pub is_least_provable : Instance → Family → Bool
is_least_provable x family = is_provable_within x family.bound (least_of family)

-- the worker holds a family that passes
abbrev pub holds_one : CoreState → ℕ → (Family → Bool) → Bool
holds_one core worker test = option_map_or test (held_by core worker) false

-- A worker that holds no family may take an open one. One that holds a family may end it: as proved where its least
-- tuple is provable within its bound; as failed where it is not; as beyond a failed rank that is at most the rank of its
-- least tuple.
abbrev pub is_allowed : Instance → ℕ → CoreState → Event → Bool
is_allowed x t core (Take worker place) =
    nat_lt worker (length core.held) && (is_none (held_by core worker) && nat_lt place (length core.open_families))
is_allowed x t core (Proved worker) = holds_one core worker (is_least_provable x)
is_allowed x t core (Failed worker) = holds_one core worker (λ family. not (is_least_provable x family))
is_allowed x t core (Beyond worker best) =
    holds_one core worker (λ family. has (failed_ranks core.ended) best && nat_le best (least_rank x t family))

-- the worker's family ends so, and what it gives is open behind the others
abbrev pub with_end : CoreState → ℕ → Family → Ending → CoreState
with_end core worker family how =
    record core {
      open_families = core.open_families ++ given_by family how;
      held = slice_set core.held worker None;
      ended = core.ended ++ record { family = family; how = how } ∷ [];
    }

-- the same, for the family that the worker holds
abbrev pub with_its_end : CoreState → ℕ → (Family → Ending) → CoreState
with_its_end core worker how = option_map_or (λ family. with_end core worker family (how family)) (held_by core worker) core

-- the core after an event that is allowed
abbrev pub after : Instance → ℕ → CoreState → Event → CoreState
after x t core (Take worker place) =
    record core { open_families = remove core.open_families place; held = slice_set core.held worker (slice_get core.open_families place) }
after x t core (Proved worker) = with_its_end core worker (λ family. ending.Proved (unwrap_or (hull_of x family) []))
after x t core (Failed worker) = with_its_end core worker (λ family. ending.Failed (least_rank x t family))
after x t core (Beyond worker best) = with_its_end core worker (λ family. ending.Beyond best)

-- an event that is allowed is done, and any other leaves the core as it was
abbrev pub core_after : Instance → ℕ → CoreState → Event → CoreState
core_after x t core event = if is_allowed x t core event then after x t core event else core

-- whether an event is done: exactly where it is allowed
abbrev pub answer_to : Instance → ℕ → CoreState → Event → Stepped
answer_to x t core event = if is_allowed x t core event then Done else NotAllowed

-- the core after some events, one after the other
abbrev pub core_after_all : Instance → ℕ → CoreState → List Event → CoreState
core_after_all x t core events = fold (core_after x t) core events
