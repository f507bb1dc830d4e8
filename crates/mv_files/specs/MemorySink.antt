-- A sink in memory.
use Rattle.std.specs.Prelude.{ℕ, ◌-◌, ◌==◌, Bool, ◌||◌, if◌then◌else◌, List, [], ◌++◌, length, take, min, Option, None, Some}
use Rattle.mv_files.specs.Counts.{counted}
use Rattle.mv_files.specs.Calls.{CallCount, is_failing, after_call}

pub record SinkState : Type 0 where
  -- what it took
  pub written : List ℕ
  -- the most bytes that one call takes
  pub piece : ℕ
  -- the most bytes that all calls take together
  pub room : ℕ
  pub calls : CallCount
  pub faults : ℕ

-- a sink that took nothing yet
abbrev pub empty_sink : ℕ → List ℕ → ℕ → SinkState
empty_sink piece failing room = record { written = []; piece = piece; room = room; calls = record { failing = failing; made = 0 }; faults = 0 }

abbrev pub room_left : SinkState → ℕ
room_left sink = sink.room - length sink.written

-- the call is to fail, or no room is left
abbrev pub write_fails : SinkState → Bool
write_fails sink = is_failing sink.calls || (room_left sink == 0)

-- how many of these bytes a call takes
abbrev pub taken_of : List ℕ → SinkState → ℕ
taken_of bytes sink = min (min sink.piece (length bytes)) (room_left sink)

-- what the call answers where it does not fail
abbrev pub write_answer : List ℕ → SinkState → Option ℕ
write_answer bytes sink = if write_fails sink then None else Some (taken_of bytes sink)

abbrev pub after_write : List ℕ → SinkState → SinkState
after_write bytes sink =
    if write_fails sink
    then record sink { calls = after_call sink.calls; faults = counted sink.faults }
    else record sink { calls = after_call sink.calls; written = sink.written ++ take (taken_of bytes sink) bytes }
