use Rattle.std.proofs.Common.{◌≡◌, ℕ, length, take}
use Rattle.std.specs.Option.{option_map_or}
use Rattle.circuit_types.specs.InputBits.{role_in}
use Rattle.term_build.specs.Building.{role_row, row_at}
use Rattle.term_build.proofs.bit_rows.bit_rows.Given as goal

abbrev pub invariant-loop-input : goal.invariant-loop-input
invariant-loop-input l = record {
  count : length l.rows.items ≡ l.count;
  each : (b : ℕ) → row_at l.rows.items b ≡ option_map_or (role_row l.given l.drawn l.shares b) (role_in (take l.input-index l.input-items) b) 0;
}
