use Rattle.std.proofs.Common.{◌≡◌, length}
use Rattle.live_rows.specs.State.{IsClear}
use Rattle.engine_uses.proofs.chains.checks_chains_of_a_refresh.Given as goal

-- nothing is live between checks
abbrev pub invariant-loop-bits : goal.invariant-loop-bits
invariant-loop-bits g l = record {
  clear : IsClear l.live;
  rows : length l.live.marks ≡ length l.instance.table.nodes;
}
