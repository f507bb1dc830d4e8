use Rattle.std.proofs.Common.{◌≡◌, length}
use Rattle.live_rows.specs.State.{IsClear}
use Rattle.engine_uses.proofs.chains.spoil_each.Given as goal

-- nothing is live between checks
abbrev pub invariant-loop-place : goal.invariant-loop-place
invariant-loop-place g l = record {
  clear : IsClear l.live;
  rows : length l.live.marks ≡ length l.instance.table.nodes;
}
