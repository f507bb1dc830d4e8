use Rattle.std.proofs.Common.{◌≡◌, length}
use Rattle.live_rows.specs.State.{IsClear}
use Rattle.engine_uses.proofs.chains.check_fronts.Given as goal

-- nothing is live between checks, and both stay fit
abbrev pub invariant-loop-len : goal.invariant-loop-len
invariant-loop-len g l = record {
  clear : IsClear l.live;
  rows : length l.live.marks ≡ length l.instance.table.nodes;
}
