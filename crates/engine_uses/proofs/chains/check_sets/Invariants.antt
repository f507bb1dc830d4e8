use Rattle.std.proofs.Common.{◌≡◌, ◌≤◌, ◌*◌, length}
use Rattle.live_rows.specs.State.{IsClear}
use Rattle.engine_uses.proofs.chains.check_sets.Given as goal

-- nothing is live between checks, both stay fit, and each set has at most a hundred cuts
abbrev pub invariant-loop-bits : goal.invariant-loop-bits
invariant-loop-bits g l = record {
  clear : IsClear l.live;
  rows : length l.live.marks ≡ length l.instance.table.nodes;
  scratch : l.scratch ≡ length l.instance.table.nodes;
  few : l.count ≤ 100 * l.bits;
}
