use Rattle.std.proofs.Common.{◌≡◌, ◌+◌, ◌≤◌, ℕ, List, length}
use Rattle.live_rows.specs.Shown.{Shows}
use Rattle.least_chain.specs.Waiting.{AreWaiting}
use Rattle.least_chain.proofs.chain.offer_parents.Given as goal

-- each row taken lets at most one wait
abbrev pub invariant-loop-row : goal.invariant-loop-row
invariant-loop-row l = record {
  marks : l.live.marks ≡ l.initial.live.marks;
  found : l.live.found ≡ l.initial.live.found;
  waits : (roots done : List ℕ) → Shows l.table.nodes roots done l.initial.live.marks
      → AreWaiting l.table.nodes roots done l.initial.live.alone l.initial.waiting → AreWaiting l.table.nodes roots done l.live.alone l.waiting;
  len : length l.waiting + length l.live.alone ≤ length l.initial.waiting + length l.initial.live.alone;
}

abbrev pub decreases-loop-row : goal.decreases-loop-row
decreases-loop-row l = length l.live.alone
