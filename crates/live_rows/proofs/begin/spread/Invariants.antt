use Rattle.std.proofs.Common.{◌≡◌, ◌+◌, ◌-◌, length}
use Rattle.live_rows.specs.Spread.{IsSpread}
use Rattle.live_rows.proofs.begin.spread.Given as goal

-- the rows so far were looked at
abbrev pub invariant-loop-next : goal.invariant-loop-next
invariant-loop-next g l = record {
  spread : IsSpread (g.S.Looks.nodes l.source) l.fn.marks l.marks l.found.numbers l.next;
  room : l.found.room ≡ l.fn.found.room;
  cost : l.steps ≡ l.fn.steps + l.next;
}

abbrev pub decreases-loop-next : goal.decreases-loop-next
decreases-loop-next g l = length l.marks - l.next
