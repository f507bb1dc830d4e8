use Rattle.open_count.specs.Seats.{IsCountSeatOf}
use Rattle.engine_uses.proofs.words.work.Given as goal

abbrev pub invariant-loop-round : goal.invariant-loop-round
invariant-loop-round l = IsCountSeatOf l.table l.seat
