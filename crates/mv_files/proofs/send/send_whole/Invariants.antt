use Rattle.std.proofs.Common.{◌≡◌, length}
use Rattle.mv_files.proofs.SendingLemmas.{Partway}
use Rattle.mv_files.proofs.send.send_whole.Given as goal

-- what was sent, and what is not, are the bytes
abbrev pub invariant-loop-unsent : goal.invariant-loop-unsent
invariant-loop-unsent g l = record {
  faultless : g.O.Sink.faults l.out ≡ g.O.Sink.faults l.fn.out;
  partway : Partway l.bytes l.unsent (g.O.Sink.written l.fn.out) (g.O.Sink.written l.out);
}

abbrev pub decreases-loop-unsent : goal.decreases-loop-unsent
decreases-loop-unsent g l = length l.unsent
