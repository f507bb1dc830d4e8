use Rattle.std.proofs.Common.{◌≡◌, length, take}
use Rattle.live_rows.specs.State.{IsClear}
use Rattle.cert_check.specs.Entries.{entries_of}
use Rattle.cert_check.proofs.tree_entries.entries.Given as goal

abbrev pub invariant-loop-each : goal.invariant-loop-each
invariant-loop-each l = record {
  so_far : l.entries.items ≡ entries_of l.instance (take l.each-index l.closed);
  clear : IsClear l.live;
  rows : length l.live.marks ≡ length l.fn.live.marks;
}
