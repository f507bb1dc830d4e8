use Rattle.std.proofs.Common.{◌≡◌, ◌-◌, length}
use Rattle.certificate.proofs.ReadLines.{HasEntries}
use Rattle.certificate.proofs.reading.read.Given as goal

-- the header and the entries so far were read
abbrev pub invariant-loop-list : goal.invariant-loop-list
invariant-loop-list l = record {
  input : l.reader.bytes.now ≡ l.bytes;
  read : HasEntries l.bytes l.reader.place l.reader.number l.header l.list.items;
}

abbrev pub decreases-loop-list : goal.decreases-loop-list
decreases-loop-list l = length l.bytes - l.reader.place
