use Rattle.std.proofs.Common.{take}
use Rattle.certificate.proofs.WrittenLines.{EntriesWritten}
use Rattle.certificate.proofs.writing.write.Given as goal

-- the header and the entries so far were written
abbrev pub invariant-loop-entry : goal.invariant-loop-entry
invariant-loop-entry l = EntriesWritten l.header (take l.entry-index l.list) l.text.items
