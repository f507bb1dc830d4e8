use Rattle.std.proofs.Common.{◌≡◌, length, true}
use Rattle.mv_files.specs.Told.{WhereTold}
use Rattle.mv_files.proofs.WritingWhole.{PartWritten}
use Rattle.mv_files.proofs.write.write_whole.Given as goal

-- the file is open, and what was written, and what is not, are the bytes
abbrev pub invariant-loop-unwritten : goal.invariant-loop-unwritten
invariant-loop-unwritten g l = record {
  writing : g.F.Files.is_writing l.files ≡ true;
  faultless : g.F.Files.write_faults l.files ≡ g.F.Files.write_faults l.fn.files;
  read_faults : g.F.Files.read_faults l.files ≡ g.F.Files.read_faults l.fn.files;
  part : WhereTold (PartWritten l.name l.bytes l.unwritten) (g.F.Files.disk l.fn.files) (g.F.Files.disk l.files);
}

abbrev pub decreases-loop-unwritten : goal.decreases-loop-unwritten
decreases-loop-unwritten g l = length l.unwritten
