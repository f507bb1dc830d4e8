use Rattle.std.proofs.Common.{◌≡◌, ◌+◌, ◌-◌, vec_len, length, true}
use Rattle.mv_files.specs.Told.{WhereTold}
use Rattle.mv_files.proofs.Reading.{Halfway}
use Rattle.mv_files.proofs.whole.read_whole.Given as goal

-- a file is open, and what was read and what is left is the file
abbrev pub invariant-loop-buffer : goal.invariant-loop-buffer
invariant-loop-buffer g l = record {
  reading : g.F.Files.is_reading l.files ≡ true;
  room : length l.buffer ≡ 4096;
  faultless : g.F.Files.read_faults l.files ≡ g.F.Files.read_faults l.fn.files;
  write_faults : g.F.Files.write_faults l.files ≡ g.F.Files.write_faults l.fn.files;
  halfway : WhereTold (Halfway l.name l.bytes.items) (g.F.Files.disk l.fn.files) (g.F.Files.disk l.files);
}

abbrev pub decreases-loop-buffer : goal.decreases-loop-buffer
decreases-loop-buffer g l = l.limit + 1 - vec_len l.bytes
