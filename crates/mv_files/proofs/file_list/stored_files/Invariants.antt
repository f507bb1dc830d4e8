use Rattle.std.proofs.Common.{◌≡◌, ◌+◌, ◌≤◌, map, vec_len, vec_capacity}
use Rattle.mv_files.specs.StoredFile.{told_of}
use Rattle.mv_files.specs.MemoryFiles.{listed_of}
use Rattle.mv_files.proofs.file_list.stored_files.Given as goal

-- the list has the files so far, and places for all
abbrev pub invariant-loop-name : goal.invariant-loop-name
invariant-loop-name l = record {
  files : map told_of l.list.items ≡ listed_of l.yielded;
  places : vec_len l.fn.files + l.fn.makes ≤ vec_capacity l.list;
}
