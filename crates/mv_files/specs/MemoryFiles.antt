-- Files in memory.
use Rattle.std.specs.Prelude.{ℕ, ◌≡◌, ◌-◌, ◌==◌, Bool, ◌||◌, if◌then◌else◌, List, [], ◌∷◌, ◌++◌, length, take, drop, map, min, nat_lt, Option, None, Some, is_some, unwrap_or, string_bytes}
use Rattle.std.specs.Map.{lookup}
use Rattle.std.specs.Str.{bytes_eq}
use Rattle.std.specs.declared.alloc.Global.{Global}
use Rattle.std.specs.declared.string.String.{String}
use Rattle.std.specs.declared.vec.Vec.{Vec}
use Rattle.mv_files.specs.Counts.{counted}
use Rattle.mv_files.specs.Calls.{CallCount, is_failing, after_call}
use Rattle.mv_files.specs.Disk.{Disk, file_of}
use Rattle.mv_files.specs.StoredFile.{most_name_bytes}

pub record FilesState : Type 0 where
  pub disk : Disk
  -- the most bytes that one call reads or writes
  pub piece : ℕ
  -- the most bytes that a created file may hold
  pub room : ℕ
  -- how many files may be created yet
  pub makes : ℕ
  pub calls : CallCount
  pub read_faults : ℕ
  pub write_faults : ℕ

-- no two files have one name
abbrev pub HasDistinctNames : List (List ℕ × List ℕ) → Type 0
HasDistinctNames [] = Unit {0}
HasDistinctNames (file ∷ files) = (lookup (bytes_eq file.0) files ≡ None) × HasDistinctNames files

-- the names and bytes of given files
abbrev pub listed_of : List (String Global × Vec ℕ Global) → List (List ℕ × List ℕ)
listed_of files = map (λ f. (string_bytes f.0, f.1.items)) files

-- these files, where nothing is open and no call was made
abbrev pub fresh_files : List (List ℕ × List ℕ) → ℕ → List ℕ → ℕ → ℕ → FilesState
fresh_files files piece failing makes room = record {
  disk = record { files = files; left = None; created = None };
  piece = piece;
  room = room;
  makes = makes;
  calls = record { failing = failing; made = 0 };
  read_faults = 0;
  write_faults = 0;
}

-- the list of files in which the file of this name holds these bytes
abbrev pub put : List ℕ → List ℕ → List (List ℕ × List ℕ) → List (List ℕ × List ℕ)
put name bytes [] = (name, bytes) ∷ []
put name bytes (file ∷ files) = if bytes_eq name file.0 then (name, bytes) ∷ files else file ∷ put name bytes files

-- opening a file

abbrev pub closed : Disk → Disk
closed disk = record disk { left = None; created = None }

abbrev pub opened : List ℕ → Disk → Disk
opened name disk = record disk { left = file_of name disk; created = None }

abbrev pub open_answer : List ℕ → FilesState → Option Bool
open_answer name files = if is_failing files.calls then None else Some (is_some (file_of name files.disk))

abbrev pub after_open : List ℕ → FilesState → FilesState
after_open name files =
    if is_failing files.calls
    then record files { calls = after_call files.calls; disk = closed files.disk; read_faults = counted files.read_faults }
    else record files { calls = after_call files.calls; disk = opened name files.disk }

-- reading from it

-- what is left of the open file
abbrev pub unread_of : Disk → List ℕ
unread_of disk = unwrap_or disk.left []

-- how many bytes are read into a buffer of this length
abbrev pub read_of : ℕ → FilesState → ℕ
read_of size files = min (min files.piece size) (length (unread_of files.disk))

abbrev pub read_answer : ℕ → FilesState → Option ℕ
read_answer size files = if is_failing files.calls then None else Some (read_of size files)

abbrev pub after_read : ℕ → FilesState → FilesState
after_read size files =
    if is_failing files.calls
    then record files { calls = after_call files.calls; read_faults = counted files.read_faults }
    else record files {
      calls = after_call files.calls;
      disk = record files.disk { left = Some (drop (read_of size files) (unread_of files.disk)) };
    }

-- the buffer after the call, which was this one before
abbrev pub buffer_after : List ℕ → FilesState → List ℕ
buffer_after buffer files =
    if is_failing files.calls
    then buffer
    else take (read_of (length buffer) files) (unread_of files.disk) ++ drop (read_of (length buffer) files) buffer

-- creating a file

abbrev pub create_fails : List ℕ → FilesState → Bool
create_fails name files = is_failing files.calls || nat_lt most_name_bytes (length name) || (files.makes == 0)

abbrev pub created : List ℕ → Disk → Disk
created name disk = record { files = put name [] disk.files; left = None; created = Some name }

abbrev pub after_create : List ℕ → FilesState → FilesState
after_create name files =
    if create_fails name files
    then record files { calls = after_call files.calls; disk = closed files.disk; write_faults = counted files.write_faults }
    else record files { calls = after_call files.calls; disk = created name files.disk; makes = files.makes - 1 }

-- writing to it

-- the name of the created file, and what it holds
abbrev pub created_name : Disk → List ℕ
created_name disk = unwrap_or disk.created []

abbrev pub written_of : Disk → List ℕ
written_of disk = unwrap_or (file_of (created_name disk) disk) []

abbrev pub room_left : FilesState → ℕ
room_left files = files.room - length (written_of files.disk)

abbrev pub write_fails : FilesState → Bool
write_fails files = is_failing files.calls || (room_left files == 0)

-- how many of these bytes are taken
abbrev pub taken_of : List ℕ → FilesState → ℕ
taken_of bytes files = min (min files.piece (length bytes)) (room_left files)

abbrev pub write_answer : List ℕ → FilesState → Option ℕ
write_answer bytes files = if write_fails files then None else Some (taken_of bytes files)

abbrev pub appended : List ℕ → Disk → Disk
appended more disk = record disk { files = put (created_name disk) (written_of disk ++ more) disk.files }

abbrev pub after_write : List ℕ → FilesState → FilesState
after_write bytes files =
    if write_fails files
    then record files { calls = after_call files.calls; write_faults = counted files.write_faults }
    else record files { calls = after_call files.calls; disk = appended (take (taken_of bytes files) bytes) files.disk }
