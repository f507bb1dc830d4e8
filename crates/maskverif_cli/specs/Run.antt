-- What a command answers and leaves, over any files and any sink.
use Rattle.std.specs.Prelude.{ℕ, ◌≡◌, ◌≢◌, ◌⊎◌, List, Option, None, Some, Bool, true, false, IsTrue}
use Rattle.std.specs.declared.string.String.{String}
use Rattle.std.specs.declared.alloc.Global.{Global}
use Rattle.mv_files.specs.Counts.{Rose}
use Rattle.mv_files.specs.Disk.{Disk, Holds, HoldsPart, SameFiles}
use Rattle.mv_files.specs.Told.{WhereTold}
use Rattle.mv_files.specs.Sending.{Adds, AddsPart}
use Rattle.maskverif_cli.specs.declared.status.Status.{Status}
use Rattle.maskverif_cli.specs.declared.status.Status.TheVariants.{ReadFault, WriteFault, NoMemory}
use Rattle.command_words.specs.Commands.{Request, verify, check, generate, trial}
use Rattle.maskverif_cli.specs.Answer.{Ask, IsDue, NewFile, is_answer}

-- what the files and the sink tell, and their counts of faults
pub record Outside : Type 0 where
  pub disk : Option Disk
  pub written : Option (List ℕ)
  pub read_faults : ℕ
  pub write_faults : ℕ
  pub sink_faults : ℕ

-- the file that is due is there with all of its bytes, and every other file holds what it held
abbrev pub Stores : NewFile → Disk → Disk → Type 0
Stores None old new = SameFiles old new
Stores (Some file) old new = Holds file.0 file.1 old new

-- what was due was answered: its text was written, and its file
pub record Answers (words : List (String Global)) (old new : Outside) (status : Status) : Type 0 where
  pub text : List ℕ
  pub file : NewFile
  pub due : IsDue words old.disk status text file
  pub written : WhereTold (Adds text) old.written new.written
  pub stored : WhereTold (Stores file) old.disk new.disk

-- nothing was written, to the sink or to a file
pub record Untouched (old new : Outside) : Type 0 where
  pub written : new.written ≡ old.written
  pub files : WhereTold SameFiles old.disk new.disk

-- whether a command reads files
abbrev pub reads_files : Request → Bool
reads_files (verify asked) = true
reads_files (check asked) = true
reads_files (generate asked) = false
reads_files (trial asked) = false

-- the words ask for what reads files, and a reading failed; nothing was written
pub record ReadFails (words : List (String Global)) (old new : Outside) : Type 0 where
  pub request : Request
  pub asks : Ask words request
  pub reads : IsTrue (reads_files request)
  pub counted : Rose old.read_faults new.read_faults
  pub untouched : Untouched old new

-- The writing of the file failed: it was not created, or holds a first part of its bytes, and not all; every other file holds
-- what it held, and the sink took nothing.
pub record KeepFails (file : NewFile) (old new : Outside) : Type 0 where
  pub name : List ℕ
  pub bytes : List ℕ
  pub file_is : file ≡ Some (name, bytes)
  pub counted : Rose old.write_faults new.write_faults
  pub part : WhereTold (HoldsPart name bytes) old.disk new.disk
  pub unwritten : new.written ≡ old.written
  pub sends : new.sink_faults ≡ old.sink_faults

-- the sending of the text failed: a first part of it was written, and not all; the file, if one is due, is whole
pub record SendFails (text : List ℕ) (file : NewFile) (old new : Outside) : Type 0 where
  pub counted : Rose old.sink_faults new.sink_faults
  pub part : AddsPart text old.written new.written
  pub stored : WhereTold (Stores file) old.disk new.disk
  pub writes : new.write_faults ≡ old.write_faults

-- the writing of what was due failed
pub record BreaksOff (words : List (String Global)) (old new : Outside) : Type 0 where
  pub status : Status
  pub text : List ℕ
  pub file : NewFile
  pub due : IsDue words old.disk status text file
  pub fails : KeepFails file old new ⊎ SendFails text file old new

-- a count of faults rises only where its own fault is answered
pub record Faultless (old new : Outside) (status : Status) : Type 0 where
  pub reads : status ≢ ReadFault → new.read_faults ≡ old.read_faults
  pub writes : status ≢ WriteFault → new.write_faults ≡ old.write_faults
  pub sends : status ≢ WriteFault → new.sink_faults ≡ old.sink_faults

-- how the command that the words are ends, and what it leaves
pub record Runs (words : List (String Global)) (old new : Outside) (status : Status) : Type 0 where
  -- what is due is answered, and its text and its file are written
  pub answer : IsTrue (is_answer status) → Answers words old new status
  -- or a call failed, or memory was refused
  pub read_fault : status ≡ ReadFault → ReadFails words old new
  pub write_fault : status ≡ WriteFault → BreaksOff words old new
  pub no_memory : status ≡ NoMemory → Untouched old new
  -- with every answer
  pub faultless : Faultless old new status
