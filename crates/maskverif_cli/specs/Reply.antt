-- What is kept of an answer until it is written. Private contracts cite this.
use Rattle.std.specs.Prelude.{ℕ, ◌≡◌, ◌⊎◌, List, Option, None, Some, Result, Ok, Err}
use Rattle.std.specs.Option.{option_map}
use Rattle.std.specs.declared.alloc.Global.{Global}
use Rattle.std.specs.declared.vec.Vec.{Vec}
use Rattle.mv_files.specs.Counts.{Rose}
use Rattle.mv_files.specs.Disk.{Disk, HoldsPart, IsLonger}
use Rattle.mv_files.specs.Told.{WhereTold}
use Rattle.mv_files.specs.Sending.{Adds, AddsPart}
use Rattle.circuit_types.specs.declared.refusal.Refusal.TheVariants.{Limit}
use Rattle.circuit_types.specs.declared.refusal.Which.{Which}
use Rattle.maskverif_cli.specs.declared.status.Status.{Status}
use Rattle.maskverif_cli.specs.declared.status.Status.TheVariants as state
use Rattle.maskverif_cli.specs.declared.reply.Reply.{Reply}
use Rattle.maskverif_cli.specs.declared.reply.Halt.{Halt}
use Rattle.maskverif_cli.specs.declared.reply.Halt.TheVariants.{Due, ReadFault, NoMemory}
use Rattle.maskverif_cli.specs.Answer.{HasNoFile, NewFile, Refuses}
use Rattle.maskverif_cli.specs.Run.{Outside, Stores, KeepFails, SendFails}

-- a status, a text and a file, as a relation
abbrev pub Answering : Type 1
Answering = Status → List ℕ → NewFile → Type 0

-- the file that is due: the certificate, under the name that it is asked for by
abbrev pub new_file : Option (List ℕ) → Option (Vec ℕ Global) → NewFile
new_file wish None = None
new_file wish (Some certificate) = option_map (λ (name : List ℕ). (name, certificate.items)) wish

-- the reply is such an answer, where a certificate is asked for by this name
abbrev pub Gives : Answering → Option (List ℕ) → Reply → Type 0
Gives IsAnswer wish reply = IsAnswer reply.status reply.text.items (new_file wish reply.certificate)

-- a call to the files may fail
abbrev pub MayFail : Type 0
MayFail = Unit {0}

-- none is made
abbrev pub CannotFail : Type 0
CannotFail = ⊥

-- A command goes no further: with such an answer, for a fault where there may be one, or for want of memory.
abbrev pub Halts : Answering → Option (List ℕ) → Type 0 → Halt → Type 0
Halts IsAnswer wish Fault (Due reply) = Gives IsAnswer wish reply
Halts IsAnswer wish Fault ReadFault = Fault
Halts IsAnswer wish Fault NoMemory = Unit {0}

-- it ends with such an answer, or went no further
abbrev pub Ends : Answering → Option (List ℕ) → Type 0 → Result Reply Halt → Type 0
Ends IsAnswer wish Fault (Ok reply) = Gives IsAnswer wish reply
Ends IsAnswer wish Fault (Err halt) = Halts IsAnswer wish Fault halt

-- how it is answered that a file is missing, or too long
abbrev pub Lacks : Option Disk → List ℕ → ℕ → Which → Status → List ℕ → NewFile → Type 0
Lacks disk name limit which status text file =
    HasNoFile disk name status text file ⊎ (IsLonger name disk limit × Refuses (Limit which) status text file)

-- a read fault was counted where it ended the command, and only there
abbrev pub CountsHalt : ℕ → ℕ → Halt → Type 0
CountsHalt old new ReadFault = Rose old new
CountsHalt old new (Due reply) = new ≡ old
CountsHalt old new NoMemory = new ≡ old

-- the same where the command may go on
abbrev pub CountsReads : {T : Type 0} → ℕ → ℕ → Result T Halt → Type 0
CountsReads old new (Ok x) = new ≡ old
CountsReads old new (Err halt) = CountsHalt old new halt

-- what the files and the sink tell and count
abbrev pub outside : Option Disk → Option (List ℕ) → ℕ → ℕ → ℕ → Outside
outside disk written read_faults write_faults sink_faults = record {
  disk = disk;
  written = written;
  read_faults = read_faults;
  write_faults = write_faults;
  sink_faults = sink_faults;
}

-- all was written, and no call failed
pub record IsWritten (text : List ℕ) (file : NewFile) (old new : Outside) : Type 0 where
  pub written : WhereTold (Adds text) old.written new.written
  pub stored : WhereTold (Stores file) old.disk new.disk
  pub writes : new.write_faults ≡ old.write_faults
  pub sends : new.sink_faults ≡ old.sink_faults

-- All is written and the status is answered; or a call failed before all was.
pub record Delivers (status : Status) (text : List ℕ) (file : NewFile) (old new : Outside) (result : Status) : Type 0 where
  pub reads : new.read_faults ≡ old.read_faults
  pub ends : ((result ≡ status) × IsWritten text file old new)
      ⊎ ((result ≡ state.WriteFault) × (KeepFails file old new ⊎ SendFails text file old new))

-- The text is written and the status is answered; or a call failed before all of it was.
abbrev pub Finishes : List ℕ → Status → Option (List ℕ) → Option (List ℕ) → ℕ → ℕ → Status → Type 0
Finishes text status old new old_faults new_faults result =
    ((result ≡ status) × WhereTold (Adds text) old new × (new_faults ≡ old_faults))
    ⊎ ((result ≡ state.WriteFault) × AddsPart text old new × Rose old_faults new_faults)

-- the writing of the file failed
pub record Breaks (file : NewFile) (old new : Option Disk) (old_faults new_faults : ℕ) : Type 0 where
  pub name : List ℕ
  pub bytes : List ℕ
  pub file_is : file ≡ Some (name, bytes)
  pub part : WhereTold (HoldsPart name bytes) old new
  pub counted : Rose old_faults new_faults

-- nothing was called
pub record Rests (old new : Outside) : Type 0 where
  pub disk : new.disk ≡ old.disk
  pub written : new.written ≡ old.written
  pub reads : new.read_faults ≡ old.read_faults
  pub writes : new.write_faults ≡ old.write_faults
  pub sends : new.sink_faults ≡ old.sink_faults

-- what was due is delivered, or the status says why nothing is
abbrev pub ConcludesHalt : Option (List ℕ) → Halt → Outside → Outside → Status → Type 0
ConcludesHalt wish (Due reply) old new result = Delivers reply.status reply.text.items (new_file wish reply.certificate) old new result
ConcludesHalt wish ReadFault old new result = (result ≡ state.ReadFault) × Rests old new
ConcludesHalt wish NoMemory old new result = (result ≡ state.NoMemory) × Rests old new

-- the same of how the command ends
abbrev pub Concludes : Option (List ℕ) → Result Reply Halt → Outside → Outside → Status → Type 0
Concludes wish (Ok reply) old new result = Delivers reply.status reply.text.items (new_file wish reply.certificate) old new result
Concludes wish (Err halt) old new result = ConcludesHalt wish halt old new result
