-- What is told of files: their bytes by name, and which one is open.
use Rattle.std.specs.Prelude.{ℕ, Bool, ◌≡◌, ◌≢◌, ◌<◌, ◌≤◌, ◌⊎◌, List, [], ◌++◌, take, drop, length, Option, None, Some, is_some, IfSome}
use Rattle.std.specs.Str.{bytes_eq}
use Rattle.std.specs.Map.{lookup}

pub record Disk : Type 0 where
  -- the names with their bytes; of two files of one name the first counts
  pub files : List (List ℕ × List ℕ)
  -- what is left of the file that is open for reading
  pub left : Option (List ℕ)
  -- the name of the file that is open for writing
  pub created : Option (List ℕ)

-- the bytes of the file of this name, if it is there
abbrev pub file_of : List ℕ → Disk → Option (List ℕ)
file_of name disk = lookup (bytes_eq name) disk.files

-- all files hold what they held
pub record SameFiles (old new : Disk) : Type 0 where
  pub files : new.files ≡ old.files

-- nothing is open, and all files hold what they held
pub record Closes (old new : Disk) : Type 0 where
  pub files : new.files ≡ old.files
  pub left : new.left ≡ None
  pub created : new.created ≡ None

-- the file is open for reading at its start; where there is none, nothing is open
pub record Opens (name : List ℕ) (found : Bool) (old new : Disk) : Type 0 where
  pub files : new.files ≡ old.files
  pub answer : found ≡ is_some (file_of name old)
  pub left : new.left ≡ file_of name old
  pub created : new.created ≡ None

-- the next n bytes are read into the buffer: none only at the end of the file
pub record Reads (n : ℕ) (buffer : List ℕ) (old new : Disk) : Type 0 where
  pub unread : List ℕ
  pub was : old.left ≡ Some unread
  pub within : n ≤ length unread
  pub bytes : take n buffer ≡ take n unread
  pub end : n ≡ 0 → unread ≡ []
  pub left : new.left ≡ Some (drop n unread)
  pub created : new.created ≡ old.created
  pub files : new.files ≡ old.files

-- the file of this name holds these bytes, and each other file what it held
pub record Holds (name bytes : List ℕ) (old new : Disk) : Type 0 where
  pub named : file_of name new ≡ Some bytes
  pub others : (other : List ℕ) → other ≢ name → file_of other new ≡ file_of other old

-- the file of this name holds a first part of the bytes, and not all; each other file holds what it held
pub record HoldsFirst (name bytes : List ℕ) (old new : Disk) : Type 0 where
  pub written : List ℕ
  pub unwritten : List ℕ
  pub parts : bytes ≡ written ++ unwritten
  pub some_unwritten : unwritten ≢ []
  pub holds : Holds name written old new

-- what is left of writing these bytes to the file of this name: it was not created, or has a first part of them
abbrev pub HoldsPart : List ℕ → List ℕ → Disk → Disk → Type 0
HoldsPart name bytes old new = SameFiles old new ⊎ HoldsFirst name bytes old new

-- an empty file of this name is open for writing
pub record Creates (name : List ℕ) (old new : Disk) : Type 0 where
  pub holds : Holds name [] old new
  pub left : new.left ≡ None
  pub created : new.created ≡ Some name

-- the bytes are at the end of the file that is open for writing
pub record Appends (bytes : List ℕ) (old new : Disk) : Type 0 where
  pub name : List ℕ
  pub was : old.created ≡ Some name
  pub before : List ℕ
  pub held : file_of name old ≡ Some before
  pub holds : Holds name (before ++ bytes) old new
  pub left : new.left ≡ old.left
  pub created : new.created ≡ old.created

-- the whole file of this name
abbrev pub IsWhole : List ℕ → Option Disk → List ℕ → Type 0
IsWhole name disk bytes = IfSome disk (λ d. file_of name d ≡ Some bytes)

-- no file of this name is there
abbrev pub IsMissing : List ℕ → Option Disk → Type 0
IsMissing name disk = IfSome disk (λ d. file_of name d ≡ None)

-- the file of this name is there, and longer than the limit
pub record LongFile (name : List ℕ) (limit : ℕ) (disk : Disk) : Type 0 where
  pub bytes : List ℕ
  pub there : file_of name disk ≡ Some bytes
  pub longer : limit < length bytes

-- where the disk is told, its file of this name is longer than the limit
abbrev pub IsLonger : List ℕ → Option Disk → ℕ → Type 0
IsLonger name disk limit = IfSome disk (LongFile name limit)
