-- How an object in memory keeps its files: in a list, of which one may be open.
use Rattle.std.specs.Prelude.{ℕ, ◌≡◌, ◌+◌, ◌<◌, ◌≤◌, List, All, length, drop, map, Option, None, Some, slice_index_or}
use Rattle.std.specs.List.{position_or_len}
use Rattle.std.specs.Map.{lookup}
use Rattle.std.specs.Str.{bytes_eq}
use Rattle.mv_files.specs.Disk.{Disk}
use Rattle.mv_files.specs.StoredFile.{Stored, told_of, no_file}
use Rattle.mv_files.specs.declared.memory_files.Open.{Open}
use Rattle.mv_files.specs.declared.memory_files.Open.TheVariants.{Nothing, Reading, Writing}

-- what a file at this place holds, and its name
abbrev pub bytes_at : List Stored → ℕ → List ℕ
bytes_at files place = (slice_index_or files place no_file).bytes

abbrev pub name_at : List Stored → ℕ → List ℕ
name_at files place = (slice_index_or files place no_file).name

-- the place of the first file of this name, or the number of files
abbrev pub place_of : List ℕ → List Stored → ℕ
place_of name files = position_or_len (λ f. bytes_eq name f.name) files

-- the first file of this name stands at this place
pub record IsAt (name : List ℕ) (files : List Stored) (place : ℕ) : Type 0 where
  pub there : place < length files
  pub first : place_of name files ≡ place
  pub named : name_at files place ≡ name
  pub told : lookup (bytes_eq name) (map told_of files) ≡ Some (bytes_at files place)

-- no file has this name
pub record IsNowhere (name : List ℕ) (files : List Stored) : Type 0 where
  pub past : length files ≤ place_of name files
  pub untold : lookup (bytes_eq name) (map told_of files) ≡ None

abbrev pub left_of : List Stored → Open → Option (List ℕ)
left_of files (Reading file at) = Some (drop at (bytes_at files file))
left_of files (Writing file) = None
left_of files Nothing = None

abbrev pub created_of : List Stored → Open → Option (List ℕ)
created_of files (Writing file) = Some (name_at files file)
created_of files (Reading file at) = None
created_of files Nothing = None

abbrev pub disk_of : List Stored → Open → Disk
disk_of files opened = record { files = map told_of files; left = left_of files opened; created = created_of files opened }

-- the open file is one of these, and what a created one has room for is known
pub record CanRead (files : List Stored) (file at : ℕ) : Type 0 where
  pub there : file < length files
  pub inside : at ≤ length (bytes_at files file)

pub record CanWrite (files : List Stored) (room file : ℕ) : Type 0 where
  pub there : file < length files
  pub first : place_of (name_at files file) files ≡ file
  pub holds : (slice_index_or files file no_file).room ≡ room

abbrev pub IsOpenIn : List Stored → ℕ → Open → Type 0
IsOpenIn files room Nothing = Unit {0}
IsOpenIn files room (Reading file at) = CanRead files file at
IsOpenIn files room (Writing file) = CanWrite files room file

pub record IsInOrder (files : List Stored) (capacity : ℕ) (unused : List ℕ) (room piece : ℕ) (opened : Open) : Type 0 where
  pub pieces : 1 ≤ piece
  -- a place in the list for each file to come
  pub places : length files + length unused ≤ capacity
  pub rooms : All (λ r. r ≡ room) unused
  pub open_file : IsOpenIn files room opened
