-- The lines that were read, and what is read next. Private contracts cite this.
use Rattle.std.specs.Prelude.{◌≡◌, ◌≢◌, ℕ, ◌+◌, Bool, true, false, ◌==◌, IsTrue, List, length, drop, Option, Some, None}
use Rattle.certificate.specs.declared.line.Line.{Line}
use Rattle.certificate.specs.declared.line.Line.TheVariants.{Title, Run, Counts, Hull, Cuts, End}
use Rattle.certificate.specs.declared.fault.Why.{Why}
use Rattle.certificate.specs.declared.fault.Why.TheVariants as why
use Rattle.certificate.specs.declared.fault.ReadBad.{ReadBad}
use Rattle.certificate.specs.declared.fault.ReadBad.TheVariants.{Bad, NoMemory}
use Rattle.certificate.specs.Lines.{StandsAt}
use Rattle.certificate.specs.Certificates.{BeginsWith}

-- These lines were read, as many as the number says, up to the place.
pub record HasRead (bytes : List ℕ) (place number : ℕ) (lines : List Line) : Type 0 where
  pub begins : BeginsWith bytes lines (drop place bytes)
  pub counted : number ≡ length lines

-- One more line was read.
pub record ReadsOne (bytes : List ℕ) (place number : ℕ) (line : Line) (after next : ℕ) : Type 0 where
  pub stands : StandsAt bytes place line after
  pub counted : next ≡ number + 1

-- which lines are due
abbrev pub is_any : Line → Bool
is_any line = true

abbrev pub is_title : Line → Bool
is_title (Title version) = version == 1
is_title line = false

abbrev pub is_run : Line → Bool
is_run (Run notion order model) = true
is_run line = false

abbrev pub is_counts : Line → Bool
is_counts (Counts probes rows tuples) = true
is_counts line = false

abbrev pub is_hull_or_end : Line → Bool
is_hull_or_end (Hull members) = true
is_hull_or_end (End number) = true
is_hull_or_end line = false

abbrev pub is_cuts : Line → Bool
is_cuts (Cuts rows) = true
is_cuts line = false

-- no line that is due begins at the place
abbrev pub HasNoDue : (Line → Bool) → List ℕ → ℕ → Type 0
HasNoDue is_due bytes place = (line : Line) (after : ℕ) → IsTrue (is_due line) → StandsAt bytes place line after → ⊥

-- The line after the number of those read is out of form; memory may be refused too.
abbrev pub IsMisfit : (Line → Bool) → List ℕ → ℕ → ℕ → ReadBad → Type 0
IsMisfit is_due bytes place number (Bad line reason) = (line ≡ number + 1) × (reason ≡ why.Form) × HasNoDue is_due bytes place
IsMisfit is_due bytes place number NoMemory = Unit {0}

-- an `end` stands at the place and says another number than that of the entries
abbrev pub SaysOther : List ℕ → ℕ → ℕ → Type 0
SaysOther bytes place entries = (said after : ℕ) × StandsAt bytes place (End said) after × (said ≢ entries)

-- what is wrong with a line that should be a hull, or an `end` with the number of the entries
abbrev pub IsWrongEnd : List ℕ → ℕ → ℕ → ℕ → ReadBad → Type 0
IsWrongEnd bytes place number entries (Bad line why.Form) = (line ≡ number + 1) × HasNoDue is_hull_or_end bytes place
IsWrongEnd bytes place number entries (Bad line why.Count) = (line ≡ number + 1) × SaysOther bytes place entries
IsWrongEnd bytes place number entries (Bad line reason) = ⊥
IsWrongEnd bytes place number entries NoMemory = Unit {0}

-- the hull that comes next, or the `end` with the number of the entries
abbrev pub hull_or_end : ℕ → Option (List ℕ) → Line
hull_or_end entries (Some members) = Hull members
hull_or_end entries None = End entries
