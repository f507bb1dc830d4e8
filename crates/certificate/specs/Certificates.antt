-- The lines that make a certificate; and of a text that is none, the first line with which something is wrong.
use Rattle.std.specs.Prelude.{◌≡◌, ◌≢◌, ℕ, ◌+◌, List, [], ◌∷◌, ◌++◌, length}
use Rattle.std.specs.List.{flat_map, AllByRecursion}
use Rattle.certificate.specs.declared.entries.Header.{Header}
use Rattle.certificate.specs.declared.entries.Entry.{Entry}
use Rattle.certificate.specs.declared.line.Line.{Line}
use Rattle.certificate.specs.declared.line.Line.TheVariants.{Title, Run, Counts, Hull, Cuts, End}
use Rattle.certificate.specs.declared.fault.Why.{Why}
use Rattle.certificate.specs.declared.fault.Why.TheVariants as why
use Rattle.certificate.specs.declared.fault.ReadBad.{ReadBad}
use Rattle.certificate.specs.declared.fault.ReadBad.TheVariants.{Bad, NoMemory}
use Rattle.certificate.specs.Lines.{line_text, IsLine}

-- the most bytes of a text that is read as a certificate
abbrev pub most_bytes : ℕ
most_bytes = 268435456

-- ---- the lines of a certificate

-- the three lines before the entries
abbrev pub header_lines : Header → List Line
header_lines header =
    Title 1 ∷ Run header.notion header.order header.model ∷ Counts header.probes header.rows header.tuples ∷ []

-- the two lines of an entry
abbrev pub entry_lines : Entry → List Line
entry_lines entry = Hull entry.hull ∷ Cuts entry.cuts ∷ []

-- the lines of a certificate, the last of which says this number
unfoldable pub lines_saying : ℕ → Header → List Entry → List Line
lines_saying number header entries = header_lines header ++ flat_map entry_lines entries ++ End number ∷ []

-- the last line says the number of the entries
abbrev pub lines_of : Header → List Entry → List Line
lines_of header entries = lines_saying (length entries) header entries

-- the lines, one after the other
abbrev pub text_of : List Line → List ℕ
text_of lines = flat_map line_text lines

-- The bytes begin with these lines, and this is left.
pub record BeginsWith (bytes : List ℕ) (lines : List Line) (rest : List ℕ) : Type 0 where
  pub forms : AllByRecursion IsLine lines
  pub text : bytes ≡ text_of lines ++ rest

-- the bytes are the certificate that says this
abbrev pub IsCertificate : List ℕ → Header → List Entry → Type 0
IsCertificate bytes header entries = BeginsWith bytes (lines_of header entries) []

-- ---- the first line with which something is wrong

-- in some certificate, whatever number its last line says, the line comes after those before it
pub record MayFollow (before : List Line) (line : Line) : Type 0 where
  pub later : List Line
  pub number : ℕ
  pub header : Header
  pub entries : List Entry
  pub together : before ++ line ∷ later ≡ lines_saying number header entries

-- A line is due after those that the bytes begin with, and none that may follow stands there.
pub record IsOutOfForm (bytes : List ℕ) (number : ℕ) : Type 0 where
  pub before : List Line
  pub rest : List ℕ
  pub begins : BeginsWith bytes before rest
  pub due : (line : Line) × MayFollow before line
  pub none : (line : Line) (after : List ℕ) → MayFollow before line → BeginsWith rest (line ∷ []) after → ⊥
  pub at : number ≡ length before + 1

-- The last line says another number than that of the entries.
pub record IsMiscounted (bytes : List ℕ) (number : ℕ) : Type 0 where
  pub said : ℕ
  pub header : Header
  pub entries : List Entry
  pub rest : List ℕ
  pub begins : BeginsWith bytes (lines_saying said header entries) rest
  pub wrong : said ≢ length entries
  pub at : number ≡ length (lines_saying said header entries)

-- Something follows the last line of a certificate.
pub record HasMore (bytes : List ℕ) (number : ℕ) : Type 0 where
  pub header : Header
  pub entries : List Entry
  pub next : ℕ
  pub rest : List ℕ
  pub begins : BeginsWith bytes (lines_of header entries) (next ∷ rest)
  pub at : number ≡ length (lines_of header entries) + 1

-- this is wrong with the line of this number, and it is the first with which something is wrong
abbrev pub IsFault : List ℕ → ℕ → Why → Type 0
IsFault bytes number why.Form = IsOutOfForm bytes number
IsFault bytes number why.Count = IsMiscounted bytes number
IsFault bytes number why.Extra = HasMore bytes number
IsFault bytes number why.Header = ⊥
IsFault bytes number why.Open = ⊥
IsFault bytes number why.Hull = ⊥
IsFault bytes number why.Cuts = ⊥
IsFault bytes number why.Bound = ⊥

-- why the bytes are not read; want of memory is no fault of theirs
abbrev pub HasFault : List ℕ → ReadBad → Type 0
HasFault bytes (Bad number reason) = IsFault bytes number reason
HasFault bytes NoMemory = Unit {0}
