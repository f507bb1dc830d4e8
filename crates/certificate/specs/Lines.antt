-- The lines of a certificate: what each may say, and its text.
use Rattle.std.specs.Prelude.{◌≡◌, ℕ, ◌+◌, ◌<◌, ◌^◌, List, [], ◌∷◌, ◌++◌, length, drop, codes, decimal}
use Rattle.std.specs.List.{flat_map, AllByRecursion}
use Rattle.std.specs.List.Sorted.{IsStrictlyIncreasing}
use Rattle.expr_table.specs.declared.instance.Notion.{Notion}
use Rattle.expr_table.specs.declared.instance.Notion.TheVariants.{Probing, Ni, Sni}
use Rattle.circuit_types.specs.declared.probes.Model.{Model}
use Rattle.circuit_types.specs.declared.probes.Model.TheVariants.{Value, Glitch}
use Rattle.certificate.specs.declared.line.Line.{Line}
use Rattle.certificate.specs.declared.line.Line.TheVariants.{Title, Run, Counts, Hull, Cuts, End}

-- the word for a notion, and for a model
abbrev pub notion_word : Notion → List ℕ
notion_word Probing = codes "probing"
notion_word Ni = codes "ni"
notion_word Sni = codes "sni"

abbrev pub model_word : Model → List ℕ
model_word Value = codes "value"
model_word Glitch = codes "glitch"

-- numbers in decimal without leading zeros, each after a space
abbrev pub numbers_text : List ℕ → List ℕ
numbers_text numbers = flat_map (λ number. codes " " ++ decimal number) numbers

-- The text of each line. It ends with a line feed.
unfoldable pub line_text : Line → List ℕ
line_text (Title version) = codes "maskverif certificate " ++ decimal version ++ codes "\n"
line_text (Run notion order model) =
    codes "notion " ++ notion_word notion ++ codes " order " ++ decimal order ++ codes " model " ++ model_word model ++ codes "\n"
line_text (Counts probes rows tuples) =
    codes "probes " ++ decimal probes ++ codes " rows " ++ decimal rows ++ codes " tuples " ++ decimal tuples ++ codes "\n"
line_text (Hull members) = codes "hull" ++ numbers_text members ++ codes "\n"
line_text (Cuts rows) = codes "cuts" ++ numbers_text rows ++ codes "\n"
line_text (End number) = codes "end " ++ decimal number ++ codes "\n"

-- A number of tuples, and that of the last line, may have 64 bits; any other number has at most 32.
abbrev pub IsSmall : ℕ → Type 0
IsSmall number = number < 2 ^ 32

-- the members of a hull are ascending, and there is at least one
pub record IsHull (members : List ℕ) : Type 0 where
  pub some : 0 < length members
  pub ascending : IsStrictlyIncreasing members

-- what a line may say
abbrev pub IsLine : Line → Type 0
IsLine (Title version) = IsSmall version
IsLine (Run notion order model) = IsSmall order
IsLine (Counts probes rows tuples) = IsSmall probes × IsSmall rows × (tuples < 2 ^ 64)
IsLine (Hull members) = IsHull members × AllByRecursion IsSmall members
IsLine (Cuts rows) = AllByRecursion IsSmall rows
IsLine (End number) = number < 2 ^ 64

-- The line begins at the place, and ends before the other place.
pub record StandsAt (bytes : List ℕ) (place : ℕ) (line : Line) (after : ℕ) : Type 0 where
  pub form : IsLine line
  pub text : drop place bytes ≡ line_text line ++ drop after bytes
  pub size : after ≡ place + length (line_text line)

-- no line begins at the place
abbrev pub HasNoLineAt : List ℕ → ℕ → Type 0
HasNoLineAt bytes place = (line : Line) (after : ℕ) → StandsAt bytes place line after → ⊥
