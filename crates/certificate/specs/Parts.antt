-- What stands first in some bytes: a number behind a word, numbers, a line. Private contracts cite this.
use Rattle.std.specs.Prelude.{◌≡◌, ℕ, ◌<◌, ◌^◌, false, List, [], ◌∷◌, ◌++◌, codes, decimal}
use Rattle.std.specs.List.{AllByRecursion}
use Rattle.rtlil_lex.specs.Bytes.{begins, is_digit}
use Rattle.expr_table.specs.declared.instance.Notion.{Notion}
use Rattle.circuit_types.specs.declared.probes.Model.{Model}
use Rattle.certificate.specs.declared.line.Line.{Line}
use Rattle.certificate.specs.Lines.{notion_word, model_word, numbers_text, line_text, IsSmall, IsLine}

-- The word comes first and then the number, which is below the bound; the rest goes on with no digit.
pub record NumberAfter (bound : ℕ) (word bytes : List ℕ) (number : ℕ) (rest : List ℕ) : Type 0 where
  pub text : bytes ≡ word ++ (decimal number ++ rest)
  pub below : number < bound
  pub stops : begins is_digit rest ≡ false

abbrev pub NoNumberAfter : ℕ → List ℕ → List ℕ → Type 0
NoNumberAfter bound word bytes = (number : ℕ) (rest : List ℕ) → NumberAfter bound word bytes number rest → ⊥

-- the word does not come first
abbrev pub HasNot : List ℕ → List ℕ → Type 0
HasNot word bytes = (rest : List ℕ) → bytes ≡ word ++ rest → ⊥

-- the word for a notion comes behind the other word, and then the rest
abbrev pub NotionAfter : List ℕ → List ℕ → Notion → List ℕ → Type 0
NotionAfter word bytes notion rest = bytes ≡ word ++ (notion_word notion ++ rest)

abbrev pub ModelAfter : List ℕ → List ℕ → Model → List ℕ → Type 0
ModelAfter word bytes model rest = bytes ≡ word ++ (model_word model ++ rest)

-- The numbers come first, each after a space, and then the rest.
abbrev pub NumbersFirst : List ℕ → List ℕ → List ℕ → Type 0
NumbersFirst bytes [] rest = bytes ≡ rest
NumbersFirst bytes (number ∷ numbers) rest =
    (between : List ℕ) × NumberAfter (2 ^ 32) (codes " ") bytes number between × NumbersFirst between numbers rest

-- The word comes first, then numbers, each after a space, and a line feed.
pub record ListAfter (word bytes numbers rest : List ℕ) : Type 0 where
  pub text : bytes ≡ word ++ (numbers_text numbers ++ (codes "\n" ++ rest))
  pub small : AllByRecursion IsSmall numbers

abbrev pub NoListAfter : List ℕ → List ℕ → Type 0
NoListAfter word bytes = (numbers rest : List ℕ) → ListAfter word bytes numbers rest → ⊥

-- The line comes first, and then the rest.
pub record LineFirst (bytes : List ℕ) (line : Line) (rest : List ℕ) : Type 0 where
  pub form : IsLine line
  pub text : bytes ≡ line_text line ++ rest
