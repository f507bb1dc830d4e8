-- What the reader of options holds, as it goes along the words of `verify`.
use Rattle.std.specs.Prelude.{ℕ, ◌≡◌, ◌≢◌, List, [], ◌∷◌, ◌++◌}
use Rattle.std.specs.Option.{option_copied, option_to_list}
use Rattle.command_words.specs.declared.names.OptionName.{OptionName}
use Rattle.command_words.specs.declared.parts.Form.{Form}
use Rattle.command_words.specs.declared.parts.Form.TheVariants as form
use Rattle.command_words.specs.declared.parts.Argument.{Argument}
use Rattle.command_words.specs.declared.parts.Argument.TheVariants as argument
use Rattle.command_words.specs.declared.given.Operands.{Operands}
use Rattle.command_words.specs.declared.given.Operands.TheVariants.{Empty, One, Two, Three, Four}
use Rattle.command_words.specs.declared.given.Given.{Given}
use Rattle.command_words.specs.Names.{option_word}
use Rattle.command_words.specs.Parts.{Part, Found, ArePlain, IsPlainPart, a_value, an_operand, found_in, found_part, words_of, written}

-- The word is not the option's name, and does not begin with that and `=`.
pub record LacksName (name : OptionName) (word : List ℕ) : Type 0 where
  pub no_name : word ≢ option_word name
  pub no_joined : (value : List ℕ) → word ≢ option_word name ++ 61 ∷ value

-- what a word is by itself
abbrev pub IsForm : List ℕ → Form → Type 0
IsForm word form.Word = (name : OptionName) → LacksName name word
IsForm word (form.Name name) = word ≡ option_word name
IsForm word (form.Joined name value) = word ≡ option_word name ++ 61 ∷ value.now

-- what an argument gives
abbrev pub found_by : Argument → Found
found_by (argument.Word word) = an_operand word.now
found_by (argument.Value name value) = a_value name value.now

-- The words begin with a part that gives the argument, and go on behind it.
pub record BeginsWithPart (words : List (List ℕ)) (argument : Argument) (behind : List (List ℕ)) : Type 0 where
  pub part : Part
  pub plain : IsPlainPart part
  pub words_are : words ≡ words_of part ++ behind
  pub gives : found_part part ≡ found_by argument

-- the words that the operands are
abbrev pub operand_words : Operands → List (List ℕ)
operand_words Empty = []
operand_words (One a) = a.now ∷ []
operand_words (Two a b) = a.now ∷ b.now ∷ []
operand_words (Three a b c) = a.now ∷ b.now ∷ c.now ∷ []
operand_words (Four a b c d) = a.now ∷ b.now ∷ c.now ∷ d.now ∷ []

-- all that is given
abbrev pub found_of : Given → Found
found_of given = record {
  operands = operand_words given.operands;
  workers = option_to_list (option_copied given.workers);
  certificate = option_to_list (option_copied given.certificate);
  schedule = option_to_list (option_copied given.schedule);
}

-- The words are plain parts that give what was found, and then the rest.
pub record HasRead (words : List (List ℕ)) (found : Found) (rest : List (List ℕ)) : Type 0 where
  pub parts : List Part
  pub plain : ArePlain parts
  pub words_are : words ≡ written parts ++ rest
  pub gives : found_in parts ≡ found
