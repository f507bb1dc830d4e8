-- The parts that words are made of: operands, and options with their values.
use Rattle.std.specs.Prelude.{ℕ, ◌≢◌, ◌≤◌, List, [], ◌∷◌, ◌++◌, length}
use Rattle.command_words.specs.declared.names.OptionName.{OptionName}
use Rattle.command_words.specs.declared.names.OptionName.TheVariants.{Workers, Certificate, Schedule}
use Rattle.command_words.specs.Names.{option_word}

-- An operand, which stands by its place; an option with its value behind it, `--name value`; or both in one word, `--name=value`.
pub data Part : Type 0 where
  operand : List ℕ → Part
  separate : OptionName → List ℕ → Part
  joined : OptionName → List ℕ → Part

-- the words that a part is written as
abbrev pub words_of : Part → List (List ℕ)
words_of (operand word) = word ∷ []
words_of (separate name value) = option_word name ∷ value ∷ []
words_of (joined name value) = (option_word name ++ 61 ∷ value) ∷ []

-- the words of parts, one after the other
abbrev pub written : List Part → List (List ℕ)
written [] = []
written (part ∷ parts) = words_of part ++ written parts

-- not empty, and not begun with `-`
abbrev pub IsPlain : List ℕ → Type 0
IsPlain [] = ⊥
IsPlain (first ∷ rest) = first ≢ 45

-- operands and values are plain
abbrev pub IsPlainPart : Part → Type 0
IsPlainPart (operand word) = IsPlain word
IsPlainPart (separate name value) = IsPlain value
IsPlainPart (joined name value) = IsPlain value

-- so are those of all parts
abbrev pub ArePlain : List Part → Type 0
ArePlain [] = Unit {0}
ArePlain (part ∷ parts) = IsPlainPart part × ArePlain parts

-- What words give: the operands, and the values of each option, in the order of the words.
pub record Found : Type 0 where
  pub operands : List (List ℕ)
  pub workers : List (List ℕ)
  pub certificate : List (List ℕ)
  pub schedule : List (List ℕ)

-- no words give this
abbrev pub nothing : Found
nothing = record { operands = []; workers = []; certificate = []; schedule = [] }

-- an operand gives itself
abbrev pub an_operand : List ℕ → Found
an_operand word = record { operands = word ∷ []; workers = []; certificate = []; schedule = [] }

-- and an option its value
abbrev pub a_value : OptionName → List ℕ → Found
a_value Workers value = record { operands = []; workers = value ∷ []; certificate = []; schedule = [] }
a_value Certificate value = record { operands = []; workers = []; certificate = value ∷ []; schedule = [] }
a_value Schedule value = record { operands = []; workers = []; certificate = []; schedule = value ∷ [] }

-- what is given first, and what after it
abbrev pub join : Found → Found → Found
join a b = record {
  operands = a.operands ++ b.operands;
  workers = a.workers ++ b.workers;
  certificate = a.certificate ++ b.certificate;
  schedule = a.schedule ++ b.schedule;
}

-- what a part gives
abbrev pub found_part : Part → Found
found_part (operand word) = an_operand word
found_part (separate name value) = a_value name value
found_part (joined name value) = a_value name value

-- what parts give, one after the other
abbrev pub found_in : List Part → Found
found_in [] = nothing
found_in (part ∷ parts) = join (found_part part) (found_in parts)

-- at most four operands, and each option at most once
pub record GivesFew (found : Found) : Type 0 where
  pub operands_few : length found.operands ≤ 4
  pub workers_once : length found.workers ≤ 1
  pub certificate_once : length found.certificate ≤ 1
  pub schedule_once : length found.schedule ≤ 1
