-- The words for what a command may say.
use Rattle.std.specs.Prelude.{ℕ, List, map, codes, string_bytes}
use Rattle.std.specs.declared.string.String.{String}
use Rattle.std.specs.declared.alloc.Global.{Global}
use Rattle.command_words.specs.declared.names.OptionName.{OptionName}
use Rattle.command_words.specs.declared.names.OptionName.TheVariants.{Workers, Certificate, Schedule}

-- the words, as bytes
abbrev pub texts : List (String Global) → List (List ℕ)
texts words = map (λ (w : String Global). string_bytes w) words

-- the name of an option
abbrev pub option_word : OptionName → List ℕ
option_word Workers = codes "--workers"
option_word Certificate = codes "--certificate"
option_word Schedule = codes "--schedule"
