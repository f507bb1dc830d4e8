-- What reading a whole text answers.
use Rattle.std.specs.Prelude.{◌≡◌, ℕ, List, Result, Ok, Err, IsSome}
use Rattle.circuit_types.specs.Top.{top_of}
use Rattle.circuit_types.specs.declared.refusal.Refusal.{Refusal}
use Rattle.circuit_types.specs.declared.refusal.Stop.{Stop}
use Rattle.circuit_types.specs.declared.refusal.Stop.TheVariants.{Refused, NoMemory}
use Rattle.circuit_types.specs.declared.tree.Tree.{Tree}
use Rattle.rtlil_tree.specs.Text.{Stands}
use Rattle.rtlil_tree.specs.Refusals.{IsRefused}

-- The bytes stand for the tree, and one of its modules is the top module.
abbrev pub StandsWithTop : List ℕ → Tree → Type 0
StandsWithTop bytes tree = Stands bytes tree × IsSome (top_of tree)

-- the refusal is due for the bytes; want of memory is none of theirs
abbrev pub HasStop : List ℕ → Stop → Type 0
HasStop bytes (Refused refusal) = IsRefused bytes refusal
HasStop bytes NoMemory = Unit {0}

-- the answer is this tree, unless memory was refused
abbrev pub AnswersTree : Result Tree Stop → Tree → Type 0
AnswersTree (Ok answer) tree = answer ≡ tree
AnswersTree (Err (Refused refusal)) tree = ⊥
AnswersTree (Err NoMemory) tree = Unit {0}

-- the answer is this refusal, unless memory was refused
abbrev pub AnswersRefusal : Result Tree Stop → Refusal → Type 0
AnswersRefusal (Ok answer) refusal = ⊥
AnswersRefusal (Err (Refused answer)) refusal = answer ≡ refusal
AnswersRefusal (Err NoMemory) refusal = Unit {0}
