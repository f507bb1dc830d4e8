use Rattle.std.proofs.Common.{◌≡◌, ℕ, ◌≤◌, ◌-◌, List, length, drop, map}
use Rattle.rtlil_tree.specs.declared.word.Word.{Word}
use Rattle.rtlil_tree.specs.declared.options.Options.{Options}
use Rattle.rtlil_tree.specs.Statements.{no_options}
use Rattle.rtlil_tree.specs.Said.{plain}
use Rattle.rtlil_tree.specs.Forms.{options_from}
use Rattle.rtlil_tree.proofs.options.wire_options.Given as goal

-- the options so far, and the words from a place on, give what all words give
pub record IsSoFar (words : List Word) (options : Options) (place : ℕ) : Type 0 where
  pub within : place ≤ length words
  pub reads : options_from options 0 (map plain (drop place words)) ≡ options_from no_options 0 (map plain words)

abbrev pub invariant-loop-option : goal.invariant-loop-option
invariant-loop-option l = IsSoFar l.words l.options l.place

abbrev pub decreases-loop-option : goal.decreases-loop-option
decreases-loop-option l = length l.words - l.place
