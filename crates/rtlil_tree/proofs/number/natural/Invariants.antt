use Rattle.std.proofs.Common.{◌≡◌, ℕ, ◌≤◌, List, take}
use Rattle.rtlil_tree.specs.Lexemes.{decimal}
use Rattle.rtlil_tree.proofs.number.natural.Given as goal

pub record IsSoFar (digits : List ℕ) (value most : ℕ) : Type 0 where
  pub value_is : value ≡ decimal digits
  pub within : value ≤ most

abbrev pub invariant-loop-digit : goal.invariant-loop-digit
invariant-loop-digit l = IsSoFar (take l.digit-index l.digits) l.value l.most
