use Rattle.std.proofs.Common.{◌≡◌, ◌++◌, take}
use Rattle.std.specs.List.{AllByRecursion}
use Rattle.certificate.specs.Lines.{IsSmall, numbers_text}
use Rattle.certificate.proofs.numbers.push_numbers.Given as goal

-- the numbers so far were written
abbrev pub invariant-loop-number : goal.invariant-loop-number
invariant-loop-number l = record {
  text : l.text.items ≡ l.fn.text.items ++ numbers_text (take l.number-index l.numbers);
  small : AllByRecursion IsSmall (take l.number-index l.numbers);
}
