use Rattle.std.proofs.Common.{refl, arith}
use Rattle.rtlil_tree.specs.Inner.Cursor.{left_in}
use Rattle.rtlil_tree.proofs.PartLemmas.{numbers_fit}
use Rattle.rtlil_tree.proofs.part.Part.read.Goals as goal

pub invariant_of-result : goal.invariant_of-result
invariant_of-result c = record {
  order = omega arith;
  within = omega arith;
  numbered = numbers_fit c.args.bytes.now c.in_ok-tokens.tokens.items c.args.before c.in_ok-tokens.ensures.tokens c.requires.bytes c.requires.before;
}

pub returns-clause-part : goal.returns-clause-part
unfolding left_in
returns-clause-part c = record { are_tokens = c.in_ok-tokens.ensures.tokens; begins = refl; left = refl }
