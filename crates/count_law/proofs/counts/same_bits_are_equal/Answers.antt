use Rattle.count_law.proofs.Counting.{same_bits-exact, same_bits-equal}
use Rattle.count_law.proofs.counts.same_bits_are_equal.Goals as goal

pub returns : goal.returns
returns c bits others = (same_bits-exact bits others, same_bits-equal bits others)
