use Rattle.count_law.proofs.Counting.{counts_add_up}
use Rattle.count_law.proofs.counts.counts_add_up.Goals as goal

pub returns : goal.returns
returns c = counts_add_up
