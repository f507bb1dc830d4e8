use Rattle.std.proofs.Common.{sym}
use Rattle.probe_family.proofs.AllTuples.{weight_in_tuples}
use Rattle.probe_family.proofs.laws.weight_counts_tuples.Goals as goal

pub returns : goal.returns
returns c n t family is le = sym (weight_in_tuples n t family is le)
