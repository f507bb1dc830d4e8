use Rattle.std.proofs.Common.{◌≡◌}
use Rattle.bit_rows.specs.Sets.{members_below}
use Rattle.cert_check.proofs.tree_entries.members_of.Given as goal

abbrev pub invariant-loop-p : goal.invariant-loop-p
invariant-loop-p l = l.list.items ≡ members_below l.set l.p
