use Rattle.std.proofs.Common.{◌-◌, min, arith}
use Rattle.accepted_gadget.proofs.Accepting.{accepts}
use Rattle.accepted_gadget.proofs.laws.gadgets_are_accepted.Goals as goal

pub returns : goal.returns
returns c seed d low some few = accepts seed d (min (d - 1) 2) some few (omega arith)
