use Rattle.accepted_gadget.proofs.Shaped.{build}
use Rattle.accepted_gadget.proofs.laws.gadgets_build.Goals as goal

pub returns : goal.returns
returns c = build
