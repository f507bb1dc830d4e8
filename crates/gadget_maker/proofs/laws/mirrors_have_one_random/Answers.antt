use Rattle.gadget_maker.proofs.Numbering.{mirrored}
use Rattle.gadget_maker.proofs.laws.mirrors_have_one_random.Goals as goal

pub returns : goal.returns
returns c = mirrored
