use Rattle.std.proofs.Common.{refl}
use Rattle.gadget_maker.proofs.Numbering.{along_row, next_row, random_within}
use Rattle.gadget_maker.proofs.laws.pairs_are_numbered_in_order.Goals as goal

pub returns-clause-first : goal.returns-clause-first
returns-clause-first c d = refl

pub returns-clause-along : goal.returns-clause-along
returns-clause-along c = along_row

pub returns-clause-down : goal.returns-clause-down
returns-clause-down c = next_row

pub returns-clause-within : goal.returns-clause-within
returns-clause-within c = random_within
