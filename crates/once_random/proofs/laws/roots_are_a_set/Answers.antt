use Rattle.once_random.proofs.Subsets.{live-same_rows, may_be_cut-same_rows, least_chain-same_rows}
use Rattle.once_random.proofs.Provable.{provable-same_rows}
use Rattle.once_random.proofs.laws.roots_are_a_set.Goals as goal

pub returns-clause-live : goal.returns-clause-live
returns-clause-live c nodes roots others cuts more same = live-same_rows nodes roots others same cuts more

pub returns-clause-cut : goal.returns-clause-cut
returns-clause-cut c nodes roots others cuts more same = may_be_cut-same_rows nodes roots others same cuts more

pub returns-clause-least : goal.returns-clause-least
returns-clause-least c = least_chain-same_rows

pub returns-clause-provable : goal.returns-clause-provable
returns-clause-provable c = provable-same_rows
