use Rattle.count_law.proofs.CutNodes.{after-cut, after-uncut}
use Rattle.count_law.proofs.cuts.cuts_make_randoms.Goals as goal

pub returns-clause-cut : goal.returns-clause-cut
returns-clause-cut c t roots cuts row table chain h = after-cut t table roots cuts chain row h

pub returns-clause-uncut : goal.returns-clause-uncut
returns-clause-uncut c t roots cuts row table chain h = after-uncut t table roots cuts row h
