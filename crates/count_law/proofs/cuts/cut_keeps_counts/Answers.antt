use Rattle.count_law.proofs.OneCut.{one_cut}
use Rattle.count_law.proofs.cuts.cut_keeps_counts.Goals as goal

pub returns : goal.returns
returns c t roots cuts e inputs o table within chain allowed = one_cut t table roots within cuts chain e allowed inputs o
