use Rattle.std.proofs.Common.{Option, sym, ap, ◌∙◌}
use Rattle.net_build.specs.Faults.{nothing, together, faults_in}
use Rattle.net_build.specs.declared.faults.Faults.{Faults}
use Rattle.net_build.proofs.FaultLemmas.{alone}
use Rattle.net_build.proofs.faults.both.Goals as goal

pub returns-in-Some-None : goal.returns-in-Some-None
returns-in-Some-None c =
    alone c.in-Some-None.one
    ∙ (ap (λ (o : Option Faults). together (faults_in o) nothing) (sym c.in-Some-None.is-0)
    ∙ ap (λ (o : Option Faults). together (faults_in c.args.one) (faults_in o)) (sym c.in-Some-None.is-1))
