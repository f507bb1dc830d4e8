use Rattle.net_build.proofs.FaultLemmas.{no_faults}
use Rattle.net_build.proofs.PortLemmas.{none_ported}
use Rattle.net_build.proofs.form.check_all.Goals as goal

pub loop-item-init : goal.loop-item-init
loop-item-init c = (no_faults, λ none. none_ported c.args.wires.now.list.now c.args.ports.now c.requires)
