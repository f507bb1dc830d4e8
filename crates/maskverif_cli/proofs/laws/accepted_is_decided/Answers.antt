use Rattle.maskverif_cli.proofs.OneAnswer.{decided}
use Rattle.maskverif_cli.proofs.laws.accepted_is_decided.Goals as goal

pub returns : goal.returns
returns c words disk =
    let law = c.one_netlist_or_refusal.ensures in
    decided law.netlist law.refusal law.either c.gadgets_are_accepted.ensures c.one_command.ensures words disk
