use Rattle.maskverif_cli.proofs.OneAnswer.{written-accepted}
use Rattle.maskverif_cli.proofs.laws.what_was_written_is_accepted.Goals as goal

pub returns : goal.returns
returns c words others disk later =
    let law = c.one_netlist_or_refusal.ensures in
    written-accepted law.netlist law.refusal law.either c.one_instance.ensures c.one_outcome.ensures c.certified_is_accepted.ensures c.one_command.ensures words others disk later
