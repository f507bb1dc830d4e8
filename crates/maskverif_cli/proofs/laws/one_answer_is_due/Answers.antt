use Rattle.maskverif_cli.proofs.OneAnswer.{one-due}
use Rattle.maskverif_cli.proofs.laws.one_answer_is_due.Goals as goal

pub returns : goal.returns
returns c words disk =
    let law = c.one_netlist_or_refusal.ensures in
    one-due law.netlist law.refusal law.either c.one_instance.ensures c.one_outcome.ensures c.certified_is_accepted.ensures disk c.one_command.ensures words
