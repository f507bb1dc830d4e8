use Rattle.maskverif_cli.proofs.OneAnswer.{is-made}
use Rattle.maskverif_cli.proofs.laws.gadget_is_made.Goals as goal

pub returns : goal.returns
returns c words disk status text file asked due = is-made c.one_command.ensures words disk status text file asked.asked asked.asks due
