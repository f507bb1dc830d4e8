use Rattle.command_words.proofs.One.{one-request}
use Rattle.command_words.proofs.laws.one_command.Goals as goal

pub returns : goal.returns
returns c = one-request
