use Rattle.command_words.specs.Reading.{LacksName}
use Rattle.command_words.proofs.Forms.{lacks-name}
use Rattle.command_words.proofs.Uses.{is-none}
use Rattle.command_words.proofs.parts.form_as.Goals as goal

pub returns-in_err-rest-clause-other : goal.returns-in_err-rest-clause-other
returns-in_err-rest-clause-other c =
    is-none c.from_residual.result (LacksName c.args.name c.args.word.now)
    (lacks-name c.args.name c.args.word.now c.option_word-text.result.now c.option_word-text.ensures c.in_err-rest.ensures.cases)
