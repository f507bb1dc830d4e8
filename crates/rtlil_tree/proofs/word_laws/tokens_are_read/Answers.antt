use Rattle.rtlil_tree.proofs.Saying.{said_if_says, says_if_said, lexemes_if_said, said_if_lexemes, are_said_once}
use Rattle.rtlil_tree.proofs.word_laws.tokens_are_read.Goals as goal

pub returns-clause-token : goal.returns-clause-token
returns-clause-token c x t formed = (said_if_says x t, says_if_said x t formed)

pub returns-clause-tokens : goal.returns-clause-tokens
returns-clause-tokens c xs ts formed = (lexemes_if_said xs ts, said_if_lexemes xs ts formed)

pub returns-clause-once : goal.returns-clause-once
returns-clause-once c = are_said_once
