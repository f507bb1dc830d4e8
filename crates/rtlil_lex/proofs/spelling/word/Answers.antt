use Rattle.rtlil_lex.specs.Next.{IsNext}
use Rattle.rtlil_lex.proofs.Longest.{word_next}
use Rattle.rtlil_lex.proofs.spelling.word.Goals as goal

pub returns : goal.returns
unfolding IsNext
returns c = word_next c.args.bytes.now _ c.requires c.letters.ensures.run
