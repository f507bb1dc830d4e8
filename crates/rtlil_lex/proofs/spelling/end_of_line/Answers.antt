use Rattle.rtlil_lex.specs.Next.{IsNext}
use Rattle.rtlil_lex.proofs.Longest.{feed_next}
use Rattle.rtlil_lex.proofs.spelling.end_of_line.Goals as goal

pub returns : goal.returns
unfolding IsNext
returns c = feed_next c.args.bytes.now c.requires
