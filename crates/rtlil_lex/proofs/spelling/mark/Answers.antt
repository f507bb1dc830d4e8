use Rattle.std.proofs.Common.{refl}
use Rattle.rtlil_lex.specs.Next.{IsNext}
use Rattle.rtlil_lex.proofs.Longest.{mark_next}
use Rattle.rtlil_lex.proofs.spelling.mark.Goals as goal

pub returns : goal.returns
unfolding IsNext
returns c = mark_next c.args.bytes.now _ c.requires refl
