use Rattle.std.proofs.lemmas.Result.{err_from_is_err_and}
use Rattle.rtlil_lex.specs.Next.{IsNext, IsStringEnd}
use Rattle.rtlil_lex.proofs.Quoted.{str_next}
use Rattle.rtlil_lex.proofs.Pieces.{next_misfit}
use Rattle.rtlil_lex.proofs.spelling.string.Goals as goal

pub returns : goal.returns
unfolding IsNext IsStringEnd
returns c = let closed = c.in_ok-size.ensures in str_next c.args.bytes.now closed.0 closed.1 _ closed.2 closed.3

pub returns-in_err-size : goal.returns-in_err-size
returns-in_err-size c =
    let p = err_from_is_err_and c.from_residual.result c.from_residual.ensures.1 in
    rw (p.1, p.2) (next_misfit c.args.bytes.now _ c.in_err-size.ensures)
