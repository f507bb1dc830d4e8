use Rattle.std.proofs.Common.{◌∙◌, sym, arith}
use Rattle.rtlil_lex.specs.Next.{IsPiece}
use Rattle.rtlil_lex.proofs.Pieces.{end_cuts, quote_first, plain_begins}
use Rattle.rtlil_lex.proofs.string.first_piece.Goals as goal

pub returns-then-is_line_end : goal.returns-then-is_line_end
unfolding IsPiece
returns-then-is_line_end c = end_cuts c.args.text.now (sym c.is_line_end.ensures ∙ c.if-is_line_end.true)

pub returns-in-34 : goal.returns-in-34
unfolding IsPiece
returns-in-34 c = quote_first c.args.text.now c.in-34.is

pub returns-in_default : goal.returns-in_default
unfolding IsPiece
returns-in_default c = plain_begins c.args.text.now (sym c.is_line_end.ensures ∙ c.if-is_line_end.false) (λ e. omega arith) (λ e. omega arith)
