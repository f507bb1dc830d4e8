use Rattle.std.proofs.Common.{List, [], ap}
use Rattle.rtlil_lex.specs.declared.token.Token.{Token}
use Rattle.rtlil_tree.specs.Lines.{lines_of}
use Rattle.rtlil_tree.specs.Inner.Parts.{moved}
use Rattle.rtlil_tree.specs.Inner.Cursor.{left_in}
use Rattle.rtlil_tree.proofs.part.Part.none.Goals as goal

pub returns : goal.returns
unfolding left_in
returns c = ap (λ (l : List Token). moved 0 (lines_of [] l)) c.new.ensures.items
