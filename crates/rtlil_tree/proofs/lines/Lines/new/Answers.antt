use Rattle.std.proofs.Common.{List, ◌++◌, refl, ap}
use Rattle.rtlil_tree.specs.Lines as text
use Rattle.rtlil_tree.specs.Inner.Cursor.{left_of}
use Rattle.rtlil_tree.proofs.lines.Lines.new.Goals as goal

pub returns : goal.returns
unfolding left_of
returns c = record { same = refl; place = refl; all = λ rest. ap (λ (l : List text.Line). l ++ rest.ahead 0) c.none.ensures }
