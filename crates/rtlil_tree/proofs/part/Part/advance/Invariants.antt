use Rattle.std.proofs.Common.{◌≡◌, ◌≤◌}
use Rattle.rtlil_tree.specs.Inner.Cursor.{left_in, tokens_left}
use Rattle.rtlil_tree.proofs.part.Part.advance.Given as goal

abbrev pub invariant-loop-self : goal.invariant-loop-self
invariant-loop-self l = record { left : left_in l.fn.self ≡ left_in l.self; order : tokens_left l.self ≤ tokens_left l.fn.self }

abbrev pub decreases-loop-self : goal.decreases-loop-self
decreases-loop-self l = tokens_left l.self
