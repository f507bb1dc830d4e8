use Rattle.std.proofs.Common.{map}
use Rattle.rtlil_tree.specs.Said.{plain}
use Rattle.rtlil_tree.proofs.OneBit.{bit_gives}
use Rattle.rtlil_tree.proofs.statements.only_signal.Goals as goal

pub returns-in-Some : goal.returns-in-Some
returns-in-Some c = bit_gives c.one_bit.result (map plain c.args.words.now) c.in-Some.name.now c.in-Some.place c.in-Some.ensures c.one_bit.ensures
