use Rattle.rtlil_tree.proofs.Joins.{signals_done, signals_left}
use Rattle.rtlil_tree.proofs.signals.signals.Goals as goal

pub returns-then-after-words : goal.returns-then-after-words
returns-then-after-words c = signals_done c.args.words.now c.in_ok-signals.signals.items c.in_ok-signals.after c.in_ok-signals.ensures c.if-after-words.true

pub returns : goal.returns
returns c = signals_left c.args.words.now c.in_ok-signals.signals.items c.in_ok-signals.after c.in_ok-signals.ensures c.if-after-words.false
