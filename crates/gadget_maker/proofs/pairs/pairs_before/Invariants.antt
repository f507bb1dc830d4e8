use Rattle.std.proofs.Common.{◌≡◌, ◌≤◌, ◌*◌}
use Rattle.gadget_maker.specs.Gadget.{pairs_before}
use Rattle.gadget_maker.proofs.pairs.pairs_before.Given as goal

abbrev pub invariant-loop-before : goal.invariant-loop-before
invariant-loop-before l = (l.number ≡ pairs_before l.shares l.before) × (l.number ≤ 16 * l.before)
