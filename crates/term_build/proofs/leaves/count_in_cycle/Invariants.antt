use Rattle.std.proofs.Common.{◌≡◌, ◌≤◌, length, take}
use Rattle.term_build.specs.Numbering.{is_leaf, leaves_among}
use Rattle.term_build.proofs.leaves.count_in_cycle.Given as goal

abbrev pub invariant-loop-input : goal.invariant-loop-input
invariant-loop-input l = record {
  count : l.count ≡ length (leaves_among (is_leaf l.sort l.notion l.roles l.cycle) l.cycle (take l.input-index l.input-items));
  few : l.count ≤ l.input-index;
}
