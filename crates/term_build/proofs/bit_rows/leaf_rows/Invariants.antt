use Rattle.std.proofs.Common.{◌≡◌, length, take}
use Rattle.circuit_types.specs.Worlds.{input}
use Rattle.term_build.specs.Building.{ShowBits}
use Rattle.term_build.specs.Leaves.{leaf_term}
use Rattle.term_build.specs.Numbering.{leaves_up_to, numbered_term}
use Rattle.term_build.proofs.bit_rows.leaf_rows.Given as goal

abbrev pub invariant-loop-input : goal.invariant-loop-input
invariant-loop-input l = record {
  count : length l.rows.items ≡ l.fn.count;
  next : l.next ≡ length (leaves_up_to l.fn.sort l.fn.notion l.fn.roles l.fn.cycle (take l.input-index l.input-items));
  shows : ShowBits l.fn.table.nodes l.rows.items (λ b. leaf_term (numbered_term l.fn.sort) (leaves_up_to l.fn.sort l.fn.notion l.fn.roles l.fn.cycle (take l.input-index l.input-items)) (input b l.fn.cycle));
}
