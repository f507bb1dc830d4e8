use Rattle.std.proofs.Common.{List, take}
use Rattle.expr_table.specs.Table.{Extends}
use Rattle.expr_table.specs.Term.{Term}
use Rattle.term_build.specs.Building.{AreRows, ShowRows, MadeParts}
use Rattle.term_build.proofs.gate_rows.gate_row.Given as goal

-- the parts so far are made
abbrev pub invariant-loop-part : goal.invariant-loop-part
invariant-loop-part l = record {
  kept : Extends l.fn.table l.table;
  pins : AreRows l.table.nodes l.pins;
  made : AreRows l.table.nodes l.made.items;
  parts : (ts : List Term) → ShowRows l.fn.table.nodes l.pins ts → MadeParts l.fn.table l.table ts (take l.part-index l.part-items) l.made.items;
}
