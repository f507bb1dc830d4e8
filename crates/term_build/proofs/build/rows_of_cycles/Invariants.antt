use Rattle.std.proofs.Common.{◌≡◌, ◌++◌, length}
use Rattle.std.specs.List.{flat_map, range_with_len}
use Rattle.term_build.specs.declared.leaves.Sort.TheVariants.{Input, Random}
use Rattle.term_build.specs.Building.{AreCycles, Grows, ShowCycles, ShowShares}
use Rattle.term_build.specs.InputTerms.{made_for_inputs}
use Rattle.term_build.specs.Leaves.{inputs_of}
use Rattle.term_build.specs.Numbering.{leaves_before}
use Rattle.term_build.specs.SourceTerms.{source_term}
use Rattle.term_build.specs.TermInstance.{made_in_cycle}
use Rattle.term_build.proofs.build.rows_of_cycles.Given as goal

abbrev pub invariant-loop-cycle : goal.invariant-loop-cycle
invariant-loop-cycle l = record {
  inputs : l.inputs ≡ length (leaves_before Input l.notion l.roles l.cycle);
  randoms : l.randoms ≡ length (leaves_before Random l.notion l.roles l.cycle);
  one_each : length l.done.items ≡ l.cycle;
  grows : Grows l.fn.table l.table (made_for_inputs (inputs_of l.notion) l.roles l.circuit.timing ++ flat_map (made_in_cycle l.notion l.roles l.circuit) (range_with_len 0 l.cycle));
  shares : ShowShares (inputs_of l.notion) l.roles l.circuit.timing l.table.nodes l.shares.items;
  are : AreCycles l.table.nodes l.done.items;
  shows : ShowCycles l.circuit.nets l.table.nodes (source_term l.notion l.roles l.circuit) l.done.items;
}
