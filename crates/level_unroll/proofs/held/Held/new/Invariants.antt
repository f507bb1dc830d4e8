use Rattle.std.proofs.Common.{◌≡◌, true, length, take}
use Rattle.circuit_types.specs.declared.nets.Source.{Source}
use Rattle.circuit_types.specs.DataSources.{IsWithin}
use Rattle.circuit_types.specs.Held.{held_value}
use Rattle.circuit_types.specs.Order.{has, is_ready}
use Rattle.level_unroll.specs.Shown.{kept_value}
use Rattle.level_unroll.proofs.held.Held.new.Given as goal

-- what is kept of inputs and of the cells so far is at what values they are held
abbrev pub invariant-loop-cell : goal.invariant-loop-cell
invariant-loop-cell l = record {
  one_each_bit : length l.held.bits.items ≡ length l.nets.sources;
  one_each_cell : length l.held.cells.items ≡ length l.nets.cells;
  each : (s : Source) → IsWithin l.nets s → is_ready (has (take l.cell-index l.order)) s ≡ true → kept_value l.held s ≡ held_value l.roles l.nets s;
}
