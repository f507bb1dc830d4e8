use Rattle.std.proofs.Common.{All, take}
use Rattle.circuit_types.specs.DataSources.{pin_sources, IsWithin}
use Rattle.netlist_uses.proofs.premises.all_pins_within.Given as goal

abbrev pub invariant-loop-cell : goal.invariant-loop-cell
invariant-loop-cell l = All (λ cell. All (IsWithin l.nets) (pin_sources cell)) (take l.cell-index l.nets.cells)
