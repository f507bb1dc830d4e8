use Rattle.std.proofs.Common.{◌≡◌, List, take}
use Rattle.std.specs.List.{flat_map}
use Rattle.circuit_types.specs.Nets.{net_cell}
use Rattle.circuit_types.specs.declared.nets.NetWire.{NetWire}
use Rattle.circuit_types.specs.declared.tree.Cell.{Cell}
use Rattle.net_build.specs.Ports.{KnowsPorts}
use Rattle.net_build.proofs.cells.net_cells.Given as goal

abbrev pub invariant-loop-cell : goal.invariant-loop-cell
invariant-loop-cell l = (ws : List NetWire) (cs : List Cell) → KnowsPorts ws cs l.ports → l.cells.items ≡ flat_map (net_cell ws l.sources) (take l.cell-index cs)
