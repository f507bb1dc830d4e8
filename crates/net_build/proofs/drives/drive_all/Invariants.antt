use Rattle.std.proofs.Common.{◌≡◌, length, take, drop}
use Rattle.circuit_types.specs.Items.{kept_cells, bit_count}
use Rattle.circuit_types.specs.Drives.{drives}
use Rattle.net_build.specs.Drives.{HasDriven}
use Rattle.net_build.specs.Ports.{KnowsCells}
use Rattle.net_build.proofs.drives.drive_all.Given as goal

abbrev pub invariant-loop-place : goal.invariant-loop-place
invariant-loop-place l = (l.number ≡ length (kept_cells (take l.place l.items)))
    × (length l.drivers.list.items ≡ bit_count l.wires.list.now)
    × HasDriven l.wires.list.now (drives l.wires.list.now (take l.place l.items)) l.drivers
    × KnowsCells l.wires.list.now (kept_cells (drop l.place l.items)) (drop l.number l.ports.cells.items) l.ports
