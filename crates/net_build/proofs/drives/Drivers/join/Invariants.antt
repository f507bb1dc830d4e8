use Rattle.std.proofs.Common.{◌≡◌, ◌++◌, List, length, map, take}
use Rattle.std.specs.List.{zip}
use Rattle.circuit_types.specs.Drives.{Drive}
use Rattle.circuit_types.specs.declared.nets.NetWire.{NetWire}
use Rattle.net_build.specs.Drivers.{joined}
use Rattle.net_build.specs.Drives.{HasDriven}
use Rattle.net_build.proofs.drives.Drivers.join.Given as goal

abbrev pub invariant-loop-place : goal.invariant-loop-place
invariant-loop-place l = (length l.self.list.items ≡ length l.fn.self.list.items)
    × ((ws : List NetWire) (ds : List Drive) → HasDriven ws ds l.fn.self → HasDriven ws (ds ++ map (joined l.line) (take l.place (zip l.left l.right))) l.self)
