use Rattle.std.proofs.Common.{◌≡◌, ◌++◌, List, length, map, take}
use Rattle.circuit_types.specs.Drives.{Drive}
use Rattle.circuit_types.specs.declared.nets.NetWire.{NetWire}
use Rattle.net_build.specs.Drivers.{tied}
use Rattle.net_build.specs.Drives.{HasDriven}
use Rattle.net_build.proofs.drives.Drivers.tie.Given as goal

abbrev pub invariant-loop-bit : goal.invariant-loop-bit
invariant-loop-bit l = (length l.self.list.items ≡ length l.fn.self.list.items)
    × ((ws : List NetWire) (ds : List Drive) → HasDriven ws ds l.fn.self → HasDriven ws (ds ++ map (tied l.line l.number) (take l.bit-index l.bits)) l.self)
