-- The order of ports: by their numbers, those of one number in file order.
use Rattle.std.specs.Prelude.{ℕ, ◌+◌, ◌==◌, max, List, filter, fold}
use Rattle.std.specs.List.{flat_map, range_with_len}
use Rattle.circuit_types.specs.declared.tree.Port.{Port}
use Rattle.circuit_types.specs.declared.tree.Port.TheVariants as port
use Rattle.share_notes.specs.declared.mark.MarkedWire.{MarkedWire}

-- an inner wire counts as 0, and says nothing
abbrev pub port_number : Port → ℕ
port_number port.Inner = 0
port_number (port.Input number) = number
port_number (port.Output number) = number

-- one more than the greatest port number
abbrev pub numbers_end : List MarkedWire → ℕ
numbers_end ws = fold (λ n (w : MarkedWire). max n (port_number w.port + 1)) 0 ws

-- the wires of this number
abbrev pub numbered_wires : List MarkedWire → ℕ → List MarkedWire
numbered_wires ws n = filter (λ (w : MarkedWire). port_number w.port == n) ws

-- number by number the wires of this number, in the order in which they are given
unfoldable pub in_port_order : List MarkedWire → List MarkedWire
in_port_order ws = flat_map (numbered_wires ws) (range_with_len 0 (numbers_end ws))
