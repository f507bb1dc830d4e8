-- Statements whose signals can be written out bit by bit, over wires that lie within their bits.
use Rattle.std.specs.Prelude.{◌≡◌, ◌+◌, ◌≤◌, true, List, All}
use Rattle.circuit_types.specs.Items.{is_kept, bit_count}
use Rattle.circuit_types.specs.Signals.{shape}
use Rattle.circuit_types.specs.declared.nets.NetWire.{NetWire}
use Rattle.circuit_types.specs.declared.tree.Item.{Item}
use Rattle.circuit_types.specs.declared.tree.Item.TheVariants as item
use Rattle.circuit_types.specs.declared.tree.Connect.{Connect}
use Rattle.circuit_types.specs.declared.tree.PortConnect.{PortConnect}
use Rattle.net_build.specs.Shapes.{IsGood}

-- the bits of each wire are among all bits
abbrev pub AreWithin : List NetWire → Type 0
AreWithin ws = All (λ w. w.first + w.width ≤ bit_count ws) ws

abbrev pub AreGoodPorts : List NetWire → List PortConnect → Type 0
AreGoodPorts ws ps = All (λ p. IsGood (shape ws p.signal)) ps

-- both sides can be written out, and are of one width
pub record IsGoodConnect (ws : List NetWire) (c : Connect) : Type 0 where
  pub left : IsGood (shape ws c.left)
  pub right : IsGood (shape ws c.right)
  pub fits : (shape ws c.left).width ≡ (shape ws c.right).width

abbrev pub IsGoodItem : List NetWire → Item → Type 0
IsGoodItem ws (item.Cell c) = is_kept c ≡ true → AreGoodPorts ws c.connects
IsGoodItem ws (item.Connect c) = IsGoodConnect ws c
IsGoodItem ws other = Unit {0}
