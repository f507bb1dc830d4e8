-- What the drives of statements come to.
use Rattle.std.specs.Prelude.{◌≡◌, ℕ, Bool, true, nat_le, List, [], map, Option, Some, None, Contains}
use Rattle.std.specs.List.{list_all, zip}
use Rattle.circuit_types.specs.Due.{at_lines, Gives}
use Rattle.circuit_types.specs.Drives.{Drive, redriven}
use Rattle.circuit_types.specs.Signals.{signal_bits}
use Rattle.circuit_types.specs.declared.nets.NetWire.{NetWire}
use Rattle.circuit_types.specs.declared.refusal.Refusal.{Refusal}
use Rattle.circuit_types.specs.declared.refusal.Refusal.TheVariants.{TwoDrivers}
use Rattle.circuit_types.specs.declared.tree.Connect.{Connect}
use Rattle.circuit_types.specs.declared.tree.Item.{Item}
use Rattle.circuit_types.specs.declared.tree.Item.TheVariants as item
use Rattle.net_build.specs.Drivers.{KnowsDrivers, joined}
use Rattle.net_build.specs.Faults.{least_of}
use Rattle.net_build.specs.declared.drives.Drivers.{Drivers}

-- what drives each bit after these drives, and the least line of those that are refused
pub record HasDriven (ws : List NetWire) (ds : List Drive) (d : Drivers) : Type 0 where
  pub knows : KnowsDrivers ws ds d.list.items
  pub least : d.refused ≡ least_of (redriven ws [] ds)

-- the drives of a connect
abbrev pub joined_bits : List NetWire → Connect → List Drive
joined_bits ws c = map (joined c.line) (zip (signal_bits ws c.left) (signal_bits ws c.right))

-- a bit is driven that may not be
abbrev pub IsTwice : List NetWire → List Drive → Refusal → Type 0
IsTwice ws ds = Gives (at_lines (λ l. TwoDrivers l) (Contains (redriven ws [] ds)))

-- each connect of the item is at this line or later
abbrev pub is_from : ℕ → Item → Bool
is_from line (item.Cell c) = list_all (λ p. nat_le line p.line) c.connects
is_from line (item.Connect c) = nat_le line c.line
is_from line other = true

-- there is a line, and none of these items has an earlier one
abbrev pub NoneBefore : Option ℕ → List Item → Type 0
NoneBefore None items = ⊥
NoneBefore (Some line) items = list_all (is_from line) items ≡ true
