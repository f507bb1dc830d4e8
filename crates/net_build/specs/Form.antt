-- Which refusals come before those of drivers and reads.
use Rattle.std.specs.Prelude.{List, take, drop, Option, Some, None}
use Rattle.circuit_types.specs.Due.{Cause, IsClear, IsDue}
use Rattle.circuit_types.specs.Nets.{net_causes}
use Rattle.circuit_types.specs.declared.tree.Item.{Item}
use Rattle.circuit_types.specs.declared.refusal.Refusal.{Refusal}

-- the causes that lie in the limits, names, widths and ports: the first nine of all
abbrev pub form_causes : List Item → List Cause
form_causes items = take 9 (net_causes items)

-- those of them that lie in names, widths and ports
abbrev pub fault_causes : List Item → List Cause
fault_causes items = drop 2 (form_causes items)

-- the refusal that is due, or none where no cause holds
abbrev pub Decides : Option Refusal → List Cause → Type 0
Decides None causes = IsClear causes
Decides (Some r) causes = IsDue causes r
