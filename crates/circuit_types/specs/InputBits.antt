-- The role of an input bit.
use Rattle.std.specs.Prelude.{ℕ, ◌<◌, ◌≢◌, ◌==◌, Bool, true, false, List, length, Option, None, Some, All}
use Rattle.std.specs.Option.{option_map, option_and_then}
use Rattle.std.specs.List.{find, AllPairs}
use Rattle.circuit_types.specs.declared.nets.Nets.{Nets}
use Rattle.circuit_types.specs.declared.roles.InputRole.{InputRole}
use Rattle.circuit_types.specs.declared.roles.OutputShare.{OutputShare}
use Rattle.circuit_types.specs.declared.roles.Role.{Role}
use Rattle.circuit_types.specs.declared.roles.Role.TheVariants.{Share, Random, Public, Clock, Held}
use Rattle.circuit_types.specs.declared.roles.Roles.{Roles}

-- the role that a list gives an input bit
abbrev pub role_in : List InputRole → ℕ → Option Role
role_in inputs bit = option_map (λ (i : InputRole). i.role) (find (λ i. i.bit == bit) inputs)

-- the role of an input bit
abbrev pub role_of : Roles → ℕ → Option Role
role_of roles bit = role_in roles.inputs bit

-- neither the clock nor held: a bit that may differ from one use of the circuit to the next
abbrev pub is_probed : Role → Bool
is_probed Clock = false
is_probed (Held v) = false
is_probed other = true

-- the bit at which an input is held
abbrev pub held_bit : Role → Option Bool
held_bit (Held v) = Some v
held_bit other = None

-- each bit that has a role is one of the netlist's, and no input bit has two roles
pub record FitsNets (roles : Roles) (nets : Nets) : Type 0 where
  pub inputs : All (λ (i : InputRole). i.bit < length nets.sources) roles.inputs
  pub one_role : AllPairs (λ (i j : InputRole). i.bit ≢ j.bit) roles.inputs
  pub outputs : All (λ (o : OutputShare). o.bit < length nets.sources) roles.outputs
