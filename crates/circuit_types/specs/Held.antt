-- Resets and enables that are held.
use Rattle.std.specs.Prelude.{ℕ, ◌<◌, ◌≡◌, ◌==◌, length, map, not, Bool, true, false, List, [], ◌∷◌, Option, None, Some}
use Rattle.std.specs.Bool.{beq}
use Rattle.std.specs.Option.{option_map, option_and_then, option_map_or}
use Rattle.cell_kinds.specs.declared.kind.CellKind.{CellKind}
use Rattle.cell_kinds.specs.declared.kind.CellKind.TheVariants.{Gate, Flop}
use Rattle.cell_kinds.specs.declared.kind.GateKind.TheVariants.{Buf, Not}
use Rattle.cell_kinds.specs.declared.kind.Reset.{Reset}
use Rattle.circuit_types.specs.declared.nets.NetCell.{NetCell}
use Rattle.circuit_types.specs.declared.nets.Nets.{Nets}
use Rattle.circuit_types.specs.declared.nets.Source.{Source}
use Rattle.circuit_types.specs.declared.nets.Source.TheVariants as source
use Rattle.circuit_types.specs.declared.roles.Roles.{Roles}
use Rattle.circuit_types.specs.DataSources.{cell_at, pin_sources, port_source, gate_sources}
use Rattle.circuit_types.specs.Order.{AllLevelled}
use Rattle.circuit_types.specs.InputBits.{role_of, held_bit}
use Rattle.circuit_types.specs.Found.{found}

-- a constant, or an input that is held
abbrev pub held_leaf : Roles → Source → Option Bool
held_leaf roles source.Zero = Some false
held_leaf roles source.One = Some true
held_leaf roles (source.Input bit) = option_and_then held_bit (role_of roles bit)
held_leaf roles other = None

-- a buffer passes on what it reads, an inverter the opposite
abbrev pub held_cell : CellKind → List (Option Bool) → Option Bool
held_cell (Gate Buf) (v ∷ vs) = v
held_cell (Gate Not) (v ∷ vs) = option_map not v
held_cell kind values = None

-- The value at which a source is held: followed back through buffers and inverters, it ends at a constant or a held
-- input, and this is the value that it has from there.
abbrev pub held_value : Roles → Nets → Source → Option Bool
held_value roles nets = found (held_leaf roles) (λ k. held_cell (cell_at nets k).kind) gate_sources nets

-- the value is there, and is this one
abbrev pub is_at : Bool → Option Bool → Bool
is_at level value = option_map_or (λ v. beq v level) value false

-- the reset of a flip-flop, if it has one, is held inactive
abbrev pub is_reset_held : Option Reset → Option Bool → Bool
is_reset_held None value = true
is_reset_held (Some reset) value = is_at (not reset.high) value

-- the enable of a flip-flop, if it has one, is held active
abbrev pub is_enable_held : Option Bool → Option Bool → Bool
is_enable_held None value = true
is_enable_held (Some high) value = is_at high value

-- A flip-flop whose reset R is not held inactive, and one whose enable E is not held active; `held` gives the value at which
-- a source is held.
abbrev pub has_open_reset : (Source → Option Bool) → NetCell → CellKind → Bool
has_open_reset held cell (Gate g) = false
has_open_reset held cell (Flop f) = not (is_reset_held f.reset (held (port_source cell 82)))

abbrev pub has_open_enable : (Source → Option Bool) → NetCell → CellKind → Bool
has_open_enable held cell (Gate g) = false
has_open_enable held cell (Flop f) = not (is_enable_held f.enable (held (port_source cell 69)))

-- at what value each kind of source is held
pub record AreHeldByCells (roles : Roles) (nets : Nets) (held : Source → Option Bool) : Type 0 where
  pub zero_bit : held source.Zero ≡ Some false
  pub one_bit : held source.One ≡ Some true
  pub unknown_bit : held source.Unknown ≡ None
  pub missing : held source.Missing ≡ None
  pub input : (bit : ℕ) → held (source.Input bit) ≡ option_and_then held_bit (role_of roles bit)
  pub cell : (k : ℕ) → k < length nets.cells → held (source.Cell k) ≡ held_cell (cell_at nets k).kind (map held (pin_sources (cell_at nets k)))

-- where every gate is levelled, a source is held as the cells say
abbrev pub HeldIsByCells : Type 0
HeldIsByCells = (roles : Roles) (nets : Nets) → AllLevelled nets → AreHeldByCells roles nets (held_value roles nets)
