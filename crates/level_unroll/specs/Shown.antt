-- At what values bits and cells are held, as they are kept.
use Rattle.std.specs.Prelude.{◌<◌, ◌≡◌, Bool, true, false, length, Option, None, Some, slice_index_or}
use Rattle.circuit_types.specs.declared.nets.Nets.{Nets}
use Rattle.circuit_types.specs.declared.nets.Source.{Source}
use Rattle.circuit_types.specs.declared.nets.Source.TheVariants as source
use Rattle.circuit_types.specs.declared.roles.Roles.{Roles}
use Rattle.circuit_types.specs.DataSources.{IsWithin}
use Rattle.circuit_types.specs.Held.{held_value}
use Rattle.level_unroll.specs.declared.held.Held.{Held}

-- the value at which a source is held, as it is kept
abbrev pub kept_value : Held → Source → Option Bool
kept_value held source.Zero = Some false
kept_value held source.One = Some true
kept_value held (source.Input bit) = slice_index_or held.bits.items bit None
kept_value held (source.Cell k) = slice_index_or held.cells.items k None
kept_value held other = None

-- there is a place for the source, if it is a bit or a cell
abbrev pub IsKept : Held → Source → Type 0
IsKept held (source.Input bit) = bit < length held.bits.items
IsKept held (source.Cell k) = k < length held.cells.items
IsKept held other = Unit {0}

-- there is a place for each bit and each cell, and what is kept is at what values they are held
pub record ShowsHeld (roles : Roles) (nets : Nets) (held : Held) : Type 0 where
  pub one_each_bit : length held.bits.items ≡ length nets.sources
  pub one_each_cell : length held.cells.items ≡ length nets.cells
  pub each : (s : Source) → IsWithin nets s → kept_value held s ≡ held_value roles nets s
