-- The numbers of sources, as they are kept.
use Rattle.std.specs.Prelude.{ℕ, ◌<◌, ◌≡◌, false, List, length, Option, None, Some, slice_index_or}
use Rattle.circuit_types.specs.declared.nets.Nets.{Nets}
use Rattle.circuit_types.specs.declared.nets.Source.{Source}
use Rattle.circuit_types.specs.declared.nets.Source.TheVariants as source
use Rattle.circuit_types.specs.Stable.{is_same_source}
use Rattle.glitch_cone.specs.declared.places.Places.{Places}
use Rattle.glitch_cone.specs.Numbers.{source_at}

-- the number that is kept of a source
abbrev pub kept_place : Places → Source → Option ℕ
kept_place places (source.Input bit) = slice_index_or places.bits.items bit None
kept_place places (source.Cell k) = slice_index_or places.cells.items k None
kept_place places other = None

-- there is room for the number of the source, if it is a bit or a cell
abbrev pub HasRoom : Places → Source → Type 0
HasRoom places (source.Input bit) = bit < length places.bits.items
HasRoom places (source.Cell k) = k < length places.cells.items
HasRoom places other = Unit {0}

-- there is room for the number of the source, which is a bit or a cell
abbrev pub HasPlace : Places → Source → Type 0
HasPlace places (source.Input bit) = bit < length places.bits.items
HasPlace places (source.Cell k) = k < length places.cells.items
HasPlace places other = ⊥

-- the source is a bit or a cell of the netlist
abbrev pub IsBitOrCell : Nets → Source → Type 0
IsBitOrCell nets (source.Input bit) = bit < length nets.sources
IsBitOrCell nets (source.Cell k) = k < length nets.cells
IsBitOrCell nets other = ⊥

-- no two sources of the list are one
abbrev pub AreDistinct : List Source → Type 0
AreDistinct sources = (i j : ℕ) → i < j → j < length sources → is_same_source (source_at sources i) (source_at sources j) ≡ false

-- the number of the source among the first ones of a list, or none where it is none of them
abbrev pub IsPlace : List Source → ℕ → Source → Option ℕ → Type 0
IsPlace sources count s None = (n : ℕ) → n < count → is_same_source (source_at sources n) s ≡ false
IsPlace sources count s (Some n) = (n < count) × (source_at sources n ≡ s)

-- there is room for each bit and each cell, and what is kept are the numbers of the first sources of the list
pub record ShowsPlaces (nets : Nets) (sources : List Source) (count : ℕ) (places : Places) : Type 0 where
  pub bits : length places.bits.items ≡ length nets.sources
  pub cells : length places.cells.items ≡ length nets.cells
  pub each : (s : Source) → IsPlace sources count s (kept_place places s)
  pub own : (n : ℕ) → n < count → kept_place places (source_at sources n) ≡ Some n
