-- Reading the cells of nets.
use Rattle.std.proofs.Common.{◌≡◌, ◌<◌, ◌≤◌, ℕ, List, length, map, All, get_or, Option, None, Some, refl, sym, ap, ◌∙◌, subst, arith, ⊎_elim}
use Rattle.std.proofs.lemmas.List.{get_or_read, get_or_past, length-map, get_or-map}
use Rattle.std.proofs.lemmas.List.Elements.{All-get_or}
use Rattle.std.proofs.lemmas.Bool.{cases_lt}
use Rattle.circuit_types.specs.declared.nets.NetCell.{NetCell}
use Rattle.circuit_types.specs.declared.nets.Nets.{Nets}
use Rattle.circuit_types.specs.declared.nets.Pin.{Pin}
use Rattle.circuit_types.specs.declared.nets.Source.{Source}
use Rattle.circuit_types.specs.declared.nets.Source.TheVariants as source
use Rattle.circuit_types.specs.DataSources.{cell_at, pin_sources, IsWithin, IsWired}

-- a cell that was read at its place
pub cell_read : (nets : Nets) (k : ℕ) (cell : NetCell) (cells : List NetCell) → cells ≡ nets.cells → k < length nets.cells → cell ≡ get_or cells k cell → cell ≡ cell_at nets k
cell_read nets k cell cells same lt is = get_or_read nets.cells k cell lt (is ∙ ap (λ xs. get_or xs k cell) same) _

-- what a cell of the netlist reads is within it
pub pins_within : (nets : Nets) (k : ℕ) → IsWired nets → k < length nets.cells → All (IsWithin nets) (pin_sources (cell_at nets k))
pins_within nets k wired lt = wired.pins k _ lt
