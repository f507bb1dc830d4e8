-- What the probes on the probed sources see, while it is gathered.
use Rattle.std.specs.Prelude.{ℕ, ◌+◌, ◌<◌, ◌≤◌, ◌≡◌, ◌||◌, not, Bool, true, false, IsTrue, IsFalse, List, [], ◌∷◌, length, map, sum_by, All, Option, None, Some, slice_index_or, slice_set, if◌then◌else◌}
use Rattle.std.specs.Option.{option_map_or}
use Rattle.std.specs.List.{list_any}
use Rattle.cell_kinds.specs.declared.kind.CellKind.{CellKind}
use Rattle.cell_kinds.specs.declared.kind.CellKind.TheVariants.{Gate, Flop}
use Rattle.circuit_types.specs.declared.nets.Nets.{Nets}
use Rattle.circuit_types.specs.declared.nets.Source.{Source}
use Rattle.circuit_types.specs.declared.nets.Source.TheVariants as source
use Rattle.circuit_types.specs.declared.probes.Model.{Model}
use Rattle.circuit_types.specs.declared.probes.Model.TheVariants as model
use Rattle.circuit_types.specs.declared.roles.Roles.{Roles}
use Rattle.circuit_types.specs.DataSources.{cell_at, pin_sources, IsWithin}
use Rattle.circuit_types.specs.InputBits.{FitsNets}
use Rattle.circuit_types.specs.Order.{has, is_ready, AllLevelled}
use Rattle.circuit_types.specs.Probes.{probed_sources}
use Rattle.circuit_types.specs.Stable.{stable_sources}
use Rattle.glitch_cone.specs.declared.cones.Cones.{Cones}
use Rattle.glitch_cone.specs.declared.places.Places.{Places}
use Rattle.glitch_cone.specs.Numbers.{AscendsFrom, IsCone, source_at}
use Rattle.glitch_cone.specs.Places.{kept_place}

abbrev pub is_gate_kind : CellKind → Bool
is_gate_kind (Gate g) = true
is_gate_kind (Flop f) = false

-- the source is a gate
abbrev pub is_gate : Nets → Source → Bool
is_gate nets (source.Cell k) = is_gate_kind (cell_at nets k).kind
is_gate nets other = false

-- a probe on the source sees it and nothing else
abbrev pub sees_itself : Model → Nets → Source → Bool
sees_itself model.Value nets s = true
sees_itself model.Glitch nets s = not (is_gate nets s)

-- the number of a source that sees itself
abbrev pub own_numbers : Model → Nets → Source → ℕ → List ℕ
own_numbers m nets s n = if sees_itself m nets s then n ∷ [] else []

-- a list by its number
abbrev pub list_at : List (List ℕ) → ℕ → List ℕ
list_at lists n = slice_index_or lists n []

-- the list of a source, which is empty where the source has no number
abbrev pub kept_cone : Places → List (List ℕ) → Source → List ℕ
kept_cone places lists s = option_map_or (list_at lists) (kept_place places s) []

-- how many numbers the lists have together
abbrev pub entries_of : List (List ℕ) → ℕ
entries_of lists = sum_by (λ (numbers : List ℕ). length numbers) lists

-- there is a list for each of so many sources, and the entries are counted
pub record AreLists (count : ℕ) (cones : Cones) : Type 0 where
  pub one_each : length cones.lists.items ≡ count
  pub counted : cones.entries ≡ entries_of cones.lists.items
  pub ascend : All (AscendsFrom 0) cones.lists.items

-- the numbers of what sees itself, of the first sources
pub record AreOwn (m : Model) (nets : Nets) (sources : List Source) (count : ℕ) (cones : Cones) : Type 0 where
  pub lists : AreLists count cones
  pub few : cones.entries ≤ count
  pub each : (n : ℕ) → n < count → list_at cones.lists.items n ≡ own_numbers m nets (source_at sources n) n

-- the numbers in the lists of any of the sources, ascending
pub record IsBehind (places : Places) (lists : List (List ℕ)) (sources : List Source) (numbers : List ℕ) : Type 0 where
  pub ascends : AscendsFrom 0 numbers
  pub each : (n : ℕ) → has numbers n ≡ list_any (λ s. has (kept_cone places lists s) n) sources

-- the list is put at the number, and its entries are counted
abbrev pub Puts : Option ℕ → List ℕ → Cones → Cones → Type 0
Puts None numbers old new = new ≡ old
Puts (Some n) numbers old new = (new.lists.items ≡ slice_set old.lists.items n numbers) × (new.entries ≡ old.entries + length numbers)

-- a gate gets the numbers in the lists of what it reads; a register keeps its own
abbrev pub Follows : CellKind → Nets → Places → ℕ → Cones → Cones → Type 0
Follows (Flop f) nets places k old new = new ≡ old
Follows (Gate g) nets places k old new =
    (numbers : List ℕ) × IsBehind places old.lists.items (pin_sources (cell_at nets k)) numbers × Puts (kept_place places (source.Cell k)) numbers old new

-- the source has its list: a gate where it is one of the cells of the set
abbrev pub is_made : Nets → (ℕ → Bool) → Source → Bool
is_made nets done s = not (is_gate nets s) || is_ready done s

-- these are the sources that are probed
pub record AreProbed (roles : Roles) (nets : Nets) (sources : List Source) : Type 0 where
  pub levelled : AllLevelled nets
  pub fits : FitsNets roles nets
  pub list : sources ≡ probed_sources roles nets

-- Each source that is made has the numbers of what is stable behind it, and the lists of the others are empty.
pub record AreMade (nets : Nets) (sources : List Source) (places : Places) (done : ℕ → Bool) (lists : List (List ℕ)) : Type 0 where
  pub made : (roles : Roles) → AreProbed roles nets sources → (s : Source) → IsWithin nets s → IsTrue (is_made nets done s)
      → IsCone sources (stable_sources roles nets s) (kept_cone places lists s)
  pub late : (s : Source) → IsFalse (is_made nets done s) → kept_cone places lists s ≡ []

-- the lists are those of what the probes on the sources see
pub record ShowsSeen (sources : List Source) (seen : Source → List Source) (lists : List (List ℕ)) : Type 0 where
  pub one_each : length lists ≡ length sources
  pub within : (n : ℕ) → n < length sources → All (λ k. k < length sources) (list_at lists n)
  pub each : (n : ℕ) → n < length sources → map (source_at sources) (list_at lists n) ≡ seen (source_at sources n)

-- The entries are at most as many as there will be; up to the limit all lists are there.
pub record CountsSeen (sources : List Source) (seen : Source → List Source) (most : ℕ) (cones : Cones) : Type 0 where
  pub counted : cones.entries ≡ entries_of cones.lists.items
  pub bound : cones.entries ≤ sum_by (λ s. length (seen s)) sources
  pub whole : cones.entries ≤ most → ShowsSeen sources seen cones.lists.items
