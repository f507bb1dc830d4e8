-- How the names of a slot are linked. Lists of names have the latest name first.
use Rattle.std.specs.Prelude.{◌≡◌, ℕ, ◌<◌, ◌≤◌, ◌^◌, ◌==◌, ◌&&◌, Bool, true, List, [], ◌∷◌, length, map, reverse, slice_index, if◌then◌else◌}
use Rattle.name_table.specs.Digests.{digest_of, slot_of}
use Rattle.name_table.specs.declared.slots.Entry.{Entry}

-- the names with their values
abbrev pub pairs : {V : Type 0} → List (Entry V) → List (List ℕ × V)
pairs entries = map (λ e. (e.name.now, e.value)) entries

-- the names from the first one on that is in the slot, of so many
unfoldable pub from_slot : {V : Type 0} → ℕ → ℕ → List (Entry V) → List (Entry V)
from_slot slots slot [] = []
from_slot slots slot (e ∷ entries) = if slot_of slots e.digest == slot then e ∷ entries else from_slot slots slot entries

-- Each name has its digest, and the number of the next one in its slot: how many names there are from that one on.
unfoldable pub are_linked : {V : Type 0} → ℕ → List (Entry V) → Bool
are_linked slots [] = true
are_linked slots (e ∷ entries) =
    (e.digest == digest_of e.name.now && e.next == length (from_slot slots (slot_of slots e.digest) entries)) && are_linked slots entries

-- names in the order in which they came, and for each slot the number of its latest name
pub record AreShelved {V : Type 0} (heads : List ℕ) (entries : List (Entry V)) : Type 0 where
  pub few : length heads < 2 ^ 32
  pub small : length entries ≤ 2 ^ 31
  pub housed : length heads ≡ 0 → length entries ≡ 0
  pub linked : are_linked (length heads) (reverse entries) ≡ true
  pub first : (slot : ℕ) → slot < length heads → slice_index heads slot ≡ length (from_slot (length heads) slot (reverse entries))
