-- What is known of secret bits while they are numbered, and of shares while they are looked through.
use Rattle.std.specs.Prelude.{◌≡◌, ℕ, ◌+◌, ◌≤◌, List, map, filter, min, [], ◌∷◌, Option, Some, None}
use Rattle.std.specs.List.{position_from}
use Rattle.std.specs.Borrow.{Bor}
use Rattle.std.specs.Ordering.{nat_cmp, ordering_then}
use Rattle.std.specs.Cmp.Lexicographic.{slice_cmp}
use Rattle.std.specs.BTreeMap.{BTreeMap, get_by}
use Rattle.circuit_types.specs.declared.roles.Secret.{Secret}
use Rattle.share_notes.specs.declared.shares.NumberedShare.{NumberedShare}
use Rattle.share_notes.specs.declared.secrets.Given.{Given}
use Rattle.std.specs.Prelude.{Bool, false}
use Rattle.std.specs.BTreeSet.{BTreeSet, contains}
use Rattle.circuit_types.specs.Nets.{most_bits}
use Rattle.circuit_types.specs.declared.nets.Source.{Source}
use Rattle.circuit_types.specs.declared.nets.Source.TheVariants as source
use Rattle.share_notes.specs.declared.mark.MarkedWire.{MarkedWire}
use Rattle.share_notes.specs.Shares.{is_same_secret, is_share, top_share}
use Rattle.share_notes.specs.declared.direction.Direction.{Direction}
use Rattle.share_notes.specs.declared.ports.Shared.{Shared}
use Rattle.share_notes.specs.Shares.{given, secrets, numbered_shares}
use Rattle.share_notes.specs.Shares as shares

-- the map has the place of each secret bit in the list
abbrev pub KnowsPlaces : List Secret → BTreeMap (Bor (List ℕ) × ℕ) ℕ → Type 0
KnowsPlaces ss places = (s : Secret)
    → get_by (λ k. ordering_then (slice_cmp nat_cmp s.name k.0.now) (nat_cmp s.bit k.1)) places ≡ position_from (is_same_secret s) 0 ss

-- the lesser of two numbers, where there are two
abbrev pub earlier_of : Option ℕ → Option ℕ → Option ℕ
earlier_of None other = other
earlier_of (Some one) None = Some one
earlier_of (Some one) (Some other) = Some (min one other)

-- the least of some numbers
unfoldable pub least_of : List ℕ → Option ℕ
least_of [] = None
least_of (x ∷ xs) = earlier_of (Some x) (least_of xs)

-- the first bit that is this share of this secret bit
abbrev pub first_bit : List NumberedShare → ℕ → ℕ → Option ℕ
first_bit shares secret share = least_of (map (λ (s : NumberedShare). s.bit) (filter (is_share secret share) shares))

-- the map has the first bit that is a share of a secret bit
abbrev pub KnowsFirst : List NumberedShare → BTreeMap (ℕ × ℕ) ℕ → Type 0
KnowsFirst shares bits = (secret share : ℕ)
    → get_by (λ k. ordering_then (nat_cmp secret k.0) (nat_cmp share k.1)) bits ≡ first_bit shares secret share

-- the share that the code has
abbrev pub seen_given : Given → shares.Given
seen_given g = record { name = g.name.now; bit = g.bit; share = g.share }

-- its bits are among the 1,048,576 that there may be, and its shares have indices up to 15
abbrev pub IsPlaced : MarkedWire → Type 0
IsPlaced w = (w.first + w.width ≤ most_bits) × (top_share w.width w.mark ≤ 16)

-- the set holds the bit of the source
abbrev pub is_held : BTreeSet ℕ → Source → Bool
is_held bits (source.Input bit) = contains nat_cmp bits bit
is_held bits other = false

-- the secret bits and the shares of a direction are those of the wires
pub record AreShared (d : Direction) (ws : List MarkedWire) (s : Shared) : Type 0 where
  pub list : s.secrets.list.items ≡ secrets (given d ws)
  pub known : KnowsPlaces s.secrets.list.items s.secrets.places
  pub shares : s.shares.items ≡ numbered_shares d ws
  pub first : KnowsFirst s.shares.items s.first.bits
