-- Which bits are which shares of which secrets.
use Rattle.std.specs.Prelude.{ℕ, ◌+◌, ◌==◌, ◌&&◌, not, Bool, true, false, nat_lt, max, if◌then◌else◌, List, [], ◌∷◌, map, filter, fold, Option, Some, None}
use Rattle.std.specs.List.{flat_map, filter_map, list_any, range_with_len, position_from}
use Rattle.std.specs.Option.{option_map_or}
use Rattle.std.specs.Str.{bytes_eq}
use Rattle.circuit_types.specs.declared.roles.Secret.{Secret}
use Rattle.circuit_types.specs.declared.tree.Port.{Port}
use Rattle.circuit_types.specs.declared.tree.Port.TheVariants as port
use Rattle.share_notes.specs.declared.direction.Direction.{Direction}
use Rattle.share_notes.specs.declared.direction.Direction.TheVariants as direction
use Rattle.share_notes.specs.declared.note.Note.TheVariants as note
use Rattle.share_notes.specs.declared.mark.Mark.{Mark}
use Rattle.share_notes.specs.declared.mark.Mark.TheVariants.{Noted}
use Rattle.share_notes.specs.declared.mark.MarkedWire.{MarkedWire}
use Rattle.share_notes.specs.declared.shares.NumberedShare.{NumberedShare}
use Rattle.share_notes.specs.Lines.{wire_lines}

abbrev pub has_direction : Direction → Port → Bool
has_direction direction.Input (port.Input number) = true
has_direction direction.Output (port.Output number) = true
has_direction d p = false

-- one more than the greatest share index of a note, on a wire of this width; 0 where it has none
abbrev pub top_share : ℕ → Mark → ℕ
top_share width (Noted (note.Share name index)) = index + 1
top_share width (Noted (note.Shares name)) = width
top_share width other = 0

-- how many shares there are: one more than the greatest share index of any note, or 0
unfoldable pub share_count : List MarkedWire → ℕ
share_count ws = fold (λ n (w : MarkedWire). max n (top_share w.width w.mark)) 0 ws

-- a share of a bit of a secret
pub record Given : Type 0 where
  pub name : List ℕ
  pub bit : ℕ
  pub share : ℕ

-- what the bit of a wire at a place is
abbrev pub given_at : Mark → ℕ → Option Given
given_at (Noted (note.Share name index)) place = Some (record { name = name; bit = place; share = index })
given_at (Noted (note.Shares name)) place = Some (record { name = name; bit = 0; share = place })
given_at other place = None

-- a bit of a wire, and which share it is
pub record GivenBit : Type 0 where
  pub line : ℕ
  pub bit : ℕ
  pub given : Given

abbrev pub given_bit : MarkedWire → ℕ → Option GivenBit
given_bit w place = option_map_or (λ g. Some (record { line = w.line; bit = w.first + place; given = g })) (given_at w.mark place) None

-- the shares that a wire gives, from place 0 on
abbrev pub wire_shares : MarkedWire → List GivenBit
wire_shares w = filter_map (given_bit w) (range_with_len 0 w.width)

-- the same where its direction is this one, else none
abbrev pub given_by : Direction → MarkedWire → List GivenBit
given_by d w = if has_direction d w.port then wire_shares w else []

-- the shares that wires give
unfoldable pub given : Direction → List MarkedWire → List GivenBit
given d ws = flat_map (given_by d) ws

abbrev pub secret_of : Given → Secret
secret_of g = record { name = g.name; bit = g.bit }

abbrev pub is_same_secret : Secret → Secret → Bool
is_same_secret s t = bytes_eq s.name t.name && s.bit == t.bit

-- without repeats, each where it stands first
unfoldable pub distinct : List Secret → List Secret
distinct [] = []
distinct (s ∷ ss) = s ∷ filter (λ t. not (is_same_secret s t)) (distinct ss)

-- the secret bits in the order of their first shares
unfoldable pub secrets : List GivenBit → List Secret
secrets gs = distinct (map (λ (g : GivenBit). secret_of g.given) gs)

-- the place of a secret bit among others
unfoldable pub place_of : List Secret → Secret → ℕ
place_of ss s = option_map_or (λ place. place) (position_from (is_same_secret s) 0 ss) 0

-- the share with its secret bit by its place
abbrev pub numbered_share : List Secret → GivenBit → NumberedShare
numbered_share ss g = record { line = g.line; bit = g.bit; secret = place_of ss (secret_of g.given); share = g.given.share }

-- the shares that wires give, their secret bits by their places
unfoldable pub numbered_shares : Direction → List MarkedWire → List NumberedShare
numbered_shares d ws = map (numbered_share (secrets (given d ws))) (given d ws)

-- it is this share of this secret bit
abbrev pub is_share : ℕ → ℕ → NumberedShare → Bool
is_share secret share t = t.secret == secret && t.share == share

-- its secret bit lacks one of the shares 0 to d - 1
abbrev pub lacks_share : ℕ → List NumberedShare → NumberedShare → Bool
lacks_share d shares s = list_any (λ i. not (list_any (is_share s.secret i) shares)) (range_with_len 0 d)

-- Another bit before it is the same share. Bits are numbered in file order, and the bits of one wire are all different
-- shares, so that one is of an earlier wire.
abbrev pub is_repeated : List NumberedShare → NumberedShare → Bool
is_repeated shares s = list_any (λ t. is_share s.secret s.share t && nat_lt t.bit s.bit) shares

abbrev pub share_lines : (NumberedShare → Bool) → List NumberedShare → List ℕ
share_lines test shares = map (λ (s : NumberedShare). s.line) (filter test shares)

abbrev pub is_share_mark : Mark → Bool
is_share_mark (Noted (note.Share name index)) = true
is_share_mark (Noted (note.Shares name)) = true
is_share_mark other = false

abbrev pub has_share_note : MarkedWire → Bool
has_share_note w = is_share_mark w.mark

-- the wires with share notes, where there is one share
abbrev pub single_lines : ℕ → List MarkedWire → List ℕ
single_lines d ws = if d == 1 then wire_lines has_share_note ws else []
