-- The roles of a module's ports by their notes.
use Rattle.std.specs.Prelude.{ℕ, ◌+◌, if◌then◌else◌, List, [], map}
use Rattle.std.specs.List.{flat_map, range_with_len}
use Rattle.circuit_types.specs.declared.roles.InputRole.{InputRole}
use Rattle.circuit_types.specs.declared.roles.OutputShare.{OutputShare}
use Rattle.circuit_types.specs.declared.roles.Role.{Role}
use Rattle.circuit_types.specs.declared.roles.Role.TheVariants as role
use Rattle.circuit_types.specs.declared.roles.Roles.{Roles}
use Rattle.circuit_types.specs.declared.roles.Secret.{Secret}
use Rattle.circuit_types.specs.declared.tree.Item.{Item}
use Rattle.share_notes.specs.declared.direction.Direction.TheVariants.{Input, Output}
use Rattle.share_notes.specs.declared.note.Note.{Note}
use Rattle.share_notes.specs.declared.note.Note.TheVariants as note
use Rattle.share_notes.specs.declared.mark.Mark.{Mark}
use Rattle.share_notes.specs.declared.mark.Mark.TheVariants.{Noted}
use Rattle.share_notes.specs.declared.mark.MarkedWire.{MarkedWire}
use Rattle.share_notes.specs.declared.shares.NumberedShare.{NumberedShare}
use Rattle.share_notes.specs.Marks.{marked_wires}
use Rattle.share_notes.specs.PortOrder.{in_port_order}
use Rattle.share_notes.specs.Shares.{has_direction, share_count, given, secrets, place_of, numbered_shares}

-- the role of the bit at a place of a wire with this note, where these are the secret bits
abbrev pub role_at : List Secret → Note → ℕ → Role
role_at ss (note.Share name index) place = role.Share (place_of ss (record { name = name; bit = place })) index
role_at ss (note.Shares name) place = role.Share (place_of ss (record { name = name; bit = 0 })) place
role_at ss note.Random place = role.Random
role_at ss note.Public place = role.Public
role_at ss note.Clock place = role.Clock
role_at ss (note.Held value) place = role.Held value

-- the roles of the bits of a wire with this note, from place 0 on
abbrev pub noted_roles : List Secret → MarkedWire → Mark → List InputRole
noted_roles ss w (Noted n) = map (λ place. record { bit = w.first + place; role = role_at ss n place }) (range_with_len 0 w.width)
noted_roles ss w other = []

abbrev pub wire_roles : List Secret → MarkedWire → List InputRole
wire_roles ss w = if has_direction Input w.port then noted_roles ss w w.mark else []

abbrev pub input_roles : List Secret → List MarkedWire → List InputRole
input_roles ss ws = flat_map (wire_roles ss) ws

abbrev pub output_share : NumberedShare → OutputShare
output_share s = record { bit = s.bit; secret = s.secret; share = s.share }

-- the roles that the notes of wires in port order give
abbrev pub roles_by : ℕ → List MarkedWire → Roles
roles_by shares ws = record {
  shares = shares;
  secrets = secrets (given Input ws);
  inputs = input_roles (secrets (given Input ws)) ws;
  output_secrets = secrets (given Output ws);
  outputs = map output_share (numbered_shares Output ws);
}

-- the roles of a module's ports
unfoldable pub roles_of : List Item → Roles
roles_of items = roles_by (share_count (marked_wires items)) (in_port_order (marked_wires items))
