use Rattle.std.proofs.Common.{◌≡◌, ◌+◌, ◌++◌, map}
use Rattle.std.specs.List.{range_with_len}
use Rattle.share_notes.specs.Roles.{role_at}
use Rattle.share_notes.proofs.ports.push_roles.Given as goal

-- the roles of the places before this one are there
abbrev pub invariant-loop-place : goal.invariant-loop-place
invariant-loop-place l =
    l.roles.items ≡ l.initial.roles.items ++ map (λ place. record { bit = l.first + place; role = role_at l.secrets.list.items l.note place }) (range_with_len 0 l.place)
