use Rattle.std.proofs.Common.{◌≡◌, take}
use Rattle.share_notes.specs.Roles.{input_roles}
use Rattle.share_notes.proofs.ports.input_roles.Given as goal

-- the roles of the wires before this one are there
abbrev pub invariant-loop-wire : goal.invariant-loop-wire
invariant-loop-wire l = l.roles.items ≡ input_roles l.secrets.list.items (take l.wire-index l.wires)
