use Rattle.std.proofs.Common.{ℕ, ◌+◌, ap}
use Rattle.circuit_types.specs.declared.roles.InputRole.{InputRole}
use Rattle.circuit_types.specs.declared.roles.Role.{Role}
use Rattle.share_notes.specs.Roles.{role_at}
use Rattle.share_notes.proofs.Dues.{range_step}
use Rattle.share_notes.proofs.ports.push_roles.Goals as goal

pub loop-place-preserved : goal.loop-place-preserved
loop-place-preserved c =
    let f : ℕ → InputRole = λ place. record { bit = c.args.first + place; role = role_at c.args.secrets.now.list.items c.args.note.now place } in
    range_step f c.loop-place.place _ c.args.roles.now.items c.loop-place.roles.items c.push.new.self.items c.loop-place.invariant c.in_ok-push.ensures.items
    (ap (λ (r : Role). record { bit = c.args.first + c.loop-place.place; role = r }) c.role_at.ensures)
