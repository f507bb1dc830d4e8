use Rattle.std.proofs.Common.{◌≡◌, ◌+◌, ◌*◌, ◌<◌, ℕ, length, get_or}
use Rattle.circuit_types.specs.declared.roles.InputRole.{InputRole}
use Rattle.circuit_types.specs.declared.roles.Role.TheVariants.{Share}
use Rattle.term_build.proofs.share_rows.share_bits.Given as goal

abbrev pub invariant-loop-input : goal.invariant-loop-input
invariant-loop-input l = record {
  count : length l.bits.items ≡ length l.roles.secrets * l.roles.shares;
  each : (j s i : ℕ) (d : InputRole) → j < l.input-index → (get_or l.input-items j d).role ≡ Share s i → get_or l.bits.items (s * l.roles.shares + i) 0 ≡ (get_or l.input-items j d).bit;
}
