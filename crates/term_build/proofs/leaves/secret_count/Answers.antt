use Rattle.std.proofs.Common.{length, sym, ap, ◌∙◌}
use Rattle.std.specs.List.{range_with_len}
use Rattle.std.proofs.lemmas.List.{length-map}
use Rattle.circuit_types.specs.Worlds.{secret}
use Rattle.term_build.specs.Numbering.{leaves_of_secrets}
use Rattle.term_build.proofs.Counted.{length-range}
use Rattle.term_build.proofs.leaves.secret_count.Goals as goal

pub returns-in-Probing : goal.returns-in-Probing
returns-in-Probing c =
    ap length c.as_slice.ensures ∙ sym (length-map (range_with_len 0 (length c.args.roles.now.secrets)) (λ s. secret s) ∙ length-range 0 (length c.args.roles.now.secrets))
    ∙ (λ i. length (leaves_of_secrets (sym c.in-Input.is i) (sym c.in-Probing.is i) c.args.roles.now))
