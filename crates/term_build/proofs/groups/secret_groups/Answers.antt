use Rattle.std.proofs.Common.{◌≡◌, ◌<◌, ◌^◌, Some, map, length, subst, sym, ap, ◌∙◌, arith}
use Rattle.std.specs.List.{range_with_len}
use Rattle.std.proofs.lemmas.List.{length-map}
use Rattle.std.proofs.lemmas.Result.{IfOk-weaker}
use Rattle.circuit_types.specs.Worlds.{secret, group_of}
use Rattle.term_build.specs.declared.leaves.Sort.TheVariants.{Input}
use Rattle.term_build.specs.Numbering.{leaves_of_secrets}
use Rattle.term_build.proofs.Counted.{length-range}
use Rattle.term_build.proofs.Grouped.{secret-groups}
use Rattle.term_build.proofs.groups.secret_groups.Goals as goal

pub overflow_cast-as_slice : goal.overflow_cast-as_slice
overflow_cast-as_slice c =
    let few = subst (λ notion. length (leaves_of_secrets Input notion c.args.roles.now) < 2 ^ 32) c.in-Probing.is c.requires in
    omega (arith, few, length-map (range_with_len 0 (length c.args.roles.now.secrets)) (λ s. secret s), length-range 0 (length c.args.roles.now.secrets), ap length c.as_slice.ensures)

pub returns-in-Probing : goal.returns-in-Probing
returns-in-Probing c =
    let roles = c.args.roles.now in
    let same : map (λ s. Some s) (range_with_len 0 (length c.as_slice.result.now)) ≡ map (group_of roles) (leaves_of_secrets Input c.args.notion roles) =
    ap (λ n. map (λ s. Some s) (range_with_len 0 n)) (ap length c.as_slice.ensures) ∙ sym (secret-groups roles 0 (length roles.secrets)) ∙ ap (λ notion. map (group_of roles) (leaves_of_secrets Input notion roles)) (sym c.in-Probing.is) in
    IfOk-weaker c.own_groups.result _ _ (λ groups is. is ∙ same) c.own_groups.ensures
