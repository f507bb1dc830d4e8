use Rattle.std.proofs.Common.{◌<◌, ◌∙◌, List, subst, sym, All, length-set}
use Rattle.std.specs.List.{AllPairs}
use Rattle.std.proofs.Common.{◌≢◌}
use Rattle.circuit_types.specs.declared.roles.InputRole.{InputRole}
use Rattle.term_build.specs.Building.{role_row}
use Rattle.term_build.proofs.InputRoles.{role-rows-more}
use Rattle.term_build.proofs.bit_rows.bit_rows.Goals as goal

pub loop-input-preserved : goal.loop-input-preserved
loop-input-preserved c =
    let items = c.as_slice-input-items.result.now in
    let same = sym c.as_slice-input-items.ensures in
    record {
      count = length-set c.loop-input.rows.items _ c.role_row.result ∙ c.loop-input.invariant.count;
      each = role-rows-more (role_row c.args.given.now c.args.drawn.now c.args.shares.now) c.loop-input.rows.items items c.loop-input.input-index c.args.count _ c.role_row.result
          c.loop-input-test.true c.loop-input.invariant.count
          (subst (λ (xs : List InputRole). All (λ (x : InputRole). x.bit < c.args.count) xs) same c.requires.within)
          (subst (λ (xs : List InputRole). AllPairs (λ (x y : InputRole). x.bit ≢ y.bit) xs) same c.requires.one_role)
          c.role_row.ensures c.loop-input.invariant.each;
    }
