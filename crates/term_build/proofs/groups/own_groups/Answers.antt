use Rattle.std.proofs.Common.{◌∷◌, [], ◌++◌, ℕ, List, Some, Option, sym, ap, ◌∙◌}
use Rattle.term_build.proofs.Grouped.{groups-next}
use Rattle.term_build.proofs.groups.own_groups.Goals as goal

pub loop-secret-preserved : goal.loop-secret-preserved
loop-secret-preserved c =
    c.in_ok-push.ensures.items ∙ ap (λ (l : List (Option ℕ)). l ++ Some c.loop-secret.secret ∷ []) c.loop-secret.invariant ∙ sym (groups-next c.loop-secret.secret)
