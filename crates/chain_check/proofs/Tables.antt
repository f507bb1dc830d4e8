-- Marks and answers over lists that were read from an instance are the instance's.
use Rattle.std.proofs.Common.{◌≡◌, ℕ, Bool, List, [], Option, ap, ◌∙◌, subst}
use Rattle.expr_table.specs.declared.instance.Instance.{Instance}
use Rattle.expr_table.specs.declared.instance.ProbeRoots.{ProbeRoots}
use Rattle.once_random.specs.Groups.{are_within, is_within}
use Rattle.once_random.specs.Tuples.{roots_over, roots_of}
use Rattle.live_rows.specs.declared.mark.Mark.{Mark}
use Rattle.live_rows.specs.Shown.{Shows}
use Rattle.chain_check.specs.Made.{CutsAreMade}

-- before any cut
pub begun : (x : Instance) (probes : List ProbeRoots) (tuple : List ℕ) (marks : List Mark) → probes ≡ x.probes → Shows x.table.nodes (roots_over probes tuple) [] marks
    → CutsAreMade x.table.nodes (roots_of x tuple) [] marks
begun x probes tuple marks is shows = record {
  chain = tt;
  shows = subst (λ (ps : List ProbeRoots). Shows x.table.nodes (roots_over ps tuple) [] marks) is shows;
}

-- what is live within a bound
pub within_is : (x : Instance) (groups : List (Option ℕ)) → groups ≡ x.groups → (roots cuts : List ℕ) (m : ℕ) (answer : Bool)
    → answer ≡ are_within x.table.nodes groups roots cuts m → answer ≡ is_within x roots cuts m
within_is x groups is roots cuts m answer over = over ∙ ap (λ (gs : List (Option ℕ)). are_within x.table.nodes gs roots cuts m) is
