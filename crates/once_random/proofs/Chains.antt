-- Steps of the least chain, and cuts in the order in which they are made.
use Rattle.std.proofs.Common.{◌≡◌, ℕ, zero, suc, List, [], ◌∷◌, ◌++◌, reverse, Some, None, refl, ap, ◌∙◌}
use Rattle.std.proofs.lemmas.List.{reverse-append, map-append}
use Rattle.std.specs.Option.{option_map_or}
use Rattle.expr_table.specs.declared.node.Node.{Node}
use Rattle.expr_table.specs.declared.node.Row.{Row}
use Rattle.expr_table.specs.Table.{numbers}
use Rattle.once_random.specs.Cuts.{least_after, next_cut}

module _ (nodes : List Node) (roots done : List ℕ) where
  pub least_after-none : (n : ℕ) → next_cut nodes roots done ≡ None → least_after nodes roots n done ≡ done
  least_after-none zero none = refl
  least_after-none (suc n) none = ap (λ o. option_map_or (λ e. least_after nodes roots n (e ∷ done)) o done) none

  pub least_after-some : (n e : ℕ) → next_cut nodes roots done ≡ Some e → least_after nodes roots (suc n) done ≡ least_after nodes roots n (e ∷ done)
  least_after-some n e some = ap (λ o. option_map_or (λ e. least_after nodes roots n (e ∷ done)) o done) some

pub latest_first : (rows : List Row) (row : Row) → reverse (numbers (rows ++ row ∷ [])) ≡ row.0 ∷ reverse (numbers rows)
latest_first rows row = ap reverse (map-append (λ (row : Row). row.0) rows (row ∷ [])) ∙ reverse-append (numbers rows) (row.0 ∷ [])
