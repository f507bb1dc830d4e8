-- The sides of an And and of an Xor.
use Rattle.std.proofs.Common.{◌≡◌, ◌⊎◌, ℕ, true, List, [], ◌∷◌, slice_get, Some, refl, sym, subst, ⊎_elim, ◌==◌}
use Rattle.std.proofs.lemmas.Bool.{or_left, or_right, eq-eqb}
use Rattle.std.proofs.lemmas.Option.{get_or_from_slice_get}
use Rattle.expr_table.specs.declared.node.Node.{Node}
use Rattle.expr_table.specs.declared.node.Node.TheVariants as node
use Rattle.expr_table.specs.declared.node.Row.{Row}
use Rattle.expr_table.specs.Table.{node_at, sides, has}

pub has_first : (x : ℕ) (xs : List ℕ) → has (x ∷ xs) x ≡ true
has_first x xs = or_left (x == x) (has xs x) (eq-eqb x x refl)

pub has_later : (x y : ℕ) (xs : List ℕ) → has xs y ≡ true → has (x ∷ xs) y ≡ true
has_later x y xs h = or_right (x == y) (has xs y) h

module _ (n : Node) (a b : Row) (is : (n ≡ node.And a b) ⊎ (n ≡ node.Xor a b)) where
  pub has_left : has (sides n) a.0 ≡ true
  has_left = ⊎_elim (λ e. subst (λ m. has (sides m) a.0 ≡ true) (sym e) (has_first a.0 (b.0 ∷ []))) (λ e. subst (λ m. has (sides m) a.0 ≡ true) (sym e) (has_first a.0 (b.0 ∷ []))) is

  pub has_right : has (sides n) b.0 ≡ true
  has_right = ⊎_elim (λ e. subst (λ m. has (sides m) b.0 ≡ true) (sym e) (has_later a.0 b.0 (b.0 ∷ []) (has_first b.0 []))) (λ e. subst (λ m. has (sides m) b.0 ≡ true) (sym e) (has_later a.0 b.0 (b.0 ∷ []) (has_first b.0 []))) is

-- the node that was read in a row
pub node_read : (nodes : List Node) (row : ℕ) (n : Node) → slice_get nodes row ≡ Some n → node_at nodes row ≡ n
node_read nodes row n h = get_or_from_slice_get nodes row n node.Zero h
