-- In a table the live leaves of a group are counted by the numbers of its input leaves.
use Rattle.std.proofs.Common.{◌≡◌, ℕ, zero, suc, ◌+◌, ◌<◌, ◌≤◌, Bool, false, ◌&&◌, if◌then◌else◌, List, length, slice_get, Option, Some, refl, ap, ◌∙◌, subst, arith, add-zero, ⊎_elim}
use Rattle.std.proofs.lemmas.Bool.{cases_lt, cond-false, and_right}
use Rattle.std.proofs.Math.Bool.{and_comm}
use Rattle.expr_table.specs.declared.instance.Instance.{Instance}
use Rattle.expr_table.specs.declared.node.Node.{Node}
use Rattle.expr_table.specs.declared.node.Node.TheVariants as node
use Rattle.expr_table.specs.Instance.{IsFitting}
use Rattle.expr_table.specs.Table.{Table, IsTable, node_at}
use Rattle.expr_table.proofs.Facts.{node_at-slice_get}
use Rattle.once_random.specs.Groups.{is_in_group, is_leaf_of, live_leaves}
use Rattle.once_random.specs.Live.{is_live}
use Rattle.once_random.specs.Numbers.{count_below}
use Rattle.once_random.proofs.Alone.{count_none}
use Rattle.once_random.proofs.Counting.{count_below-same}

module _ (test : ℕ → Bool) where
  -- numbers past k that fail are not counted
  count_past : (k n : ℕ) → k ≤ n → ((i : ℕ) → k ≤ i → i < n → test i ≡ false) → count_below n test ≡ count_below k test
  count_past k zero le fails = let e : zero ≡ k = omega arith in ap (λ j. count_below j test) e
  count_past k (suc n) le fails =
      ⊎_elim
      (λ lt.
      ap (λ c. c + (if test n then 1 else 0)) (count_past k n (omega arith) (λ i from l. fails i from (omega arith)))
      ∙ ap (λ c. count_below k test + c) (cond-false (test n) 1 0 (fails n (omega arith) (omega arith)))
      ∙ add-zero (count_below k test))
      (λ past. let e : suc n ≡ k = omega arith in ap (λ j. count_below j test) e)
      (cases_lt k (suc n))

  -- where 0 and 1 fail, the count is that of the numbers from 2 on
  count_later : test 0 ≡ false → test 1 ≡ false → (n k : ℕ) → k ≡ 2 + n → count_below k test ≡ count_below n (λ i. test (2 + i))
  count_later zeroth first zero k is =
      let e : k ≡ 2 = omega arith in
      ap (λ j. count_below j test) e
      ∙ count_none test 2 (λ i l. ⊎_elim
      (λ lt. let none : 0 ≡ i = omega arith in subst (λ j. test j ≡ false) none zeroth)
      (λ past. let one : 1 ≡ i = omega arith in subst (λ j. test j ≡ false) one first)
      (cases_lt i 1))
  count_later zeroth first (suc n) k is =
      let e : k ≡ suc (2 + n) = omega arith in
      ap (λ j. count_below j test) e
      ∙ ap (λ c. c + (if test (2 + n) then 1 else 0)) (count_later zeroth first n (2 + n) refl)

-- a node that is no input leaf is of no group
no_leaf : (groups : List (Option ℕ)) (g : ℕ) (n : Node) → ((i : ℕ) → n ≡ node.Input i → ⊥) → is_leaf_of groups g n ≡ false
no_leaf groups g node.Zero none = refl
no_leaf groups g node.One none = refl
no_leaf groups g (node.Input i) none = absurd (none i refl)
no_leaf groups g (node.Random i) none = refl
no_leaf groups g (node.And a b) none = refl
no_leaf groups g (node.Xor a b) none = refl

-- a table has a row for each input leaf
pub inputs_within : (t : Table) → IsTable t → 2 + t.inputs ≤ length t.nodes
inputs_within t table = go t.inputs refl
  where
    row_one : 1 < length t.nodes
    row_one = (node_at-slice_get t.nodes 1 node.One table.one_row).0

    go : (n : ℕ) → t.inputs ≡ n → 2 + t.inputs ≤ length t.nodes
    go zero is = omega (arith, row_one)
    go (suc n) is =
        let lt : n < t.inputs = omega arith in
        let last : 2 + n < length t.nodes = (node_at-slice_get t.nodes (2 + n) (node.Input n) (table.input_rows n lt)).0 in
        omega arith

-- the live leaves of a group are those input leaves of it that are live
pub leaves_by_number : (x : Instance) → IsTable x.table → IsFitting x → (roots cuts : List ℕ) (g : ℕ)
    → live_leaves x roots cuts g ≡ count_below x.table.inputs (λ i. is_in_group x.groups g i && is_live x.table.nodes roots cuts (2 + i))
leaves_by_number x table fitting roots cuts g =
    let nodes = x.table.nodes in
    let test : ℕ → Bool = λ row. is_live nodes roots cuts row && is_leaf_of x.groups g (node_at nodes row) in
    let leaf : (row : ℕ) (n : Node) → slice_get nodes row ≡ Some n → is_leaf_of x.groups g (node_at nodes row) ≡ is_leaf_of x.groups g n =
    λ row n at. ap (is_leaf_of x.groups g) (node_at-slice_get nodes row n at).1 in
    count_past test (2 + x.table.inputs) (length nodes) (inputs_within x.table table)
    (λ row from lt. and_right (is_live nodes roots cuts row) (is_leaf_of x.groups g (node_at nodes row))
    (no_leaf x.groups g (node_at nodes row) (λ i is. let once = table.input_once row i is in absurd (omega arith))))
    ∙ count_later test
    (and_right (is_live nodes roots cuts 0) (is_leaf_of x.groups g (node_at nodes 0)) (leaf 0 node.Zero table.zero_row))
    (and_right (is_live nodes roots cuts 1) (is_leaf_of x.groups g (node_at nodes 1)) (leaf 1 node.One table.one_row))
    x.table.inputs (2 + x.table.inputs) refl
    ∙ count_below-same x.table.inputs (λ i. test (2 + i)) (λ i. is_in_group x.groups g i && is_live nodes roots cuts (2 + i))
    (λ i lt. ap (λ b. is_live nodes roots cuts (2 + i) && b) (leaf (2 + i) (node.Input i) (table.input_rows i lt))
    ∙ and_comm (is_live nodes roots cuts (2 + i)) (is_in_group x.groups g i))
