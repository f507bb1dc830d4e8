-- The tree of all items.
use Rattle.std.proofs.Common.{◌≡◌, ℕ, List, [], ◌∷◌, codes, Result, Ok, Err, IfOk, ap, ◌∙◌}
use Rattle.circuit_types.specs.declared.tree.Item.{Item}
use Rattle.circuit_types.specs.declared.tree.Tree.{Tree}
use Rattle.gadget_maker.specs.Gadget.{pairs, crossings, items_from, top_mark, gadget_module, gadget}
use Rattle.gadget_maker.specs.Listed.{placed}
use Rattle.gadget_maker.specs.declared.pairs.Pair.{Pair}
use Rattle.gadget_maker.specs.declared.pairs.Crossing.{Crossing}

abbrev pub tree_on : List Item → Tree
tree_on items = record { modules = record { line = 2; name = codes "\\gadget"; attributes = top_mark ∷ []; items = items } ∷ [] }

pub made : (seed d : ℕ) (ps : List Pair) (xs : List Crossing) (items : List Item) → items ≡ placed 3 0 (items_from seed d ps xs) → ps ≡ pairs d
    → xs ≡ crossings d → tree_on items ≡ gadget seed d
unfolding gadget gadget_module
made seed d ps xs items e p x =
    ap tree_on e
    ∙ (ap (λ v. tree_on (placed 3 0 (items_from seed d v xs))) p ∙ ap (λ v. tree_on (placed 3 0 (items_from seed d (pairs d) v))) x)

-- where the answer is one tree and that is another
pub tree_is : {E : Type 0} (r : Result Tree E) (one other : Tree) → one ≡ other → IfOk r (λ t. t ≡ one) → IfOk r (λ t. t ≡ other)
tree_is (Ok t) one other e h = h ∙ e
tree_is (Err x) one other e h = tt
