-- Bytes are the text of at most one netlist, at most one refusal is due for them, and none where the netlist is accepted.
use Rattle.std.proofs.Common.{◌≡◌, ℕ, List, false, true, None, Ok, sym, ◌∙◌, subst, arith}
use Rattle.std.specs.Prelude.{IsSome}
use Rattle.circuit_types.specs.declared.refusal.Refusal.{Refusal}
use Rattle.circuit_types.specs.declared.tree.Tree.{Tree}
use Rattle.circuit_types.specs.Due.{IsClear, IsDue}
use Rattle.circuit_types.specs.Items.{top_items}
use Rattle.circuit_types.specs.Nets.{net_causes, AreNets}
use Rattle.circuit_types.specs.Top.{top_of}
use Rattle.circuit_types.proofs.DueOnce.{due_once, clear_or_due}
use Rattle.verify_question.specs.declared.question.Question.{Question}
use Rattle.net_build.proofs.NetLemmas.{answers_nets}
use Rattle.rtlil_tree.specs.Text.{Stands}
use Rattle.rtlil_tree.specs.Refusals.{IsRefused}
use Rattle.accepted_netlist.specs.Netlist.{Netlist, IsTreeOf, IsNetlistOf, IsAcceptedAs, HasRefusal, IsNetlistOfTree, IsRefusedTree, of_length, of_text, of_tree, of_module, of_netlist, netlist_causes}

-- the laws of texts
abbrev pub OneTree : Type 0
OneTree = (bytes : List ℕ) (t u : Tree) → Stands bytes t → Stands bytes u → t ≡ u

abbrev pub OneTextRefusal : Type 0
OneTextRefusal = (bytes : List ℕ) (r s : Refusal) → IsRefused bytes r → IsRefused bytes s → r ≡ s

abbrev pub NoTopThen : Type 0
NoTopThen = (bytes : List ℕ) (t : Tree) (r : Refusal) → Stands bytes t → IsRefused bytes r → top_of t ≡ None

-- a tree has at most one netlist
one-of-tree : (tree : Tree) (n m : Netlist) → IsNetlistOfTree tree n → IsNetlistOfTree tree m → n ≡ m
one-of-tree tree n m a b =
    let items : n.items ≡ m.items = a.items ∙ sym b.items in
    let made : AreNets m.items n.nets = subst (λ is. AreNets is n.nets) items a.nets in
    let nets : n.nets ≡ m.nets = answers_nets m.items (Ok n.nets) m.nets (record { nets = made; clear = b.clear }) tt b.nets b.clear in
    λ i. record { items = items i; nets = nets i }

-- a module without nets has none
module-netlist : (tree : Tree) (n : Netlist) (r : Refusal) → IsDue (net_causes (top_items tree)) r → IsNetlistOfTree tree n → ⊥
module-netlist tree n r due b = clear_or_due (net_causes n.items) r b.clear (subst (λ is. IsDue (net_causes is) r) (sym b.items) due)

module _ (asked : Question) (tree : Tree) where
  one-of-refusals : (r s : Refusal) → IsRefusedTree asked tree r → IsRefusedTree asked tree s → r ≡ s
  one-of-refusals r s (of_module e) (of_module f) = due_once (net_causes (top_items tree)) r s e f
  one-of-refusals r s (of_module e) (of_netlist n k f) = absurd (module-netlist tree n r e k)
  one-of-refusals r s (of_netlist n l e) (of_module f) = absurd (module-netlist tree n s f l)
  one-of-refusals r s (of_netlist n l e) (of_netlist m k f) =
      due_once (netlist_causes asked m) r s (subst (λ v. IsDue (netlist_causes asked v) r) (one-of-tree tree n m l k) e) f

  accepted-tree : (n : Netlist) (r : Refusal) → IsNetlistOfTree tree n → IsClear (netlist_causes asked n) → IsRefusedTree asked tree r → ⊥
  accepted-tree n r a clear (of_module e) = module-netlist tree n r e a
  accepted-tree n r a clear (of_netlist m l e) =
      clear_or_due (netlist_causes asked n) r clear (subst (λ v. IsDue (netlist_causes asked v) r) (one-of-tree tree m n l a) e)

module _ (one_tree : OneTree) where
  same-tree : (bytes : List ℕ) (t u : Tree) → IsTreeOf bytes t → IsTreeOf bytes u → t ≡ u
  same-tree bytes t u a b = one_tree bytes t u a.stands b.stands

  pub same-netlist : (bytes : List ℕ) (n m : Netlist) → IsNetlistOf bytes n → IsNetlistOf bytes m → n ≡ m
  same-netlist bytes n m a b =
      one-of-tree b.tree n m (subst (λ t. IsNetlistOfTree t n) (same-tree bytes a.tree b.tree a.tree_is b.tree_is) a.made) b.made

module _ (one_tree : OneTree) (one_refusal : OneTextRefusal) (no_top : NoTopThen) where
  -- a text that is refused has no tree with a top module
  text-tree : (bytes : List ℕ) (t : Tree) (r : Refusal) → IsTreeOf bytes t → IsRefused bytes r → ⊥
  text-tree bytes t r a refused = let wrong : false ≡ true = subst IsSome (no_top bytes t r a.stands refused) a.top in absurd cc

  module _ (asked : Question) (bytes : List ℕ) where
    moved : (t u : Tree) (r : Refusal) → IsTreeOf bytes t → IsTreeOf bytes u → IsRefusedTree asked t r → IsRefusedTree asked u r
    moved t u r a b h = subst (λ v. IsRefusedTree asked v r) (same-tree one_tree bytes t u a b) h

    pub one-refusal : (r s : Refusal) → HasRefusal asked bytes r → HasRefusal asked bytes s → r ≡ s
    one-refusal r s (of_length l e) (of_length k f) = e ∙ sym f
    one-refusal r s (of_length l e) (of_text k f) = absurd (omega arith)
    one-refusal r s (of_length l e) (of_tree t k f) = absurd (omega (arith, k.short))
    one-refusal r s (of_text l e) (of_length k f) = absurd (omega arith)
    one-refusal r s (of_text l e) (of_text k f) = one_refusal bytes r s e f
    one-refusal r s (of_text l e) (of_tree t k f) = absurd (text-tree bytes t r k e)
    one-refusal r s (of_tree t l e) (of_length k f) = absurd (omega (arith, l.short))
    one-refusal r s (of_tree t l e) (of_text k f) = absurd (text-tree bytes t s l f)
    one-refusal r s (of_tree t l e) (of_tree u k f) = one-of-refusals asked u r s (moved t u r l k e) f

    pub accepted-refused : (n : Netlist) (r : Refusal) → IsAcceptedAs asked bytes n → HasRefusal asked bytes r → ⊥
    accepted-refused n r a (of_length l e) = absurd (omega (arith, a.netlist.tree_is.short))
    accepted-refused n r a (of_text l e) = text-tree bytes a.netlist.tree r a.netlist.tree_is e
    accepted-refused n r a (of_tree t l e) =
        accepted-tree asked a.netlist.tree n r a.netlist.made a.clear (moved t a.netlist.tree r l a.netlist.tree_is e)
