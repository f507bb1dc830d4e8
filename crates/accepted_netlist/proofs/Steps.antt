-- From the bytes of a netlist to its instance: what each step that ends well comes to, and what is due where one does not.
use Rattle.std.proofs.Common.{◌≡◌, ℕ, suc, ◌+◌, ◌≤◌, List, [], ◌∷◌, ◌++◌, length, Result, Ok, Err, refl, sym, ap, ◌∙◌, subst}
use Rattle.std.specs.Prelude.{IfErr, IfOk}
use Rattle.std.specs.List.{All, AllZip}
use Rattle.rtlil_lex.specs.Tokens.{most_bytes}
use Rattle.circuit_types.specs.declared.circuit.Circuit.{Circuit}
use Rattle.circuit_types.specs.declared.nets.NetWire.{NetWire}
use Rattle.circuit_types.specs.declared.nets.Nets.{Nets}
use Rattle.circuit_types.specs.declared.probes.Probe.{Probe}
use Rattle.circuit_types.specs.declared.probes.Probes.{Probes}
use Rattle.circuit_types.specs.declared.refusal.Refusal.{Refusal}
use Rattle.circuit_types.specs.declared.refusal.Stop.{Stop}
use Rattle.circuit_types.specs.declared.refusal.Stop.TheVariants.{Refused, NoMemory}
use Rattle.circuit_types.specs.declared.roles.Roles.{Roles}
use Rattle.circuit_types.specs.declared.tree.Item.{Item}
use Rattle.circuit_types.specs.declared.tree.Tree.{Tree}
use Rattle.circuit_types.specs.Causes.{level_causes, IsRefusal}
use Rattle.circuit_types.specs.Due.{Cause, IsClear, IsDue}
use Rattle.circuit_types.specs.Items.{top_items, bit_count}
use Rattle.circuit_types.specs.Nets.{net_causes, AreNets}
use Rattle.circuit_types.specs.Probes.{probe_list, probe_causes}
use Rattle.expr_table.specs.declared.instance.Instance.{Instance}
use Rattle.verify_question.specs.declared.question.Question.{Question}
use Rattle.net_build.specs.Stops.{IfRefused}
use Rattle.net_build.proofs.WithinLemmas.{wires_within}
use Rattle.rtlil_tree.specs.Answers.{StandsWithTop, HasStop}
use Rattle.share_notes.specs.Causes.{role_causes}
use Rattle.term_build.specs.TermInstance.{HasInstance, term_causes}
use Rattle.accepted_netlist.specs.Netlist.{Netlist, IsTreeOf, IsNetlistOfTree, IsAcceptedTree, IsRefusedTree, HasRefusal, of_text, of_tree, of_module, of_netlist, netlist_causes, seen_causes, counted_causes, tuple_causes, IsInstanceOf, roles, circuit, probes}
use Rattle.accepted_netlist.specs.declared.netlist.Accepted.{Accepted}
use Rattle.accepted_netlist.specs.Known.{HasBitsWithin, Keeps, KeepsTree}
use Rattle.accepted_netlist.proofs.Causing.{due-first, due-later, clear-both}

-- the netlist of a tree and nets
abbrev pub netlist : Tree → Nets → Netlist
netlist tree nets = record { items = top_items tree; nets = nets }

-- a refusal of one kind is one of another
pub weaker : (P Q : Refusal → Type 0) → ((r : Refusal) → P r → Q r) → (stop : Stop) → IsRefusal P stop → IsRefusal Q stop
weaker P Q f (Refused r) h = f r h
weaker P Q f NoMemory h = tt

pub tree-of : (bytes : List ℕ) (tree : Tree) → length bytes ≤ most_bytes → StandsWithTop bytes tree → IsTreeOf bytes tree
tree-of bytes tree short h = record { short = short; stands = h.0; top = h.1 }

pub text-due : (asked : Question) (bytes : List ℕ) (stop : Stop) → length bytes ≤ most_bytes → HasStop bytes stop → IsRefusal (HasRefusal asked bytes) stop
text-due asked bytes (Refused r) short h = of_text short h
text-due asked bytes NoMemory short h = tt

-- what holds of a tree holds of its text
pub tree-due : (asked : Question) (bytes : List ℕ) (tree : Tree) → IsTreeOf bytes tree → (stop : Stop) → IsRefusal (IsRefusedTree asked tree) stop → IsRefusal (HasRefusal asked bytes) stop
tree-due asked bytes tree is stop h = weaker (IsRefusedTree asked tree) (HasRefusal asked bytes) (λ r due. of_tree tree is due) stop h

pub kept-of : (asked : Question) (bytes : List ℕ) (tree : Tree) → IsTreeOf bytes tree → (kept : Accepted) → KeepsTree asked tree kept → Keeps asked bytes kept
kept-of asked bytes tree is kept h = record {
  netlist = h.netlist;
  accepted = record { netlist = record { tree = tree; tree_is = is; made = h.accepted.netlist }; clear = h.accepted.clear };
  circuit = h.circuit;
  probes = h.probes;
  instance = h.instance;
}

pub if-ok : {T E : Type 0} (r : Result T E) (P Q : T → Type 0) → ((x : T) → P x → Q x) → IfOk r P → IfOk r Q
if-ok (Ok x) P Q show h = show x h
if-ok (Err e) P Q show h = tt

pub if-err : {T E : Type 0} (r : Result T E) (P Q : E → Type 0) → ((e : E) → P e → Q e) → IfErr r P → IfErr r Q
if-err (Ok x) P Q show h = tt
if-err (Err e) P Q show h = show e h

pub netlist-of : (tree : Tree) (nets : Nets) → AreNets (top_items tree) nets → IsClear (net_causes (top_items tree)) → IsNetlistOfTree tree (netlist tree nets)
netlist-of tree nets are clear = record { items = refl; nets = are; clear = clear }

module _ (asked : Question) (tree : Tree) where
  pub module-due : (stop : Stop) → IfRefused stop (IsDue (net_causes (top_items tree))) → IsRefusal (IsRefusedTree asked tree) stop
  module-due (Refused r) h = of_module h
  module-due NoMemory h = tt

  module _ (n : Netlist) (is : IsNetlistOfTree tree n) where
    due : (cs : List Cause) → ((r : Refusal) → IsDue cs r → IsDue (netlist_causes asked n) r) → (stop : Stop) → IsRefusal (IsDue cs) stop → IsRefusal (IsRefusedTree asked tree) stop
    due cs show (Refused r) h = of_netlist n is (show r h)
    due cs show NoMemory h = tt

    abbrev role : List Cause
    role = role_causes n.items n.nets

    abbrev level : List Cause
    level = level_causes (roles n) asked.timing n.nets

    abbrev probing : List Cause
    probing = probe_causes asked.model (roles n) (circuit asked n)

    abbrev counting : List Cause
    counting = tuple_causes (length (probes asked n)) asked.order

    abbrev terms : List Cause
    terms = term_causes asked.notion (roles n) (circuit asked n)

    seen-due : (r : Refusal) → IsDue (seen_causes asked n) r → IsDue (netlist_causes asked n) r
    unfolding netlist_causes
    seen-due r h = due-first (seen_causes asked n) (counted_causes asked n) r h

    pub roles-due : (stop : Stop) → IsRefusal (IsDue role) stop → IsRefusal (IsRefusedTree asked tree) stop
    roles-due stop h = due role (λ r d. seen-due r (due-first role (level ++ probing) r d)) stop h

    module _ (role-clear : IsClear role) (rs : Roles) (roles-are : rs ≡ roles n) where
      pub levels-due : (stop : Stop) → IsRefusal (IsDue (level_causes rs asked.timing n.nets)) stop → IsRefusal (IsRefusedTree asked tree) stop
      levels-due stop h =
          due level (λ r d. seen-due r (due-later role (level ++ probing) r role-clear (due-first level probing r d))) stop
          (subst (λ v. IsRefusal (IsDue (level_causes v asked.timing n.nets)) stop) roles-are h)

      module _ (levels-clear : IsClear (level_causes rs asked.timing n.nets)) (c : Circuit) (circuit-is : c ≡ circuit asked n) where
        level-clear : IsClear level
        level-clear = subst (λ v. IsClear (level_causes v asked.timing n.nets)) roles-are levels-clear

        pub probes-due : (stop : Stop) → IsRefusal (IsDue (probe_causes asked.model rs c)) stop → IsRefusal (IsRefusedTree asked tree) stop
        probes-due stop h =
            due probing (λ r d. seen-due r (due-later role (level ++ probing) r role-clear (due-later level probing r level-clear d))) stop
            (subst (λ v. IsRefusal (IsDue (probe_causes asked.model (roles n) v)) stop) circuit-is
            (subst (λ v. IsRefusal (IsDue (probe_causes asked.model v c)) stop) roles-are h))

        pub seen-clear : IsClear (probe_causes asked.model rs c) → IsClear (seen_causes asked n)
        seen-clear h =
            clear-both role (level ++ probing) role-clear
            (clear-both level probing level-clear
            (subst (λ v. IsClear (probe_causes asked.model (roles n) v)) circuit-is (subst (λ v. IsClear (probe_causes asked.model v c)) roles-are h)))

    -- where none of the causes that come first holds
    module _ (seen : IsClear (seen_causes asked n)) (k : ℕ) (counted : k ≡ length (probes asked n)) where
      counted-due : (r : Refusal) → IsDue (counted_causes asked n) r → IsDue (netlist_causes asked n) r
      unfolding netlist_causes
      counted-due r h = due-later (seen_causes asked n) (counted_causes asked n) r seen h

      pub tuples-due : (stop : Stop) → IsRefusal (IsDue (tuple_causes k asked.order)) stop → IsRefusal (IsRefusedTree asked tree) stop
      tuples-due stop h =
          due counting (λ r d. counted-due r (due-first counting terms r d)) stop
          (subst (λ v. IsRefusal (IsDue (tuple_causes v asked.order)) stop) counted h)

      module _ (tuples-clear : IsClear (tuple_causes k asked.order)) (rs : Roles) (c : Circuit) (roles-are : rs ≡ roles n) (circuit-is : c ≡ circuit asked n) where
        counting-clear : IsClear counting
        counting-clear = subst (λ v. IsClear (tuple_causes v asked.order)) counted tuples-clear

        pub terms-due : (stop : Stop) → IsRefusal (IsDue (term_causes asked.notion rs c)) stop → IsRefusal (IsRefusedTree asked tree) stop
        terms-due stop h =
            due terms (λ r d. counted-due r (due-later counting terms r counting-clear d)) stop
            (subst (λ v. IsRefusal (IsDue (term_causes asked.notion (roles n) v)) stop) circuit-is
            (subst (λ v. IsRefusal (IsDue (term_causes asked.notion v c)) stop) roles-are h))

        all-clear : IsClear terms → IsClear (netlist_causes asked n)
        unfolding netlist_causes
        all-clear h = clear-both (seen_causes asked n) (counted_causes asked n) seen (clear-both counting terms counting-clear h)

        pub accepted : IsClear (term_causes asked.notion rs c) → IsAcceptedTree asked tree n
        accepted h = record {
          netlist = is;
          clear = all-clear (subst (λ v. IsClear (term_causes asked.notion (roles n) v)) circuit-is (subst (λ v. IsClear (term_causes asked.notion v c)) roles-are h));
        }

-- the probes and the instance, where the roles and the circuit are the netlist's
pub probes-are : (asked : Question) (n : Netlist) (rs : Roles) (c : Circuit) (p : Probes) → rs ≡ roles n → c ≡ circuit asked n
    → p ≡ record { model = asked.model; list = probe_list asked.model rs c } → p ≡ record { model = asked.model; list = probes asked n }
probes-are asked n rs c p e f is = is ∙ (λ i. record { model = asked.model; list = probe_list asked.model (e i) (f i) })

pub instance-is : (asked : Question) (n : Netlist) (rs : Roles) (c : Circuit) (ps : List Probe) (x : Instance) → rs ≡ roles n → c ≡ circuit asked n → ps ≡ probes asked n
    → HasInstance asked.notion rs c ps x → IsInstanceOf asked n x
instance-is asked n rs c ps x e f g h =
    subst (λ v. HasInstance asked.notion (roles n) (circuit asked n) v x) g
    (subst (λ v. HasInstance asked.notion (roles n) v ps x) f (subst (λ v. HasInstance asked.notion v c ps x) e h))

-- the bits of wires are among those of the nets
pub bits-within : (items : List Item) (nets made : Nets) → AreNets items nets → made ≡ nets → HasBitsWithin made
bits-within items nets made are same =
    let count = are.each_bit ∙ ap bit_count (sym are.each_wire) in
    let within = wires_within nets.wires items are.each_wire in
    subst HasBitsWithin (sym same) (subst (λ n. All (λ (w : NetWire). w.first + w.width ≤ n) nets.wires) (sym count) within)

pub same-length : {X Y : Type 0} (R : X → Y → Type 0) (xs : List X) (ys : List Y) → AllZip R xs ys → length xs ≡ length ys
same-length R [] [] all = refl
same-length R [] (y ∷ ys) all = absurd all
same-length R (x ∷ xs) [] all = absurd all
same-length R (x ∷ xs) (y ∷ ys) all = ap suc (same-length R xs ys all.1)
