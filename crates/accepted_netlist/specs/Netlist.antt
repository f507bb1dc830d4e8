-- The netlist whose text bytes are, and which refusal is due for bytes.
use Rattle.std.specs.Prelude.{ℕ, ◌≡◌, ◌<◌, ◌≤◌, ◌^◌, List, [], ◌∷◌, ◌++◌, length, IsSome}
use Rattle.rtlil_lex.specs.Tokens.{most_bytes}
use Rattle.rtlil_tree.specs.Text.{Stands}
use Rattle.rtlil_tree.specs.Refusals.{IsRefused}
use Rattle.circuit_types.specs.declared.circuit.Circuit.{Circuit}
use Rattle.circuit_types.specs.declared.nets.Nets.{Nets}
use Rattle.circuit_types.specs.declared.probes.Probe.{Probe}
use Rattle.circuit_types.specs.declared.refusal.Refusal.{Refusal}
use Rattle.circuit_types.specs.declared.refusal.Refusal.TheVariants.{Limit}
use Rattle.circuit_types.specs.declared.refusal.Which.TheVariants.{FileBytes, Tuples}
use Rattle.circuit_types.specs.declared.roles.Roles.{Roles}
use Rattle.circuit_types.specs.declared.tree.Item.{Item}
use Rattle.circuit_types.specs.declared.tree.Tree.{Tree}
use Rattle.circuit_types.specs.Causes.{level_causes}
use Rattle.circuit_types.specs.Due.{Cause, of_all, IsClear, IsDue}
use Rattle.circuit_types.specs.Items.{top_items}
use Rattle.circuit_types.specs.Nets.{net_causes, AreNets}
use Rattle.circuit_types.specs.Order.{order}
use Rattle.circuit_types.specs.Probes.{probe_list, probe_causes, probe_at}
use Rattle.circuit_types.specs.Top.{top_of}
use Rattle.expr_table.specs.declared.instance.Instance.{Instance}
use Rattle.verify_question.specs.declared.question.Question.{Question}
use Rattle.net_build.specs.Names.{printed_name}
use Rattle.share_notes.specs.Causes.{role_causes}
use Rattle.share_notes.specs.Roles.{roles_of}
use Rattle.term_build.specs.TermInstance.{HasInstance, term_causes}
use Rattle.tuple_rank.specs.Tuples.{tuples}

-- the bytes stand for the tree, which has a top module
pub record IsTreeOf (bytes : List ℕ) (tree : Tree) : Type 0 where
  pub short : length bytes ≤ most_bytes
  pub stands : Stands bytes tree
  pub top : IsSome (top_of tree)

-- A netlist: the statements of its top module, and the nets that they make. All else follows from these.
pub record Netlist : Type 0 where
  pub items : List Item
  pub nets : Nets

-- what the notes on its ports say
abbrev pub roles : Netlist → Roles
roles n = roles_of n.items

-- the circuit, for as long as it is asked to run
abbrev pub circuit : Question → Netlist → Circuit
circuit asked n = record { nets = n.nets; order = order asked.timing n.nets; timing = asked.timing }

-- the probes on it, each of which sees what it is asked to see
abbrev pub probes : Question → Netlist → List Probe
probes asked n = probe_list asked.model (roles n) (circuit asked n)

-- the printed name of a probe, by its number
abbrev pub probe_name : Question → Netlist → ℕ → List ℕ
probe_name asked n p = printed_name n.nets.wires (probe_at (probes asked n) p).name_bit

-- the most tuples of probes
abbrev pub most_tuples : ℕ
most_tuples = 2 ^ 62

-- the refusal of a netlist with so many probes, where there are too many tuples of at most as many of them as the order
unfoldable pub tuple_causes : ℕ → ℕ → List Cause
tuple_causes count order = of_all (Limit Tuples) (most_tuples < length (tuples count order)) ∷ []

-- the causes for which it is refused before its tuples are counted: by its notes, its loops and registers, and its probes
abbrev pub seen_causes : Question → Netlist → List Cause
seen_causes asked n =
    role_causes n.items n.nets
    ++ (level_causes (roles n) asked.timing n.nets
    ++ probe_causes asked.model (roles n) (circuit asked n))

-- and those from there on: by the tuples of its probes, and its terms
abbrev pub counted_causes : Question → Netlist → List Cause
counted_causes asked n =
    tuple_causes (length (probes asked n)) asked.order
    ++ term_causes asked.notion (roles n) (circuit asked n)

-- The causes for which a netlist is refused, in their order.
unfoldable pub netlist_causes : Question → Netlist → List Cause
netlist_causes asked n = seen_causes asked n ++ counted_causes asked n

-- the netlist is that of the tree, whose top module has nets without a refusal
pub record IsNetlistOfTree (tree : Tree) (n : Netlist) : Type 0 where
  pub items : n.items ≡ top_items tree
  pub nets : AreNets n.items n.nets
  pub clear : IsClear (net_causes n.items)

-- The refusal that is due for a tree with a top module: this module has no nets; or the netlist is refused.
pub data IsRefusedTree (asked : Question) (tree : Tree) (r : Refusal) : Type 0 where
  of_module : IsDue (net_causes (top_items tree)) r → IsRefusedTree asked tree r
  of_netlist : (n : Netlist) → IsNetlistOfTree tree n → IsDue (netlist_causes asked n) r → IsRefusedTree asked tree r

-- the netlist is that of the tree, and no refusal is due
pub record IsAcceptedTree (asked : Question) (tree : Tree) (n : Netlist) : Type 0 where
  pub netlist : IsNetlistOfTree tree n
  pub clear : IsClear (netlist_causes asked n)

-- the bytes are the text of the netlist: that of the tree that they stand for
pub record IsNetlistOf (bytes : List ℕ) (n : Netlist) : Type 0 where
  pub tree : Tree
  pub tree_is : IsTreeOf bytes tree
  pub made : IsNetlistOfTree tree n

-- The refusal that is due for bytes: they are too many; or no tree is read; or the tree is refused.
pub data HasRefusal (asked : Question) (bytes : List ℕ) (r : Refusal) : Type 0 where
  of_length : most_bytes < length bytes → r ≡ Limit FileBytes → HasRefusal asked bytes r
  of_text : length bytes ≤ most_bytes → IsRefused bytes r → HasRefusal asked bytes r
  of_tree : (tree : Tree) → IsTreeOf bytes tree → IsRefusedTree asked tree r → HasRefusal asked bytes r

-- the bytes are the text of the netlist, and no refusal is due
pub record IsAcceptedAs (asked : Question) (bytes : List ℕ) (n : Netlist) : Type 0 where
  pub netlist : IsNetlistOf bytes n
  pub clear : IsClear (netlist_causes asked n)

-- the instance of the netlist, with its probes
abbrev pub IsInstanceOf : Question → Netlist → Instance → Type 0
IsInstanceOf asked n x = HasInstance asked.notion (roles n) (circuit asked n) (probes asked n) x
