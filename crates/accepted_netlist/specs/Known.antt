-- What is known of an accepted netlist, as it is kept.
use Rattle.std.specs.Prelude.{ℕ, ◌≡◌, ◌+◌, ◌≤◌, List, length, All}
use Rattle.circuit_types.specs.declared.nets.NetWire.{NetWire}
use Rattle.circuit_types.specs.declared.nets.Nets.{Nets}
use Rattle.circuit_types.specs.declared.tree.Tree.{Tree}
use Rattle.verify_question.specs.declared.question.Question.{Question}
use Rattle.expr_table.specs.Instance.{IsFitting}
use Rattle.expr_table.specs.Table.{IsTable}
use Rattle.accepted_netlist.specs.declared.netlist.Accepted.{Accepted}
use Rattle.accepted_netlist.specs.Netlist.{Netlist, circuit, probes, IsAcceptedAs, IsAcceptedTree, IsInstanceOf}

-- the bits of each wire are among those of the nets
abbrev pub HasBitsWithin : Nets → Type 0
HasBitsWithin nets = All (λ (w : NetWire). w.first + w.width ≤ length nets.sources) nets.wires

-- what is kept is this netlist's, which is that of the tree: its circuit, its probes with what they see, and its instance
pub record KeepsTree (asked : Question) (tree : Tree) (kept : Accepted) : Type 0 where
  pub netlist : Netlist
  pub accepted : IsAcceptedTree asked tree netlist
  pub circuit : kept.circuit ≡ circuit asked netlist
  pub probes : kept.probes ≡ record { model = asked.model; list = probes asked netlist }
  pub instance : IsInstanceOf asked netlist kept.instance

-- what is kept is this netlist's, whose text the bytes are: its circuit, its probes with what they see, and its instance
pub record Keeps (asked : Question) (bytes : List ℕ) (kept : Accepted) : Type 0 where
  pub netlist : Netlist
  pub accepted : IsAcceptedAs asked bytes netlist
  pub circuit : kept.circuit ≡ circuit asked netlist
  pub probes : kept.probes ≡ record { model = asked.model; list = probes asked netlist }
  pub instance : IsInstanceOf asked netlist kept.instance

-- The instance is one of a table and fits; each of its probes is one of the probes, whose tuples are counted; and the bits
-- of wires are among those of the nets.
pub record IsKept (order : ℕ) (kept : Accepted) : Type 0 where
  pub fitting : IsFitting kept.instance
  pub table : IsTable kept.instance.table
  pub one_each : length kept.instance.probes ≡ length kept.probes.list
  pub counted : kept.counts ≡ record { n = length kept.instance.probes; t = order }
  pub within : HasBitsWithin kept.circuit.nets
