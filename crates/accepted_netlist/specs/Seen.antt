-- What is seen of a netlist, and what the steps behind need of it. Private contracts cite this.
use Rattle.std.specs.Prelude.{◌≡◌}
use Rattle.circuit_types.specs.declared.tree.Tree.{Tree}
use Rattle.circuit_types.specs.DataSources.{IsWired}
use Rattle.circuit_types.specs.Due.{IsClear}
use Rattle.circuit_types.specs.InputBits.{FitsNets}
use Rattle.circuit_types.specs.Order.{IsLevelled}
use Rattle.term_build.specs.TermInstance.{AreProbesOf, HasEachShare}
use Rattle.verify_question.specs.declared.question.Question.{Question}
use Rattle.accepted_netlist.specs.declared.seeing.Seen.{Seen}
use Rattle.accepted_netlist.specs.Known.{HasBitsWithin}
use Rattle.accepted_netlist.specs.Netlist.{Netlist, IsNetlistOfTree, circuit, probes, roles, seen_causes}

-- the roles, the circuit and the probes are those of the tree's netlist, and none of the causes that come first holds
pub record HasSeen (asked : Question) (tree : Tree) (seen : Seen) : Type 0 where
  pub netlist : Netlist
  pub made : IsNetlistOfTree tree netlist
  pub clear : IsClear (seen_causes asked netlist)
  pub roles : seen.roles ≡ roles netlist
  pub circuit : seen.circuit ≡ circuit asked netlist
  pub probes : seen.probes ≡ record { model = asked.model; list = probes asked netlist }
  -- they belong together
  pub fits : FitsNets seen.roles seen.circuit.nets
  pub wired : IsWired seen.circuit.nets
  pub levelled : IsLevelled seen.circuit
  pub shares : HasEachShare seen.roles
  pub of_circuit : AreProbesOf seen.circuit seen.probes.list
  pub within : HasBitsWithin seen.circuit.nets
