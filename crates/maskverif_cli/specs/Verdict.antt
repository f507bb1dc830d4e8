-- The verdict on the instance of a netlist.
use Rattle.std.specs.Prelude.{ℕ, ◌≡◌, ◌<◌, List, length, map, slice_get, Some}
use Rattle.expr_table.specs.declared.instance.Instance.{Instance}
use Rattle.verify_question.specs.declared.question.Question.{Question}
use Rattle.expr_table.specs.declared.instance.Notion.TheVariants.{Probing}
use Rattle.once_random.specs.Provable.{IsProvable, leaves_left}
use Rattle.once_random.specs.Tuples.{roots_of, bound_of}
use Rattle.tuple_rank.specs.Tuples.{tuples}
use Rattle.frontier_core.specs.Tree.{tree_of}
use Rattle.count_law.specs.Netlists.{IsSimulatableTuple, IsIndependentTuple, tuple_bound}
use Rattle.accepted_netlist.specs.Netlist.{Netlist, roles, circuit, probes, IsAcceptedAs, IsInstanceOf, probe_name}
use Rattle.maskverif_cli.specs.Report.{secure_report, unproved_report}

-- some chain for the tuple's roots leaves its leaves within its bound
abbrev pub IsProvableTuple : Instance → List ℕ → Type 0
IsProvableTuple x tuple = IsProvable x (roots_of x tuple) (bound_of x tuple)

-- the tuples of at most as many probes as the order, by size and then lexicographically
abbrev pub tuples_of : Instance → ℕ → List (List ℕ)
tuples_of x order = tuples (length x.probes) order

-- the rank of a tuple: its place among these
abbrev pub HasRank : Instance → ℕ → List ℕ → ℕ → Type 0
HasRank x order tuple rank = slice_get (tuples_of x order) rank ≡ Some tuple

-- the bytes are the text of this accepted netlist, whose instance this is
pub record Means (asked : Question) (bytes : List ℕ) (n : Netlist) (x : Instance) : Type 0 where
  pub accepted : IsAcceptedAs asked bytes n
  pub instance : IsInstanceOf asked n x

-- Each tuple of at most as many probes as the order is provable. So what it observes is simulatable within its bound and,
-- under probing security, does not depend on the secrets.
pub record AllProvable (asked : Question) (n : Netlist) (x : Instance) : Type 0 where
  pub provable : (tuple : List ℕ) (rank : ℕ) → HasRank x asked.order tuple rank → IsProvableTuple x tuple
  -- what each tuple observes is simulatable within its bound, from the leaves that its least chain leaves live
  pub simulatable : (tuple : List ℕ) (rank : ℕ) → HasRank x asked.order tuple rank
      → IsSimulatableTuple asked.notion asked.model (roles n) (circuit asked n) tuple (leaves_left x (roots_of x tuple))
      (tuple_bound asked.notion (probes asked n) tuple)
  -- for probing security, what each tuple observes does not depend on the secrets
  pub independent : asked.notion ≡ Probing → (tuple : List ℕ) (rank : ℕ) → HasRank x asked.order tuple rank
      → IsIndependentTuple asked.notion asked.model (roles n) (circuit asked n) tuple

-- Each tuple is provable, and this is the report on it: with how many probes, tuples and families of the proof tree there are.
pub record IsSecure (asked : Question) (bytes text : List ℕ) : Type 0 where
  pub netlist : Netlist
  pub instance : Instance
  pub means : Means asked bytes netlist instance
  pub all : AllProvable asked netlist instance
  pub report : text
      ≡ secure_report asked (length instance.probes) (length (tuples_of instance asked.order)) (length (tree_of instance asked.order))

-- the tuple is the first that is not provable, and this is the report on it: with its rank and the names of its probes
pub record IsUnproved (asked : Question) (bytes tuple text : List ℕ) : Type 0 where
  pub netlist : Netlist
  pub instance : Instance
  pub means : Means asked bytes netlist instance
  pub rank : ℕ
  pub ranked : HasRank instance asked.order tuple rank
  pub not_provable : ¬ IsProvableTuple instance tuple
  pub first : (other : List ℕ) (before : ℕ) → before < rank → HasRank instance asked.order other before → IsProvableTuple instance other
  pub report : text
      ≡ unproved_report asked (length instance.probes) (length (tuples_of instance asked.order)) rank
      (map (probe_name asked netlist) tuple)
