-- Verdicts, from what a search of all tuples finds.
use Rattle.std.proofs.Common.{◌≡◌, ℕ, ◌<◌, true, false, not, List, length, map, Some, None, sym, ap, ◌∙◌, subst}
use Rattle.std.specs.Prelude.{IsTrue, ◌↔◌}
use Rattle.std.proofs.lemmas.Bool.{not-false, not-true}
use Rattle.circuit_types.specs.Probes.{probe_at}
use Rattle.expr_table.specs.declared.instance.Instance.{Instance}
use Rattle.expr_table.specs.declared.instance.Notion.{Notion}
use Rattle.verify_question.specs.declared.question.Question.{Question}
use Rattle.expr_table.specs.declared.instance.Notion.TheVariants.{Probing}
use Rattle.net_build.specs.Names.{printed_name}
use Rattle.once_random.specs.Tuples.{is_proved, roots_of}
use Rattle.tuple_rank.specs.Tuples.{IsTuple, TuplesAreAll}
use Rattle.tuple_rank.proofs.Order.{contains_at, rank-at}
use Rattle.frontier_core.specs.Tree.{first_of, tree_of}
use Rattle.term_build.specs.TermInstance.{HasInstance}
use Rattle.once_random.specs.Provable.{leaves_left}
use Rattle.count_law.specs.Netlists.{IsSimulatableTuple, IsIndependentTuple, tuple_bound}
use Rattle.accepted_netlist.specs.declared.netlist.Accepted.{Accepted}
use Rattle.accepted_netlist.specs.Known.{Keeps}
use Rattle.accepted_netlist.specs.Netlist.{Netlist, roles, circuit, probes, IsInstanceOf, probe_name}
use Rattle.maskverif_cli.specs.Kept.{name_of_probe}
use Rattle.maskverif_cli.specs.Report.{secure_report, unproved_report}
use Rattle.maskverif_cli.specs.Verdict.{AllProvable, IsProvableTuple, IsSecure, IsUnproved, HasRank, tuples_of}
use Rattle.maskverif_cli.proofs.Finding.{IsFound, found, none-passes}

-- a tuple is proved exactly where it is provable
abbrev pub Decides : Instance → Type 0
Decides x = (tuple : List ℕ) → IsTrue (is_proved x tuple) ↔ IsProvableTuple x tuple

-- what a provable tuple observes is simulatable within its bound
abbrev pub Simulates : Question → Netlist → Instance → Type 0
Simulates asked n x = (tuple : List ℕ) → IsProvableTuple x tuple
    → IsSimulatableTuple asked.notion asked.model (roles n) (circuit asked n) tuple (leaves_left x (roots_of x tuple)) (tuple_bound asked.notion (probes asked n) tuple)

-- where the instance is for probing security, what a provable tuple observes does not depend on the secrets
abbrev pub Hides : Question → Netlist → Instance → Type 0
Hides asked n x = HasInstance Probing (roles n) (circuit asked n) (probes asked n) x → (tuple : List ℕ) → IsProvableTuple x tuple
    → IsIndependentTuple Probing asked.model (roles n) (circuit asked n) tuple

hides-under : (asked : Question) (n : Netlist) (x : Instance) → Hides asked n x → IsInstanceOf asked n x → asked.notion ≡ Probing
    → (tuple : List ℕ) → IsProvableTuple x tuple → IsIndependentTuple asked.notion asked.model (roles n) (circuit asked n) tuple
hides-under asked n x hides instance is tuple provable =
    subst (λ (m : Notion). HasInstance m (roles n) (circuit asked n) (probes asked n) x → IsIndependentTuple m asked.model (roles n) (circuit asked n) tuple) (sym is)
    (λ has. hides has tuple provable) instance

module _ (x : Instance) (order : ℕ) (decides : Decides x) where
  from-proved : (tuple : List ℕ) → not (is_proved x tuple) ≡ false → IsProvableTuple x tuple
  from-proved tuple passed = (decides tuple).0 (not-false (is_proved x tuple) passed)

  pub all-provable : first_of x order ≡ None → (tuple : List ℕ) (rank : ℕ) → HasRank x order tuple rank → IsProvableTuple x tuple
  all-provable none tuple rank has = from-proved tuple (none-passes (λ t. not (is_proved x t)) (tuples_of x order) none rank tuple has)

  module _ (tuple : List ℕ) (first : first_of x order ≡ Some tuple) where
    abbrev here : IsFound (λ t. not (is_proved x t)) (tuples_of x order) tuple
    here = found (λ t. not (is_proved x t)) (tuples_of x order) tuple first

    pub first-unprovable : IsProvableTuple x tuple → ⊥
    first-unprovable provable =
        let wrong : true ≡ false = sym ((decides tuple).1 provable) ∙ not-true (is_proved x tuple) here.passes in absurd cc

    -- the rank of the tuple is the place at which it was found
    pub before-provable : (rank : ℕ) → HasRank x order tuple rank → (other : List ℕ) (k : ℕ) → k < rank → HasRank x order other k → IsProvableTuple x other
    before-provable rank has other k lt there =
        let same : rank ≡ here.place =
        sym (rank-at (length x.probes) order rank tuple has) ∙ rank-at (length x.probes) order here.place tuple here.there in
        from-proved other (here.before k other (subst (λ n. k < n) same lt) there)

-- a list of a rank is a tuple
pub ranked-tuple : (x : Instance) (order : ℕ) (tuple : List ℕ) (rank : ℕ) → TuplesAreAll → HasRank x order tuple rank → IsTuple (length x.probes) order tuple
ranked-tuple x order tuple rank all has = (all (length x.probes) order tuple).1 (contains_at (tuples_of x order) rank tuple has)

pub first-is-tuple : (x : Instance) (order : ℕ) (tuple : List ℕ) → TuplesAreAll → first_of x order ≡ Some tuple → IsTuple (length x.probes) order tuple
first-is-tuple x order tuple all first =
    let here = found (λ t. not (is_proved x t)) (tuples_of x order) tuple first in
    (all (length x.probes) order tuple).1 (contains_at (tuples_of x order) here.place tuple here.there)

module _ (asked : Question) (bytes : List ℕ) (kept : Accepted) (keeps : Keeps asked bytes kept) where
  -- each tuple is provable, so what it observes is as the notion asks
  pub all-is : Simulates asked keeps.netlist kept.instance → Hides asked keeps.netlist kept.instance
      → ((tuple : List ℕ) (rank : ℕ) → HasRank kept.instance asked.order tuple rank → IsProvableTuple kept.instance tuple) → AllProvable asked keeps.netlist kept.instance
  all-is simulates hides provable = record {
    provable = provable;
    simulatable = λ tuple rank has. simulates tuple (provable tuple rank has);
    independent = λ is tuple rank has. hides-under asked keeps.netlist kept.instance hides keeps.instance is tuple (provable tuple rank has);
  }

module _ (asked : Question) (bytes : List ℕ) (kept : Accepted) (keeps : Keeps asked bytes kept) (decides : Decides kept.instance) where
  abbrev x : Instance
  x = kept.instance

  pub secure-is : Simulates asked keeps.netlist x → Hides asked keeps.netlist x → (families : ℕ) (text : List ℕ) → first_of x asked.order ≡ None → families ≡ length (tree_of x asked.order)
      → text ≡ secure_report asked (length x.probes) (length (tuples_of x asked.order)) families → IsSecure asked bytes text
  secure-is simulates hides families text none counted written = record {
    netlist = keeps.netlist;
    instance = x;
    means = record { accepted = keeps.accepted; instance = keeps.instance };
    all = all-is asked bytes kept keeps simulates hides (all-provable x asked.order decides none);
    report = written ∙ ap (secure_report asked (length x.probes) (length (tuples_of x asked.order))) counted;
  }

  pub unproved-is : (rank : ℕ) (tuple text : List ℕ) → first_of x asked.order ≡ Some tuple → HasRank x asked.order tuple rank
      → text ≡ unproved_report asked (length x.probes) (length (tuples_of x asked.order)) rank (map (name_of_probe kept) tuple)
      → IsUnproved asked bytes tuple text
  unproved-is rank tuple text first ranked written = record {
    netlist = keeps.netlist;
    instance = x;
    means = record { accepted = keeps.accepted; instance = keeps.instance };
    rank = rank;
    ranked = ranked;
    not_provable = first-unprovable x asked.order decides tuple first;
    first = before-provable x asked.order decides tuple first rank ranked;
    report = written ∙ ap (unproved_report asked (length x.probes) (length (tuples_of x asked.order)) rank) names;
  }
    where
      names : map (name_of_probe kept) tuple ≡ map (probe_name asked keeps.netlist) tuple
      names i = map (λ number. printed_name (keeps.circuit i).nets.wires (probe_at (keeps.probes i).list number).name_bit) tuple
