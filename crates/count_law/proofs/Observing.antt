-- What a tuple's roots have as values is what its probes observe.
use Rattle.std.proofs.Common.{◌≡◌, ℕ, zero, suc, Bool, false, not, List, [], ◌∷◌, ◌++◌, map, length, get_or, Option, refl, sym, ap, ◌∙◌, subst}
use Rattle.std.proofs.Math.ListN.{get_or-map}
use Rattle.std.proofs.lemmas.List.{length-map, map-append}
use Rattle.std.proofs.lemmas.List.Concat.{length-flat_map}
use Rattle.std.specs.List.{AllZip, count_by, sum_by}
use Rattle.circuit_types.specs.declared.circuit.Circuit.{Circuit}
use Rattle.circuit_types.specs.declared.nets.Source.{Source}
use Rattle.circuit_types.specs.declared.nets.Source.TheVariants as source
use Rattle.circuit_types.specs.declared.probes.Model.{Model}
use Rattle.circuit_types.specs.declared.probes.Probe.{Probe}
use Rattle.circuit_types.specs.declared.roles.Roles.{Roles}
use Rattle.circuit_types.specs.Probes.{observation, probe_list, probe_values}
use Rattle.circuit_types.specs.Probes as probes
use Rattle.circuit_types.specs.Value.{value}
use Rattle.expr_table.specs.declared.instance.Instance.{Instance}
use Rattle.expr_table.specs.declared.instance.Notion.{Notion}
use Rattle.expr_table.specs.declared.instance.Notion.TheVariants.{Probing, Ni, Sni}
use Rattle.expr_table.specs.declared.instance.ProbeRoots.{ProbeRoots}
use Rattle.expr_table.specs.declared.node.Node.{Node}
use Rattle.expr_table.specs.Instance.{rows_of}
use Rattle.expr_table.specs.Term.{Term}
use Rattle.once_random.specs.Tuples.{bound_of, bound_of_notion, roots_of}
use Rattle.once_random.specs.Tuples as tuples
use Rattle.term_build.specs.Laws.{RootsHaveValues, root_values, world_of}
use Rattle.term_build.specs.SourceTerms.{source_term}
use Rattle.term_build.specs.TermInstance.{HasInstance, HasRoots}
use Rattle.count_law.specs.Counts.{count}
use Rattle.count_law.specs.RowCounts.{row_value, row_values, count_of_rows}
use Rattle.count_law.specs.Netlists.{bits_observed, count_of_tuple, leaf_groups, observed, tuple_bound, IsSimulatableTuple}
use Rattle.count_law.specs.Instances.{AreSimulatableRows}
use Rattle.count_law.specs.Simulation.{IsSimulatable}
use Rattle.count_law.proofs.Counting.{count-same}

module _ (notion : Notion) (m : Model) (roles : Roles) (circuit : Circuit) (x : Instance) (has : HasInstance notion roles circuit (probe_list m roles circuit) x) where
  module _ (values : RootsHaveValues) (inputs w : List Bool) where
    probe_sees : (p : ℕ) → map (row_value x.table.nodes inputs w) (rows_of (tuples.probe_at x.probes p))
        ≡ probe_values circuit (world_of notion roles circuit inputs w) (probes.probe_at (probe_list m roles circuit) p)
    probe_sees p =
        sym (get_or-map (root_values x inputs w) x.probes p (record { rows = []; output = false }))
        ∙ ap (λ (l : List (List Bool)). get_or l p []) (values notion roles circuit (probe_list m roles circuit) x inputs w has)
        ∙ get_or-map (probe_values circuit (world_of notion roles circuit inputs w)) (probe_list m roles circuit) p
        (record { source = source.Missing; cycle = 0; name_bit = 0; output = false; seen = [] })

    tuple_sees : (tuple : List ℕ) → row_values x.table.nodes (roots_of x tuple) inputs w ≡ observed notion m roles circuit tuple inputs w
    tuple_sees [] = refl
    tuple_sees (p ∷ ps) =
        map-append (row_value x.table.nodes inputs w) (rows_of (tuples.probe_at x.probes p)) (roots_of x ps)
        ∙ (λ i. probe_sees p i ++ tuple_sees ps i)

  pub same_counts : RootsHaveValues → (tuple : List ℕ) (inputs o : List Bool)
      → count_of_rows x.table (roots_of x tuple) inputs o ≡ count_of_tuple notion m roles circuit tuple inputs o
  same_counts values tuple inputs o =
      ap (λ n. count n (row_values x.table.nodes (roots_of x tuple) inputs) o) has.randoms
      ∙ count-same _ (row_values x.table.nodes (roots_of x tuple) inputs) (observed notion m roles circuit tuple inputs) o (λ w. tuple_sees values inputs w tuple)

  -- the bounds go by the same marks of output shares
  output_marks : (nodes : List Node) (term : ℕ → Source → Term) (xs : List ProbeRoots) (ps : List Probe) → AllZip (HasRoots nodes term) xs ps
      → (p : ℕ) → (tuples.probe_at xs p).output ≡ (probes.probe_at ps p).output
  output_marks nodes term [] [] all zero = refl
  output_marks nodes term [] [] all (suc k) = refl
  output_marks nodes term (x ∷ xs) (p ∷ ps) all zero = all.0.output
  output_marks nodes term (x ∷ xs) (p ∷ ps) all (suc k) = output_marks nodes term xs ps all.1 k
  output_marks nodes term [] (p ∷ ps) all k = absurd all
  output_marks nodes term (x ∷ xs) [] all k = absurd all

  bound_by : (n : Notion) (tuple : List ℕ) → bound_of_notion n x tuple ≡ tuple_bound n (probe_list m roles circuit) tuple
  bound_by Probing tuple = refl
  bound_by Ni tuple = refl
  bound_by Sni tuple =
      let same = output_marks x.table.nodes (source_term notion roles circuit) x.probes (probe_list m roles circuit) has.roots in
      λ i. count_by (λ p. not (same p i)) tuple

  pub same_bound : (tuple : List ℕ) → bound_of x tuple ≡ tuple_bound notion (probe_list m roles circuit) tuple
  same_bound tuple = ap (λ n. bound_of_notion n x tuple) has.notion_is ∙ bound_by notion tuple

  -- so what simulates the roots' values simulates what the probes observe
  pub from_rows : (tuple : List ℕ) (set : ℕ → Bool) (bound : ℕ)
      → ((inputs o : List Bool) → count_of_rows x.table (roots_of x tuple) inputs o ≡ count_of_tuple notion m roles circuit tuple inputs o)
      → AreSimulatableRows x (roots_of x tuple) set bound → IsSimulatableTuple notion m roles circuit tuple set bound
  from_rows tuple set bound counts s =
      let count_is : count_of_rows x.table (roots_of x tuple) ≡ count_of_tuple notion m roles circuit tuple = λ i. λ inputs o. counts inputs o i in
      subst (λ (c : List Bool → List Bool → ℕ). IsSimulatable (leaf_groups notion roles circuit) c set bound) count_is
      (subst (λ (g : List (Option ℕ)). IsSimulatable g (count_of_rows x.table (roots_of x tuple)) set bound) has.groups s)

-- how many bits a tuple observes is the same in each world
pub observed-long : (notion : Notion) (model : Model) (roles : Roles) (circuit : Circuit) (tuple : List ℕ) (inputs w : List Bool)
    → length (observed notion model roles circuit tuple inputs w) ≡ bits_observed model roles circuit tuple
observed-long notion model roles circuit tuple inputs w =
    let env = world_of notion roles circuit inputs w in
    let at : ℕ → Probe = λ p. probes.probe_at (probe_list model roles circuit) p in
    length-flat_map (λ p. probe_values circuit env (at p)) tuple
    ∙ (λ i. sum_by (λ p. length-map (at p).seen (value circuit.timing circuit.nets env (at p).cycle) i) tuple)
