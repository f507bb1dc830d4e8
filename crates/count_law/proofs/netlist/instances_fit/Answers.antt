use Rattle.std.proofs.Common.{◌≤◌, ◌<◌, ◌∙◌, ℕ, List, All, Option, length, subst, sym, ap}
use Rattle.std.specs.Prelude.{IfSome}
use Rattle.std.proofs.lemmas.List.{length-map}
use Rattle.circuit_types.specs.Worlds.{group_of, input_leaves}
use Rattle.term_build.specs.Leaves.{inputs_of}
use Rattle.term_build.specs.SourceTerms.{source_term}
use Rattle.term_build.proofs.CycleStep.{timing-some}
use Rattle.term_build.proofs.Fitting.{groups-within, one-root_each, roots-within}
use Rattle.term_build.proofs.ShareCount.{secrets-below}
use Rattle.count_law.proofs.netlist.instances_fit.Goals as goal

pub returns : goal.returns
returns c notion roles circuit probes x has timing shares few =
    let below : length roles.secrets ≤ x.table.inputs =
    subst (λ n. length roles.secrets ≤ n) (sym has.inputs) (secrets-below roles circuit.timing (timing-some circuit.timing timing) notion shares) in
    record {
      roots = roots-within x.table.nodes (source_term notion roles circuit) x.probes probes has.roots;
      few_probes = subst (λ n. n ≤ 65535) (sym (one-root_each x.table.nodes (source_term notion roles circuit) x.probes probes has.roots)) few;
      one_group_each = ap length has.groups ∙ length-map (input_leaves (inputs_of notion) roles circuit.timing) (group_of roles) ∙ sym has.inputs;
      groups_within = subst (λ (gs : List (Option ℕ)). All (λ group. IfSome group (λ s. s < x.table.inputs)) gs) (sym has.groups)
          (groups-within roles shares (inputs_of notion) circuit x.table.inputs below);
    }
