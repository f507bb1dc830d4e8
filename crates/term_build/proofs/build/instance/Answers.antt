use Rattle.std.proofs.Common.{◌≤◌, ◌<◌, ◌∙◌, ℕ, List, All, Option, length, subst, sym, ap, refl, arith}
use Rattle.std.specs.Prelude.{IfSome}
use Rattle.std.specs.List.{AllZip}
use Rattle.std.proofs.lemmas.List.{length-map}
use Rattle.std.proofs.lemmas.Result.{err_from_is_err_and}
use Rattle.circuit_types.specs.declared.probes.Probe.{Probe}
use Rattle.circuit_types.specs.Worlds.{group_of, input_leaves}
use Rattle.expr_table.specs.declared.instance.ProbeRoots.{ProbeRoots}
use Rattle.expr_table.specs.Instance.{rows_of}
use Rattle.expr_table.specs.Table.{IsTable}
use Rattle.term_build.specs.declared.cycle_rows.CycleRows.{CycleRows}
use Rattle.term_build.specs.Building.{AreRootsIn}
use Rattle.term_build.specs.Leaves.{inputs_of}
use Rattle.term_build.specs.SourceTerms.{source_term}
use Rattle.term_build.specs.TermInstance.{HasRoots}
use Rattle.term_build.proofs.CycleStep.{HasLeaves-kept, few-secrets, timing-some}
use Rattle.term_build.proofs.Fitting.{all-fit, groups-within, one-root_each, roots-shown, roots-within, rows-are, short-due}
use Rattle.term_build.proofs.ShareCount.{secrets-below}
use Rattle.term_build.proofs.build.instance.Goals as goal

pub returns-in_err-rows-clause-cause : goal.returns-in_err-rows-clause-cause
returns-in_err-rows-clause-cause c =
    let p = err_from_is_err_and c.from_residual-in_err-rows.result c.from_residual-in_err-rows.ensures.1 in
    rw (p.1, p.2) (short-due c.args.notion c.args.roles.now c.args.circuit.now c.in_ok-table.table c.in_err-rows.field-0.0 c.in_ok-table.ensures.table c.in_err-rows.ensures)

pub groups-requires-clause-few : goal.groups-requires-clause-few
groups-requires-clause-few c = let few = few-secrets c.args.notion c.args.roles.now c.args.circuit.now c.in_ok-table.table c.in_ok-table.ensures.leaves in omega (arith, few)

pub returns-clause-instance : goal.returns-clause-instance
returns-clause-instance c =
    let notion = c.args.notion in
    let roles = c.args.roles.now in
    let circuit = c.args.circuit.now in
    let probes = c.args.probes.now.list in
    let old = c.in_ok-table.table in
    let new = c.rows_of_cycles.new.table in
    let made = c.in_ok-rows.ensures in
    let leaves = HasLeaves-kept notion roles circuit old new made.grows.kept c.in_ok-table.ensures.leaves in
    let read : AllZip (AreRootsIn c.in_ok-rows.rows.items) c.in_ok-roots.roots.items c.as_slice.result.now =
    subst (λ (rows : List CycleRows). AllZip (AreRootsIn rows) c.in_ok-roots.roots.items c.as_slice.result.now) c.deref.ensures.value c.in_ok-roots.ensures in
    let are : AllZip (AreRootsIn c.in_ok-rows.rows.items) c.in_ok-roots.roots.items probes =
    subst (λ (ps : List Probe). AllZip (AreRootsIn c.in_ok-rows.rows.items) c.in_ok-roots.roots.items ps) c.as_slice.ensures read in
    let roots = roots-shown circuit new.nodes (source_term notion roles circuit) c.in_ok-rows.rows.items made.one_each made.shows c.in_ok-roots.roots.items probes are c.requires.probes.each in
    record {
      notion_is = refl;
      table = subst IsTable c.table.view_is c.table.invariant.1;
      inputs = leaves.inputs;
      randoms = leaves.randoms;
      rows = rows-are notion roles circuit old new c.in_ok-table.ensures.table made.grows.rows;
      roots = subst (λ (xs : List ProbeRoots). AllZip (HasRoots new.nodes (source_term notion roles circuit)) xs probes) (sym c.from_vec.ensures) roots;
      groups = c.from_vec-2.ensures ∙ c.in_ok-groups.ensures;
    }

pub returns-clause-fitting : goal.returns-clause-fitting
returns-clause-fitting c =
    let notion = c.args.notion in
    let roles = c.args.roles.now in
    let circuit = c.args.circuit.now in
    let probes = c.args.probes.now.list in
    let old = c.in_ok-table.table in
    let new = c.rows_of_cycles.new.table in
    let made = c.in_ok-rows.ensures in
    let leaves = HasLeaves-kept notion roles circuit old new made.grows.kept c.in_ok-table.ensures.leaves in
    let inputs = leaves.inputs in
    let few = c.requires.probes.few in
    let read : AllZip (AreRootsIn c.in_ok-rows.rows.items) c.in_ok-roots.roots.items c.as_slice.result.now =
    subst (λ (rows : List CycleRows). AllZip (AreRootsIn rows) c.in_ok-roots.roots.items c.as_slice.result.now) c.deref.ensures.value c.in_ok-roots.ensures in
    let are : AllZip (AreRootsIn c.in_ok-rows.rows.items) c.in_ok-roots.roots.items probes =
    subst (λ (ps : List Probe). AllZip (AreRootsIn c.in_ok-rows.rows.items) c.in_ok-roots.roots.items ps) c.as_slice.ensures read in
    let roots = roots-shown circuit new.nodes (source_term notion roles circuit) c.in_ok-rows.rows.items made.one_each made.shows c.in_ok-roots.roots.items probes are c.requires.probes.each in
    let groups = c.from_vec-2.ensures ∙ c.in_ok-groups.ensures in
    let below : length roles.secrets ≤ new.inputs = subst (λ n. length roles.secrets ≤ n) (sym inputs) (secrets-below roles circuit.timing (timing-some circuit.timing c.requires.levelled.timing) notion c.requires.shares) in
    record {
      roots = subst (λ (xs : List ProbeRoots). All (λ (x : ProbeRoots). All (λ row. row < length new.nodes) (rows_of x)) xs) (sym c.from_vec.ensures)
          (roots-within new.nodes (source_term notion roles circuit) c.in_ok-roots.roots.items probes roots);
      few_probes = subst (λ (xs : List ProbeRoots). length xs ≤ 65535) (sym c.from_vec.ensures)
          (subst (λ n. n ≤ 65535) (sym (one-root_each new.nodes (source_term notion roles circuit) c.in_ok-roots.roots.items probes roots)) few);
      one_group_each = ap length groups ∙ length-map (input_leaves (inputs_of notion) roles circuit.timing) (group_of roles) ∙ sym inputs;
      groups_within = subst (λ (gs : List (Option ℕ)). All (λ group. IfSome group (λ s. s < new.inputs)) gs) (sym groups) (groups-within roles c.requires.shares (inputs_of notion) circuit new.inputs below);
    }

pub returns-clause-cause : goal.returns-clause-cause
returns-clause-cause c =
    let notion = c.args.notion in
    let roles = c.args.roles.now in
    let circuit = c.args.circuit.now in
    let new = c.rows_of_cycles.new.table in
    all-fit notion roles circuit new (subst IsTable c.table.view_is c.table.invariant.1) (rows-are notion roles circuit c.in_ok-table.table new c.in_ok-table.ensures.table c.in_ok-rows.ensures.grows.rows)
