-- What determines an instance, and the values of its roots.
use Rattle.std.proofs.Common.{◌≡◌, ℕ, Bool, List, [], ◌∷◌, map, refl, sym, ap, ◌∙◌, subst}
use Rattle.std.specs.List.{AllZip}
use Rattle.circuit_types.specs.declared.circuit.Circuit.{Circuit}
use Rattle.circuit_types.specs.declared.nets.Source.{Source}
use Rattle.circuit_types.specs.declared.probes.Probe.{Probe}
use Rattle.circuit_types.specs.declared.roles.Roles.{Roles}
use Rattle.circuit_types.specs.Probes.{probe_values}
use Rattle.circuit_types.specs.Value.{value}
use Rattle.expr_table.specs.declared.instance.Instance.{Instance}
use Rattle.expr_table.specs.declared.instance.Notion.{Notion}
use Rattle.expr_table.specs.declared.instance.ProbeRoots.{ProbeRoots}
use Rattle.expr_table.specs.declared.node.Node.{Node}
use Rattle.expr_table.specs.declared.node.Row.{Row}
use Rattle.expr_table.specs.Instance.{rows_of}
use Rattle.expr_table.specs.Table.{Table, IsTable, IsRowOf, terms, term_at, nodes_of}
use Rattle.expr_table.specs.Term.{Term}
use Rattle.expr_table.specs.Values.{eval}
use Rattle.expr_table.proofs.Facts.{row_with-row}
use Rattle.term_build.specs.Laws.{OneInstance, TermsHaveValues, root_values, world_of}
use Rattle.term_build.specs.SourceTerms.{source_term}
use Rattle.term_build.specs.TermInstance.{HasRoots}

-- the values of roots
seen-values : (nodes : List Node) (given drawn : List Bool) (term : Source → Term) (val : Source → Bool) → ((s : Source) → eval given drawn (term s) ≡ val s)
    → (rows : List ℕ) (ss : List Source) → AllZip (λ row s. IsRowOf nodes row (term s)) rows ss → map (λ row. eval given drawn (term_at (terms nodes) row)) rows ≡ map val ss
seen-values nodes given drawn term val same [] [] all = refl
seen-values nodes given drawn term val same (r ∷ rows) (s ∷ ss) all =
    let here = ap (eval given drawn) all.0.term ∙ same s in
    let rest = seen-values nodes given drawn term val same rows ss all.1 in
    λ i. here i ∷ rest i
seen-values nodes given drawn term val same [] (s ∷ ss) all = absurd all
seen-values nodes given drawn term val same (r ∷ rows) [] all = absurd all

pub roots-values : TermsHaveValues → (notion : Notion) (roles : Roles) (circuit : Circuit) (x : Instance) (given drawn : List Bool) (roots : List ProbeRoots) (probes : List Probe)
    → AllZip (HasRoots x.table.nodes (source_term notion roles circuit)) roots probes
    → map (root_values x given drawn) roots ≡ map (probe_values circuit (world_of notion roles circuit given drawn)) probes
roots-values law notion roles circuit x given drawn [] [] all = refl
roots-values law notion roles circuit x given drawn (r ∷ roots) (p ∷ probes) all =
    let here = seen-values x.table.nodes given drawn (source_term notion roles circuit p.cycle) (value circuit.timing circuit.nets (world_of notion roles circuit given drawn) p.cycle)
    (λ s. law notion roles circuit given drawn p.cycle s) (rows_of r) p.seen all.0.rows in
    let rest = roots-values law notion roles circuit x given drawn roots probes all.1 in
    λ i. here i ∷ rest i
roots-values law notion roles circuit x given drawn [] (p ∷ probes) all = absurd all
roots-values law notion roles circuit x given drawn (r ∷ roots) [] all = absurd all

-- two lists of rows with the same terms
rows-same : (t : Table) → IsTable t → (term : Source → Term) (xs ys : List Row) (ss : List Source)
    → AllZip (λ row s. IsRowOf t.nodes row (term s)) (map (λ (row : Row). row.0) xs) ss → AllZip (λ row s. IsRowOf t.nodes row (term s)) (map (λ (row : Row). row.0) ys) ss → xs ≡ ys
rows-same t table term [] [] [] a b = refl
rows-same t table term (x ∷ xs) (y ∷ ys) (s ∷ ss) a b =
    let first : x.0 ≡ y.0 = sym (row_with-row t table x.0 (term s) a.0) ∙ row_with-row t table y.0 (term s) b.0 in
    let more = rows-same t table term xs ys ss a.1 b.1 in
    λ i. (record { 0 = first i }) ∷ more i
rows-same t table term [] (y ∷ ys) [] a b = absurd b
rows-same t table term [] ys (s ∷ ss) a b = absurd a
rows-same t table term (x ∷ xs) ys [] a b = absurd a
rows-same t table term (x ∷ xs) [] (s ∷ ss) a b = absurd b

roots-same : (t : Table) → IsTable t → (term : ℕ → Source → Term) (ps qs : List ProbeRoots) (probes : List Probe)
    → AllZip (HasRoots t.nodes term) ps probes → AllZip (HasRoots t.nodes term) qs probes → ps ≡ qs
roots-same t table term [] [] [] a b = refl
roots-same t table term (p ∷ ps) (q ∷ qs) (probe ∷ probes) a b =
    let rows = rows-same t table (term probe.cycle) p.rows q.rows probe.seen a.0.rows b.0.rows in
    let output = a.0.output ∙ sym b.0.output in
    let more = roots-same t table term ps qs probes a.1 b.1 in
    λ i. (record { rows = rows i; output = output i }) ∷ more i
roots-same t table term [] (q ∷ qs) [] a b = absurd b
roots-same t table term [] qs (probe ∷ probes) a b = absurd a
roots-same t table term (p ∷ ps) qs [] a b = absurd a
roots-same t table term (p ∷ ps) [] (probe ∷ probes) a b = absurd b

-- a circuit has one instance, since a table's terms give its nodes
pub one-instance : ((t : Table) → IsTable t → t.nodes ≡ nodes_of (terms t.nodes)) → OneInstance
one-instance law notion roles circuit probes x y sx sy =
    let notion_is = sx.notion_is ∙ sym sy.notion_is in
    let inputs = sx.inputs ∙ sym sy.inputs in
    let randoms = sx.randoms ∙ sym sy.randoms in
    let nodes = law x.table sx.table ∙ ap nodes_of (sx.rows ∙ sym sy.rows) ∙ sym (law y.table sy.table) in
    let others : AllZip (HasRoots x.table.nodes (source_term notion roles circuit)) y.probes probes = moved (source_term notion roles circuit) y.table.nodes x.table.nodes y.probes (sym nodes) sy.roots in
    let roots = roots-same x.table sx.table (source_term notion roles circuit) x.probes y.probes probes sx.roots others in
    let groups = sx.groups ∙ sym sy.groups in
    λ i. record { notion = notion_is i; table = record { inputs = inputs i; randoms = randoms i; nodes = nodes i }; probes = roots i; groups = groups i }
  where
    moved : (term : ℕ → Source → Term) (ns ms : List Node) (ps : List ProbeRoots) → ns ≡ ms → AllZip (HasRoots ns term) ps probes → AllZip (HasRoots ms term) ps probes
    moved term ns ms ps e all = let P : List Node → Type 0 = λ ks. AllZip (HasRoots ks term) ps probes in subst P e all
