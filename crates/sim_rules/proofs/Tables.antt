-- A fitting instance of a table is decided over its nodes, its probes and its groups.
use Rattle.std.proofs.Common.{◌≡◌, ◌↔◌, ℕ, ◌<◌, Bool, true, List, length, Option, IfSome, All, refl, sym, subst, arith}
use Rattle.expr_table.specs.declared.instance.Instance.{Instance}
use Rattle.expr_table.specs.declared.instance.ProbeRoots.{ProbeRoots}
use Rattle.expr_table.specs.Instance.{IsFitting}
use Rattle.expr_table.specs.Table.{IsTable}
use Rattle.once_random.specs.Provable.{IsProvableOver, is_provable}
use Rattle.once_random.specs.Tuples.{roots_over, roots_of}
use Rattle.once_random.proofs.Facts.{inputs_within, least_chain_decides, roots_are_rows, same_tests}
use Rattle.sim_rules.specs.Fitting.{IsFittingOver}

-- a fitting instance is fitting over its own nodes
pub table_fits : (x : Instance) (chosen : List Bool) → IsTable x.table → IsFitting x → length chosen ≡ length x.probes → IsFittingOver x.table.nodes x.probes x.groups chosen (length x.table.nodes)
table_fits x chosen table fitting flags = record {
  made_for = refl;
  one_flag_each = flags;
  lower = table.earlier;
  roots = fitting.roots;
  one_group_each = λ row i is. let once = table.input_once row i is in omega (arith, fitting.one_group_each);
  few_groups = omega (arith, fitting.one_group_each, inputs_within x.table table);
  groups_within = subst (λ n. All (λ group. IfSome group (λ g. g < n)) x.groups) (sym fitting.one_group_each) fitting.groups_within;
}

-- an answer by what is provable over lists that were read from the instance is the instance's
pub provable_is : (x : Instance) → IsTable x.table → IsFitting x → (probes : List ProbeRoots) (groups : List (Option ℕ)) → probes ≡ x.probes → groups ≡ x.groups → (tuple : List ℕ) (m : ℕ) (answer : Bool)
    → (answer ≡ true) ↔ IsProvableOver x.table.nodes groups (roots_over probes tuple) m → answer ≡ is_provable x (roots_of x tuple) m
provable_is x table fitting probes groups probes_are groups_are tuple m answer over =
    let least = least_chain_decides x (roots_of x tuple) table (roots_are_rows x fitting tuple) m in
    let own : (answer ≡ true) ↔ IsProvableOver x.table.nodes x.groups (roots_over x.probes tuple) m =
    subst (λ (ps : List ProbeRoots). (answer ≡ true) ↔ IsProvableOver x.table.nodes x.groups (roots_over ps tuple) m) probes_are
    (subst (λ (gs : List (Option ℕ)). (answer ≡ true) ↔ IsProvableOver x.table.nodes gs (roots_over probes tuple) m) groups_are over) in
    same_tests answer (is_provable x (roots_of x tuple) m) (λ h. least.1 (own.0 h)) (λ h. own.1 (least.0 h))

-- also where its lists were read from it
pub fits_as_read : (x : Instance) → IsTable x.table → IsFitting x → (probes : List ProbeRoots) (groups : List (Option ℕ)) (chosen : List Bool) (rows : ℕ) → probes ≡ x.probes → groups ≡ x.groups
    → length chosen ≡ length x.probes → rows ≡ length x.table.nodes → IsFittingOver x.table.nodes probes groups chosen rows
fits_as_read x table fitting probes groups chosen rows probes_are groups_are flags made_for =
    subst (λ (ps : List ProbeRoots). IsFittingOver x.table.nodes ps groups chosen rows) (sym probes_are)
    (subst (λ (gs : List (Option ℕ)). IsFittingOver x.table.nodes x.probes gs chosen rows) (sym groups_are)
    (subst (λ (n : ℕ). IsFittingOver x.table.nodes x.probes x.groups chosen n) (sym made_for) (table_fits x chosen table fitting flags)))
