-- Provable rows are simulatable from what the least chain leaves live.
use Rattle.std.proofs.Common.{◌≡◌, ℕ, ◌+◌, ◌<◌, ◌≤◌, Bool, true, ◌&&◌, List, length, sym, ap, ◌∙◌, arith, ⊎_elim}
use Rattle.std.specs.Option.{is_some}
use Rattle.std.proofs.lemmas.Bool.{cases_Bool, and_parts, and_from}
use Rattle.expr_table.specs.declared.instance.Instance.{Instance}
use Rattle.expr_table.specs.Instance.{IsFitting}
use Rattle.expr_table.specs.Table.{IsTable}
use Rattle.expr_table.specs.Values.{bit}
use Rattle.once_random.specs.Cuts.{least_chain}
use Rattle.once_random.specs.Groups.{is_in_group, is_within, live_leaves, group_at}
use Rattle.once_random.specs.Live.{AreRows, is_live}
use Rattle.once_random.specs.Numbers.{count_below}
use Rattle.once_random.specs.Provable.{IsProvable, is_provable, leaves_left}
use Rattle.once_random.proofs.Facts.{count_mono, leaves_by_number, least_chain_decides, within_is_each_group}
use Rattle.count_law.specs.Instances.{AreSimulatableRows}
use Rattle.count_law.specs.RowCounts.{count_of_rows}
use Rattle.count_law.specs.CutRows.{cut_table}
use Rattle.count_law.specs.Simulation.{members_in}

module _ (x : Instance) (table : IsTable x.table) (fitting : IsFitting x) where
  module _ (roots : List ℕ) (within : AreRows x.table.nodes roots) where
    abbrev least : List ℕ
    least = least_chain x.table.nodes roots

    least_within : (m : ℕ) → IsProvable x roots m → is_within x roots (least_chain x.table.nodes roots) m ≡ true
    unfolding is_provable
    least_within m provable = (least_chain_decides x roots table within m).1 provable

    left_grouped : (i : ℕ) → leaves_left x roots i ≡ true → is_some (group_at x.groups i) ≡ true
    unfolding leaves_left
    left_grouped i h = (and_parts (is_some (group_at x.groups i)) (is_live x.table.nodes roots least (2 + i)) h).0

    left_live : (i : ℕ) → leaves_left x roots i ≡ true → is_live x.table.nodes roots least (2 + i) ≡ true
    unfolding leaves_left
    left_live i h = (and_parts (is_some (group_at x.groups i)) (is_live x.table.nodes roots least (2 + i)) h).1

    left_from : (i : ℕ) → is_some (group_at x.groups i) ≡ true → is_live x.table.nodes roots least (2 + i) ≡ true → leaves_left x roots i ≡ true
    unfolding leaves_left
    left_from i g l = and_from (is_some (group_at x.groups i)) (is_live x.table.nodes roots least (2 + i)) g l

    few_left : (m : ℕ) → IsProvable x roots m → (group : ℕ) → members_in x.groups (leaves_left x roots) group ≤ m
    few_left m provable group =
        let of_live : ℕ → Bool = λ i. is_in_group x.groups group i && is_live x.table.nodes roots least (2 + i) in
        let of_set : ℕ → Bool = λ i. is_in_group x.groups group i && leaves_left x roots i in
        let bound : live_leaves x roots least group ≤ m = (within_is_each_group x roots least m fitting).0 (least_within m provable) group in
        let same : count_below (length x.groups) of_live ≡ live_leaves x roots least group = ap (λ n. count_below n of_live) fitting.one_group_each ∙ sym (leaves_by_number x table fitting roots least group) in
        let less : count_below (length x.groups) of_set ≤ count_below (length x.groups) of_live =
        count_mono (length x.groups) of_live of_set (λ i t.
        let parts = and_parts (is_in_group x.groups group i) (leaves_left x roots i) t in
        and_from (is_in_group x.groups group i) (is_live x.table.nodes roots least (2 + i)) parts.0 (left_live i parts.1)) in
        omega (arith, bound, same, less)

    -- what the law of chains says of these roots and the least chain
    abbrev Same : Type 0
    Same = (inputs o : List Bool) → count_of_rows x.table roots inputs o ≡ count_of_rows (cut_table x.table roots least) roots inputs o

    abbrev LiveAlone : Type 0
    LiveAlone = (inputs others o : List Bool) → ((i : ℕ) → i < x.table.inputs → is_live x.table.nodes roots least (2 + i) ≡ true → bit inputs i ≡ bit others i)
        → count_of_rows (cut_table x.table roots least) roots inputs o ≡ count_of_rows (cut_table x.table roots least) roots others o

    pub provable-simulated : Same → LiveAlone → (m : ℕ) → IsProvable x roots m → AreSimulatableRows x roots (leaves_left x roots) m
    provable-simulated same live m provable = record {
      each_in_a_group = left_grouped;
      few_of_each = few_left m provable;
      depends_on_it = λ inputs others o on_set publics.
          same inputs o
          ∙ live inputs others o (λ i lt l.
          ⊎_elim (λ g. on_set i (left_from i g l))
          (λ g. publics i (omega (arith, lt, fitting.one_group_each)) g)
          (cases_Bool (is_some (group_at x.groups i))))
          ∙ sym (same others o);
    }
