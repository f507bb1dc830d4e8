-- What is provable, and the roots of tuples.
use Rattle.std.proofs.Common.{◌≡◌, ◌↔◌, ℕ, suc, ◌<◌, ◌≤◌, true, false, ◌&&◌, nat_le, ◌==◌, List, [], ◌∷◌, length, slice_index_or, Option, None, Some, IfSome, All, refl, sym, ap, ◌∙◌, subst, arith, true≢false, ⊎_elim}
use Rattle.std.proofs.lemmas.Bool.{cases_lt, and_right, and_parts, and_from, or_cases, or_left, or_right, eqb-true, eq-eqb, ne_eqb, leb-true, le-leb}
use Rattle.std.proofs.lemmas.List.{get_or_past}
use Rattle.expr_table.specs.declared.instance.Instance.{Instance}
use Rattle.expr_table.specs.declared.instance.ProbeRoots.{ProbeRoots}
use Rattle.expr_table.specs.declared.node.Node.{Node}
use Rattle.expr_table.specs.declared.node.Node.TheVariants as node
use Rattle.expr_table.specs.Instance.{rows_of, IsFitting}
use Rattle.expr_table.specs.Table.{IsTable, has, node_at}
use Rattle.once_random.specs.Live.{AreLower, AreAmong, AreRows, AreSameRows, is_live}
use Rattle.once_random.specs.Cuts.{IsChain, IsSaturated, least_chain}
use Rattle.once_random.specs.Groups.{is_group, is_leaf_of, live_leaves_of, are_within, live_leaves, is_within}
use Rattle.once_random.specs.Provable.{IsProvableOver, IsProvable, is_provable}
use Rattle.once_random.specs.Tuples.{probe_at, roots_of, bound_of, is_proved}
use Rattle.once_random.proofs.Alone.{all_below-at, all_below-from, count_none, same_tests}
use Rattle.once_random.proofs.LiveRows.{has-append, has-append_left, has-append_right}
use Rattle.once_random.proofs.LeastChain.{count_mono, least_is_chain, least_is_saturated}
use Rattle.once_random.proofs.Saturated.{least_live}
use Rattle.once_random.proofs.Subsets.{chain-among, live-among, live-same_rows, least_chain-same_rows}

all_has : (P : ℕ → Type 0) (xs : List ℕ) → All P xs → (r : ℕ) → has xs r ≡ true → P r
all_has P [] all r h = absurd (true≢false (sym h))
all_has P (x ∷ xs) all r h =
    ⊎_elim (λ e. subst P (eqb-true x r e) (all 0 0 (omega arith)))
    (λ e. all_has P xs (λ k d l. all (suc k) d (omega arith)) r e)
    (or_cases (x == r) (has xs r) h)

-- the roots of a tuple are rows
pub roots_are_rows : (x : Instance) → IsFitting x → (tuple : List ℕ) → AreRows x.table.nodes (roots_of x tuple)
roots_are_rows x fitting [] r h = absurd (true≢false (sym h))
roots_are_rows x fitting (p ∷ ps) r h =
    ⊎_elim
    (λ here.
    ⊎_elim
    (λ lt. all_has (λ row. row < length x.table.nodes) (rows_of (probe_at x.probes p)) (fitting.roots p (record { rows = []; output = false }) lt) r here)
    (λ le. absurd (true≢false (sym (sym (ap (λ (q : ProbeRoots). has (rows_of q) r) (get_or_past x.probes p (record { rows = []; output = false }) le)) ∙ here))))
    (cases_lt p (length x.probes)))
    (λ later. roots_are_rows x fitting ps r later)
    (has-append (rows_of (probe_at x.probes p)) (roots_of x ps) r h)

-- the rows of a probe of the tuple are among its roots
probe_among : (x : Instance) (ps : List ℕ) (p r : ℕ) → has ps p ≡ true → has (rows_of (probe_at x.probes p)) r ≡ true → has (roots_of x ps) r ≡ true
probe_among x [] p r h k = absurd (true≢false (sym h))
probe_among x (q ∷ ps) p r h k =
    ⊎_elim
    (λ e. has-append_left (rows_of (probe_at x.probes q)) (roots_of x ps) r (subst (λ n. has (rows_of (probe_at x.probes n)) r ≡ true) (sym (eqb-true q p e)) k))
    (λ e. has-append_right (rows_of (probe_at x.probes q)) (roots_of x ps) r (probe_among x ps p r e k))
    (or_cases (q == p) (has ps p) h)

-- the roots of some of a tuple's probes are among the tuple's
pub roots_among : (x : Instance) (tuple some : List ℕ) → AreAmong some tuple → AreAmong (roots_of x some) (roots_of x tuple)
roots_among x tuple [] among r h = absurd (true≢false (sym h))
roots_among x tuple (p ∷ ps) among r h =
    ⊎_elim
    (λ here. probe_among x tuple p r (among p (or_left (p == p) (has ps p) (eq-eqb p p refl))) here)
    (λ later. roots_among x tuple ps (λ q m. among q (or_right (p == q) (has ps q) m)) r later)
    (has-append (rows_of (probe_at x.probes p)) (roots_of x ps) r h)

module _ (nodes : List Node) (groups : List (Option ℕ)) where
  -- fewer live rows stay within the bound
  within_fewer : (roots cuts others more : List ℕ) (m : ℕ) → ((row : ℕ) → is_live nodes roots cuts row ≡ true → is_live nodes others more row ≡ true)
      → are_within nodes groups others more m ≡ true → are_within nodes groups roots cuts m ≡ true
  unfolding are_within
  within_fewer roots cuts others more m fewer h =
      all_below-from (length groups) (λ g. nat_le (live_leaves_of nodes groups roots cuts g) m) (λ g lt.
      let had : live_leaves_of nodes groups others more g ≤ m = leb-true (live_leaves_of nodes groups others more g) m (all_below-at (length groups) (λ g. nat_le (live_leaves_of nodes groups others more g) m) h g lt) in
      let less : live_leaves_of nodes groups roots cuts g ≤ live_leaves_of nodes groups others more g =
      count_mono (length nodes) (λ row. is_live nodes others more row && is_leaf_of groups g (node_at nodes row)) (λ row. is_live nodes roots cuts row && is_leaf_of groups g (node_at nodes row))
      (λ row t. let parts = and_parts (is_live nodes roots cuts row) (is_leaf_of groups g (node_at nodes row)) t in
      and_from (is_live nodes others more row) (is_leaf_of groups g (node_at nodes row)) (fewer row parts.0) parts.1) in
      le-leb (live_leaves_of nodes groups roots cuts g) m (omega arith))

  within_same : (roots cuts others more : List ℕ) (m : ℕ) → ((row : ℕ) → is_live nodes roots cuts row ≡ is_live nodes others more row)
      → are_within nodes groups roots cuts m ≡ are_within nodes groups others more m
  within_same roots cuts others more m same =
      same_tests _ _ (within_fewer others more roots cuts m (λ row l. same row ∙ l)) (within_fewer roots cuts others more m (λ row l. sym (same row) ∙ l))

-- each chain after which no live row may be cut leaves the same live
pub saturated_live : (nodes : List Node) → AreLower nodes → (roots : List ℕ) → AreRows nodes roots → (cuts : List ℕ) → IsChain nodes roots cuts → IsSaturated nodes roots cuts
    → (row : ℕ) → is_live nodes roots cuts row ≡ is_live nodes roots (least_chain nodes roots) row
saturated_live nodes earlier roots within cuts chain full row =
    same_tests _ _ (least_live nodes earlier roots within cuts full (least_chain nodes roots) (least_is_chain nodes roots) row)
    (least_live nodes earlier roots within (least_chain nodes roots) (least_is_saturated nodes roots) cuts chain row)

module _ (nodes : List Node) (groups : List (Option ℕ)) (roots : List ℕ) (earlier : AreLower nodes) (within : AreRows nodes roots) where
  -- no chain leaves less live than the least one
  pub least_decides : (m : ℕ) → (are_within nodes groups roots (least_chain nodes roots) m ≡ true) ↔ IsProvableOver nodes groups roots m
  least_decides m = (
    λ least. record { cuts = least_chain nodes roots; chain = least_is_chain nodes roots; within = least },
    λ some. within_fewer nodes groups roots (least_chain nodes roots) roots some.cuts m
        (least_live nodes earlier roots within (least_chain nodes roots) (least_is_saturated nodes roots) some.cuts some.chain)
        some.within,
  )

  module _ (cuts : List ℕ) (chain : IsChain nodes roots cuts) (full : IsSaturated nodes roots cuts) where
    pub saturated_within : (m : ℕ) → are_within nodes groups roots cuts m ≡ are_within nodes groups roots (least_chain nodes roots) m
    saturated_within m = within_same nodes groups roots cuts roots (least_chain nodes roots) m (saturated_live nodes earlier roots within cuts chain full)

    pub saturated_decides : (m : ℕ) → (are_within nodes groups roots cuts m ≡ true) ↔ IsProvableOver nodes groups roots m
    saturated_decides m = let decides = least_decides m in let same = saturated_within m in (λ h. decides.0 (sym same ∙ h), λ is. same ∙ decides.1 is)

-- over an instance
pub least_chain_decides : (x : Instance) (roots : List ℕ) → IsTable x.table → AreRows x.table.nodes roots → (m : ℕ) → (is_provable x roots m ≡ true) ↔ IsProvable x roots m
unfolding is_provable
least_chain_decides x roots table within m = least_decides x.table.nodes x.groups roots table.earlier within m

same_self : (cuts : List ℕ) → AreSameRows cuts cuts
same_self cuts row = refl

module _ (x : Instance) (some roots : List ℕ) (m : ℕ) (among : AreAmong some roots) where
  pub within-among : (cuts : List ℕ) → is_within x roots cuts m ≡ true → is_within x some cuts m ≡ true
  within-among cuts = within_fewer x.table.nodes x.groups some cuts roots cuts m (live-among x.table.nodes cuts cuts (same_self cuts) some roots among)

  -- what is provable is provable for some of the roots
  pub provable-among : IsProvable x roots m → IsProvable x some m
  provable-among is = record { cuts = is.cuts; chain = chain-among x.table.nodes some roots among is.cuts is.chain; within = within-among is.cuts is.within }

-- and for roots that are the same as a set
pub provable-same_rows : (x : Instance) (roots others : List ℕ) (m : ℕ) → AreSameRows roots others → is_provable x roots m ≡ is_provable x others m
unfolding is_provable
provable-same_rows x roots others m same =
    within_same x.table.nodes x.groups roots (least_chain x.table.nodes roots) others (least_chain x.table.nodes roots) m
    (live-same_rows x.table.nodes roots others same (least_chain x.table.nodes roots) (least_chain x.table.nodes roots) (same_self (least_chain x.table.nodes roots)))
    ∙ ap (λ cuts. is_within x others cuts m) (least_chain-same_rows x.table.nodes roots others same)

-- the entry is of no group past the last
no_group : (group n : ℕ) (entry : Option ℕ) → n ≤ group → IfSome entry (λ g. g < n) → is_group group entry ≡ false
no_group group n None past within = refl
no_group group n (Some g) past within = ne_eqb g group (λ e. omega arith)

no_leaf : (groups : List (Option ℕ)) (group : ℕ) (n : Node) → length groups ≤ group → All (λ entry. IfSome entry (λ g. g < length groups)) groups → is_leaf_of groups group n ≡ false
no_leaf groups group (node.Input i) past within =
    ⊎_elim
    (λ lt. no_group group (length groups) (slice_index_or groups i None) past (within i None lt))
    (λ le. ap (is_group group) (get_or_past groups i None le))
    (cases_lt i (length groups))
no_leaf groups group node.Zero past within = refl
no_leaf groups group node.One past within = refl
no_leaf groups group (node.Random i) past within = refl
no_leaf groups group (node.And a b) past within = refl
no_leaf groups group (node.Xor a b) past within = refl

-- the groups below the number of entries are all groups
pub within_is_each : (nodes : List Node) (groups : List (Option ℕ)) (roots cuts : List ℕ) (m : ℕ) → All (λ entry. IfSome entry (λ g. g < length groups)) groups
    → (are_within nodes groups roots cuts m ≡ true) ↔ ((group : ℕ) → live_leaves_of nodes groups roots cuts group ≤ m)
unfolding are_within
within_is_each nodes groups roots cuts m within = (
  λ h group. ⊎_elim
      (λ lt. leb-true (live_leaves_of nodes groups roots cuts group) m (all_below-at (length groups) (λ g. nat_le (live_leaves_of nodes groups roots cuts g) m) h group lt))
      (λ past.
      let none : live_leaves_of nodes groups roots cuts group ≡ 0 =
      count_none (λ row. is_live nodes roots cuts row && is_leaf_of groups group (node_at nodes row)) (length nodes) (λ row lt.
      and_right (is_live nodes roots cuts row) (is_leaf_of groups group (node_at nodes row)) (no_leaf groups group (node_at nodes row) past within)) in
      omega arith)
      (cases_lt group (length groups)),
  λ each. all_below-from (length groups) (λ g. nat_le (live_leaves_of nodes groups roots cuts g) m) (λ group lt. le-leb (live_leaves_of nodes groups roots cuts group) m (each group)),
)

pub within_is_each_group : (x : Instance) (roots cuts : List ℕ) (m : ℕ) → IsFitting x → (is_within x roots cuts m ≡ true) ↔ ((group : ℕ) → live_leaves x roots cuts group ≤ m)
within_is_each_group x roots cuts m fitting =
    within_is_each x.table.nodes x.groups roots cuts m (subst (λ n. All (λ entry. IfSome entry (λ g. g < n)) x.groups) (sym fitting.one_group_each) fitting.groups_within)

pub proved_is_provable : (x : Instance) (tuple : List ℕ) → IsTable x.table → IsFitting x → (is_proved x tuple ≡ true) ↔ IsProvable x (roots_of x tuple) (bound_of x tuple)
unfolding is_proved
proved_is_provable x tuple table fitting = least_chain_decides x (roots_of x tuple) table (roots_are_rows x fitting tuple) (bound_of x tuple)
