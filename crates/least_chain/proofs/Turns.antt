-- A turn: one more cut of the least chain, or none.
use Rattle.std.proofs.Common.{◌≡◌, ◌⊎◌, ℕ, suc, ◌+◌, ◌-◌, ◌<◌, ◌≤◌, true, false, not, ◌||◌, ◌==◌, List, [], ◌∷◌, ◌++◌, length, Some, refl, sym, ap, ◌∙◌, subst, arith, length-append}
use Rattle.std.proofs.lemmas.Bool.{and_parts, and_from, or_right, eq-eqb}
use Rattle.std.proofs.lemmas.List.{length-reverse, length-map}
use Rattle.std.proofs.lemmas.List.Elements.{All-push}
use Rattle.expr_table.specs.declared.instance.Instance.{Instance}
use Rattle.expr_table.specs.declared.instance.ProbeRoots.{ProbeRoots}
use Rattle.expr_table.specs.declared.node.Node.{Node}
use Rattle.expr_table.specs.declared.node.Node.TheVariants as node
use Rattle.expr_table.specs.declared.node.Row.{Row}
use Rattle.expr_table.specs.Table.{node_at, has, numbers}
use Rattle.once_random.specs.Cuts.{is_xor, is_allowed, is_masked, IsChain, cuts_of, least_after, least_chain, next_cut}
use Rattle.once_random.specs.Live.{AreLower, AreRows, is_live, is_live_parent, live_parents}
use Rattle.once_random.specs.Tuples.{roots_of, roots_over}
use Rattle.once_random.proofs.Chains.{least_after-none, least_after-some}
use Rattle.once_random.proofs.Facts.{has_first, latest_first, live-side}
use Rattle.live_rows.specs.declared.mark.Mark.{Mark}
use Rattle.live_rows.specs.Lists.{are_distinct}
use Rattle.live_rows.specs.Marks.{mark_at, queued_count, is_spare}
use Rattle.live_rows.specs.Shown.{Shows, serves}
use Rattle.live_rows.specs.State.{State}
use Rattle.live_rows.proofs.Facts.{roots_within, cuts_within}
use Rattle.live_rows.proofs.Numbers.{length_within}
use Rattle.least_chain.specs.Waiting.{AreWaiting, IsCutting, IsTurn}
use Rattle.least_chain.proofs.Parents.{parent_parts}
use Rattle.least_chain.proofs.Waits.{waiting_same, waiting_spent, waiting_cut, least_next, none_next}

-- a node that is no Xor
pub not_xor : (n : Node) → ((a b : Row) → n ≡ node.Xor a b → ⊥) → is_xor n ≡ false
not_xor node.Zero none = refl
not_xor node.One none = refl
not_xor (node.Input i) none = refl
not_xor (node.Random i) none = refl
not_xor (node.And a b) none = refl
not_xor (node.Xor a b) none = absurd (none a b refl)

-- what is allowed is an Xor
allowed_xor : (nodes : List Node) (roots cuts : List ℕ) (e : ℕ) (n : Node) → node_at nodes e ≡ n → is_allowed nodes roots cuts e ≡ true → ((a b : Row) → n ≡ node.Xor a b → ⊥) → ⊥
allowed_xor nodes roots cuts e n is h none = go n (subst (λ m. is_masked nodes roots cuts e m ≡ true) is (and_parts (not (has cuts e)) (is_masked nodes roots cuts e (node_at nodes e)) h).1) none
  where
    go : (n : Node) → is_masked nodes roots cuts e n ≡ true → ((a b : Row) → n ≡ node.Xor a b → ⊥) → ⊥
    go (node.Xor a b) m none = none a b refl
    go node.Zero m none = cc
    go node.One m none = cc
    go (node.Input i) m none = cc
    go (node.Random i) m none = cc
    go (node.And a b) m none = cc

-- a chain has no row twice, so it has no more cuts than rows
chain_distinct : (nodes : List Node) (roots cuts : List ℕ) → IsChain nodes roots cuts → are_distinct cuts ≡ true
chain_distinct nodes roots [] chain = refl
chain_distinct nodes roots (e ∷ cuts) chain =
    and_from (not (has cuts e)) (are_distinct cuts) (and_parts (not (has cuts e)) (is_masked nodes roots cuts e (node_at nodes e)) chain.0).0 (chain_distinct nodes roots cuts chain.1)

chain_short : (nodes : List Node) (roots cuts : List ℕ) → IsChain nodes roots cuts → AreRows nodes cuts → length cuts ≤ length nodes
chain_short nodes roots cuts chain within = length_within (length nodes) cuts (chain_distinct nodes roots cuts chain) within

length-cuts_of : (chain : List Row) → length (cuts_of chain) ≡ length chain
length-cuts_of chain = length-reverse (numbers chain) ∙ length-map chain (λ (row : Row). row.0)

-- a spare row that one row alone reads serves a cut of it
pub spare_serves : (nodes : List Node) → AreLower nodes → (roots cuts : List ℕ) (marks : List Mark) → Shows nodes roots cuts marks → (row p : ℕ) → is_spare (mark_at marks row) ≡ true
    → live_parents nodes roots cuts row ≡ 1 → is_live_parent nodes roots cuts row p ≡ true → serves nodes roots cuts row ≡ true
spare_serves nodes lower roots cuts marks shows row p spare one only =
    let within = roots_within nodes roots cuts marks shows in
    let parts = and_parts (mark_at marks row).fresh (not (mark_at marks row).root) spare in
    let is = parent_parts nodes lower roots within cuts row p only in
    let l = live-side nodes lower roots within cuts p row is.0 is.1 is.2 in
    and_from _ _ (sym (shows.fresh row l) ∙ parts.0) (and_from _ _ (sym (ap not (shows.root row)) ∙ parts.1) (eq-eqb _ 1 one))

-- before any cut
pub begun : (x : Instance) (probes : List ProbeRoots) (tuple : List ℕ) (chain : List Row) (state : State) (waiting : List ℕ) → probes ≡ x.probes → chain ≡ []
    → Shows x.table.nodes (roots_over probes tuple) [] state.marks → AreWaiting x.table.nodes (roots_over probes tuple) [] [] waiting → state.alone ≡ [] → queued_count state.marks ≤ length state.found
    → IsCutting x.table.nodes (roots_of x tuple) chain state waiting
unfolding least_chain
begun x probes tuple chain state waiting is empty shows waits taken few =
    let nodes = x.table.nodes in
    let roots : roots_over probes tuple ≡ roots_of x tuple = ap (λ (ps : List ProbeRoots). roots_over ps tuple) is in
    subst (λ (c : List Row). IsCutting nodes (roots_of x tuple) c state waiting) (sym empty)
    (record {
      rows = λ k d l. absurd (none k l);
      shows = subst (λ (rs : List ℕ). Shows nodes rs [] state.marks) roots shows;
      allowed = tt;
      rest = ap (λ n. least_after nodes (roots_of x tuple) n []) (all (length nodes));
      taken = taken;
      waits = subst (λ (rs : List ℕ). AreWaiting nodes rs [] [] waiting) roots waits;
      few = few;
    })
  where
    none : (k : ℕ) → k < 0 → ⊥
    none k l = omega arith

    all : (n : ℕ) → n - 0 ≡ n
    all n = omega arith

-- where none waits, the chain is the least one
pub done : (nodes : List Node) → AreLower nodes → (roots : List ℕ) (chain : List Row) (state : State) (waiting : List ℕ) → waiting ≡ [] → IsCutting nodes roots chain state waiting
    → cuts_of chain ≡ least_chain nodes roots
done nodes lower roots chain state waiting none is =
    let within = roots_within nodes roots (cuts_of chain) state.marks is.shows in
    sym (least_after-none nodes roots (cuts_of chain) (length nodes - length chain)
    (none_next nodes lower roots within (cuts_of chain) (subst (λ (w : List ℕ). AreWaiting nodes roots (cuts_of chain) [] w) none is.waits)))
    ∙ is.rest

-- the least that waits is taken out
pub turned : (nodes : List Node) → AreLower nodes → (roots : List ℕ) (chain : List Row) (state : State) (old new : List ℕ) (row : ℕ) → ((e : ℕ) → has old e ≡ (row == e || has new e))
    → ((e : ℕ) → has old e ≡ true → row ≤ e) → IsCutting nodes roots chain state old → IsTurn nodes roots chain state new row
turned nodes lower roots chain state old new row same least is = record {
  cutting = record {
    rows = is.rows;
    shows = is.shows;
    allowed = is.allowed;
    rest = is.rest;
    taken = is.taken;
    waits = waiting_same nodes lower roots (roots_within nodes roots (cuts_of chain) state.marks is.shows) (cuts_of chain) [] old (row ∷ new) same is.waits;
    few = is.few;
  };
  least = λ e h. least e (same e ∙ or_right (row == e) (has new e) h);
}

module _ (nodes : List Node) (lower : AreLower nodes) (roots : List ℕ) (chain : List Row) (state : State) (waiting : List ℕ) (row : Row) (turn : IsTurn nodes roots chain state waiting row.0) where
  within : AreRows nodes roots
  within = roots_within nodes roots (cuts_of chain) state.marks turn.cutting.shows

  pub turn_row : row.0 < length nodes
  turn_row = turn.cutting.waits.rows row.0 (has_first row.0 waiting)

  -- the row is not live or is cut, or is no Xor and so may not be cut
  turn_spent : (is_live nodes roots (cuts_of chain) row.0 ≡ true → has (cuts_of chain) row.0 ≡ false → ⊥) → IsCutting nodes roots chain state waiting
  turn_spent spent = record {
    rows = turn.cutting.rows;
    shows = turn.cutting.shows;
    allowed = turn.cutting.allowed;
    rest = turn.cutting.rest;
    taken = turn.cutting.taken;
    waits = waiting_spent nodes lower roots within (cuts_of chain) waiting row.0 turn.cutting.waits spent;
    few = turn.cutting.few;
  }

  pub turn_dead : (mark_at state.marks row.0).live ≡ false → IsCutting nodes roots chain state waiting
  turn_dead dead = turn_spent (λ l _. let f = sym (turn.cutting.shows.live row.0) ∙ dead in cc)

  pub turn_again : (mark_at state.marks row.0).cut ≡ true → IsCutting nodes roots chain state waiting
  turn_again was = turn_spent (λ _ uncut. let t = sym (turn.cutting.shows.cut row.0) ∙ was in cc)

  pub turn_no_xor : (n : Node) → node_at nodes row.0 ≡ n → ((a b : Row) → n ≡ node.Xor a b → ⊥) → IsCutting nodes roots chain state waiting
  turn_no_xor n is none = turn_spent (λ _ uncut. allowed_xor nodes roots (cuts_of chain) row.0 n is (turn.cutting.waits.allowed row.0 (has_first row.0 waiting) uncut) none)

  -- the row is cut, and those that may be cut then wait
  module _ (live : (mark_at state.marks row.0).live ≡ true) (uncut : (mark_at state.marks row.0).cut ≡ false) where
    is_lively : is_live nodes roots (cuts_of chain) row.0 ≡ true
    is_lively = sym (turn.cutting.shows.live row.0) ∙ live

    not_cut : has (cuts_of chain) row.0 ≡ false
    not_cut = sym (turn.cutting.shows.cut row.0) ∙ uncut

    pub cut_waits : (alone : List ℕ) → ((q : ℕ) → serves nodes roots (row.0 ∷ cuts_of chain) q ≡ true → (serves nodes roots (cuts_of chain) q ≡ true) ⊎ (has alone q ≡ true))
        → AreWaiting nodes roots (row.0 ∷ cuts_of chain) alone waiting
    cut_waits alone gains = waiting_cut nodes lower roots within (cuts_of chain) waiting row.0 turn.cutting.waits alone gains

    pub turn_cut : (pushed : List Row) (new : State) (more : List ℕ) → pushed ≡ chain ++ row ∷ [] → Shows nodes roots (row.0 ∷ cuts_of chain) new.marks
        → AreWaiting nodes roots (row.0 ∷ cuts_of chain) [] more → new.alone ≡ [] → queued_count new.marks ≤ length new.found → IsCutting nodes roots pushed new more
    turn_cut pushed new more is shows waits taken few =
        let next : next_cut nodes roots (cuts_of chain) ≡ Some row.0 = least_next nodes lower roots within (cuts_of chain) waiting row.0 turn.cutting.waits turn.least is_lively not_cut in
        let longer : IsChain nodes roots (row.0 ∷ cuts_of chain) = (turn.cutting.waits.allowed row.0 (has_first row.0 waiting) not_cut, turn.cutting.allowed) in
        let short : length (row.0 ∷ cuts_of chain) ≤ length nodes = chain_short nodes roots (row.0 ∷ cuts_of chain) longer (cuts_within nodes roots (row.0 ∷ cuts_of chain) new.marks shows) in
        let many = length-cuts_of chain in
        let left : length nodes - length chain ≡ suc (length nodes - length (chain ++ row ∷ [])) = left_is (length nodes) (length chain) (length (cuts_of chain)) (length (chain ++ row ∷ [])) short many (length-append chain (row ∷ [])) in
        subst (λ (c : List Row). IsCutting nodes roots c new more) (sym is)
        (record {
          rows = All-push (λ (row : Row). row.0 < length nodes) chain row turn.cutting.rows turn_row;
          shows = subst (λ (done : List ℕ). Shows nodes roots done new.marks) (sym (latest_first chain row)) shows;
          allowed = subst (IsChain nodes roots) (sym (latest_first chain row)) longer;
          rest = ap (least_after nodes roots (length nodes - length (chain ++ row ∷ []))) (latest_first chain row)
              ∙ sym (least_after-some nodes roots (cuts_of chain) (length nodes - length (chain ++ row ∷ [])) row.0 next)
              ∙ ap (λ n. least_after nodes roots n (cuts_of chain)) (sym left)
              ∙ turn.cutting.rest;
          taken = taken;
          waits = subst (λ (done : List ℕ). AreWaiting nodes roots done [] more) (sym (latest_first chain row)) waits;
          few = few;
        })
      where
        left_is : (n k m j : ℕ) → suc m ≤ n → m ≡ k → j ≡ k + 1 → n - k ≡ suc (n - j)
        left_is n k m j h e f = omega arith
