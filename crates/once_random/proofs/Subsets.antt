-- What depends on the roots and the cuts as sets alone, and what only shrinks where there are fewer roots.
use Rattle.std.proofs.Common.{◌≡◌, ℕ, zero, suc, true, not, ◌&&◌, ◌||◌, ◌==◌, List, [], ◌∷◌, length, refl, sym, ap, ◌∙◌, subst, true≢false, ⊎_elim}
use Rattle.std.specs.Option.{option_map_or}
use Rattle.std.proofs.lemmas.Bool.{cases_Bool, cond-true, cond-false, and_parts, and_from, or_cases, or_left, or_right, not-true, both_ways}
use Rattle.expr_table.specs.declared.node.Node.{Node}
use Rattle.expr_table.specs.declared.node.Node.TheVariants as node
use Rattle.expr_table.specs.Table.{node_at, sides, has}
use Rattle.once_random.specs.Live.{AreAmong, AreSameRows, reached, is_live, is_live_parent}
use Rattle.once_random.specs.Cuts.{is_random, masks, is_masked, is_allowed, may_be_cut, next_cut, least_after, least_chain, IsChain}
use Rattle.once_random.specs.Numbers.{least_below}
use Rattle.once_random.proofs.Alone.{all_below-at, all_below-from, same_tests}
use Rattle.once_random.proofs.LiveRows.{has-append, has-append_left, wants, next, next-keeps}

-- lists that hold the same rows hold each other's
pub among_same : (rows others : List ℕ) → AreSameRows rows others → AreAmong rows others
among_same rows others same row h = sym (same row) ∙ h

pub same_turned : (rows others : List ℕ) → AreSameRows rows others → AreSameRows others rows
same_turned rows others same row = sym (same row)

same_self : (rows : List ℕ) → AreSameRows rows rows
same_self rows row = refl

module _ (nodes : List Node) (cuts more : List ℕ) (same : AreSameRows cuts more) where
  next-among : (less wanted : List ℕ) → AreAmong less wanted → (row : ℕ) → AreAmong (next nodes cuts less row) (next nodes more wanted row)
  next-among less wanted among row r h =
      ⊎_elim
      (λ e.
      let parts = and_parts (has less row) (not (has cuts row)) e in
      let leads : wants nodes more wanted row ≡ true = and_from (has wanted row) (not (has more row)) (among row parts.0) (ap not (sym (same row)) ∙ parts.1) in
      ⊎_elim
      (λ f. subst (λ l. has l r ≡ true) (sym (cond-true (wants nodes more wanted row) _ _ leads)) (has-append_left (sides (node_at nodes row)) wanted r f))
      (λ f. next-keeps nodes more wanted row r (among r f))
      (has-append (sides (node_at nodes row)) less r (subst (λ l. has l r ≡ true) (cond-true (wants nodes cuts less row) _ _ e) h)))
      (λ e. next-keeps nodes more wanted row r (among r (subst (λ l. has l r ≡ true) (cond-false (wants nodes cuts less row) _ _ e) h)))
      (cases_Bool (wants nodes cuts less row))

  reached-among : (k : ℕ) (less wanted : List ℕ) → AreAmong less wanted → AreAmong (reached nodes cuts k less) (reached nodes more k wanted)
  reached-among zero less wanted among = among
  reached-among (suc row) less wanted among = reached-among row (next nodes cuts less row) (next nodes more wanted row) (next-among less wanted among row)

  module _ (some roots : List ℕ) (among : AreAmong some roots) where
    -- what some of the roots leave live, all of them do
    pub live-among : (row : ℕ) → is_live nodes some cuts row ≡ true → is_live nodes roots more row ≡ true
    unfolding is_live
    live-among row h = reached-among (length nodes) some roots among row h

    parent-among : (a p : ℕ) → is_live_parent nodes some cuts a p ≡ true → is_live_parent nodes roots more a p ≡ true
    parent-among a p h =
        let parts = and_parts (is_live nodes some cuts p && not (has cuts p)) (has (sides (node_at nodes p)) a) h in
        let here = and_parts (is_live nodes some cuts p) (not (has cuts p)) parts.0 in
        and_from _ _ (and_from _ _ (live-among p here.0) (ap not (sym (same p)) ∙ here.1)) parts.1

    masks-among : (e a : ℕ) → masks nodes roots more e a ≡ true → masks nodes some cuts e a ≡ true
    masks-among e a h =
        let parts = and_parts (is_random (node_at nodes a) || has more a) _ h in
        let rest = and_parts (not (has roots a)) _ parts.1 in
        and_from _ _ (ap (λ b. is_random (node_at nodes a) || b) (same a) ∙ parts.0)
        (and_from _ _
        (⊎_elim (λ t. absurd (both_ways _ (not-true _ rest.0) (among a t))) (λ f. ap not f) (cases_Bool (has some a)))
        (all_below-from (length nodes) (λ p. p == e || not (is_live_parent nodes some cuts a p)) (λ p lt.
        ⊎_elim (λ t. or_left (p == e) _ t)
        (λ t. or_right (p == e) _
        (⊎_elim (λ u. absurd (both_ways _ (not-true _ t) (parent-among a p u))) (λ u. ap not u) (cases_Bool (is_live_parent nodes some cuts a p))))
        (or_cases (p == e) (not (is_live_parent nodes roots more a p))
        (all_below-at (length nodes) (λ p. p == e || not (is_live_parent nodes roots more a p)) rest.1 p lt)))))

    masked-among : (e : ℕ) (n : Node) → is_masked nodes roots more e n ≡ true → is_masked nodes some cuts e n ≡ true
    masked-among e (node.Xor a b) h =
        ⊎_elim (λ t. or_left (masks nodes some cuts e a.0) _ (masks-among e a.0 t)) (λ t. or_right (masks nodes some cuts e a.0) _ (masks-among e b.0 t))
        (or_cases (masks nodes roots more e a.0) (masks nodes roots more e b.0) h)
    masked-among e node.Zero h = absurd (true≢false (sym h))
    masked-among e node.One h = absurd (true≢false (sym h))
    masked-among e (node.Input i) h = absurd (true≢false (sym h))
    masked-among e (node.Random i) h = absurd (true≢false (sym h))
    masked-among e (node.And a b) h = absurd (true≢false (sym h))

    -- a cut that is allowed for the roots is allowed for some of them
    pub allowed-among : (e : ℕ) → is_allowed nodes roots more e ≡ true → is_allowed nodes some cuts e ≡ true
    allowed-among e h =
        let parts = and_parts (not (has more e)) (is_masked nodes roots more e (node_at nodes e)) h in
        and_from _ _ (ap not (same e) ∙ parts.0) (masked-among e (node_at nodes e) parts.1)

-- a chain for the roots is one for some of them
pub chain-among : (nodes : List Node) (some roots : List ℕ) → AreAmong some roots → (cuts : List ℕ) → IsChain nodes roots cuts → IsChain nodes some cuts
chain-among nodes some roots among [] chain = chain
chain-among nodes some roots among (e ∷ cuts) chain =
    (allowed-among nodes cuts cuts (same_self cuts) some roots among e chain.0, chain-among nodes some roots among cuts chain.1)

module _ (nodes : List Node) (roots others : List ℕ) (same : AreSameRows roots others) where
  pub live-same_rows : (cuts more : List ℕ) → AreSameRows cuts more → (row : ℕ) → is_live nodes roots cuts row ≡ is_live nodes others more row
  live-same_rows cuts more same_cuts row =
      same_tests _ _ (live-among nodes cuts more same_cuts roots others (among_same roots others same) row)
      (live-among nodes more cuts (same_turned cuts more same_cuts) others roots (among_same others roots (same_turned roots others same)) row)

  allowed-same_rows : (cuts more : List ℕ) → AreSameRows cuts more → (e : ℕ) → is_allowed nodes roots cuts e ≡ is_allowed nodes others more e
  allowed-same_rows cuts more same_cuts e =
      same_tests _ _ (allowed-among nodes more cuts (same_turned cuts more same_cuts) others roots (among_same others roots (same_turned roots others same)) e)
      (allowed-among nodes cuts more same_cuts roots others (among_same roots others same) e)

  pub may_be_cut-same_rows : (cuts more : List ℕ) → AreSameRows cuts more → (e : ℕ) → may_be_cut nodes roots cuts e ≡ may_be_cut nodes others more e
  may_be_cut-same_rows cuts more same_cuts e = λ i. live-same_rows cuts more same_cuts e i && allowed-same_rows cuts more same_cuts e i

  next_cut-same_rows : (cuts : List ℕ) → next_cut nodes roots cuts ≡ next_cut nodes others cuts
  unfolding next_cut
  next_cut-same_rows cuts = ap (least_below (length nodes)) (λ i e. may_be_cut-same_rows cuts cuts (same_self cuts) e i)

  least_after-same_rows : (n : ℕ) (cuts : List ℕ) → least_after nodes roots n cuts ≡ least_after nodes others n cuts
  least_after-same_rows zero cuts = refl
  least_after-same_rows (suc n) cuts = λ i. option_map_or (λ e. least_after-same_rows n (e ∷ cuts) i) (next_cut-same_rows cuts i) cuts

  pub least_chain-same_rows : least_chain nodes roots ≡ least_chain nodes others
  unfolding least_chain
  least_chain-same_rows = least_after-same_rows (length nodes) []
