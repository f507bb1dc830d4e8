-- The first cuts of a list.
use Rattle.std.proofs.Common.{◌≡◌, ◌↔◌, ℕ, zero, suc, ◌+◌, ◌<◌, ◌≤◌, true, false, not, List, [], ◌∷◌, length, take, reverse, get_or, refl, sym, ap, ◌∙◌, subst, arith, ⊎_elim}
use Rattle.std.specs.Prelude.{slice_index}
use Rattle.std.proofs.lemmas.Bool.{and_parts, and_from, cases_lt, both_ways}
use Rattle.std.proofs.lemmas.List.{take_more, take_all, length-take-le, length-reverse, length-map, reverse-reverse, get_or-map}
use Rattle.expr_table.specs.declared.instance.Instance.{Instance}
use Rattle.expr_table.specs.declared.node.Node.{Node}
use Rattle.expr_table.specs.declared.node.Row.{Row}
use Rattle.expr_table.specs.Table.{has, node_at, numbers}
use Rattle.once_random.specs.Cuts.{IsChain, cuts_of, is_allowed, is_masked}
use Rattle.once_random.specs.Groups.{is_within}
use Rattle.once_random.specs.Provable.{IsProvable}
use Rattle.once_random.proofs.Facts.{latest_first}
use Rattle.live_rows.specs.declared.mark.Mark.{Mark}
use Rattle.live_rows.specs.Lists.{are_distinct}
use Rattle.live_rows.specs.Shown.{Shows}
use Rattle.live_rows.proofs.Counted.{cuts_within}
use Rattle.live_rows.proofs.Numbers.{length_within}
use Rattle.chain_check.specs.declared.answer.ChainAnswer.{ChainAnswer}
use Rattle.chain_check.specs.declared.answer.ChainAnswer.TheVariants.{Holds, BadCut, OverBound}
use Rattle.chain_check.specs.Answer.{IsAnswer, IsFirstBadCut}
use Rattle.chain_check.specs.Made.{CutsAreMade}

-- the cuts up to a place and the one at it
pub cuts_of-more : (cuts : List Row) (place : ℕ) → place < length cuts → cuts_of (take (place + 1) cuts) ≡ slice_index (numbers cuts) place ∷ cuts_of (take place cuts)
cuts_of-more cuts place lt =
    ap cuts_of (take_more cuts place (record { 0 = 0 }) lt)
    ∙ latest_first (take place cuts) (get_or cuts place (record { 0 = 0 }))
    ∙ ap (λ row. row ∷ cuts_of (take place cuts)) (sym (get_or-map (λ (row : Row). row.0) cuts place (record { 0 = 0 }) 0 lt))

-- a chain has no row twice
chain_distinct : (nodes : List Node) (roots cuts : List ℕ) → IsChain nodes roots cuts → are_distinct cuts ≡ true
chain_distinct nodes roots [] chain = refl
chain_distinct nodes roots (e ∷ cuts) chain =
    and_from (not (has cuts e)) (are_distinct cuts) (and_parts (not (has cuts e)) (is_masked nodes roots cuts e (node_at nodes e)) chain.0).0 (chain_distinct nodes roots cuts chain.1)

module _ (nodes : List Node) (roots : List ℕ) (cuts : List Row) where
  module _ (place : ℕ) (marks : List Mark) (made : CutsAreMade nodes roots (take place cuts) marks) where
    -- one more cut is made, where it is allowed
    pub made_more : (row : ℕ) (new : List Mark) → place < length cuts → row ≡ slice_index (numbers cuts) place → is_allowed nodes roots (cuts_of (take place cuts)) row ≡ true
        → Shows nodes roots (row ∷ cuts_of (take place cuts)) new → CutsAreMade nodes roots (take (place + 1) cuts) new
    made_more row new lt at allowed shows =
        let more : cuts_of (take (place + 1) cuts) ≡ row ∷ cuts_of (take place cuts) = cuts_of-more cuts place lt ∙ ap (λ r. r ∷ cuts_of (take place cuts)) (sym at) in
        record {
          chain = subst (IsChain nodes roots) (sym more) (allowed, made.chain);
          shows = subst (λ (done : List ℕ). Shows nodes roots done new) (sym more) shows;
        }

    -- and else it is the first that is not
    pub made_bad : (row : ℕ) → place < length cuts → row ≡ slice_index (numbers cuts) place → is_allowed nodes roots (cuts_of (take place cuts)) row ≡ false → IsFirstBadCut nodes roots cuts place
    made_bad row lt at bad = record {
      within = lt;
      before = made.chain;
      bad = subst (λ r. is_allowed nodes roots (cuts_of (take place cuts)) r ≡ false) at bad;
    }

    -- there are no more cuts than rows
    pub made_few : place ≤ length cuts → place ≤ length nodes
    made_few le =
        let short : length (cuts_of (take place cuts)) ≤ length nodes =
        length_within (length nodes) (cuts_of (take place cuts)) (chain_distinct nodes roots (cuts_of (take place cuts)) made.chain)
        (cuts_within nodes roots (cuts_of (take place cuts)) marks made.shows) in
        let same : length (cuts_of (take place cuts)) ≡ place =
        length-reverse (numbers (take place cuts)) ∙ length-map (take place cuts) (λ (row : Row). row.0) ∙ length-take-le place cuts le in
        omega arith

  -- all cuts are made
  pub made_all : (place : ℕ) (marks : List Mark) → length cuts ≤ place → CutsAreMade nodes roots (take place cuts) marks → CutsAreMade nodes roots cuts marks
  made_all place marks le made = subst (λ (rows : List Row). CutsAreMade nodes roots rows marks) (take_all place cuts le) made

  -- a front of a chain is a chain, and the cut after it is allowed
  chain_front : (k n : ℕ) → n ≤ length cuts → IsChain nodes roots (cuts_of (take n cuts)) → k < n
      → is_allowed nodes roots (cuts_of (take k cuts)) (slice_index (numbers cuts) k) ≡ true
  chain_front k zero le chain lt = absurd (omega arith)
  chain_front k (suc n) le chain lt =
      let is : suc n ≡ n + 1 = omega arith in
      let parts = subst (IsChain nodes roots) (ap (λ m. cuts_of (take m cuts)) is ∙ cuts_of-more cuts n (omega arith)) chain in
      ⊎_elim (λ less. chain_front k n (omega arith) parts.1 less)
      (λ past. let same : n ≡ k = omega arith in
      subst (λ m. is_allowed nodes roots (cuts_of (take m cuts)) (slice_index (numbers cuts) m) ≡ true) same parts.0)
      (cases_lt k n)

  -- so a list with a first bad cut is no chain
  pub bad_no_chain : (place : ℕ) → IsFirstBadCut nodes roots cuts place → IsChain nodes roots (cuts_of cuts) → ⊥
  bad_no_chain place bad chain =
      both_ways _ bad.bad
      (chain_front place (length cuts) (omega arith) (subst (λ (rows : List Row). IsChain nodes roots (cuts_of rows)) (sym (take_all (length cuts) cuts (omega arith))) chain) bad.within)

  -- and only one cut is the first
  first_bad_once : (place other : ℕ) → IsFirstBadCut nodes roots cuts place → IsFirstBadCut nodes roots cuts other → place < other → ⊥
  first_bad_once place other first second lt =
      let le : other ≤ length cuts = omega (arith, second.within) in
      both_ways _ first.bad (chain_front place other le second.before lt)

  pub same_place : (place other : ℕ) → IsFirstBadCut nodes roots cuts place → IsFirstBadCut nodes roots cuts other → place ≡ other
  same_place place other first second =
      ⊎_elim (λ lt. absurd (first_bad_once place other first second lt))
      (λ le. ⊎_elim (λ lt. absurd (first_bad_once other place second first lt)) (λ ge. omega arith) (cases_lt other place))
      (cases_lt place other)

pub one_answer : (x : Instance) (roots : List ℕ) (m : ℕ) (cuts : List Row) (answer other : ChainAnswer) → IsAnswer x roots m cuts answer → IsAnswer x roots m cuts other → answer ≡ other
one_answer x roots m cuts Holds Holds h k = refl
one_answer x roots m cuts Holds OverBound h k = absurd (both_ways _ k.1 h.1)
one_answer x roots m cuts Holds (BadCut j) h k = absurd (bad_no_chain x.table.nodes roots cuts j k h.0)
one_answer x roots m cuts OverBound Holds h k = absurd (both_ways _ h.1 k.1)
one_answer x roots m cuts OverBound OverBound h k = refl
one_answer x roots m cuts OverBound (BadCut j) h k = absurd (bad_no_chain x.table.nodes roots cuts j k h.0)
one_answer x roots m cuts (BadCut i) Holds h k = absurd (bad_no_chain x.table.nodes roots cuts i h k.0)
one_answer x roots m cuts (BadCut i) OverBound h k = absurd (bad_no_chain x.table.nodes roots cuts i h k.0)
one_answer x roots m cuts (BadCut i) (BadCut j) h k = ap BadCut (same_place x.table.nodes roots cuts i j h k)

-- the rows of these numbers
rows_numbered : List ℕ → List Row
rows_numbered [] = []
rows_numbered (n ∷ ns) = record { 0 = n } ∷ rows_numbered ns

numbers-numbered : (ns : List ℕ) → numbers (rows_numbered ns) ≡ ns
unfolding rows_numbered
numbers-numbered [] = refl
numbers-numbered (n ∷ ns) = ap (λ ms. n ∷ ms) (numbers-numbered ns)

-- roots are provable exactly where some list of cuts holds for them
pub chains_prove : (x : Instance) (roots : List ℕ) (m : ℕ) → IsProvable x roots m ↔ ((cuts : List Row) × IsAnswer x roots m cuts Holds)
chains_prove x roots m = (
  λ is.
      let same : cuts_of (rows_numbered (reverse is.cuts)) ≡ is.cuts = ap reverse (numbers-numbered (reverse is.cuts)) ∙ reverse-reverse is.cuts in (
        rows_numbered (reverse is.cuts),
        (subst (IsChain x.table.nodes roots) (sym same) is.chain, subst (λ (cuts : List ℕ). is_within x roots cuts m ≡ true) (sym same) is.within),
      ),
  λ some. record { cuts = cuts_of some.0; chain = some.1.0; within = some.1.1 },
)
