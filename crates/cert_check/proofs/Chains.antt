-- What an answer on a chain says of the cuts.
use Rattle.std.proofs.Common.{◌≡◌, ℕ, ◌<◌, ltb-true, Bool, true, false, ◌&&◌, cond, ⊎_elim, List, [], ◌∷◌, length, reverse, Option, Some, None, refl, sym, ap, ◌∙◌, subst}
use Rattle.std.specs.Prelude.{nat_lt}
use Rattle.std.specs.List.{list_all, AllByRecursion}
use Rattle.std.proofs.lemmas.List.Elements.{All-from_recursion}
use Rattle.std.proofs.lemmas.Bool.{cases_Bool}
use Rattle.bit_rows.specs.Sets.{members}
use Rattle.expr_table.specs.declared.instance.Instance.{Instance}
use Rattle.expr_table.specs.declared.node.Node.{Node}
use Rattle.expr_table.specs.declared.node.Row.{Row}
use Rattle.expr_table.specs.Table.{Table, numbers}
use Rattle.once_random.specs.Cuts.{AreWithin, IsChain, cuts_of, is_allowed}
use Rattle.once_random.specs.Groups.{is_within}
use Rattle.once_random.specs.Tuples.{roots_of}
use Rattle.chain_check.specs.declared.answer.ChainAnswer.{ChainAnswer}
use Rattle.chain_check.specs.declared.answer.ChainAnswer.TheVariants.{Holds, BadCut, OverBound}
use Rattle.chain_check.specs.Answer.{IsAnswer}
use Rattle.certificate.specs.declared.fault.Why.{Why}
use Rattle.certificate.specs.declared.fault.Why.TheVariants as why
use Rattle.cert_check.specs.Chains.{why_of}
use Rattle.cert_check.specs.Closing.{is_chain}
use Rattle.cert_check.specs.Stages.{cuts_fault}
use Rattle.cert_check.proofs.Questions.{both, first, second}

-- cuts that pass the test are a chain
pub chain_is : (nodes : List Node) (roots cuts : List ℕ) → is_chain nodes roots cuts ≡ true → IsChain nodes roots cuts
chain_is nodes roots [] h = tt
chain_is nodes roots (e ∷ cuts) h =
    (first (is_allowed nodes roots cuts e) (is_chain nodes roots cuts) h, chain_is nodes roots cuts (second (is_allowed nodes roots cuts e) (is_chain nodes roots cuts) h))

-- and a chain passes it
pub chain_passes : (nodes : List Node) (roots cuts : List ℕ) → IsChain nodes roots cuts → is_chain nodes roots cuts ≡ true
chain_passes nodes roots [] h = refl
chain_passes nodes roots (e ∷ cuts) h = both (is_allowed nodes roots cuts e) (is_chain nodes roots cuts) h.0 (chain_passes nodes roots cuts h.1)

-- what is wrong, by the three tests
abbrev fault_by : Bool → Bool → Bool → Option Why
fault_by a b c = cond (a && b) (cond c None (Some why.Bound)) (Some why.Cuts)

by_all : (a b c : Bool) → a ≡ true → b ≡ true → c ≡ true → fault_by a b c ≡ None
by_all a b c p q r = ap (λ (t : Bool). fault_by t b c) p ∙ ap (λ (t : Bool). fault_by true t c) q ∙ ap (λ (t : Bool). fault_by true true t) r

by_bound : (a b c : Bool) → a ≡ true → b ≡ true → c ≡ false → fault_by a b c ≡ Some why.Bound
by_bound a b c p q r = ap (λ (t : Bool). fault_by t b c) p ∙ ap (λ (t : Bool). fault_by true t c) q ∙ ap (λ (t : Bool). fault_by true true t) r

by_cuts : (a b c : Bool) → a ≡ true → b ≡ false → fault_by a b c ≡ Some why.Cuts
by_cuts a b c p q = ap (λ (t : Bool). fault_by t b c) p ∙ ap (λ (t : Bool). fault_by true t c) q

by_rows : (a b c : Bool) → a ≡ false → fault_by a b c ≡ Some why.Cuts
by_rows a b c p = ap (λ (t : Bool). fault_by t b c) p

-- at most one answer is right
abbrev pub OneAnswer : Type 0
OneAnswer = (x : Instance) (roots : List ℕ) (m : ℕ) (cuts : List Row) (answer other : ChainAnswer) → IsAnswer x roots m cuts answer → IsAnswer x roots m cuts other → answer ≡ other

module _ (x : Instance) (hull : List Bool) (bound : ℕ) (cuts : List ℕ) where
  abbrev are_rows : Bool
  are_rows = list_all (λ row. nat_lt row (length x.table.nodes)) cuts

  abbrev chained : Bool
  chained = is_chain x.table.nodes (roots_of x (members hull)) (reverse cuts)

  abbrev bounded : Bool
  bounded = is_within x (roots_of x (members hull)) (reverse cuts) bound

  -- some number is that of no row
  pub rows_fault : list_all (λ row. nat_lt row (length x.table.nodes)) cuts ≡ false → Some why.Cuts ≡ cuts_fault x hull bound cuts
  rows_fault h = sym (by_rows are_rows chained bounded h)

  module _ (rows : List Row) (same : numbers rows ≡ cuts) (there : list_all (λ row. nat_lt row (length x.table.nodes)) cuts ≡ true) where
    as_cuts : cuts_of rows ≡ reverse cuts
    as_cuts = ap reverse same

    passes : IsChain x.table.nodes (roots_of x (members hull)) (cuts_of rows) → chained ≡ true
    passes h = chain_passes x.table.nodes (roots_of x (members hull)) (reverse cuts) (subst (λ (l : List ℕ). IsChain x.table.nodes (roots_of x (members hull)) l) as_cuts h)

    bad : OneAnswer → (place : ℕ) → IsAnswer x (roots_of x (members hull)) bound rows (BadCut place) → Some why.Cuts ≡ cuts_fault x hull bound cuts
    bad one place h =
        ⊎_elim
        (λ (t : chained ≡ true).
        let chain : IsChain x.table.nodes (roots_of x (members hull)) (cuts_of rows) =
        subst (λ (l : List ℕ). IsChain x.table.nodes (roots_of x (members hull)) l) (sym as_cuts) (chain_is x.table.nodes (roots_of x (members hull)) (reverse cuts) t) in
        ⊎_elim
        (λ (u : is_within x (roots_of x (members hull)) (cuts_of rows) bound ≡ true).
        let e : BadCut place ≡ Holds = one x (roots_of x (members hull)) bound rows (BadCut place) Holds h (chain, u) in
        cc)
        (λ (u : is_within x (roots_of x (members hull)) (cuts_of rows) bound ≡ false).
        let e : BadCut place ≡ OverBound = one x (roots_of x (members hull)) bound rows (BadCut place) OverBound h (chain, u) in
        cc)
        (cases_Bool (is_within x (roots_of x (members hull)) (cuts_of rows) bound)))
        (λ (f : chained ≡ false). sym (by_cuts are_rows chained bounded there f))
        (cases_Bool chained)

    -- the answer says what is wrong
    pub answer_says : OneAnswer → (answer : ChainAnswer) → IsAnswer x (roots_of x (members hull)) bound rows answer → why_of answer ≡ cuts_fault x hull bound cuts
    answer_says one Holds h =
        sym (by_all are_rows chained bounded there (passes h.0) (subst (λ (l : List ℕ). is_within x (roots_of x (members hull)) l bound ≡ true) as_cuts h.1))
    answer_says one OverBound h =
        sym (by_bound are_rows chained bounded there (passes h.0) (subst (λ (l : List ℕ). is_within x (roots_of x (members hull)) l bound ≡ false) as_cuts h.1))
    answer_says one (BadCut place) h = bad one place h

-- numbers of rows are rows of the table
pub rows_within : (t : Table) (rows : List Row) (cuts : List ℕ) → numbers rows ≡ cuts → list_all (λ row. nat_lt row (length t.nodes)) cuts ≡ true → AreWithin t rows
rows_within t rows cuts same there =
    All-from_recursion (λ (row : Row). row.0 < length t.nodes) rows (each rows (ap (list_all (λ row. nat_lt row (length t.nodes))) same ∙ there))
  where
    each : (rs : List Row) → list_all (λ row. nat_lt row (length t.nodes)) (numbers rs) ≡ true → AllByRecursion (λ (row : Row). row.0 < length t.nodes) rs
    each [] h = tt
    each (r ∷ rs) h = (
      ltb-true r.0 (length t.nodes) (first (nat_lt r.0 (length t.nodes)) (list_all (λ row. nat_lt row (length t.nodes)) (numbers rs)) h),
      each rs (second (nat_lt r.0 (length t.nodes)) (list_all (λ row. nat_lt row (length t.nodes)) (numbers rs)) h),
    )
