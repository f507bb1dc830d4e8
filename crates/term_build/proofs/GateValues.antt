-- The terms of gates have the values of the gates.
use Rattle.std.proofs.Common.{◌≡◌, ℕ, Bool, true, false, not, ◌&&◌, ◌||◌, ◌==◌, cond, List, [], ◌∷◌, map, refl, ap, ◌∙◌}
use Rattle.cell_kinds.specs.Cells.{gate, gate_value}
use Rattle.cell_kinds.specs.Formula.{Formula, port, not_of, both, either, differ, choose, meaning, bits, beside}
use Rattle.cell_kinds.specs.declared.kind.GateKind.{GateKind}
use Rattle.expr_table.specs.Term.{Term, Zero, One, xor_of, and_of}
use Rattle.expr_table.specs.Term as term
use Rattle.expr_table.specs.Values.{xor, eval}
use Rattle.expr_table.proofs.Facts.{eval-xor_of, eval-and_of}
use Rattle.term_build.specs.GateTerms.{formula_term, gate_term}

disjoined : (a b : Bool) → not (not a && not b) ≡ (a || b)
disjoined true true = refl
disjoined true false = refl
disjoined false true = refl
disjoined false false = refl

differing : (a b : Bool) → xor a b ≡ cond a (not b) b
differing true b = refl
differing false b = refl

chosen : (s b a : Bool) → xor (s && b) (not s && a) ≡ cond s b a
chosen true true a = refl
chosen true false a = refl
chosen false b a = refl

module _ (given drawn : List Bool) where
  abbrev at : Term → Bool
  at t = eval given drawn t

  at-not : (t : Term) → at (term.not_of t) ≡ not (at t)
  at-not t = eval-xor_of given drawn One t

  at-and : (a b : Term) → at (and_of a b) ≡ (at a && at b)
  at-and a b = eval-and_of given drawn a b

  at-or : (a b : Term) → at (term.or_of a b) ≡ (at a || at b)
  at-or a b =
      at-not (and_of (term.not_of a) (term.not_of b)) ∙ ap not (at-and (term.not_of a) (term.not_of b) ∙ (λ i. at-not a i && at-not b i)) ∙ disjoined (at a) (at b)

  at-choice : (s b a : Term) → at (xor_of (and_of s b) (and_of (term.not_of s) a)) ≡ cond (at s) (at b) (at a)
  at-choice s b a =
      eval-xor_of given drawn (and_of s b) (and_of (term.not_of s) a)
      ∙ (λ i. xor (at-and s b i) ((at-and (term.not_of s) a ∙ ap (λ x. x && at a) (at-not s)) i)) ∙ chosen (at s) (at b) (at a)

  -- the term of a formula has the formula's value
  formula-value : (ports : ℕ → Term) (values : ℕ → Bool) → ((letter : ℕ) → at (ports letter) ≡ values letter) → (f : Formula) → at (formula_term ports f) ≡ meaning bits values f
  formula-value ports values same (port letter) = same letter
  formula-value ports values same (not_of p) = at-not (formula_term ports p) ∙ ap not (formula-value ports values same p)
  formula-value ports values same (both p q) =
      let a = formula-value ports values same p in let b = formula-value ports values same q in
      at-and (formula_term ports p) (formula_term ports q) ∙ (λ i. a i && b i)
  formula-value ports values same (either p q) =
      let a = formula-value ports values same p in let b = formula-value ports values same q in
      at-or (formula_term ports p) (formula_term ports q) ∙ (λ i. a i || b i)
  formula-value ports values same (differ p q) =
      let a = formula-value ports values same p in let b = formula-value ports values same q in
      eval-xor_of given drawn (formula_term ports p) (formula_term ports q) ∙ differing (at (formula_term ports p)) (at (formula_term ports q)) ∙ (λ i. cond (a i) (not (b i)) (b i))
  formula-value ports values same (choose p q r) =
      let s = formula-value ports values same p in let b = formula-value ports values same q in let a = formula-value ports values same r in
      at-choice (formula_term ports p) (formula_term ports q) (formula_term ports r) ∙ (λ i. cond (s i) (b i) (a i))

  at-cond : (c : Bool) (t u : Term) (b : Bool) → at u ≡ b → at (cond c t u) ≡ cond c (at t) b
  at-cond true t u b same = refl
  at-cond false t u b same = same

  beside-value : (letters : List ℕ) (ts : List Term) (letter : ℕ) → at (beside Zero letters ts letter) ≡ beside false letters (map at ts) letter
  beside-value [] ts letter = refl
  beside-value (l ∷ letters) [] letter = refl
  beside-value (l ∷ letters) (t ∷ ts) letter = at-cond (l == letter) t (beside Zero letters ts letter) (beside false letters (map at ts) letter) (beside-value letters ts letter)

  -- the term of a gate has the gate's value
  pub gate-value : (kind : GateKind) (ts : List Term) → at (gate_term kind ts) ≡ gate_value kind (map at ts)
  unfolding gate_term gate_value
  gate-value kind ts =
      formula-value (beside Zero (gate kind).inputs ts) (beside false (gate kind).inputs (map at ts)) (beside-value (gate kind).inputs ts) (gate kind).formula
