-- The terms of gates: the formulas of the cell table, read over terms.
use Rattle.std.specs.Prelude.{ℕ, List, [], ◌∷◌, ◌++◌}
use Rattle.cell_kinds.specs.Cells.{gate}
use Rattle.cell_kinds.specs.Formula.{Formula, port, not_of, both, either, differ, choose, Connectives, meaning, beside}
use Rattle.cell_kinds.specs.declared.kind.GateKind.{GateKind}
use Rattle.expr_table.specs.Term.{Term, Zero, xor_of, and_of, or_of}
use Rattle.expr_table.specs.Term as term

-- the second where the first is 1, else the third
abbrev pub choice_of : Term → Term → Term → Term
choice_of s b a = xor_of (and_of s b) (and_of (term.not_of s) a)

-- the connectives of terms
abbrev pub term_connectives : Connectives Term
term_connectives = record { negation = term.not_of; conjunction = and_of; disjunction = or_of; difference = xor_of; choice = choice_of }

-- the term of a formula where the ports have these terms
abbrev pub formula_term : (ℕ → Term) → Formula → Term
formula_term ports f = meaning term_connectives ports f

-- What is made on the way to the term of a formula: the parts of the formula from left to right and from the inside outwards.
-- Each exclusive or and each conjunction counts, also one that an outer negation takes away again; a disjunction and a choice
-- are made once their arguments are.
abbrev pub formula_parts : (ℕ → Term) → Formula → List Term
formula_parts ports (port letter) = []
formula_parts ports (not_of p) = formula_parts ports p ++ term.not_of (formula_term ports p) ∷ []
formula_parts ports (both p q) =
    (formula_parts ports p ++ formula_parts ports q) ++ and_of (formula_term ports p) (formula_term ports q) ∷ []
formula_parts ports (either p q) = let a = formula_term ports p in let b = formula_term ports q in
    (formula_parts ports p ++ formula_parts ports q)
    ++ term.not_of a ∷ term.not_of b ∷ and_of (term.not_of a) (term.not_of b) ∷ or_of a b ∷ []
formula_parts ports (differ p q) =
    (formula_parts ports p ++ formula_parts ports q) ++ xor_of (formula_term ports p) (formula_term ports q) ∷ []
formula_parts ports (choose p q r) = let s = formula_term ports p in let b = formula_term ports q in let a = formula_term ports r in
    (formula_parts ports p ++ formula_parts ports q ++ formula_parts ports r)
    ++ and_of s b ∷ term.not_of s ∷ and_of (term.not_of s) a ∷ choice_of s b a ∷ []

-- the term of a gate whose inputs have these terms, in the order of the cell table
unfoldable pub gate_term : GateKind → List Term → Term
gate_term kind ts = formula_term (beside Zero (gate kind).inputs ts) (gate kind).formula

-- what is made on the way to it
unfoldable pub gate_parts : GateKind → List Term → List Term
gate_parts kind ts = formula_parts (beside Zero (gate kind).inputs ts) (gate kind).formula
