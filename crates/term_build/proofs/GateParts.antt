-- The parts of gates.
use Rattle.std.proofs.Common.{◌≡◌, ℕ, zero, suc, ◌+◌, ◌-◌, Bool, true, false, ◌==◌, cond, List, [], ◌∷◌, ◌++◌, length, get_or, refl, sym, ap, ◌∙◌, arith}
use Rattle.cell_kinds.specs.Cells.{gate}
use Rattle.cell_kinds.specs.Formula.{beside}
use Rattle.cell_kinds.specs.declared.kind.GateKind.{GateKind}
use Rattle.cell_kinds.specs.declared.kind.GateKind.TheVariants.{Buf, Not, And, Nand, Or, Nor, Xor, Xnor, Andnot, Ornot, Mux, Nmux, Aoi3, Oai3, Aoi4, Oai4}
use Rattle.expr_table.specs.Term.{Term, Zero}
use Rattle.term_build.specs.declared.parts.Part.{Part}
use Rattle.term_build.specs.Building.{part_term, run_parts}
use Rattle.term_build.specs.GateTerms.{formula_term, formula_parts, gate_term, gate_parts}

-- the term of a port by the place of its letter
abbrev pub at_place : ℕ → List ℕ → List Term → ℕ → Term
at_place n [] ts letter = Zero
at_place n (l ∷ letters) ts letter = cond (l == letter) (get_or ts n Zero) (at_place (n + 1) letters ts letter)

beside-none : (letters : List ℕ) (letter : ℕ) → beside Zero letters [] letter ≡ Zero
beside-none [] letter = refl
beside-none (l ∷ letters) letter = refl

both-zero : (b : Bool) (t u : Term) → t ≡ Zero → u ≡ Zero → Zero ≡ cond b t u
both-zero true t u e f = sym e
both-zero false t u e f = sym f

beside-place : (letters : List ℕ) (n : ℕ) (vs ts : List Term) (letter : ℕ) → ((m : ℕ) → get_or vs m Zero ≡ get_or ts (n + m) Zero) → beside Zero letters vs letter ≡ at_place n letters ts letter
beside-place [] n vs ts letter same = refl
beside-place (l ∷ letters) n [] ts letter same =
    let here : n + 0 ≡ n = omega arith in
    both-zero (l == letter) (get_or ts n Zero) (at_place (n + 1) letters ts letter) (ap (λ k. get_or ts k Zero) (sym here) ∙ sym (same 0))
    (sym (beside-place letters (n + 1) [] ts letter (λ m. let next : n + suc m ≡ n + 1 + m = omega arith in none m ∙ same (suc m) ∙ ap (λ k. get_or ts k Zero) next)) ∙ beside-none letters letter)
  where
    none : (m : ℕ) → get_or [] m Zero ≡ get_or [] (suc m) Zero
    none zero = refl
    none (suc m) = refl
beside-place (l ∷ letters) n (v ∷ vs) ts letter same =
    let here : n + 0 ≡ n = omega arith in
    let first = same 0 ∙ ap (λ k. get_or ts k Zero) here in
    let rest = beside-place letters (n + 1) vs ts letter (λ m. let next : n + suc m ≡ n + 1 + m = omega arith in same (suc m) ∙ ap (λ k. get_or ts k Zero) next) in
    λ i. cond (l == letter) (first i) (rest i)

-- the ports of a gate, by the places of their letters
pub ports : (kind : GateKind) (ts : List Term) → beside Zero (gate kind).inputs ts ≡ at_place 0 (gate kind).inputs ts
ports kind ts i letter = beside-place (gate kind).inputs 0 ts ts letter (λ m. let e : m ≡ 0 + m = omega arith in ap (λ k. get_or ts k Zero) e) i

pub parts-at : (kind : GateKind) (ts : List Term) → formula_parts (at_place 0 (gate kind).inputs ts) (gate kind).formula ≡ gate_parts kind ts
unfolding gate_parts
parts-at kind ts = ap (λ p. formula_parts p (gate kind).formula) (sym (ports kind ts))

-- the last part, or the first pin where there is none
abbrev pub last_term : List Term → List Term → Term
last_term ts made = cond (length made == 0) (get_or ts 0 Zero) (get_or made (length made - 1) Zero)

last-of : (kind : GateKind) (ts : List Term) → formula_term (at_place 0 (gate kind).inputs ts) (gate kind).formula ≡ last_term ts (formula_parts (at_place 0 (gate kind).inputs ts) (gate kind).formula)
last-of Buf ts = refl
last-of Not ts = refl
last-of And ts = refl
last-of Nand ts = refl
last-of Or ts = refl
last-of Nor ts = refl
last-of Xor ts = refl
last-of Xnor ts = refl
last-of Andnot ts = refl
last-of Ornot ts = refl
last-of Mux ts = refl
last-of Nmux ts = refl
last-of Aoi3 ts = refl
last-of Oai3 ts = refl
last-of Aoi4 ts = refl
last-of Oai4 ts = refl

pub gate-last : (kind : GateKind) (ts : List Term) → gate_term kind ts ≡ last_term ts (gate_parts kind ts)
unfolding gate_term gate_parts
gate-last kind ts =
    ap (λ p. formula_term p (gate kind).formula) (ports kind ts) ∙ last-of kind ts ∙ ap (λ p. last_term ts (formula_parts p (gate kind).formula)) (sym (ports kind ts))

pub run-push : (pins made : List Term) (ps : List Part) (p : Part) → run_parts pins made (ps ++ p ∷ []) ≡ run_parts pins made ps ++ part_term pins (run_parts pins made ps) p ∷ []
run-push pins made [] p = refl
run-push pins made (q ∷ ps) p = run-push pins (made ++ part_term pins made q ∷ []) ps p
