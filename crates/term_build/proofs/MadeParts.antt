-- Parts that are made one after another.
use Rattle.std.proofs.Common.{◌≡◌, ℕ, zero, suc, ◌+◌, ◌-◌, ◌<◌, Bool, true, false, ◌==◌, cond, List, [], ◌∷◌, ◌++◌, length, take, get_or, sym, ap, ◌∙◌, subst, arith}
use Rattle.std.proofs.lemmas.List.{append-nil, append_assoc, take_more}
use Rattle.std.proofs.lemmas.Bool.{cond-true, cond-false, eq-eqb, ne_eqb}
use Rattle.cell_kinds.specs.declared.kind.GateKind.{GateKind}
use Rattle.circuit_types.specs.declared.refusal.Stop.{Stop}
use Rattle.expr_table.specs.declared.node.Row.{Row}
use Rattle.expr_table.specs.Table.{Table, IsRowOf}
use Rattle.expr_table.specs.Term.{Term, Zero}
use Rattle.term_build.specs.declared.parts.Part.{Part}
use Rattle.term_build.specs.Building.{Grows, MadeParts, MadeRow, ShowRows, StopsAt, part_term, row_at, run_parts}
use Rattle.term_build.specs.GateTerms.{gate_parts, gate_term}
use Rattle.term_build.proofs.GateParts.{gate-last, run-push}
use Rattle.term_build.proofs.Making.{Grows-more, Grows-none, ShowRows-kept, ShowRows-none, ShowRows-push, StopsAt-more}

-- what follows the parts so far
longer : (ts made : List Term) (ps : List Part) → (zs : List Term) × (run_parts ts made ps ≡ made ++ zs)
longer ts made [] = ([], sym (append-nil made))
longer ts made (p ∷ ps) =
    let rest = longer ts (made ++ part_term ts made p ∷ []) ps in
    (part_term ts made p ∷ rest.0, rest.1 ∙ append_assoc made (part_term ts made p ∷ []) rest.0)

run-rest : (ts made : List Term) (ps : List Part) (i : ℕ) (d : Part) → i < length ps
    → (zs : List Term) × (run_parts ts made ps ≡ (run_parts ts made (take i ps) ++ part_term ts (run_parts ts made (take i ps)) (get_or ps i d) ∷ []) ++ zs)
run-rest ts made [] i d lt = absurd (omega arith)
run-rest ts made (p ∷ ps) zero d lt = longer ts (made ++ part_term ts made p ∷ []) ps
run-rest ts made (p ∷ ps) (suc i) d lt = run-rest ts (made ++ part_term ts made p ∷ []) ps i d (omega arith)

module _ (old : Table) (pins : List Row) (ts : List Term) (items : List Part) where
  pub parts-none : ShowRows old.nodes pins ts → MadeParts old old ts [] []
  parts-none show = record { grows = Grows-none old; shows = ShowRows-none old.nodes pins ts show }

  -- one more part
  pub parts-more : (mid new : Table) (i : ℕ) (d : Part) (made : List Row) (row : Row) → i < length items → MadeParts old mid ts (take i items) made
      → MadeRow mid new (part_term ts (run_parts ts [] (take i items)) (get_or items i d) ∷ []) (part_term ts (run_parts ts [] (take i items)) (get_or items i d)) row.0
      → MadeParts old new ts (take (i + 1) items) (made ++ row ∷ [])
  parts-more mid new i d made row lt so_far one =
      let t = part_term ts (run_parts ts [] (take i items)) (get_or items i d) in
      let is : run_parts ts [] (take (i + 1) items) ≡ run_parts ts [] (take i items) ++ t ∷ [] = ap (run_parts ts []) (take_more items i d lt) ∙ run-push ts [] (take i items) (get_or items i d) in
      record {
        grows = subst (Grows old new) (sym is) (Grows-more old mid new (run_parts ts [] (take i items)) (t ∷ []) so_far.grows one.grows);
        shows = subst (ShowRows new.nodes (made ++ row ∷ [])) (sym is)
            (ShowRows-push new.nodes row t made (run_parts ts [] (take i items)) (ShowRows-kept mid new one.grows.kept made (run_parts ts [] (take i items)) so_far.shows) one.row_is);
      }

  -- a part that stops, stops all
  pub parts-stop : (mid : Table) (i : ℕ) (d : Part) (made : List Row) (all : List Term) (stop : Stop) → i < length items → all ≡ run_parts ts [] items → MadeParts old mid ts (take i items) made
      → StopsAt mid (part_term ts (run_parts ts [] (take i items)) (get_or items i d) ∷ []) stop → StopsAt old all stop
  parts-stop mid i d made all stop lt is so_far stops =
      let t = part_term ts (run_parts ts [] (take i items)) (get_or items i d) in
      let rest = run-rest ts [] items i d lt in
      StopsAt-more old mid (run_parts ts [] (take i items)) (t ∷ []) rest.0 all stop so_far.grows (is ∙ rest.1) stops

-- the row of a gate is that of the last part, or of the first pin where there is none
pub gate-made : (kind : GateKind) (old new : Table) (ts : List Term) (pins made : List Row) (items : List Part) (parts : List Part) → run_parts ts [] items ≡ gate_parts kind ts → parts ≡ items
    → ShowRows old.nodes pins ts → MadeParts old new ts parts made
    → MadeRow old new (gate_parts kind ts) (gate_term kind ts) (cond (length made == 0) (row_at pins 0) (row_at made (length made - 1)))
gate-made kind old new ts pins made items parts is all show so_far =
    let same : run_parts ts [] parts ≡ gate_parts kind ts = ap (run_parts ts []) all ∙ is in
    let shows : ShowRows new.nodes made (gate_parts kind ts) = subst (ShowRows new.nodes made) same so_far.shows in
    let kept = ShowRows-kept old new so_far.grows.kept pins ts show in
    record {
      grows = subst (Grows old new) same so_far.grows;
      row_is = subst (IsRowOf new.nodes (cond (length made == 0) (row_at pins 0) (row_at made (length made - 1)))) (sym (gate-last kind ts))
          (subst (λ n. IsRowOf new.nodes (cond (length made == 0) (row_at pins 0) (row_at made (length made - 1))) (cond (n == 0) (get_or ts 0 Zero) (get_or (gate_parts kind ts) (n - 1) Zero))) shows.one_each
          (by (length made == 0) (kept.each 0) (shows.each (length made - 1))));
    }
  where
    by : (b : Bool) → IsRowOf new.nodes (row_at pins 0) (get_or ts 0 Zero) → IsRowOf new.nodes (row_at made (length made - 1)) (get_or (gate_parts kind ts) (length made - 1) Zero)
        → IsRowOf new.nodes (cond b (row_at pins 0) (row_at made (length made - 1))) (cond b (get_or ts 0 Zero) (get_or (gate_parts kind ts) (length made - 1) Zero))
    by true a b = a
    by false a b = b

module _ (kind : GateKind) (old new : Table) (ts : List Term) (pins made : List Row) (items parts : List Part) (is : run_parts ts [] items ≡ gate_parts kind ts) (all : parts ≡ items)
    (show : ShowRows old.nodes pins ts) (so_far : MadeParts old new ts parts made) where
  pub gate-none : length made ≡ 0 → MadeRow old new (gate_parts kind ts) (gate_term kind ts) (row_at pins 0)
  gate-none none =
      subst (MadeRow old new (gate_parts kind ts) (gate_term kind ts)) (cond-true (length made == 0) (row_at pins 0) (row_at made (length made - 1)) (eq-eqb (length made) 0 none))
      (gate-made kind old new ts pins made items parts is all show so_far)

  pub gate-some : (length made ≡ 0 → ⊥) → MadeRow old new (gate_parts kind ts) (gate_term kind ts) (row_at made (length made - 1))
  gate-some some =
      subst (MadeRow old new (gate_parts kind ts) (gate_term kind ts)) (cond-false (length made == 0) (row_at pins 0) (row_at made (length made - 1)) (ne_eqb (length made) 0 some))
      (gate-made kind old new ts pins made items parts is all show so_far)
