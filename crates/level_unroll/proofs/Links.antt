-- How waits are linked. Lists of waits have the latest first, but for those of a queue.
use Rattle.std.proofs.Common.{◌≡◌, ◌<◌, ◌≤◌, ℕ, ◌+◌, ◌-◌, Bool, true, false, ◌==◌, cond, List, [], ◌∷◌, ◌++◌, length, reverse, get_or, refl, sym, ap, ◌∙◌, subst, arith, ⊎_elim}
use Rattle.std.proofs.lemmas.Bool.{cases_lt, eq-eqb, ne_eqb}
use Rattle.std.proofs.lemmas.List.{reverse-append, reverse-reverse, length-reverse, get_or_append_left, get_or_push, length_push}
use Rattle.level_unroll.specs.declared.queue.Queue.{Queue}
use Rattle.level_unroll.specs.declared.queue.Wait.{Wait}
use Rattle.level_unroll.specs.Queue.{cells_from, AreLinked, HasWaits}

from_test : (w : Wait) (ws : List Wait) (number : ℕ) (b : Bool) → (number == length (w ∷ ws)) ≡ b
    → cells_from (w ∷ ws) number ≡ cond b (w.cell ∷ cells_from ws w.earlier) (cells_from ws number)
unfolding cells_from
from_test w ws number b h = ap (λ v. cond v (w.cell ∷ cells_from ws w.earlier) (cells_from ws number)) h

-- a wait that is not the latest
pub from_before : (w : Wait) (ws : List Wait) (number : ℕ) → number ≤ length ws → cells_from (w ∷ ws) number ≡ cells_from ws number
from_before w ws number le = from_test w ws number false (ne_eqb number (length (w ∷ ws)) (λ e. omega arith))

-- the latest wait
pub from_latest : (w : Wait) (ws : List Wait) (number : ℕ) → number ≡ length ws + 1 → cells_from (w ∷ ws) number ≡ w.cell ∷ cells_from ws w.earlier
from_latest w ws number is = from_test w ws number true (eq-eqb number (length (w ∷ ws)) (omega arith))

-- no wait has the number 0
pub from_none : (ws : List Wait) → cells_from ws 0 ≡ []
unfolding cells_from
from_none [] = refl
from_none (w ∷ ws) = from_before w ws 0 (omega arith) ∙ from_none ws

-- the wait at a place, counted from the first one on
wait_in : (ws : List Wait) (n : ℕ) (e : Wait) → AreLinked ws → n < length ws → e ≡ get_or (reverse ws) n e
    → (e.earlier ≤ n) × (cells_from ws (n + 1) ≡ e.cell ∷ cells_from ws e.earlier)
wait_in [] n e linked lt is = absurd (omega arith)
wait_in (w ∷ ws) n e linked lt is =
    let back : reverse (w ∷ ws) ≡ reverse ws ++ w ∷ [] = reverse-append (w ∷ []) ws in
    let size : length (reverse ws) ≡ length ws = length-reverse ws in
    ⊎_elim
    (λ before.
    let same : get_or (reverse (w ∷ ws)) n e ≡ get_or (reverse ws) n e
    = ap (λ (v : List Wait). get_or v n e) back ∙ get_or_append_left (reverse ws) (w ∷ []) e n (omega arith) in
    let h = wait_in ws n e linked.1 before (is ∙ same) in (
      h.0,
      from_before w ws (n + 1) (omega arith) ∙ (h.1 ∙ ap (λ v. e.cell ∷ v) (sym (from_before w ws e.earlier (omega (arith, h.0))))),
    ))
    (λ last.
    let here : n ≡ length ws = omega arith in
    let same : e ≡ w = is ∙ (ap (λ (v : List Wait). get_or v n e) back ∙ get_or_push (reverse ws) w e n (omega arith)) in
    let link : e.earlier ≡ w.earlier = ap (λ (v : Wait). v.earlier) same in
    let le : w.earlier ≤ length ws = linked.0 in (
      omega arith,
      from_latest w ws (n + 1) (omega arith)
          ∙ (ap (λ v. w.cell ∷ v) (sym (from_before w ws w.earlier le)) ∙ ap (λ (v : Wait). v.cell ∷ cells_from (w ∷ ws) v.earlier) (sym same)),
    ))
    (cases_lt n (length ws))

-- the wait with a number, of the waits of a queue
pub wait_at : (es : List Wait) (number : ℕ) (e : Wait) → AreLinked (reverse es) → 0 < number → number ≤ length es → e ≡ get_or es (number - 1) e
    → (e.earlier < number) × (cells_from (reverse es) number ≡ e.cell ∷ cells_from (reverse es) e.earlier)
wait_at es number e linked some le is =
    let size : length (reverse es) ≡ length es = length-reverse es in
    let one : number - 1 + 1 ≡ number = omega arith in
    let h = wait_in (reverse es) (number - 1) e linked (omega arith) (is ∙ ap (λ (v : List Wait). get_or v (number - 1) e) (sym (reverse-reverse es))) in
    (omega (arith, h.0), ap (cells_from (reverse es)) (sym one) ∙ h.1)

-- one wait more
pub more_linked : (es : List Wait) (w : Wait) → AreLinked (reverse es) → w.earlier ≤ length es → AreLinked (reverse (es ++ w ∷ []))
more_linked es w linked le =
    let size : length (reverse es) ≡ length es = length-reverse es in
    let front : AreLinked (w ∷ reverse es) = (omega arith, linked) in
    subst AreLinked (sym (reverse-append es (w ∷ []))) front

pub more_waits : (q r : Queue) (w : Wait) → r.waits.items ≡ q.waits.items ++ w ∷ [] → HasWaits q r
more_waits q r w waits number le =
    let back : reverse r.waits.items ≡ w ∷ reverse q.waits.items = ap reverse waits ∙ reverse-append q.waits.items (w ∷ []) in
    let size : length (reverse q.waits.items) ≡ length q.waits.items = length-reverse q.waits.items in
    let more : length r.waits.items ≡ length q.waits.items + 1 = ap length waits ∙ length_push q.waits.items w in (
      omega arith,
      ap (λ (ws : List Wait). cells_from ws number) back ∙ from_before w (reverse q.waits.items) number (omega arith),
    )
