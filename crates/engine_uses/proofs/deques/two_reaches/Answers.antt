use Rattle.std.proofs.Common.{◌≡◌, List, [], ◌∷◌, ◌++◌, All, length, map, sym, ap, ◌∙◌, subst, arith, length-append}
use Rattle.std.specs.List.{range_with_len}
use Rattle.std.proofs.lemmas.List.{length-map}
use Rattle.std.proofs.lemmas.List.FromFn.{length-range_with_len}
use Rattle.std.proofs.lemmas.List.Elements.{All-head, All-tail}
use Rattle.deque_reach.specs.declared.deques.Deques.{Deques}
use Rattle.deque_reach.specs.declared.reach.Reach.{Reach}
use Rattle.deque_reach.specs.Reaches.{deques_of, IsReachOf, AreReachesOf}
use Rattle.deque_reach.proofs.Weights.{nil_of}
use Rattle.engine_uses.proofs.deques.two_reaches.Goals as goal

-- the last of two reaches, and the one before it
both : (d : Deques) (all most rest : List Reach) (one other : Reach) → all ≡ most ++ other ∷ [] → most ≡ rest ++ one ∷ [] → length (deques_of d) ≡ 2 → AreReachesOf d all
    → (IsReachOf d one × (one.number ≡ 0)) × (IsReachOf d other × (other.number ≡ 1))
both d all most rest one other last before two are =
    let is : all ≡ (rest ++ one ∷ []) ++ other ∷ [] = last ∙ ap (λ l. l ++ other ∷ []) before in
    let count : length all ≡ 2 = sym (length-map all (λ r. r.number)) ∙ ap length are.all ∙ length-range_with_len 0 (length (deques_of d)) ∙ two in
    let none : rest ≡ [] = nil_of rest (omega (arith, ap length is, length-append (rest ++ one ∷ []) (other ∷ []), length-append rest (one ∷ []))) in
    let pair : all ≡ one ∷ other ∷ [] = is ∙ ap (λ l. (l ++ one ∷ []) ++ other ∷ []) none in
    let each : All (IsReachOf d) (one ∷ other ∷ []) = subst (All (IsReachOf d)) pair are.each in
    let numbers : one.number ∷ other.number ∷ [] ≡ 0 ∷ 1 ∷ [] = sym (ap (map (λ r. r.number)) pair) ∙ are.all ∙ ap (range_with_len 0) two in
    let first : one.number ≡ 0 = cc in
    let second : other.number ≡ 1 = cc in
    ((All-head (IsReachOf d) one (other ∷ []) each, first), (All-head (IsReachOf d) other [] (All-tail (IsReachOf d) one (other ∷ []) each), second))

pub returns-clause-one : goal.returns-clause-one
returns-clause-one c = (both c.in_ok-deques.deques c.in_ok-deques.reaches.items _ _ c.in-Some-Some.one c.in-Some-Some.other c.in-Some-Some.ensures.items c.in-Some-Some.ensures'.items c.in_ok-deques.ensures.workers c.in_ok-deques.ensures.reaches).0

pub returns-clause-other : goal.returns-clause-other
returns-clause-other c = (both c.in_ok-deques.deques c.in_ok-deques.reaches.items _ _ c.in-Some-Some.one c.in-Some-Some.other c.in-Some-Some.ensures.items c.in-Some-Some.ensures'.items c.in_ok-deques.ensures.workers c.in_ok-deques.ensures.reaches).1
