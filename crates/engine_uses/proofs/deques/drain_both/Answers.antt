use Rattle.std.proofs.Common.{◌≡◌, List, [], ◌∷◌, ◌++◌, length, sym, ap, ◌∙◌, subst}
use Rattle.std.specs.List.{range_with_len}
use Rattle.std.proofs.lemmas.List.Elements.{All-cons, All-nil}
use Rattle.deque_reach.specs.declared.deques.Deques.{Deques}
use Rattle.deque_reach.specs.declared.reach.Reach.{Reach}
use Rattle.deque_reach.specs.Reaches.{deques_of, IsReachOf, AreReachesOf}
use Rattle.engine_uses.proofs.deques.drain_both.Goals as goal

both : (d : Deques) (none most all : List Reach) (one other : Reach) → none ≡ [] → most ≡ none ++ one ∷ [] → all ≡ most ++ other ∷ [] → length (deques_of d) ≡ 2
    → IsReachOf d one × (one.number ≡ 0) → IsReachOf d other × (other.number ≡ 1) → AreReachesOf d all
both d none most all one other empty first second two a b =
    let pair : all ≡ one ∷ other ∷ [] = second ∙ ap (λ l. l ++ other ∷ []) (first ∙ ap (λ l. l ++ one ∷ []) empty) in
    subst (AreReachesOf d) (sym pair) (record {
      each = All-cons (IsReachOf d) one (other ∷ []) a.0 (All-cons (IsReachOf d) other [] b.0 (All-nil (IsReachOf d)));
      all = (λ i. a.1 i ∷ b.1 i ∷ []) ∙ ap (range_with_len 0) (sym two);
    })

pub drain_deques-requires : goal.drain_deques-requires
drain_deques-requires c = both c.args.deques _ _ _ c.args.one c.args.other c.new-reaches.ensures.items c.in_ok-push.ensures.items c.in_ok-push-2.ensures.items c.requires.count c.requires.one c.requires.other
