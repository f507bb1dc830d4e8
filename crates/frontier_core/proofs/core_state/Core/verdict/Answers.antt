use Rattle.std.proofs.Common.{◌≡◌, ◌≤◌, ◌∙◌, All, [], ap, sym, subst}
use Rattle.probe_family.specs.declared.ending.Ended.{Ended}
use Rattle.probe_family.specs.Families.{total_take}
use Rattle.frontier_core.specs.Answer.{IsFailedTuple, IsLeast}
use Rattle.frontier_core.specs.Balance.{failed_ranks}
use Rattle.frontier_core.specs.Preorder.{IsWhole}
use Rattle.frontier_core.proofs.Verdicts.{ended_small, failed_first, is_whole, none_first}
use Rattle.frontier_core.proofs.core_state.Core.verdict.Goals as goal

pub in_preorder-requires : goal.in_preorder-requires
in_preorder-requires c =
    let none : failed_ranks c.args.self.ended ≡ [] = ap (λ s. failed_ranks s.ended) (sym c.self.view_is) ∙ (sym c.self.invariant ∙ (sym c.deref.ensures.value ∙ c.in_default.ensures)) in (
      c.requires.search.0,
      c.requires.search.1,
      subst (λ s. IsWhole c.requires.search.0 c.requires.search.1 s.roots s.ended) (sym c.self.view_is) (is_whole c.requires.search.0 c.requires.search.1 c.args.self c.requires.search.2 c.requires.idle none),
    )

pub returns-in_default : goal.returns-in_default
returns-in_default c x t search =
    let none : failed_ranks c.args.self.ended ≡ [] = ap (λ s. failed_ranks s.ended) (sym c.self.view_is) ∙ (sym c.self.invariant ∙ (sym c.deref.ensures.value ∙ c.in_default.ensures)) in (
      none_first x t c.args.self search c.requires.idle none,
      c.in_ok-in_preorder.ensures x t (subst (λ s. IsWhole x t s.roots s.ended) (sym c.self.view_is) (is_whole x t c.args.self search c.requires.idle none)),
    )

pub failed_tuple-requires : goal.failed_tuple-requires
failed_tuple-requires c =
    subst (All (λ (e : Ended). total_take e.family.parts ≤ 8)) (ap (λ s. s.ended) (sym c.self.view_is) ∙ sym c.deref-2.ensures.value)
    (ended_small c.requires.search.0 c.requires.search.1 c.args.self c.requires.search.2 c.requires.idle)

pub returns : goal.returns
returns c x t search =
    failed_first x t c.args.self search c.requires.idle c.in-Some.rank c.in-Some-failed_tuple.tuple.items
    (subst (λ ranks. IsLeast ranks c.in-Some.rank) (c.deref.ensures.value ∙ (c.self.invariant ∙ ap (λ s. failed_ranks s.ended) c.self.view_is)) c.in-Some.ensures)
    (subst (λ ended. IsFailedTuple ended c.in-Some.rank c.in-Some-failed_tuple.tuple.items) (c.deref-2.ensures.value ∙ ap (λ s. s.ended) c.self.view_is) c.in-Some-failed_tuple.ensures)
