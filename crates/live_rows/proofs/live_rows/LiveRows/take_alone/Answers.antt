use Rattle.std.proofs.Common.{◌≡◌, ◌<◌, ◌∙◌, true, [], MatchOption, length, refl, sym, ap, subst}
use Rattle.expr_table.specs.declared.node.Row.{Row}
use Rattle.live_rows.specs.Marks.{mark_at, is_spare}
use Rattle.live_rows.specs.State.{State, IsQueue}
use Rattle.live_rows.proofs.Cleared.{rested_kept, queue_taken, queue_same, taken_spare}
use Rattle.live_rows.proofs.live_rows.LiveRows.take_alone.Goals as goal
use Rattle.live_rows.proofs.live_rows.LiveRows.take_alone.Goals.{in-Some, in-None}

pub invariant_of-self : goal.invariant_of-self
invariant_of-self c =
    let kept = c.self.invariant.0 in
    let queue : IsQueue c.self.inside.marks.items c.pop.new.self.numbers =
    elim c.match-pop.branch [
      | in-Some w ↦ queue_taken c.self.inside.marks.items c.self.inside.alone.numbers c.pop.new.self.numbers _ kept.queue w.in-Some.ensures.last
      | in-None w ↦ queue_same c.self.inside.marks.items c.self.inside.alone.numbers c.pop.new.self.numbers kept.queue w.in-None.ensures.last.0 w.in-None.ensures.last.1
    ] in (
      record { few = kept.few; found = kept.found; queue = queue },
      rested_kept (length c.self.inside.marks.items) c.self.inside.found c.self.inside.alone c.self.inside.lost c.self.inside.counted c.self.inside.leaves.items c.self.invariant.1
          (length c.self.inside.marks.items) c.self.inside.found c.pop.new.self refl refl c.pop.ensures.room,
    )

pub returns-clause-spare : goal.returns-clause-spare
returns-clause-spare c =
    let kept = c.self.invariant.0 in
    elim c.match-pop.branch [
      | in-Some w ↦
          subst (λ o. MatchOption o (c.args.self.now.alone ≡ []) (λ (row : Row). (row.0 < length c.self.inside.marks.items) × (is_spare (mark_at c.self.inside.marks.items row.0) ≡ true))) (sym w.result-is)
          (taken_spare c.self.inside.marks.items c.self.inside.alone.numbers c.pop.new.self.numbers _ kept.queue w.in-Some.ensures.last)
      | in-None w ↦
          subst (λ o. MatchOption o (c.args.self.now.alone ≡ []) (λ (row : Row). (row.0 < length c.self.inside.marks.items) × (is_spare (mark_at c.self.inside.marks.items row.0) ≡ true))) (sym w.result-is)
          (sym (ap (λ (s : State). s.alone) c.self.view_is) ∙ w.in-None.ensures.last.0)
    ]
