use Rattle.std.proofs.Common.{◌≡◌, ◌+◌, ◌<◌, ◌≤◌, ◌^◌, ◌∙◌, ◌++◌, ℕ, [], length, take, drop, sym, ap, subst, arith}
use Rattle.expr_table.specs.Table.{has}
use Rattle.bit_rows.specs.Sets.{members}
use Rattle.once_random.specs.Tuples.{roots_over}
use Rattle.live_rows.specs.Marks.{mark_at, empty_mark, queued_count}
use Rattle.live_rows.specs.Shown.{Shows}
use Rattle.live_rows.specs.Spread.{rooted}
use Rattle.live_rows.specs.State.{State, IsState, IsRested}
use Rattle.live_rows.proofs.Begun.{IsBegun, begun, written, none_looked}
use Rattle.live_rows.proofs.Cleared.{rested_kept}
use Rattle.live_rows.proofs.Marks.{queued_few}
use Rattle.live_rows.proofs.live_rows.LiveRows.begin.Goals as goal

pub spread-requires-clause-start : goal.spread-requires-clause-start
spread-requires-clause-start g c =
    let nodes = g.S.Looks.nodes c.args.source.now in
    let roots = roots_over c.args.probes.now (members c.args.chosen.now) in
    let rows : length c.self.inside.marks.items ≡ length nodes = ap (λ (s : State). length s.marks) c.self.view_is ∙ c.requires.rows in
    let start : (r : ℕ) → mark_at c.as_mut_slice-marks.result.now r ≡ empty_mark = λ r. ap (λ ms. mark_at ms r) c.as_mut_slice-marks.ensures.value ∙ ap (λ (s : State). mark_at s.marks r) c.self.view_is ∙ c.requires.clear.marks r in
    none_looked nodes roots c.mark_roots.new.marks c.mark_roots.new.found.numbers (omega arith) c.mark_roots.ensures.found
    (λ r. c.mark_roots.ensures.marks r ∙ ap (rooted (has roots r)) (start r))

pub invariant_of-self : goal.invariant_of-self
invariant_of-self g c =
    let nodes = g.S.Looks.nodes c.args.source.now in
    let roots = roots_over c.args.probes.now (members c.args.chosen.now) in
    let items = c.self.inside.marks.items in
    let rows : length items ≡ length nodes = ap (λ (s : State). length s.marks) c.self.view_is ∙ c.requires.rows in
    let start : (r : ℕ) → mark_at c.as_mut_slice-marks.result.now r ≡ empty_mark = λ r. ap (λ ms. mark_at ms r) c.as_mut_slice-marks.ensures.value ∙ ap (λ (s : State). mark_at s.marks r) c.self.view_is ∙ c.requires.clear.marks r in
    let is : IsBegun nodes roots c.offer_all.new.marks c.spread.new.found.numbers c.offer_all.new.alone.numbers =
    begun nodes roots c.mark_roots.new.marks c.spread.new.marks c.offer_all.new.marks c.mark_roots.new.found.numbers c.spread.new.found.numbers c.offer_all.new.alone.numbers c.requires.lower
    (omega arith) c.mark_roots.ensures.found (λ r. c.mark_roots.ensures.marks r ∙ ap (rooted (has roots r)) (start r)) c.spread.ensures.spread
    (omega arith) c.offer_all.ensures.marks c.offer_all.ensures.alone c.offer_all.ensures.queue in
    let same : take c.self.inside.marks.len (c.offer_all.new.marks ++ drop (length c.offer_all.new.marks) items) ≡ c.offer_all.new.marks =
    written items c.offer_all.new.marks c.self.inside.marks.len (omega arith) (omega arith) in
    let few : length items < 2 ^ 32 = c.self.invariant.0.few in
    subst (λ ms. IsState (record { marks = ms; found = c.spread.new.found.numbers; alone = c.offer_all.new.alone.numbers })
    × IsRested (length ms) c.spread.new.found c.offer_all.new.alone c.self.inside.lost c.self.inside.counted c.self.inside.leaves.items) (sym same) (
      record { few = omega arith; found = is.listed; queue = is.queue },
      rested_kept (length items) c.self.inside.found c.self.inside.alone c.self.inside.lost c.self.inside.counted c.self.inside.leaves.items c.self.invariant.1
          (length c.offer_all.new.marks) c.spread.new.found c.offer_all.new.alone (omega arith) (c.spread.ensures.room ∙ c.mark_roots.ensures.room) c.offer_all.ensures.room,
    )

pub returns : goal.returns
returns g c =
    let nodes = g.S.Looks.nodes c.args.source.now in
    let roots = roots_over c.args.probes.now (members c.args.chosen.now) in
    let rows : length c.self.inside.marks.items ≡ length nodes = ap (λ (s : State). length s.marks) c.self.view_is ∙ c.requires.rows in
    let start : (r : ℕ) → mark_at c.as_mut_slice-marks.result.now r ≡ empty_mark = λ r. ap (λ ms. mark_at ms r) c.as_mut_slice-marks.ensures.value ∙ ap (λ (s : State). mark_at s.marks r) c.self.view_is ∙ c.requires.clear.marks r in
    let is : IsBegun nodes roots c.offer_all.new.marks c.spread.new.found.numbers c.offer_all.new.alone.numbers =
    begun nodes roots c.mark_roots.new.marks c.spread.new.marks c.offer_all.new.marks c.mark_roots.new.found.numbers c.spread.new.found.numbers c.offer_all.new.alone.numbers c.requires.lower
    (omega arith) c.mark_roots.ensures.found (λ r. c.mark_roots.ensures.marks r ∙ ap (rooted (has roots r)) (start r)) c.spread.ensures.spread
    (omega arith) c.offer_all.ensures.marks c.offer_all.ensures.alone c.offer_all.ensures.queue in
    let same : take c.self.inside.marks.len (c.offer_all.new.marks ++ drop (length c.offer_all.new.marks) c.self.inside.marks.items) ≡ c.offer_all.new.marks =
    written c.self.inside.marks.items c.offer_all.new.marks c.self.inside.marks.len (omega arith) (omega arith) in
    let few : queued_count c.offer_all.new.marks ≤ length c.spread.new.found.numbers = queued_few c.offer_all.new.marks c.spread.new.found.numbers is.listed in
    record {
      shows = subst (Shows nodes roots []) (sym same) is.shown;
      alone = is.serving;
      queued = ap queued_count same ∙ is.queued;
      found = is.count;
      few = subst (λ ms. queued_count ms ≤ length c.spread.new.found.numbers) (sym same) few;
      cost = c.spread.ensures.cost ∙ ap (λ n. c.args.steps.now + n) is.count;
    }
