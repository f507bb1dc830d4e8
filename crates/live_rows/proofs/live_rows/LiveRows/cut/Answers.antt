use Rattle.std.proofs.Common.{◌≡◌, ◌+◌, ◌<◌, ◌≤◌, ◌^◌, ◌∙◌, ◌∷◌, ◌++◌, [], length, take, drop, sym, ap, subst, arith}
use Rattle.expr_table.specs.Table.{has, sides}
use Rattle.once_random.proofs.Facts.{has_first, has_later}
use Rattle.live_rows.specs.Lists.{Held, none_held, with_added}
use Rattle.live_rows.specs.Losing.{marked_live}
use Rattle.live_rows.specs.Marks.{mark_at, queued_count}
use Rattle.live_rows.specs.Shown.{Shows}
use Rattle.live_rows.specs.State.{State, IsState, IsRested}
use Rattle.live_rows.proofs.Begun.{written}
use Rattle.live_rows.proofs.Cutting.{touched_in, cut_read, left_counted, found_live, cut_made, IsCutOnce}
use Rattle.live_rows.proofs.Marks.{queued_few}
use Rattle.live_rows.proofs.live_rows.LiveRows.cut.Goals as goal

pub leave_sides-requires-clause-first : goal.leave_sides-requires-clause-first
leave_sides-requires-clause-first g c l =
    let nodes = g.S.Looks.nodes c.args.source.now in
    let old = c.args.self.now.marks in
    let items_are = ap (λ (s : State). s.marks) c.self.view_is in
    let touched = touched_in old c.self.inside.marks.items c.as_mut_slice-marks.result.now c.touch.new.marks c.args.row.0 items_are c.as_mut_slice-marks.ensures.value c.touch.ensures.marks in
    cut_read nodes c.requires.lower old c.touch.new.marks c.args.row.0 c.requires.within c.requires.shown c.requires.uncut touched l c.args.a.0
    (ap (λ n. has (sides n) c.args.a.0) c.requires.xor ∙ has_first c.args.a.0 (c.args.b.0 ∷ []))

pub leave_sides-requires-clause-second : goal.leave_sides-requires-clause-second
leave_sides-requires-clause-second g c l =
    let nodes = g.S.Looks.nodes c.args.source.now in
    let old = c.args.self.now.marks in
    let items_are = ap (λ (s : State). s.marks) c.self.view_is in
    let touched = touched_in old c.self.inside.marks.items c.as_mut_slice-marks.result.now c.touch.new.marks c.args.row.0 items_are c.as_mut_slice-marks.ensures.value c.touch.ensures.marks in
    cut_read nodes c.requires.lower old c.touch.new.marks c.args.row.0 c.requires.within c.requires.shown c.requires.uncut touched l c.args.b.0
    (ap (λ n. has (sides n) c.args.b.0) c.requires.xor ∙ has_later c.args.a.0 c.args.b.0 (c.args.b.0 ∷ []) (has_first c.args.b.0 []))

pub drop_lost-requires-clause-counted : goal.drop_lost-requires-clause-counted
drop_lost-requires-clause-counted g c =
    let nodes = g.S.Looks.nodes c.args.source.now in
    let old = c.args.self.now.marks in
    let items_are = ap (λ (s : State). s.marks) c.self.view_is in
    let touched = touched_in old c.self.inside.marks.items c.as_mut_slice-marks.result.now c.touch.new.marks c.args.row.0 items_are c.as_mut_slice-marks.ensures.value c.touch.ensures.marks in
    left_counted nodes c.requires.lower old c.touch.new.marks c.args.row.0 c.requires.within c.requires.shown c.requires.uncut touched
    c.args.a.0 c.args.b.0 (ap sides c.requires.xor) c.leave_sides.new.marks c.self.inside.alone.numbers c.leave_sides.new.alone.numbers c.self.inside.lost.numbers c.leave_sides.new.lost.numbers
    (ap (λ (h : Held). h.numbers) c.self.invariant.1.no_lost) c.leave_sides.ensures.counts c.leave_sides.ensures.cuts c.leave_sides.ensures.held

pub invariant_of-self : goal.invariant_of-self
invariant_of-self g c =
    let nodes = g.S.Looks.nodes c.args.source.now in
    let old = c.args.self.now.marks in
    let items = c.self.inside.marks.items in
    let items_are = ap (λ (s : State). s.marks) c.self.view_is in
    let touched = touched_in old c.self.inside.marks.items c.as_mut_slice-marks.result.now c.touch.new.marks c.args.row.0 items_are c.as_mut_slice-marks.ensures.value c.touch.ensures.marks in
    let is : IsCutOnce nodes c.args.row.0 old c.drop_lost.new.marks c.touch.new.found.numbers c.self.inside.alone.numbers c.drop_lost.new.alone.numbers
    (marked_live c.leave_sides.new.marks + length c.leave_sides.new.lost.numbers) =
    cut_made nodes c.requires.lower old c.touch.new.marks c.args.row.0 c.requires.within c.requires.shown c.requires.uncut touched
    c.args.a.0 c.args.b.0 (ap sides c.requires.xor) c.leave_sides.new.marks c.self.inside.alone.numbers c.leave_sides.new.alone.numbers c.self.inside.lost.numbers c.leave_sides.new.lost.numbers
    (ap (λ (h : Held). h.numbers) c.self.invariant.1.no_lost) c.leave_sides.ensures.counts c.leave_sides.ensures.cuts c.leave_sides.ensures.held
    c.drop_lost.new.marks c.drop_lost.new.alone.numbers c.touch.new.found.numbers c.drop_lost.ensures.loses c.drop_lost.ensures.counted c.touch.ensures.kept in
    let rows : length c.drop_lost.new.marks ≡ length items = is.rows ∙ sym (ap length items_are) in
    let back : take c.self.inside.marks.len (c.drop_lost.new.marks ++ drop (length c.drop_lost.new.marks) items) ≡ c.drop_lost.new.marks =
    written items c.drop_lost.new.marks c.self.inside.marks.len (omega arith) (omega arith) in
    let few : length items < 2 ^ 32 = c.self.invariant.0.few in
    let rest = c.self.invariant.1 in
    let found_room : c.touch.new.found.room ≡ length c.drop_lost.new.marks = ap (λ (h : Held). h.room) c.touch.ensures.found ∙ rest.found_room ∙ sym rows in
    subst (λ ms. IsState (record { marks = ms; found = c.touch.new.found.numbers; alone = c.drop_lost.new.alone.numbers })
    × IsRested (length ms) c.touch.new.found c.drop_lost.new.alone c.drop_lost.new.lost c.self.inside.counted c.self.inside.leaves.items) (sym back) (
      record { few = omega arith; found = is.listed; queue = c.drop_lost.ensures.losing.queue },
      record {
        found_room = found_room;
        alone_room = c.drop_lost.ensures.losing.alone_room;
        no_lost = (λ i. record { room = c.drop_lost.ensures.losing.lost_room i; numbers = c.drop_lost.ensures.none i });
        no_counted = rest.no_counted ∙ ap none_held (sym rows);
        leaves_len = rest.leaves_len ∙ sym rows;
        no_leaves = rest.no_leaves;
      },
    )

pub returns : goal.returns
returns g c =
    let nodes = g.S.Looks.nodes c.args.source.now in
    let old = c.args.self.now.marks in
    let items = c.self.inside.marks.items in
    let items_are = ap (λ (s : State). s.marks) c.self.view_is in
    let touched = touched_in old c.self.inside.marks.items c.as_mut_slice-marks.result.now c.touch.new.marks c.args.row.0 items_are c.as_mut_slice-marks.ensures.value c.touch.ensures.marks in
    let is : IsCutOnce nodes c.args.row.0 old c.drop_lost.new.marks c.touch.new.found.numbers c.self.inside.alone.numbers c.drop_lost.new.alone.numbers
    (marked_live c.leave_sides.new.marks + length c.leave_sides.new.lost.numbers) =
    cut_made nodes c.requires.lower old c.touch.new.marks c.args.row.0 c.requires.within c.requires.shown c.requires.uncut touched
    c.args.a.0 c.args.b.0 (ap sides c.requires.xor) c.leave_sides.new.marks c.self.inside.alone.numbers c.leave_sides.new.alone.numbers c.self.inside.lost.numbers c.leave_sides.new.lost.numbers
    (ap (λ (h : Held). h.numbers) c.self.invariant.1.no_lost) c.leave_sides.ensures.counts c.leave_sides.ensures.cuts c.leave_sides.ensures.held
    c.drop_lost.new.marks c.drop_lost.new.alone.numbers c.touch.new.found.numbers c.drop_lost.ensures.loses c.drop_lost.ensures.counted c.touch.ensures.kept in
    let rows : length c.drop_lost.new.marks ≡ length items = is.rows ∙ sym (ap length items_are) in
    let back : take c.self.inside.marks.len (c.drop_lost.new.marks ++ drop (length c.drop_lost.new.marks) items) ≡ c.drop_lost.new.marks =
    written items c.drop_lost.new.marks c.self.inside.marks.len (omega arith) (omega arith) in
    let found : c.touch.new.found.numbers ≡ with_added c.self.inside.found.numbers c.args.row.0 = ap (λ (h : Held). h.numbers) c.touch.ensures.found in
    let alone : c.args.self.now.alone ≡ c.self.inside.alone.numbers = sym (ap (λ (s : State). s.alone) c.self.view_is) in
    record {
      shows = λ roots cuts shows. subst (Shows nodes roots (c.args.row.0 ∷ cuts)) (sym back) (is.shows roots cuts shows);
      found = found ∙ ap (λ (s : State). with_added s.found c.args.row.0) c.self.view_is;
      kept_found = λ l. found
          ∙ found_live items c.self.inside.found.numbers c.self.invariant.0.found c.args.row.0 (ap (λ (s : State). (mark_at s.marks c.args.row.0).live) c.self.view_is ∙ l)
          ∙ ap (λ (s : State). s.found) c.self.view_is;
      alone = λ row h. is.alone row (ap (λ xs. has xs row) (sym alone) ∙ h);
      served = is.served;
      queued = (λ i. queued_count (back i) + length (alone i)) ∙ is.queued;
      few = subst (λ ms. queued_count ms ≤ length c.touch.new.found.numbers) (sym back) (queued_few c.drop_lost.new.marks c.touch.new.found.numbers is.listed);
      cost = λ roots cuts shows. is.cost roots cuts shows c.args.steps.now c.drop_lost.new.steps c.drop_lost.ensures.cost;
    }
