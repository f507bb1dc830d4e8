use Rattle.std.proofs.Common.{◌≡◌, ◌<◌, true, length, ap, ◌∙◌, sym, subst}
use Rattle.std.proofs.lemmas.List.{get_or_read}
use Rattle.live_rows.specs.declared.mark.Mark.{Mark}
use Rattle.live_rows.specs.Marks.{mark_at, empty_mark}
use Rattle.live_rows.specs.State.{State}
use Rattle.once_random.specs.Live.{is_live_parent, live_parents}
use Rattle.live_rows.proofs.OnlyParent.{one_parent}
use Rattle.live_rows.proofs.live_rows.LiveRows.only_parent.Goals as goal

pub returns-then-mark-eq1 : goal.returns-then-mark-eq1
returns-then-mark-eq1 c nodes roots cuts shows =
    let within : c.args.row.0 < length c.self.inside.marks.items = subst (λ (s : State). c.args.row.0 < length s.marks) (sym c.self.view_is) c.requires in
    let is : c.index-mark.result.now ≡ mark_at c.args.self.now.marks c.args.row.0 =
    get_or_read c.self.inside.marks.items c.args.row.0 c.index-mark.result.now within c.index-mark.ensures empty_mark ∙ ap (λ (s : State). mark_at s.marks c.args.row.0) c.self.view_is in
    let one : (mark_at c.args.self.now.marks c.args.row.0).parents ≡ 1 = sym (ap (λ (m : Mark). m.parents) is) ∙ c.if-mark-eq1.true in
    let h = one_parent nodes roots cuts c.args.self.now.marks shows c.args.row.0 one in
    subst (λ (m : Mark). (live_parents nodes roots cuts c.args.row.0 ≡ 1) × (m.mixed < length nodes) × (is_live_parent nodes roots cuts c.args.row.0 m.mixed ≡ true)) (sym is) h
