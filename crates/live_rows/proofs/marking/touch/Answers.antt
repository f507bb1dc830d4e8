use Rattle.std.proofs.Common.{◌<◌, true, length, set, refl, sym, subst, arith}
use Rattle.std.proofs.lemmas.Bool.{not-true}
use Rattle.live_rows.specs.declared.mark.Mark.{Mark}
use Rattle.live_rows.specs.Lists.{Held}
use Rattle.live_rows.specs.Marks.{mark_at}
use Rattle.live_rows.specs.State.{IsFound}
use Rattle.live_rows.proofs.Marks.{found_room, found_more}
use Rattle.live_rows.proofs.marking.touch.Goals as goal

pub push-requires : goal.push-requires
push-requires c =
    let room : length c.args.found.now.numbers < length c.args.marks.now =
    found_room c.args.marks.now c.args.found.now.numbers c.requires.found c.args.row.0 c.requires.within (not-true _ c.if-not-mark.true) in
    omega arith

pub returns-then-not-mark-clause-kept : goal.returns-then-not-mark-clause-kept
returns-then-not-mark-clause-kept c =
    let mark : Mark = record (mark_at c.args.marks.now c.args.row.0) { touched = true } in
    subst (λ (h : Held). IsFound (set c.args.marks.now c.args.row.0 mark) h.numbers) (sym c.push.ensures)
    (found_more c.args.marks.now c.args.found.now.numbers c.args.row.0 mark c.requires.found c.requires.within (not-true _ c.if-not-mark.true) refl)
