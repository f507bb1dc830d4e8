use Rattle.std.proofs.Common.{◌≡◌, ◌∷◌, [], sym, ap, ◌∙◌, refl, arith}
use Rattle.expr_table.specs.Table.{has, node_at, sides}
use Rattle.once_random.proofs.Facts.{has_first, has_later}
use Rattle.live_rows.specs.Losing.{freed}
use Rattle.live_rows.specs.Marks.{mark_at}
use Rattle.live_rows.proofs.Dropping.{loses_none}
use Rattle.live_rows.proofs.Freeing.{gate_sides, no_sides, taken_cut, taken_none, taken_read, taken_freed}
use Rattle.live_rows.proofs.cut.drop_row.Goals as goal

pub returns-then-marks-row-clause-counted : goal.returns-then-marks-row-clause-counted
returns-then-marks-row-clause-counted g c =
    taken_cut (g.S.Looks.nodes c.args.source.now) c.args.marks.now c.args.lost.now.numbers c.args.row.0 c.requires.taken c.if-marks-row.true

pub drop_sides-requires-clause-first : goal.drop_sides-requires-clause-first
drop_sides-requires-clause-first g c =
    let are : sides (node_at (g.S.Looks.nodes c.args.source.now) c.args.row.0) ≡ c.in-And.a.0 ∷ c.in-And.b.0 ∷ [] =
    sym (ap sides c.look.ensures.node) ∙ gate_sides c.look.result c.in-And.a c.in-And.b c.in-And.is in
    taken_read (g.S.Looks.nodes c.args.source.now) c.args.marks.now c.args.lost.now.numbers c.args.row.0 c.requires.taken c.if-marks-row.false c.requires.lower c.in-And.a.0
    (ap (λ l. has l c.in-And.a.0) are ∙ has_first c.in-And.a.0 (c.in-And.b.0 ∷ []))

pub drop_sides-requires-clause-second : goal.drop_sides-requires-clause-second
drop_sides-requires-clause-second g c =
    let are : sides (node_at (g.S.Looks.nodes c.args.source.now) c.args.row.0) ≡ c.in-And.a.0 ∷ c.in-And.b.0 ∷ [] =
    sym (ap sides c.look.ensures.node) ∙ gate_sides c.look.result c.in-And.a c.in-And.b c.in-And.is in
    taken_read (g.S.Looks.nodes c.args.source.now) c.args.marks.now c.args.lost.now.numbers c.args.row.0 c.requires.taken c.if-marks-row.false c.requires.lower c.in-And.b.0
    (ap (λ l. has l c.in-And.b.0) are ∙ has_later c.in-And.a.0 c.in-And.b.0 (c.in-And.b.0 ∷ []) (has_first c.in-And.b.0 []))

pub returns-in_default : goal.returns-in_default
returns-in_default g c = record {
  counted = taken_none (g.S.Looks.nodes c.args.source.now) c.args.marks.now c.args.lost.now.numbers c.args.row.0 c.requires.taken
      (sym (ap sides c.look.ensures.node) ∙ no_sides c.look.result c.in_default.not-And c.in_default.not-Xor);
  losing = c.requires.losing;
  loses = loses_none c.args.marks.now c.args.alone.now.numbers;
  held = refl;
  cost = omega (arith, c.look.ensures.cost);
}

pub returns-in-And-clause-counted : goal.returns-in-And-clause-counted
returns-in-And-clause-counted g c =
    let are : sides (node_at (g.S.Looks.nodes c.args.source.now) c.args.row.0) ≡ c.in-And.a.0 ∷ c.in-And.b.0 ∷ [] =
    sym (ap sides c.look.ensures.node) ∙ gate_sides c.look.result c.in-And.a c.in-And.b c.in-And.is in
    taken_freed (g.S.Looks.nodes c.args.source.now) c.args.marks.now c.args.lost.now.numbers c.args.row.0 c.requires.taken c.if-marks-row.false
    c.drop_sides.new.marks c.drop_sides.new.lost.numbers c.args.alone.now.numbers c.drop_sides.new.alone.numbers
    (λ r. c.drop_sides.ensures.marks r ∙ ap (λ l. freed (has l r) c.args.row.0 (mark_at c.args.marks.now r)) (sym are))
    c.drop_sides.ensures.loses c.drop_sides.ensures.held
