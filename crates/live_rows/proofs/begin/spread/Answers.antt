use Rattle.std.proofs.Common.{◌≡◌, ◌+◌, ◌<◌, ◌≤◌, ◌∙◌, true, length, subst, sym, ap, arith}
use Rattle.expr_table.specs.declared.node.Node.{Node}
use Rattle.expr_table.specs.Table.{node_at, sides, has}
use Rattle.live_rows.specs.Marks.{mark_at}
use Rattle.live_rows.specs.Spread.{IsSpread, noted}
use Rattle.live_rows.specs.State.{IsFound}
use Rattle.live_rows.proofs.Numbers.{length_within}
use Rattle.live_rows.proofs.Marks.{found_within}
use Rattle.live_rows.proofs.Spread.{row, row_below, row_touched, parents_room, one_more_looked}
use Rattle.live_rows.proofs.begin.spread.Goals as goal

pub look-node-requires : goal.look-node-requires
look-node-requires g c =
    let nodes = g.S.Looks.nodes c.args.source.now in
    subst (λ r. r < length nodes) (sym c.get.ensures)
    (row_below nodes c.args.marks.now c.loop-next.marks c.loop-next.found.numbers c.loop-next.next c.loop-next.invariant.spread (omega arith))

pub note-requires-clause-within : goal.note-requires-clause-within
note-requires-clause-within g c =
    let nodes = g.S.Looks.nodes c.args.source.now in
    let below : row nodes c.args.marks.now c.loop-next.marks c.loop-next.found.numbers c.loop-next.next c.loop-next.invariant.spread (omega arith) < length nodes =
    row_below nodes c.args.marks.now c.loop-next.marks c.loop-next.found.numbers c.loop-next.next c.loop-next.invariant.spread (omega arith) in
    omega (arith, below, c.loop-next.invariant.spread.counted.rows, c.get.ensures)

pub note-requires-clause-touched : goal.note-requires-clause-touched
note-requires-clause-touched g c =
    let nodes = g.S.Looks.nodes c.args.source.now in
    subst (λ r. (mark_at c.loop-next.marks r).touched ≡ true) (sym c.get.ensures)
    (row_touched nodes c.args.marks.now c.loop-next.marks c.loop-next.found.numbers c.loop-next.next c.loop-next.invariant.spread (omega arith))

pub note-requires-clause-small : goal.note-requires-clause-small
note-requires-clause-small g c side h =
    let nodes = g.S.Looks.nodes c.args.source.now in
    let here : has (sides (node_at nodes (row nodes c.args.marks.now c.loop-next.marks c.loop-next.found.numbers c.loop-next.next c.loop-next.invariant.spread (omega arith)))) side ≡ true =
    subst (λ r. has (sides (node_at nodes r)) side ≡ true) c.get.ensures (subst (λ (n : Node). has (sides n) side ≡ true) c.look-node.ensures.node h) in
    let room : (mark_at c.loop-next.marks side).parents + 1 ≤ length nodes =
    parents_room nodes c.args.marks.now c.loop-next.marks c.loop-next.found.numbers c.loop-next.next c.loop-next.invariant.spread (omega arith) side here in
    omega (arith, room, c.loop-next.invariant.spread.counted.rows, c.requires.few)

pub loop-next-smaller : goal.loop-next-smaller
loop-next-smaller g c =
    let few : length c.loop-next.found.numbers ≤ length c.loop-next.marks =
    length_within (length c.loop-next.marks) c.loop-next.found.numbers c.loop-next.invariant.spread.listed.distinct (found_within c.loop-next.marks c.loop-next.found.numbers c.loop-next.invariant.spread.listed) in
    omega arith

pub loop-next-preserved : goal.loop-next-preserved
loop-next-preserved g c =
    let nodes = g.S.Looks.nodes c.args.source.now in
    let note = c.note.ensures in
    let more = note.more in
    record {
      spread = subst (λ xs. IsSpread nodes c.args.marks.now c.note.new.marks xs (c.loop-next.next + 1)) (sym more.1)
          (one_more_looked nodes c.args.marks.now c.loop-next.marks c.loop-next.found.numbers c.loop-next.next c.loop-next.invariant.spread (omega arith)
          c.note.new.marks more.0 (omega arith) (subst (λ xs. IsFound c.note.new.marks xs) more.1 note.found)
          (λ other. note.marks other
          ∙ ap (λ (n : Node). noted c.get.result n other (mark_at c.loop-next.marks other)) c.look-node.ensures.node
          ∙ ap (λ r. noted r (node_at nodes r) other (mark_at c.loop-next.marks other)) c.get.ensures));
      room = note.room ∙ c.loop-next.invariant.room;
      cost = omega arith;
    }
