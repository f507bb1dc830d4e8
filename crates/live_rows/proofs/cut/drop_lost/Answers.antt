use Rattle.live_rows.proofs.Freeing.{pop_losing, pop_taken}
use Rattle.live_rows.proofs.cut.drop_lost.Goals as goal

pub drop_row-requires-clause-losing : goal.drop_row-requires-clause-losing
drop_row-requires-clause-losing g c =
    pop_losing c.loop-row.marks c.loop-row.alone c.loop-row.lost c.pop.new.self c.in-Some.row c.loop-row.invariant.losing c.in-Some.ensures.last c.in-Some.ensures.room

pub drop_row-requires-clause-taken : goal.drop_row-requires-clause-taken
drop_row-requires-clause-taken g c =
    pop_taken c.loop-row.marks c.loop-row.alone c.loop-row.lost c.pop.new.self c.in-Some.row c.loop-row.invariant.losing c.in-Some.ensures.last (g.S.Looks.nodes c.args.source.now) c.loop-row.invariant.counted
