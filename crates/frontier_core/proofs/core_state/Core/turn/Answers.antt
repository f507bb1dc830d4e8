use Rattle.std.proofs.Common.{◌≡◌, ◌∙◌, ◌/◌, ◌%◌, ap, arith, refl, sym, length, None}
use Rattle.frontier_core.specs.declared.event.Event.TheVariants.{Take}
use Rattle.frontier_core.specs.Core.{held_by}
use Rattle.frontier_core.proofs.Moving.{it_moves, may_take, none_lent, on_ok, takes_turn, turn_finds}
use Rattle.frontier_core.proofs.core_state.Core.turn.Goals as goal

pub returns-then-is_some-clause-turn : goal.returns-then-is_some-clause-turn
returns-then-is_some-clause-turn c =
    on_ok c.end_turn.result
    (takes_turn c.args.instance.now c.args.counts.now.t c.args.self.now c.args.workers c.args.drawn c.whose_turn-worker.result c.end_turn.new.self c.requires.crew c.whose_turn-worker.ensures.turn)
    (c.end_turn.ensures.moves (c.args.drawn / c.args.workers))

pub returns-clause-turn : goal.returns-clause-turn
returns-clause-turn c =
    let free : held_by c.args.self.now c.whose_turn-worker.result ≡ None =
    none_lent c.held.result (held_by c.args.self.now c.whose_turn-worker.result) c.held.ensures (sym c.is_some.ensures ∙ c.if-is_some.false) in
    let some = turn_finds c.args.self.now (c.args.drawn % c.args.workers) c.whose_turn-worker.result c.whose_turn-worker.ensures.turn free in
    let len : length c.args.self.now.open_families ≡ c.len.result = let same = ap (λ s. length s.open_families) (sym c.self.view_is) in omega (arith, same, c.self.inside.open_families.ok, c.len.ensures) in
    takes_turn c.args.instance.now c.args.counts.now.t c.args.self.now c.args.workers c.args.drawn c.whose_turn-worker.result c.step.new.self c.requires.crew c.whose_turn-worker.ensures.turn
    (it_moves c.args.instance.now c.args.counts.now.t c.args.self.now c.whose_turn-worker.result (c.args.drawn / c.args.workers) (Take c.whose_turn-worker.result (c.args.drawn / c.args.workers % c.len.result)) c.step.new.self
    (refl, ap (λ n. c.args.drawn / c.args.workers % n) (sym len))
    (may_take c.args.instance.now c.args.counts.now.t c.args.self.now c.whose_turn-worker.result (c.args.drawn / c.args.workers % c.len.result) (omega (arith, c.whose_turn-worker.ensures.within, c.requires.crew)) free (omega arith))
    c.in_ok-step.ensures.core)
