use Rattle.std.proofs.Common.{◌≡◌, ◌<◌, ◌∙◌, ◌/◌, ap, refl, sym, subst, length, suc}
use Rattle.frontier_core.specs.Core.{IsCoreOf}
use Rattle.frontier_core.specs.Schedule.{Moves, TakesTurn, drawn_from, next_state, state_after}
use Rattle.frontier_core.proofs.Cores.{after_keeps}
use Rattle.frontier_core.proofs.Moving.{still_busy}
use Rattle.frontier_core.proofs.Turns.{leaves_less, same_crew, to_do}
use Rattle.frontier_core.proofs.core_state.Core.finish.Goals as goal

pub loop-draws-init : goal.loop-draws-init
loop-draws-init c = (c.requires.balanced, c.requires.crew, refl, (0, refl, refl))

pub turn-requires-clause-made_for : goal.turn-requires-clause-made_for
turn-requires-clause-made_for c = c.loop-draws.invariant.2 ∙ c.requires.made_for

pub turn-requires-clause-balanced : goal.turn-requires-clause-balanced
turn-requires-clause-balanced c = c.loop-draws.invariant.0

pub turn-requires-clause-crew : goal.turn-requires-clause-crew
turn-requires-clause-crew c = c.loop-draws.invariant.1

pub loop-draws-smaller : goal.loop-draws-smaller
loop-draws-smaller c =
    let turn : TakesTurn c.args.instance.now c.args.counts.now.t c.next-drawn.result c.loop-draws.core c.turn.new.self = c.in_ok-turn.ensures.turn in
    let moves : Moves c.args.instance.now c.args.counts.now.t turn.worker (c.next-drawn.result / length c.loop-draws.core.held) c.loop-draws.core c.turn.new.self = turn.moves in
    subst (λ s. to_do c.args.instance.now s < to_do c.args.instance.now c.loop-draws.core) (sym moves.is)
    (leaves_less c.args.instance.now c.args.counts.now.t c.loop-draws.core moves.event moves.allowed c.loop-draws.invariant.0)

pub loop-draws-preserved : goal.loop-draws-preserved
loop-draws-preserved c =
    let turn : TakesTurn c.args.instance.now c.args.counts.now.t c.next-drawn.result c.loop-draws.core c.turn.new.self = c.in_ok-turn.ensures.turn in
    let moves : Moves c.args.instance.now c.args.counts.now.t turn.worker (c.next-drawn.result / length c.loop-draws.core.held) c.loop-draws.core c.turn.new.self = turn.moves in
    let so_far = c.loop-draws.invariant.3 in
    let state : c.next-drawn.new.self.state ≡ state_after c.args.seed (suc so_far.0) = c.next-drawn.ensures.state ∙ ap next_state so_far.1 in (
      subst (IsCoreOf c.args.instance.now c.args.counts.now.t) (sym moves.is) (after_keeps c.args.instance.now c.args.counts.now.t c.loop-draws.core moves.event moves.allowed c.loop-draws.invariant.0),
      ap (λ s. length s.held) moves.is ∙ (same_crew c.args.instance.now c.args.counts.now.t c.loop-draws.core moves.event ∙ c.loop-draws.invariant.1),
      c.in_ok-turn.ensures.stays_fit ∙ c.loop-draws.invariant.2,
      (
        suc so_far.0,
        state,
        (
          c.loop-draws.core,
          so_far.2,
          still_busy c.idle.result c.loop-draws.core c.idle.ensures c.loop-draws-test.true,
          subst (λ drawn. TakesTurn c.args.instance.now c.args.counts.now.t drawn c.loop-draws.core c.turn.new.self) (c.next-drawn.ensures.drawn ∙ ap drawn_from state) turn,
        ),
      ),
    )

pub returns-in_err-turn-clause-stays_fit : goal.returns-in_err-turn-clause-stays_fit
returns-in_err-turn-clause-stays_fit c = c.in_err-turn.ensures.stays_fit ∙ c.loop-draws.invariant.2

pub returns-clause-stays_fit : goal.returns-clause-stays_fit
returns-clause-stays_fit c = c.loop-draws.invariant.2

pub returns-clause-turns : goal.returns-clause-turns
returns-clause-turns c =
    let so_far = c.loop-draws.invariant.3 in
    record { turns = so_far.0; comes = so_far.2; over = c.idle.ensures.0 c.loop-draws-test.false }

pub returns-clause-balanced : goal.returns-clause-balanced
returns-clause-balanced c = c.loop-draws.invariant.0
