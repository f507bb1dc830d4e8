use Rattle.std.proofs.Common.{◌≡◌, ◌+◌, ◌∙◌, length, sym, ap, refl, arith, length-append}
use Rattle.circuit_types.specs.Probes.{cycles}
use Rattle.circuit_types.specs.Worlds.{leaves_in}
use Rattle.term_build.specs.Numbering.{is_leaf, leaves_before, leaves_of_secrets}
use Rattle.std.proofs.lemmas.List.{append-nil}
use Rattle.term_build.proofs.Numbers.{before-all, before-fewer, before-next}
use Rattle.term_build.proofs.leaves.leaf_count.Goals as goal

pub loop-cycle-init : goal.loop-cycle-init
loop-cycle-init c = c.secret_count-count.ensures ∙ ap length (sym (append-nil (leaves_of_secrets c.args.sort c.args.notion c.args.roles.now)))

pub returns-then-count-gt-MOST_ROWS : goal.returns-then-count-gt-MOST_ROWS
returns-then-count-gt-MOST_ROWS c =
    omega (
      arith,
      c.loop-cycle.invariant,
      before-fewer c.args.sort c.args.notion c.args.roles.now c.loop-cycle.cycle (cycles c.args.timing) (omega (arith, c.cycles-cycle-end.ensures)),
      ap length (before-all c.args.sort c.args.notion c.args.roles.now c.args.timing),
    )

pub loop-cycle-preserved : goal.loop-cycle-preserved
loop-cycle-preserved c =
    let next = before-next c.args.sort c.args.notion c.args.roles.now c.loop-cycle.cycle (c.loop-cycle.cycle + 1) refl in
    omega (
      arith,
      c.loop-cycle.invariant,
      c.count_in_cycle-count.ensures.count,
      ap length next,
      length-append (leaves_before c.args.sort c.args.notion c.args.roles.now c.loop-cycle.cycle) (leaves_in (is_leaf c.args.sort c.args.notion c.args.roles.now c.loop-cycle.cycle) c.args.roles.now c.loop-cycle.cycle),
    )

pub overflow_add-count : goal.overflow_add-count
overflow_add-count c = omega (arith, c.count_in_cycle-count.ensures.few, c.if-count-gt-MOST_ROWS.false)

pub returns-then-count-gt-MOST_ROWS-2 : goal.returns-then-count-gt-MOST_ROWS-2
returns-then-count-gt-MOST_ROWS-2 c =
    let last : c.loop-cycle.cycle ≡ cycles c.args.timing = omega (arith, c.cycles-cycle-end.ensures) in
    omega (arith, c.loop-cycle.invariant, ap (λ n. length (leaves_before c.args.sort c.args.notion c.args.roles.now n)) last, ap length (before-all c.args.sort c.args.notion c.args.roles.now c.args.timing))

pub returns : goal.returns
returns c =
    let last : c.loop-cycle.cycle ≡ cycles c.args.timing = omega (arith, c.cycles-cycle-end.ensures) in
    (c.loop-cycle.invariant ∙ ap (λ n. length (leaves_before c.args.sort c.args.notion c.args.roles.now n)) last ∙ ap length (before-all c.args.sort c.args.notion c.args.roles.now c.args.timing), omega arith)
