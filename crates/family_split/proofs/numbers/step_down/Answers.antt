use Rattle.std.proofs.Common.{◌≡◌, ◌∙◌, ◌-◌, get_or, sym, ap, subst, arith, ⊎_elim}
use Rattle.std.proofs.lemmas.Bool.{cases_lt}
use Rattle.family_split.specs.Later.{AreInside}
use Rattle.family_split.proofs.Insides.{inside_long, restored, current_at, step_inside, step_next, step_restored, restored_first, restored_last, none_later}
use Rattle.family_split.proofs.numbers.step_down.Goals as goal

pub loop-i-init : goal.loop-i-init
loop-i-init c = record {
  restored = sym (restored_first c.args.parts.now c.args.numbers.now c.requires);
  zeros = λ k from lt. absurd (omega (arith, inside_long c.args.parts.now c.args.numbers.now c.requires));
}

pub bounds-numbers-i : goal.bounds-numbers-i
bounds-numbers-i c = omega (arith, inside_long c.args.parts.now c.args.numbers.now c.requires)

pub bounds-numbers-i-in-loop-i : goal.bounds-numbers-i-in-loop-i
bounds-numbers-i-in-loop-i c = omega (arith, inside_long c.args.parts.now c.args.numbers.now c.requires)

pub returns-then-numbers-i-gt0-clause-inside : goal.returns-then-numbers-i-gt0-clause-inside
returns-then-numbers-i-gt0-clause-inside c =
    step_inside c.args.parts.now c.args.numbers.now c.loop-i.numbers c.loop-i.i (c.loop-i.i - 1) c.requires c.loop-i.invariant.restored (omega arith) (omega arith)

pub returns-then-numbers-i-gt0-clause-next : goal.returns-then-numbers-i-gt0-clause-next
returns-then-numbers-i-gt0-clause-next c =
    step_next c.args.parts.now c.args.numbers.now c.loop-i.numbers c.loop-i.i (c.loop-i.i - 1) c.requires c.loop-i.invariant.restored (omega arith) (omega arith) (omega arith) c.loop-i.invariant.zeros

-- a number that is 0 is its take again
pub loop-i-preserved : goal.loop-i-preserved
loop-i-preserved c =
    let k = c.loop-i.i - 1 in
    let at : get_or c.loop-i.numbers k 0 ≡ get_or c.args.numbers.now k 0 =
    current_at c.args.parts.now c.args.numbers.now c.loop-i.numbers c.loop-i.i k c.requires c.loop-i.invariant.restored (omega arith) (omega arith) in
    record {
      restored = step_restored c.args.parts.now c.args.numbers.now c.loop-i.numbers c.loop-i.i k c.requires c.loop-i.invariant.restored (omega arith) (omega arith) c.index-parts-i.result;
      zeros = λ m from lt. ⊎_elim
          (λ below. let e : k ≡ m = omega arith in subst (λ i. get_or c.args.numbers.now i 0 ≡ 0) e (omega arith))
          (λ past. c.loop-i.invariant.zeros m past lt)
          (cases_lt m c.loop-i.i);
    }

pub returns-clause-inside : goal.returns-clause-inside
returns-clause-inside c =
    let e : c.loop-i.i ≡ 0 = omega arith in
    subst (AreInside c.args.parts.now) (sym (c.loop-i.invariant.restored ∙ ap (restored c.args.parts.now c.args.numbers.now) e)) (restored_last c.args.parts.now c.args.numbers.now c.requires)

pub returns-clause-next : goal.returns-clause-next
returns-clause-next c =
    none_later c.args.parts.now c.args.numbers.now (inside_long c.args.parts.now c.args.numbers.now c.requires) (λ k lt. c.loop-i.invariant.zeros k (omega arith) lt)
