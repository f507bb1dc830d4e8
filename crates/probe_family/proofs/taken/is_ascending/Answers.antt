use Rattle.std.proofs.Common.{◌-◌, ◌+◌, ◌≤◌, ◌≡◌, get_or, sym, subst, arith}
use Rattle.probe_family.proofs.Ascending.{ascending_from, not_ascending}
use Rattle.probe_family.proofs.taken.is_ascending.Goals as goal

pub returns-then-numbers-i : goal.returns-then-numbers-i
returns-then-numbers-i c =
    let xs = c.args.numbers.now in
    let e : c.loop-i.i ≡ (c.loop-i.i - 1) + 1 = omega arith in
    sym (not_ascending xs (c.loop-i.i - 1) (omega arith) (subst (λ j. get_or xs j 0 ≤ get_or xs (c.loop-i.i - 1) 0) e (omega arith)))

pub returns : goal.returns
returns c = sym (ascending_from c.args.numbers.now (λ k lt. c.loop-i.invariant k (omega arith)))
