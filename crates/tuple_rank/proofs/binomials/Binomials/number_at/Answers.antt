use Rattle.std.proofs.Common.{◌≡◌, ◌-◌, ◌<◌, ⊎_elim, arith}
use Rattle.std.proofs.lemmas.Bool.{cases_lt}
use Rattle.tuple_rank.specs.Choices.{choose}
use Rattle.tuple_rank.proofs.Choosing.{choose-past}
use Rattle.tuple_rank.proofs.binomials.Binomials.number_at.Goals as goal

pub loop-x-init : goal.loop-x-init
loop-x-init c =
    let n = c.args.self.now.n in
    let none : choose (n - c.n-n.result) c.args.left ≡ 0 = choose-past (n - c.n-n.result) c.args.left (omega arith) in
    let before : c.args.low < c.n-n.result = ⊎_elim (λ lt. lt) (λ past. absurd (omega (arith, choose-past (n - c.args.low) c.args.left (omega arith)))) (cases_lt c.args.low c.n-n.result) in
    record { from = omega arith; before = before; within = omega arith; at_least = c.requires.enough; less = omega arith }
