use Rattle.std.proofs.Common.{◌≡◌, ◌+◌, ◌-◌, ◌<◌, ap, ◌∙◌, arith}
use Rattle.tuple_rank.specs.Choices.{choose, choose_to}
use Rattle.tuple_rank.proofs.Places.{some_size, greater_size, choose_to-last}
use Rattle.tuple_rank.proofs.binomials.Binomials.sized.Goals as goal

pub loop-place-init : goal.loop-place-init
loop-place-init c = record { some = omega arith; few = some_size c.args.self.now.n c.args.self.now.t c.args.rank c.requires; place = omega arith }

pub loop-place-smaller : goal.loop-place-smaller
loop-place-smaller c =
    let n = c.args.self.now.n in
    let number : c.choose-count.result ≡ choose n c.loop-place.size = c.choose-count.ensures.number ∙ ap (λ m. choose m c.loop-place.size) c.n-n.ensures.n in
    let less : c.loop-place.size < c.args.self.now.t = greater_size n c.args.self.now.t c.args.rank c.loop-place.size c.loop-place.place c.requires c.loop-place.invariant.some c.loop-place.invariant.place (omega arith) in
    omega arith

pub loop-place-preserved : goal.loop-place-preserved
loop-place-preserved c =
    let n = c.args.self.now.n in
    let size = c.loop-place.size in
    let number : c.choose-count.result ≡ choose n size = c.choose-count.ensures.number ∙ ap (λ m. choose m size) c.n-n.ensures.n in
    let less : size < c.args.self.now.t = greater_size n c.args.self.now.t c.args.rank size c.loop-place.place c.requires c.loop-place.invariant.some c.loop-place.invariant.place (omega arith) in
    let same : size + 1 - 1 ≡ size = omega arith in
    record {
      some = omega arith;
      few = omega arith;
      place = omega (arith, c.loop-place.invariant.place, choose_to-last n size c.loop-place.invariant.some, ap (choose_to n) same);
    }
