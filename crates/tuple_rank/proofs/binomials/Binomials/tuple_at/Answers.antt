use Rattle.std.proofs.Common.{◌≡◌, ◌-◌, ℕ, ap, ◌∙◌, arith}
use Rattle.tuple_rank.specs.Choices.{choose}
use Rattle.tuple_rank.proofs.Choosing.{choose-grows}
use Rattle.tuple_rank.proofs.Placing.{found_step, found_all}
use Rattle.tuple_rank.proofs.binomials.Binomials.tuple_at.Goals as goal

pub overflow_sub-rest : goal.overflow_sub-rest
overflow_sub-rest c =
    let n : ℕ = c.args.self.now.n in
    let low : ℕ = c.loop-left.low in
    let left : ℕ = c.loop-left.left in
    let x : ℕ = c.number_at-x.result in
    let all : c.choose-all.result ≡ choose (n - low) left = c.choose-all.ensures.number ∙ ap (λ m. choose (m - low) left) c.n-n.ensures.n in
    let after : c.choose.result ≡ choose (n - x) left = c.choose.ensures.number ∙ ap (λ m. choose (m - x) left) c.n-n.ensures.n in
    omega (arith, choose-grows (n - x) (n - low) left (omega (arith, c.number_at-x.ensures.from)))

pub loop-left-preserved : goal.loop-left-preserved
loop-left-preserved c =
    let n : ℕ = c.args.self.now.n in
    let low : ℕ = c.loop-left.low in
    let left : ℕ = c.loop-left.left in
    let rest : ℕ = c.loop-left.rest in
    let x : ℕ = c.number_at-x.result in
    let all : c.choose-all.result ≡ choose (n - low) left = c.choose-all.ensures.number ∙ ap (λ m. choose (m - low) left) c.n-n.ensures.n in
    let after : c.choose.result ≡ choose (n - x) left = c.choose.ensures.number ∙ ap (λ m. choose (m - x) left) c.n-n.ensures.n in
    found_step n c.args.size c.args.place low left rest c.loop-left.tuple.items c.loop-left.invariant x (omega arith) c.number_at-x.ensures.from c.number_at-x.ensures.within (omega (arith, c.number_at-x.ensures.at_least)) (omega (arith, c.number_at-x.ensures.greatest))
    c.choose-all.result c.choose.result c.push.new.self.items all after c.push.ensures.items

pub returns : goal.returns
returns c = found_all c.args.self.now.n c.args.size c.args.place c.loop-left.low c.loop-left.left c.loop-left.rest c.loop-left.tuple.items c.loop-left.invariant (omega arith)
