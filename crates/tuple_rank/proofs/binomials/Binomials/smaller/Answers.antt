use Rattle.std.proofs.Common.{◌≡◌, ◌+◌, ℕ, sym, ap, ◌∙◌, add-one, arith}
use Rattle.tuple_rank.specs.Choices.{choose, choose_to}
use Rattle.tuple_rank.proofs.Choosing.{choose_to-grows}
use Rattle.tuple_rank.proofs.Places.{length-tuples}
use Rattle.tuple_rank.proofs.binomials.Binomials.smaller.Goals as goal

next : (n k : ℕ) → choose_to n (k + 1) ≡ choose_to n k + choose n (k + 1)
next n k = ap (choose_to n) (add-one k) ∙ ap (λ j. choose_to n k + choose n j) (sym (add-one k))

pub overflow_add-count : goal.overflow_add-count
overflow_add-count c =
    let n : ℕ = c.args.self.now.n in
    let k : ℕ = c.loop-k.k in
    let number : c.choose-count.result ≡ choose n (k + 1) = c.choose-count.ensures.number ∙ ap (λ m. choose m (k + 1)) c.n-n.ensures.n in
    omega (arith, next n k, choose_to-grows n (k + 1) c.args.self.now.t (omega arith), length-tuples n c.args.self.now.t, c.n-n.ensures.small)

pub loop-k-preserved : goal.loop-k-preserved
loop-k-preserved c =
    let n : ℕ = c.args.self.now.n in
    let k : ℕ = c.loop-k.k in
    let number : c.choose-count.result ≡ choose n (k + 1) = c.choose-count.ensures.number ∙ ap (λ m. choose m (k + 1)) c.n-n.ensures.n in
    omega (arith, next n k)
