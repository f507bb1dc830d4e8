use Rattle.std.proofs.Common.{◌≡◌, ◌≤◌, ◌<◌, ℕ, Some, slice_get, ⊎_elim, arith}
use Rattle.std.proofs.lemmas.Bool.{cases_lt}
use Rattle.tuple_rank.specs.Choices.{choose}
use Rattle.tuple_rank.specs.Tuples.{tuples}
use Rattle.tuple_rank.proofs.Choosing.{choose-past}
use Rattle.tuple_rank.proofs.Places.{tuple_of_rank}
use Rattle.tuple_rank.proofs.Order.{tuples_are_all, contains_at}
use Rattle.tuple_rank.proofs.binomials.Binomials.unrank.Goals as goal

-- a size that some choice has is at most the number of numbers
size_in : (n size place : ℕ) → place < choose n size → size ≤ n
size_in n size place lt = ⊎_elim (λ past. absurd (omega (arith, lt, choose-past n size past))) (λ le. le) (cases_lt n size)

placed : (c : goal.After-tuple_at) → slice_get (tuples c.args.self.now.n c.args.self.now.t) c.args.rank ≡ Some c.tuple_at.result.items
placed c =
    let size : ℕ = c.sized-size.result.0 in
    let place : ℕ = c.sized-size.result.1 in
    let in_n : size ≤ c.args.self.now.n = size_in c.args.self.now.n size place c.sized-size.ensures.place in
    tuple_of_rank c.args.self.now.n c.args.self.now.t size c.args.rank place c.tuple_at.result.items c.sized-size.ensures.some c.sized-size.ensures.few in_n c.sized-size.ensures.rank c.tuple_at.ensures

pub returns-clause-place : goal.returns-clause-place
returns-clause-place c = placed c

pub returns-clause-tuple : goal.returns-clause-tuple
returns-clause-tuple c = (tuples_are_all c.args.self.now.n c.args.self.now.t c.tuple_at.result.items).1 (contains_at (tuples c.args.self.now.n c.args.self.now.t) c.args.rank c.tuple_at.result.items (placed c))
