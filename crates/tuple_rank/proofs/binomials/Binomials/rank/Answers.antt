use Rattle.std.proofs.Common.{◌≡◌, ◌+◌, ◌-◌, ℕ, List, Some, length, slice_get, sym, ap, ◌∙◌, arith}
use Rattle.std.proofs.lemmas.Option.{slice_get_within}
use Rattle.tuple_rank.specs.Choices.{choose_to}
use Rattle.tuple_rank.specs.Tuples.{tuples}
use Rattle.tuple_rank.proofs.Places.{tuple_of_rank}
use Rattle.tuple_rank.proofs.Order.{rank-at}
use Rattle.tuple_rank.proofs.binomials.Binomials.rank.Goals as goal

placed : (c : goal.After-place) → slice_get (tuples c.args.self.now.n c.args.self.now.t) (c.smaller.result + c.place.result) ≡ Some c.args.tuple.now.items
placed c =
    let n : ℕ = c.args.self.now.n in
    let numbers : List ℕ = c.args.tuple.now.items in
    let smaller : c.smaller.result ≡ choose_to n (length numbers - 1) = c.smaller.ensures.count ∙ ap (λ size. choose_to n (size - 1)) c.len.ensures.value in
    tuple_of_rank n c.args.self.now.t (length numbers) (c.smaller.result + c.place.result) c.place.result numbers c.requires.some (omega (arith, c.requires.few)) (omega (arith, c.requires.few))
    (ap (λ s. s + c.place.result) smaller) c.place.ensures

pub returns-clause-place : goal.returns-clause-place
returns-clause-place c = placed c

pub overflow_add-result : goal.overflow_add-result
overflow_add-result c = omega (arith, slice_get_within (tuples c.args.self.now.n c.args.self.now.t) (c.smaller.result + c.place.result) c.args.tuple.now.items (placed c), c.smaller.ensures.small)

pub returns-clause-rank : goal.returns-clause-rank
returns-clause-rank c = sym (rank-at c.args.self.now.n c.args.self.now.t (c.smaller.result + c.place.result) c.args.tuple.now.items (placed c))

pub returns-clause-small : goal.returns-clause-small
returns-clause-small c = omega (arith, slice_get_within (tuples c.args.self.now.n c.args.self.now.t) (c.smaller.result + c.place.result) c.args.tuple.now.items (placed c), c.smaller.ensures.small)
