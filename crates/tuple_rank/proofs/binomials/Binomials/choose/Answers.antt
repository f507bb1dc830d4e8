use Rattle.std.proofs.Common.{◌≤◌, sym, ap, ◌∙◌, arith}
use Rattle.tuple_rank.specs.Choices.{choose}
use Rattle.tuple_rank.specs.Tuples.{TupleSpace}
use Rattle.tuple_rank.proofs.Choosing.{choose-zero}
use Rattle.tuple_rank.proofs.Rows.{number_at, number_small}
use Rattle.tuple_rank.proofs.binomials.Binomials.choose.Goals as goal

pub returns-then-k-eq0-clause-number : goal.returns-then-k-eq0-clause-number
returns-then-k-eq0-clause-number c = sym (ap (choose c.args.n) c.if-k-eq0.true ∙ choose-zero c.args.n)

pub returns-clause-number : goal.returns-clause-number
returns-clause-number c =
    let n_in : c.args.n ≤ c.self.inside.n = omega (arith, ap (λ (s : TupleSpace). s.n) c.self.view_is) in
    let k_in : c.args.k ≤ c.self.inside.t = omega (arith, ap (λ (s : TupleSpace). s.t) c.self.view_is) in
    number_at c.self.inside.n c.self.inside.t c.args.n c.args.k c.self.inside.rows.items c.index.result.now c.self.invariant.triangle n_in c.if-k-eq0.false k_in c.index.ensures

pub returns-clause-small : goal.returns-clause-small
returns-clause-small c =
    let n_in : c.args.n ≤ c.self.inside.n = omega (arith, ap (λ (s : TupleSpace). s.n) c.self.view_is) in
    let k_in : c.args.k ≤ c.self.inside.t = omega (arith, ap (λ (s : TupleSpace). s.t) c.self.view_is) in
    number_small c.self.inside.n c.self.inside.t c.self.inside.total c.args.n c.args.k c.self.inside.rows.items c.index.result.now c.self.invariant n_in c.if-k-eq0.false k_in c.index.ensures
