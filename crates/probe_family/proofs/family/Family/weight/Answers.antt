use Rattle.std.proofs.Common.{◌≡◌, ◌∙◌, ◌*◌, ◌+◌, ◌≤◌, length, take, sym, ap, subst, arith}
use Rattle.std.proofs.lemmas.List.{take_all}
use Rattle.bit_rows.proofs.Facts.{length-members_below}
use Rattle.tuple_rank.specs.Choices.{choose}
use Rattle.probe_family.specs.Families.{IsPart}
use Rattle.probe_family.proofs.Members.{length-members}
use Rattle.probe_family.proofs.Weights.{ways, ways_more, ways-take}
use Rattle.probe_family.proofs.Rules.{item_is_part, enough_of}
use Rattle.probe_family.proofs.Tuples.{weight_is_ways}
use Rattle.probe_family.proofs.AllTuples.{ways_fit}
use Rattle.probe_family.proofs.family.Family.weight.Goals as goal

-- a set has no more members than there are numbers
pub choose-weight-requires-clause-n_in : goal.choose-weight-requires-clause-n_in
choose-weight-requires-clause-n_in c =
    let part = c.part-item.result in
    let is : IsPart c.args.counts.now.n part = item_is_part c.args.counts.now.n c.args.self.now c.as_slice-part-items.result.now c.loop-part.part-index part c.requires.family c.as_slice-part-items.ensures c.loop-part-test.true c.part-item.is in
    omega (arith, length-members_below part.set (length part.set), is.below, c.count.ensures)

-- the product with one more part
one_more : (c : goal.After-choose-weight) → c.loop-part.weight * c.choose-weight.result ≡ ways (take (c.loop-part.part-index + 1) c.as_slice-part-items.result.now) 0
one_more c =
    let part = c.part-item.result in
    ap (λ w. w * c.choose-weight.result) c.loop-part.invariant
    ∙ (ap (λ k. ways (take c.loop-part.part-index c.as_slice-part-items.result.now) 0 * k) (c.choose-weight.ensures.number ∙ ap (λ n. choose n part.take) (c.count.ensures ∙ length-members part.set))
    ∙ sym (ways_more 0 c.loop-part.part-index c.as_slice-part-items.result.now part c.loop-part-test.true c.part-item.is))

pub overflow_mul-weight : goal.overflow_mul-weight
overflow_mul-weight c =
    let family = c.args.self.now in
    let items = c.as_slice-part-items.result.now in
    let within : ways (take (c.loop-part.part-index + 1) items) 0 ≤ ways family.parts 0 =
    subst (λ l. ways (take (c.loop-part.part-index + 1) l) 0 ≤ ways family.parts 0) (sym c.as_slice-part-items.ensures) (ways-take 0 (c.loop-part.part-index + 1) family.parts (enough_of c.args.counts.now.n family c.requires.family)) in
    omega (arith, one_more c, within, ways_fit c.args.counts.now.n c.args.counts.now.t family c.requires.family c.requires.order, c.total.ensures.counted, c.total.ensures.small)

pub loop-part-preserved : goal.loop-part-preserved
loop-part-preserved c = one_more c

pub returns : goal.returns
returns c =
    c.loop-part.invariant
    ∙ (ap (λ l. ways l 0) (take_all c.loop-part.part-index c.as_slice-part-items.result.now (omega arith) ∙ c.as_slice-part-items.ensures)
    ∙ sym (weight_is_ways c.args.counts.now.n c.args.self.now c.requires.family))
