use Rattle.std.proofs.Common.{◌∙◌, sym, subst}
use Rattle.probe_family.specs.Families.{IsFamily}
use Rattle.probe_family.specs.Least.{least_of}
use Rattle.tuple_rank.specs.Tuples.{IsTuple}
use Rattle.frontier_core.proofs.Allowed.{least_tuple}
use Rattle.frontier_core.proofs.Hulls.{hull_length}
use Rattle.frontier_core.proofs.one_family.work.Goals as goal

pub rank-rank-requires : goal.rank-rank-requires
rank-rank-requires c =
    subst (IsTuple c.args.counts.now.n c.args.counts.now.t) (sym c.least-tuple.ensures)
    (subst (λ n. IsTuple n c.args.counts.now.t (least_of c.args.family.now)) (sym c.requires.counted) (least_tuple _ c.args.counts.now.t c.args.family.now c.requires.family c.requires.size))

pub children-requires : goal.children-requires
children-requires c =
    subst (λ n. IsFamily n c.args.family.now)
    (sym (hull_length c.args.instance.now c.args.family.now c.in-Some-2.hull (sym c.in_ok-hull.ensures.hull ∙ c.in-Some-2.is)))
    c.requires.family
