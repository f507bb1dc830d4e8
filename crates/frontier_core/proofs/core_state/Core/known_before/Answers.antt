use Rattle.std.proofs.Common.{◌≤◌, sym, subst}
use Rattle.std.specs.Option.{IfSome}
use Rattle.probe_family.specs.Families.{IsFamily}
use Rattle.tuple_rank.specs.Tuples.{IsTuple}
use Rattle.frontier_core.proofs.Allowed.{least_tuple}
use Rattle.frontier_core.proofs.core_state.Core.known_before.Goals as goal

pub rank-requires : goal.rank-requires
rank-requires c =
    let is : IsFamily c.args.counts.now.n c.in_ok-family.family.now × (c.in_ok-family.family.now.size ≤ c.args.counts.now.t) =
    subst (λ o. IfSome o (λ family. IsFamily c.args.counts.now.n family × (family.size ≤ c.args.counts.now.t))) (sym c.in_ok-family.ensures) c.requires in
    subst (IsTuple c.args.counts.now.n c.args.counts.now.t) (sym c.least-2.ensures) (least_tuple c.args.counts.now.n c.args.counts.now.t c.in_ok-family.family.now is.0 is.1)
