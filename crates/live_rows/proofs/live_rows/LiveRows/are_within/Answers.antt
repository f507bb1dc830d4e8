use Rattle.std.proofs.Common.{◌≡◌, ◌≤◌, ◌∙◌, length, sym, ap, subst, arith}
use Rattle.live_rows.specs.Shown.{Shows}
use Rattle.live_rows.specs.State.{State}
use Rattle.live_rows.proofs.Tally.{counts_decide}
use Rattle.live_rows.proofs.live_rows.LiveRows.are_within.Goals as goal

pub returns-clause-within : goal.returns-clause-within
returns-clause-within g c roots cuts shows =
    let nodes = g.S.Looks.nodes c.args.source.now in
    let rows : length c.self.inside.marks.items ≡ length c.args.self.now.marks = ap (λ (s : State). length s.marks) c.self.view_is in
    let fits : length c.args.groups.now ≤ length c.count_leaves.new.leaves = omega (arith, rows, c.requires.few_groups, c.self.invariant.1.leaves_len) in
    c.take_counts.ensures.within
    ∙ counts_decide nodes c.args.groups.now roots cuts c.deref.result.now c.count_leaves.new.leaves c.args.bound
    (subst (Shows nodes roots cuts) (sym (c.deref.ensures.value ∙ ap (λ (s : State). s.marks) c.self.view_is)) shows)
    c.requires.groups_within fits c.count_leaves.ensures.counts
