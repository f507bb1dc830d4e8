use Rattle.std.proofs.Common.{◌<◌, ◌+◌, get_or, set, length, sym, subst, arith}
use Rattle.live_rows.specs.Lists.{Held}
use Rattle.live_rows.specs.Tally.{IsTally}
use Rattle.live_rows.proofs.Tally.{tally_room, tally_more}
use Rattle.live_rows.proofs.within.count_leaf.Goals as goal

pub push-requires : goal.push-requires
push-requires c =
    let room : length c.args.counted.now.numbers < length c.args.leaves.now =
    tally_room c.args.leaves.now c.args.counted.now.numbers c.requires.tally c.args.group c.requires.within c.if-count-eq0.true in
    omega arith

pub returns-then-count-eq0-clause-tally : goal.returns-then-count-eq0-clause-tally
returns-then-count-eq0-clause-tally c =
    subst (λ (h : Held). IsTally (set c.args.leaves.now c.args.group (get_or c.args.leaves.now c.args.group 0 + 1)) h.numbers) (sym c.push.ensures)
    (tally_more c.args.leaves.now c.args.counted.now.numbers c.requires.tally c.args.group c.requires.within c.if-count-eq0.true)
