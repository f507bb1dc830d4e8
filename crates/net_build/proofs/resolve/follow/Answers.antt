use Rattle.std.proofs.Common.{sym, subst, true, arith, set}
use Rattle.std.proofs.lemmas.List.{get_or_default}
use Rattle.net_build.specs.Ends.{IsOnWay, HasFollowed}
use Rattle.net_build.proofs.EndLemmas.{start_way, next_way, at_end, met}
use Rattle.net_build.proofs.resolve.follow.Goals as goal

pub loop-seen-init : goal.loop-seen-init
loop-seen-init c = start_way c.args.drivers.now c.args.start c.args.seen.now c.args.way.now.items c.requires.inside c.requires.empty

pub loop-seen-preserved : goal.loop-seen-preserved
loop-seen-preserved c =
    subst (λ w. IsOnWay c.args.drivers.now c.args.start c.in-To.next c.args.seen.now (set c.loop-seen.seen c.loop-seen.bit true) w) (sym c.in_ok-push.ensures.items)
    (next_way c.args.drivers.now c.args.start c.loop-seen.bit c.in-To.next c.args.seen.now c.loop-seen.seen c.loop-seen.way.items c.loop-seen.invariant
    c.requires.settled.all_seen c.requires.closed (sym c.in-To.ensures))

pub returns-in-At : goal.returns-in-At
returns-in-At c =
    subst (λ w. HasFollowed c.args.drivers.now c.args.start c.args.seen.now (set c.loop-seen.seen c.loop-seen.bit true) w c.in-At.end) (sym c.in_ok-push.ensures.items)
    (at_end c.args.drivers.now c.args.start c.loop-seen.bit c.in-At.end c.args.seen.now c.loop-seen.seen c.loop-seen.way.items c.loop-seen.invariant
    c.requires.settled.all_seen (sym c.in-At.ensures))

pub returns : goal.returns
returns c =
    met c.args.drivers.now c.args.start c.loop-seen.bit c.args.sources.now _ c.args.seen.now c.loop-seen.seen c.loop-seen.way.items c.loop-seen.invariant
    c.requires.settled c.loop-seen-test.false
    (get_or_default c.args.sources.now c.loop-seen.bit _ _ (omega (arith, c.loop-seen.invariant.inside, c.requires.settled.all_ends)))
