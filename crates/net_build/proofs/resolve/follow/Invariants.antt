use Rattle.std.proofs.Common.{not, count_by}
use Rattle.net_build.specs.Ends.{IsOnWay}
use Rattle.net_build.proofs.resolve.follow.Given as goal

abbrev pub invariant-loop-seen : goal.invariant-loop-seen
invariant-loop-seen l = IsOnWay l.drivers l.fn.start l.bit l.fn.seen l.seen l.way.items

-- the bits that are not seen yet
abbrev pub decreases-loop-seen : goal.decreases-loop-seen
decreases-loop-seen l = count_by (λ b. not b) l.seen
