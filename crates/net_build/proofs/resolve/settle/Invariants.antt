use Rattle.std.proofs.Common.{take}
use Rattle.net_build.specs.Ends.{ReplacesAmong}
use Rattle.net_build.proofs.resolve.settle.Given as goal

abbrev pub invariant-loop-passed : goal.invariant-loop-passed
invariant-loop-passed l = ReplacesAmong (take l.passed-index l.way) l.end l.fn.sources l.sources
