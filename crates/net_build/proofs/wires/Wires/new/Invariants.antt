use Rattle.std.proofs.Common.{take}
use Rattle.net_build.specs.Spans.{KnowsSpans}
use Rattle.net_build.proofs.wires.Wires.new.Given as goal

-- the names of the first wires are known
abbrev pub invariant-loop-wire : goal.invariant-loop-wire
invariant-loop-wire l = KnowsSpans (take l.wire-index l.list) l.spans
