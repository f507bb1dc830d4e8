use Rattle.std.proofs.Common.{◌≡◌, length}
use Rattle.netlist_uses.proofs.checks.closed_under.Given as goal

-- the hull keeps its length
abbrev pub invariant-loop-probe : goal.invariant-loop-probe
invariant-loop-probe l = length l.hull ≡ 5
