use Rattle.std.proofs.Common.{◌≡◌, length}
use Rattle.engine_uses.proofs.hulls.finds_the_hulls_of_a_refresh.Given as goal

-- the scratch and the set stay fit
abbrev pub invariant-loop-family : goal.invariant-loop-family
invariant-loop-family g l = record {
  scratch : l.scratch ≡ length l.instance.table.nodes;
  out : length l.out ≡ 5;
}
