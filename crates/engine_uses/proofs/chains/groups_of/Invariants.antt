use Rattle.std.proofs.Common.{◌≡◌, ◌<◌, All, IfSome, length}
use Rattle.engine_uses.proofs.chains.groups_of.Given as goal

-- the leaves so far have their groups
abbrev pub invariant-loop-leaf : goal.invariant-loop-leaf
invariant-loop-leaf l = record {
  each : length l.groups.items ≡ l.leaf;
  within : All (λ group. IfSome group (λ secret. secret < l.inputs)) l.groups.items;
}
