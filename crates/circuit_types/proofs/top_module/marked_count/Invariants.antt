use Rattle.std.proofs.Common.{◌≡◌, take, count_by}
use Rattle.circuit_types.specs.Top.{is_marked}
use Rattle.circuit_types.proofs.top_module.marked_count.Given as goal

abbrev pub invariant-loop-unit : goal.invariant-loop-unit
invariant-loop-unit l = l.count ≡ count_by is_marked (take l.unit-index l.modules)
