use Rattle.std.proofs.Common.{◌≡◌, map}
use Rattle.std.specs.List.{range_with_len}
use Rattle.std.proofs.Common.{Some}
use Rattle.term_build.proofs.groups.own_groups.Given as goal

abbrev pub invariant-loop-secret : goal.invariant-loop-secret
invariant-loop-secret l = l.groups.items ≡ map (λ s. Some s) (range_with_len 0 l.secret)
