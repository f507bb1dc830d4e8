use Rattle.std.proofs.Common.{◌≡◌, ◌+◌, ◌++◌, List, All, vec_len}
use Rattle.crossbeam_deque.specs.Handles.{worker_flavor, worker_view}
use Rattle.probe_family.specs.declared.family.Family.{Family}
use Rattle.deque_reach.specs.Fits.{Fits}
use Rattle.deque_reach.proofs.drain.drain.Given as goal

abbrev pub invariant-loop : goal.invariant-loop
invariant-loop l =
    (worker_flavor l.owner ≡ 0)
    × (vec_len l.left ≡ vec_len l.initial.left + l.counter)
    × ((rest : List Family)
    × (l.left.items ≡ l.initial.left.items ++ rest)
    × (worker_view l.owner ≡ record (worker_view l.initial.owner) { taken = (worker_view l.initial.owner).taken ++ rest })
    × All (Fits (worker_view l.initial.owner).probes (worker_view l.initial.owner).order) rest)
