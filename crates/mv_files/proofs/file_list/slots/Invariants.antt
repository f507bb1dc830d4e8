use Rattle.std.proofs.Common.{◌≡◌, All, vec_len}
use Rattle.mv_files.proofs.file_list.slots.Given as goal

-- one for each round so far
abbrev pub invariant-loop : goal.invariant-loop
invariant-loop l = record { count : vec_len l.list ≡ l.counter; rooms : All (λ r. r ≡ l.room) l.list.items }
