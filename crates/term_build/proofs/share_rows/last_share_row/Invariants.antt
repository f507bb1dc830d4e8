use Rattle.std.proofs.Common.{fold, map}
use Rattle.std.specs.List.{flat_map, range_with_len}
use Rattle.circuit_types.specs.Worlds.{secrets, secret, input}
use Rattle.term_build.specs.Building.{MadeRow}
use Rattle.term_build.specs.InputTerms.{joins, share_bits}
use Rattle.term_build.specs.Leaves.{drawn_term, given_term}
use Rattle.expr_table.specs.Term.{xor_of}
use Rattle.term_build.proofs.share_rows.last_share_row.Given as goal

abbrev pub invariant-loop-share : goal.invariant-loop-share
invariant-loop-share l =
    let leaf = given_term secrets l.roles l.fn.timing (secret l.secret) in
    let others = map (λ b. drawn_term secrets l.roles l.fn.timing (input b 0)) (flat_map (share_bits l.roles l.secret) (range_with_len 0 l.share)) in
    MadeRow l.fn.table l.table (joins leaf others) (fold xor_of leaf others) l.row.0
