use Rattle.std.proofs.Common.{◌≡◌, ◌+◌, ◌/◌, replicate, ap, ◌∙◌, arith, rules}
use Rattle.bit_rows.proofs.Rows.{empty-row, empty-set}
use Rattle.bit_rows.proofs.bit_row.BitRow.make.Goals as goal

pub invariant_of-result : goal.invariant_of-result
invariant_of-result c =
    let zeros : c.in_ok-words.words.items ≡ replicate c.div_ceil.result 0 = search rules in
    let count : c.div_ceil.result ≡ (c.args.n + 63) / 64 = omega (arith, c.div_ceil.ensures) in
    empty-row c.args.n c.in_ok-words.words.items (omega arith) (zeros ∙ ap (λ k. replicate k 0) count)

pub returns : goal.returns
returns c =
    let zeros : c.in_ok-words.words.items ≡ replicate c.div_ceil.result 0 = search rules in
    let count : c.div_ceil.result ≡ (c.args.n + 63) / 64 = omega (arith, c.div_ceil.ensures) in
    empty-set c.args.n c.in_ok-words.words.items (zeros ∙ ap (λ k. replicate k 0) count)
