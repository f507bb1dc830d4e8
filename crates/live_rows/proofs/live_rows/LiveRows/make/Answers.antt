use Rattle.std.proofs.Common.{◌≡◌, ℕ, arith}
use Rattle.std.proofs.lemmas.Grind.{common_steps}
use Rattle.live_rows.specs.Marks.{mark_at, empty_mark}
use Rattle.live_rows.proofs.Cleared.{made}
use Rattle.live_rows.proofs.live_rows.LiveRows.make.Goals as goal

pub invariant_of-result : goal.invariant_of-result
invariant_of-result c =
    let none : (r : ℕ) → mark_at c.in_ok-vec.field-0.items r ≡ empty_mark = λ r. grind (arith, common_steps) in
    made c.in_ok-vec.field-0.items c.in_ok-make.field-0 c.in_ok-make-2.field-0 c.in_ok-make-3.field-0 c.in_ok-make-4.field-0 c.in_ok-vec-2.field-0.items c.args.rows
    (grind (arith, common_steps)) (omega arith) none c.in_ok-make.ensures c.in_ok-make-2.ensures c.in_ok-make-3.ensures c.in_ok-make-4.ensures
    (grind (arith, common_steps)) (λ g. grind (arith, common_steps))
