use Rattle.std.proofs.Common.{◌≡◌, ◌<◌, ◌^◌, ◌++◌, drop, take, length, sym, ap, subst, arith}
use Rattle.live_rows.specs.Lists.{Held}
use Rattle.live_rows.specs.State.{IsState, IsRested}
use Rattle.live_rows.proofs.Begun.{written}
use Rattle.live_rows.proofs.Cleared.{kept_empty, rested_kept}
use Rattle.live_rows.proofs.live_rows.LiveRows.clear.Goals as goal

pub invariant_of-self : goal.invariant_of-self
invariant_of-self c =
    let items = c.self.inside.marks.items in
    let same : take c.self.inside.marks.len (c.forget.new.marks ++ drop (length c.forget.new.marks) items) ≡ c.forget.new.marks =
    written items c.forget.new.marks c.self.inside.marks.len (omega arith) (omega arith) in
    let few : length items < 2 ^ 32 = c.self.invariant.0.few in
    subst (λ ms. IsState (record { marks = ms; found = c.clear.new.self.numbers; alone = c.clear-2.new.self.numbers })
    × IsRested (length ms) c.clear.new.self c.clear-2.new.self c.self.inside.lost c.self.inside.counted c.self.inside.leaves.items) (sym same) (
      kept_empty c.forget.new.marks c.clear.new.self.numbers c.clear-2.new.self.numbers (omega arith) c.forget.ensures
          (ap (λ (h : Held). h.numbers) c.clear.ensures) (ap (λ (h : Held). h.numbers) c.clear-2.ensures),
      rested_kept (length items) c.self.inside.found c.self.inside.alone c.self.inside.lost c.self.inside.counted c.self.inside.leaves.items c.self.invariant.1
          (length c.forget.new.marks) c.clear.new.self c.clear-2.new.self (omega arith) (ap (λ (h : Held). h.room) c.clear.ensures) (ap (λ (h : Held). h.room) c.clear-2.ensures),
    )
