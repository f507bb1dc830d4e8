use Rattle.std.proofs.Common.{ℕ, ◌+◌, List, ◌++◌, drop, sym, ap, ◌∙◌}
use Rattle.share_notes.specs.Clocks.{ends_at_clock, misread_wires}
use Rattle.share_notes.specs.Known.{is_held}
use Rattle.share_notes.proofs.Clocking.{wire_found, wire_passed}
use Rattle.share_notes.proofs.clock.push_misread_wires.Goals as goal
use Rattle.share_notes.proofs.clock.push_misread_wires.Goals.{then-ends_at_clock+in_ok-push, else-ends_at_clock}

pub loop-wire-preserved : goal.loop-wire-preserved
loop-wire-preserved c =
    let xs = c.args.wires.now in
    let i = c.loop-wire.wire-index in
    let x = c.wire-item.result in
    let held = is_held c.args.clocks.now.bits in
    let test = ends_at_clock held c.args.sources.now in
    let all = c.args.lines.now.items ++ misread_wires held c.args.sources.now xs in
    elim c.if-ends_at_clock.branch [
      | then-ends_at_clock+in_ok-push w ↦
          ap (λ (ls : List ℕ). ls ++ misread_wires held c.args.sources.now (drop (i + 1) xs)) (ap (λ v. v.items) w.lines-is ∙ w.in_ok-push.ensures.items)
          ∙ wire_found test xs i x c.loop-wire.lines.items all c.loop-wire-test.true c.wire-item.is (sym c.ends_at_clock.ensures ∙ w.if-ends_at_clock.true) c.loop-wire.invariant
      | else-ends_at_clock w ↦
          ap (λ (ls : List ℕ). ls ++ misread_wires held c.args.sources.now (drop (i + 1) xs)) (ap (λ v. v.items) w.lines-is)
          ∙ wire_passed test xs i x c.loop-wire.lines.items all c.loop-wire-test.true c.wire-item.is (sym c.ends_at_clock.ensures ∙ w.if-ends_at_clock.false) c.loop-wire.invariant
    ]
