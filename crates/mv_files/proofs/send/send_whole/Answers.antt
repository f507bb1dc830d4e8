use Rattle.std.proofs.Common.{List, ℕ, sym, ◌∙◌, subst}
use Rattle.std.proofs.lemmas.List.{take_rest}
use Rattle.mv_files.proofs.SendingLemmas.{Partway, wrote}
use Rattle.mv_files.proofs.send.send_whole.Goals as goal

pub loop-unsent-preserved : goal.loop-unsent-preserved
loop-unsent-preserved g c =
    let before = c.loop-unsent.invariant in
    let after = c.in_ok-taken.ensures in
    record {
      faultless = after.faults.same ∙ before.faultless;
      partway = subst (λ (l : List ℕ). Partway c.args.bytes.now l (g.O.Sink.written c.args.out.now) (g.O.Sink.written c.write.new.self)) (sym (take_rest c.loop-unsent.unsent.now c.in_ok-taken.taken))
          (wrote c.args.bytes.now c.loop-unsent.unsent.now c.in_ok-taken.taken _ _ _ before.partway after.writes);
    }
