use Rattle.std.proofs.Common.{List, ℕ, sym, ◌∙◌, subst}
use Rattle.std.proofs.lemmas.List.{take_rest}
use Rattle.mv_files.specs.Told.{WhereTold}
use Rattle.mv_files.proofs.WritingWhole.{PartWritten, wrote_more}
use Rattle.mv_files.proofs.write.write_whole.Goals as goal

pub loop-unwritten-preserved : goal.loop-unwritten-preserved
loop-unwritten-preserved g c =
    let before = c.loop-unwritten.invariant in
    let after = c.in_ok-taken.ensures in
    record {
      writing = after.writing;
      faultless = after.faults.same ∙ before.faultless;
      read_faults = after.other_faults ∙ before.read_faults;
      part = subst (λ (l : List ℕ). WhereTold (PartWritten c.args.name.now c.args.bytes.now l) (g.F.Files.disk c.args.files.now) (g.F.Files.disk c.write.new.self)) (sym (take_rest c.loop-unwritten.unwritten.now c.in_ok-taken.taken))
          (wrote_more c.args.name.now c.args.bytes.now c.loop-unwritten.unwritten.now c.in_ok-taken.taken _ _ _ before.part after.writes);
    }
