use Rattle.std.proofs.Common.{◌≡◌, suc, length, sym, subst, ◌∙◌, List, arith}
use Rattle.live_rows.specs.declared.mark.Mark.{Mark}
use Rattle.live_rows.specs.Shown.{Shows}
use Rattle.live_rows.proofs.Facts.{roots_within, taken-length}
use Rattle.least_chain.proofs.Waits.{waiting_turned}
use Rattle.least_chain.proofs.chain.offer_parents.Goals as goal

pub loop-row-preserved : goal.loop-row-preserved
loop-row-preserved c =
    let nodes = c.args.table.now.nodes in
    let marks = c.take_alone.ensures.marks ∙ c.loop-row.invariant.marks in
    let fewer : length c.loop-row.live.alone ≡ suc (length c.take_alone.new.self.alone) = taken-length c.loop-row.live.alone c.take_alone.new.self.alone c.in-Some.row.0 c.in-Some.ensures.taken in
    record {
      marks = marks;
      found = c.take_alone.ensures.found ∙ c.loop-row.invariant.found;
      waits = λ roots done shows before.
          c.in_ok-offer_parent.ensures.waiting roots done (subst (λ (ms : List Mark). Shows nodes roots done ms) (sym marks) shows)
          (waiting_turned nodes c.requires.table.earlier roots (roots_within nodes roots done c.args.live.now.marks shows) done c.loop-row.live.alone c.take_alone.new.self.alone c.loop-row.waiting
          c.in-Some.row.0 c.in-Some.ensures.taken (c.loop-row.invariant.waits roots done shows before));
      len = omega (arith, c.in_ok-offer_parent.ensures.len, c.loop-row.invariant.len);
    }
