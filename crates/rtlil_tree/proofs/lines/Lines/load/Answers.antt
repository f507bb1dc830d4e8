use Rattle.std.proofs.Common.{refl}
use Rattle.std.proofs.Math.Nat.{le_of_lt}
use Rattle.rtlil_tree.specs.Inner.Cursor.{left_of, IsLoaded}
use Rattle.rtlil_tree.proofs.PartLemmas.{next_line, next_begins, part_left, part_fails, tokens_on, less_work}
use Rattle.rtlil_tree.proofs.lines.Lines.load.Goals as goal

pub returns-in-Err-clause-load : goal.returns-in-Err-clause-load
unfolding IsLoaded
returns-in-Err-clause-load c = λ rest ah.
    part_fails c.args.self.now c.next_bytes-bytes.result.now rest c.in-Err.fault c.part_stop.result c.next_bytes-bytes.ensures c.in-Err.ensures.fault ah c.part_stop.ensures

pub invariant_of-self-2 : goal.invariant_of-self-2
invariant_of-self-2 c =
    let cut = c.next_bytes-bytes.ensures in
    record {
      within = cut.part.within;
      short = c.args.self.now.short;
      counted = next_line c.args.self.now c.next_bytes-bytes.result.now c.end_line-self.result c.in-Ok.part cut c.in-Ok.ensures.part c.end_line-self.ensures;
      begins = next_begins c.args.self.now c.next_bytes-bytes.result.now cut;
    }

pub returns-clause-load : goal.returns-clause-load
unfolding IsLoaded left_of
returns-clause-load c = λ rest ah. part_left c.args.self.now c.next_bytes-bytes.result.now c.in-Ok.part rest c.next_bytes-bytes.ensures c.in-Ok.ensures.part ah

pub returns-clause-on : goal.returns-clause-on
returns-clause-on c = record {
  bytes = refl;
  less = le_of_lt (less_work c.args.self.now _ c.next_bytes-bytes.result.now c.next_bytes-bytes.ensures refl refl);
  tokens = λ h. tokens_on c.args.self.now c.next_bytes-bytes.result.now _ c.in-Ok.part c.next_bytes-bytes.ensures c.in-Ok.ensures.part h;
}

pub returns-clause-less : goal.returns-clause-less
returns-clause-less c = less_work c.args.self.now _ c.next_bytes-bytes.result.now c.next_bytes-bytes.ensures refl refl
