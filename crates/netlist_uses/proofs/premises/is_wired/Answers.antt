use Rattle.std.proofs.Common.{length, ap, arith}
use Rattle.netlist_uses.proofs.premises.is_wired.Goals as goal

pub returns : goal.returns
returns c = λ wired. record {
  pins = c.all_pins_within.ensures wired;
  ends = c.ends_within.ensures c.if-not-ends_within.false;
  few_bits = omega (arith, ap length c.as_slice.ensures);
  few_cells = omega (arith, ap length c.as_slice-2.ensures);
}
