use Rattle.std.proofs.Common.{ap, arith}
use Rattle.net_build.proofs.BitLemmas.{good_narrow, good_capped}
use Rattle.net_build.proofs.expand.width_of.Goals as goal

pub overflow_cast-result : goal.overflow_cast-result
overflow_cast-result c =
    omega (arith, good_narrow c.args.wires.now.list.now c.args.signal.now c.requires, ap (λ s. s.width) c.shape_of.ensures)

pub returns : goal.returns
returns c =
    good_capped c.args.wires.now.list.now c.args.signal.now c.shape_of.result.width c.requires (ap (λ s. s.width) c.shape_of.ensures)
