use Rattle.std.proofs.Common.{◌<◌, refl, arith}
use Rattle.circuit_types.specs.declared.roles.OutputShare.{OutputShare}
use Rattle.level_unroll.proofs.Checked.{all_more, all_taken}
use Rattle.netlist_uses.proofs.premises.outputs_fit.Goals as goal

pub loop-output-preserved : goal.loop-output-preserved
loop-output-preserved c =
    all_more (λ (o : OutputShare). o.bit < c.args.count) c.args.outputs.now c.args.outputs.now c.loop-output.output-index (record { bit = 0; secret = 0; share = 0 }) refl c.loop-output-test.true
    c.loop-output.invariant (omega arith)

pub returns : goal.returns
returns c = λ _. all_taken (λ (o : OutputShare). o.bit < c.args.count) c.args.outputs.now c.args.outputs.now c.loop-output.output-index refl c.loop-output-test.false c.loop-output.invariant
