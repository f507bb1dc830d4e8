use Rattle.circuit_types.specs.declared.nets.Source.TheVariants as source
use Rattle.circuit_types.specs.DataSources.{IsWithin}
use Rattle.level_unroll.proofs.Checked.{all_more, all_taken}
use Rattle.netlist_uses.proofs.premises.ends_within.Goals as goal

pub loop-source-preserved : goal.loop-source-preserved
loop-source-preserved c =
    all_more (IsWithin c.args.nets.now) c.args.nets.now.sources c.as_slice-source-items.result.now c.loop-source.source-index (source.Input 0) c.as_slice-source-items.ensures c.loop-source-test.true
    c.loop-source.invariant (c.is_within.ensures c.if-not-is_within.false)

pub returns : goal.returns
returns c = λ _. all_taken (IsWithin c.args.nets.now) c.args.nets.now.sources c.as_slice-source-items.result.now c.loop-source.source-index c.as_slice-source-items.ensures c.loop-source-test.false c.loop-source.invariant
