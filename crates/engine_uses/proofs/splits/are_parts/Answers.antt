use Rattle.std.proofs.Common.{arith, subst, sym}
use Rattle.std.proofs.lemmas.List.{take_all}
use Rattle.std.proofs.lemmas.List.Elements.{All-more, All-same}
use Rattle.probe_family.specs.Families.{IsPart}
use Rattle.engine_uses.specs.declared.splits.TheConstants.{PROBES}
use Rattle.engine_uses.proofs.splits.are_parts.Goals as goal

pub loop-part-preserved : goal.loop-part-preserved
loop-part-preserved c = All-more (IsPart PROBES) c.args.parts.now c.loop-part.part-index c.part-item.result (omega arith) c.loop-part.invariant (subst (IsPart PROBES) c.part-item.is c.if-not-is_part.ensures)

pub returns : goal.returns
returns c = All-same (IsPart PROBES) _ _ (sym (take_all c.loop-part.part-index c.args.parts.now (omega arith))) c.loop-part.invariant
