use Rattle.std.proofs.Common.{All, take}
use Rattle.circuit_types.specs.DataSources.{IsWithin}
use Rattle.netlist_uses.proofs.premises.ends_within.Given as goal

abbrev pub invariant-loop-source : goal.invariant-loop-source
invariant-loop-source l = All (IsWithin l.nets) (take l.source-index l.nets.sources)
