-- What an answer on a chain means for the cuts. Private contracts cite this.
use Rattle.std.specs.Prelude.{Option, Some, None}
use Rattle.chain_check.specs.declared.answer.ChainAnswer.{ChainAnswer}
use Rattle.chain_check.specs.declared.answer.ChainAnswer.TheVariants.{Holds, BadCut, OverBound}
use Rattle.certificate.specs.declared.fault.Why.{Why}
use Rattle.certificate.specs.declared.fault.Why.TheVariants as why

abbrev pub why_of : ChainAnswer → Option Why
why_of Holds = None
why_of (BadCut place) = Some why.Cuts
why_of OverBound = Some why.Bound
