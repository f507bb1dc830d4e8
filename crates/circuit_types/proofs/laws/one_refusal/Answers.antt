use Rattle.circuit_types.specs.Nets.{net_causes}
use Rattle.circuit_types.proofs.DueOnce.{due_once, clear_or_due}
use Rattle.circuit_types.proofs.laws.one_refusal.Goals as goal

pub returns-clause-one : goal.returns-clause-one
returns-clause-one c = λ items r s. due_once (net_causes items) r s

pub returns-clause-none : goal.returns-clause-none
returns-clause-none c = λ items r. clear_or_due (net_causes items) r
