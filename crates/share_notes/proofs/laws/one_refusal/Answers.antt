use Rattle.circuit_types.proofs.DueOnce.{due_once, clear_or_due}
use Rattle.share_notes.specs.Causes.{role_causes}
use Rattle.share_notes.proofs.laws.one_refusal.Goals as goal

pub returns-clause-one : goal.returns-clause-one
returns-clause-one c = λ items nets r s. due_once (role_causes items nets) r s

pub returns-clause-none : goal.returns-clause-none
returns-clause-none c = λ items nets r. clear_or_due (role_causes items nets) r
