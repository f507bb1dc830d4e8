use Rattle.gadget_maker.proofs.Printing.{printable, stands}
use Rattle.gadget_maker.proofs.laws.gadgets_are_printable.Goals as goal

pub returns-clause-printable : goal.returns-clause-printable
returns-clause-printable c = printable

pub returns-clause-reads : goal.returns-clause-reads
returns-clause-reads c = stands
