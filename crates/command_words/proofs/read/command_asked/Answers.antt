use Rattle.std.proofs.Common.{codes}
use Rattle.command_words.specs.Names.{texts}
use Rattle.command_words.proofs.One.{no-verify, no-check, no-generate, no-trial}
use Rattle.command_words.proofs.Uses.{is-none, named}
use Rattle.command_words.proofs.read.command_asked.Goals as goal

pub returns-in_err-asked-clause-other : goal.returns-in_err-asked-clause-other
returns-in_err-asked-clause-other c =
    is-none c.from_residual.result _ (no-verify c.args.name.now (texts c.args.behind.now) (named c.args.name.now (codes "verify") c.if-eq.ensures)
    c.in_err-asked.ensures.other)

pub returns-in_err-asked-2-clause-other : goal.returns-in_err-asked-2-clause-other
returns-in_err-asked-2-clause-other c =
    is-none c.from_residual-in_err-asked-2.result _ (no-check c.args.name.now (texts c.args.behind.now) (named c.args.name.now (codes "check") c.if-eq-2.ensures)
    c.in_err-asked-2.ensures.other)

pub returns-in_err-asked-3-clause-other : goal.returns-in_err-asked-3-clause-other
returns-in_err-asked-3-clause-other c =
    is-none c.from_residual-in_err-asked-3.result _ (no-generate c.args.name.now (texts c.args.behind.now) (named c.args.name.now (codes "generate") c.if-eq-3.ensures)
    c.in_err-asked-3.ensures.other)

pub returns-in_err-asked-4-clause-other : goal.returns-in_err-asked-4-clause-other
returns-in_err-asked-4-clause-other c =
    is-none c.from_residual-in_err-asked-4.result _ (no-trial c.args.name.now (texts c.args.behind.now) (named c.args.name.now (codes "trial") c.if-eq-4.ensures)
    c.in_err-asked-4.ensures.other)
