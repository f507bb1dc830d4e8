use Rattle.std.proofs.Common.{ℕ, List, Option, sym, ap, subst}
use Rattle.std.specs.Option.{option_copied}
use Rattle.maskverif_cli.specs.Answer.{AnswersNetlist}
use Rattle.maskverif_cli.specs.Reply.{CannotFail, Ends}
use Rattle.maskverif_cli.proofs.verify.proved.Goals as goal

pub returns : goal.returns
returns c bytes keeps =
    subst (λ (wish : Option (List ℕ)). Ends (AnswersNetlist c.args.question wish bytes) wish CannotFail c.certified.result)
    (sym (ap option_copied c.in-Some.is))
    (c.certified.ensures bytes keeps)
