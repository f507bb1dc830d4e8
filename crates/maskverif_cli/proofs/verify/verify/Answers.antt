use Rattle.std.proofs.lemmas.Result.{err_from_is_err_and}
use Rattle.std.specs.Option.{option_copied}
use Rattle.maskverif_cli.specs.Answer.{AnswersNetlist}
use Rattle.maskverif_cli.specs.Kept.{RefusesBytes}
use Rattle.maskverif_cli.proofs.Replies.{halts-as, refused-netlist}
use Rattle.maskverif_cli.proofs.verify.verify.Goals as goal

pub returns-in_err-netlist : goal.returns-in_err-netlist
returns-in_err-netlist c =
    let asked = c.args.question in
    let bytes = c.args.bytes.now in
    let name = option_copied c.args.wish in
    let p = err_from_is_err_and c.from_residual.result c.from_residual.ensures.1 in
    rw (p.1, p.2)
    (halts-as (RefusesBytes asked bytes) (AnswersNetlist asked name bytes) name ⊥ ⊥ (refused-netlist asked name bytes) (λ none. none) c.in_err-netlist.field-0.0
    (c.in_err-netlist.ensures.refused name))

pub returns : goal.returns
returns c = c.verdict.ensures c.args.bytes.now c.in_ok-netlist.ensures.accepted
