use Rattle.std.proofs.Common.{subst}
use Rattle.circuit_types.specs.Causes.{IsRefusal}
use Rattle.accepted_netlist.specs.Netlist.{HasRefusal}
use Rattle.maskverif_cli.specs.Answer.{Refuses}
use Rattle.maskverif_cli.specs.Kept.{RefusesBytes}
use Rattle.maskverif_cli.proofs.Replies.{halts-as}
use Rattle.maskverif_cli.proofs.verify.accepted.Goals as goal

pub returns-in-Err-Refused-clause-refused : goal.returns-in-Err-Refused-clause-refused
returns-in-Err-Refused-clause-refused c wish =
    let asked = c.args.question in
    let bytes = c.args.bytes.now in
    let refusal = c.in-Err-Refused.refusal in
    let due = subst (IsRefusal (HasRefusal asked bytes)) c.in-Err-Refused.field-0-is c.in-Err-Refused.ensures.refused in
    halts-as (Refuses refusal) (RefusesBytes asked bytes) wish ⊥ ⊥ (λ s t f h. (refusal, due, h)) (λ none. none) c.refused.result (c.refused.ensures wish)
