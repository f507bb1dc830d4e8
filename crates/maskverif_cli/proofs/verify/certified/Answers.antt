use Rattle.std.proofs.Common.{Some, arith}
use Rattle.circuit_types.specs.declared.refusal.Refusal.TheVariants.{Limit}
use Rattle.circuit_types.specs.declared.refusal.Which.TheVariants.{CertificateBytes}
use Rattle.maskverif_cli.specs.Answer.{AnswersNetlist, Refuses}
use Rattle.maskverif_cli.proofs.Replies.{halts-as, secure-kept, secure-long}
use Rattle.maskverif_cli.proofs.verify.certified.Goals as goal

pub returns-then-len-gt-MOST_BYTES : goal.returns-then-len-gt-MOST_BYTES
returns-then-len-gt-MOST_BYTES c bytes keeps =
    let asked = c.args.question in
    let name = c.args.name.now in
    halts-as (Refuses (Limit CertificateBytes)) (AnswersNetlist asked (Some name) bytes) (Some name) ⊥ ⊥
    (secure-long asked c.args.netlist.now bytes keeps name c.args.report.items c.args.certificate.items c.requires.report c.requires.certificate (omega arith))
    (λ none. none) c.refused.result (c.refused.ensures (Some name))

pub returns : goal.returns
returns c bytes keeps =
    secure-kept c.args.question c.args.netlist.now bytes keeps c.args.name.now c.args.report.items c.args.certificate.items c.requires.report c.requires.certificate (omega arith)
