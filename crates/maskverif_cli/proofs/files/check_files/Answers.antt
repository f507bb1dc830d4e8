use Rattle.std.proofs.lemmas.Result.{err_from_is_err_and}
use Rattle.std.proofs.Common.{ℕ, ◌≤◌, List, length, None, sym, subst, ◌∙◌}
use Rattle.mv_files.specs.Disk.{IsWhole}
use Rattle.rtlil_lex.specs.Tokens.{most_bytes}
use Rattle.circuit_types.specs.declared.refusal.Which.TheVariants.{CertificateBytes, FileBytes}
use Rattle.command_words.specs.Commands.{check_request}
use Rattle.maskverif_cli.specs.Answer.{AnswersCheck}
use Rattle.certificate.specs.Certificates.{most_bytes as most_certificate_bytes}
use Rattle.maskverif_cli.specs.Kept.{RefusesBytes}
use Rattle.maskverif_cli.specs.Reply.{Lacks, MayFail}
use Rattle.maskverif_cli.proofs.Before.{lacks-before, whole-before}
use Rattle.maskverif_cli.proofs.Ending.{same-then}
use Rattle.maskverif_cli.proofs.Replies.{certificate-checked, certificate-lacks, check-lacks, check-refused, counts-from, halts-as, no-fault}
use Rattle.maskverif_cli.proofs.files.check_files.Goals as goal

pub returns-in_err-bytes-clause-due : goal.returns-in_err-bytes-clause-due
returns-in_err-bytes-clause-due g c =
    let asked = check_request c.args.asked in
    let disk = g.F.Files.disk c.args.files.now in
    let p = err_from_is_err_and c.from_residual.result c.from_residual.ensures.1 in
    rw (p.1, p.2)
    (halts-as (Lacks disk asked.netlist most_bytes FileBytes) (AnswersCheck disk asked) None MayFail MayFail (check-lacks disk asked) (λ fails. fails)
    c.in_err-bytes.field-0.0 (c.in_err-bytes.ensures.lacks None))

pub returns-in_err-netlist-clause-due : goal.returns-in_err-netlist-clause-due
returns-in_err-netlist-clause-due g c =
    let asked = check_request c.args.asked in
    let disk = g.F.Files.disk c.args.files.now in
    let bytes = c.as_slice.result.now in
    let there = subst (IsWhole asked.netlist disk) (sym c.as_slice.ensures.value) c.in_ok-bytes.ensures.whole in
    let p = err_from_is_err_and c.from_residual-in_err-netlist.result c.from_residual-in_err-netlist.ensures.1 in
    rw (p.1, p.2)
    (halts-as (RefusesBytes asked.question bytes) (AnswersCheck disk asked) None ⊥ MayFail (check-refused disk asked bytes there) (λ fails. absurd fails)
    c.in_err-netlist.field-0.0 (c.in_err-netlist.ensures.refused None))

pub returns-in_err-netlist-clause-reads : goal.returns-in_err-netlist-clause-reads
returns-in_err-netlist-clause-reads g c =
    let asked = check_request c.args.asked in
    let p = err_from_is_err_and c.from_residual-in_err-netlist.result c.from_residual-in_err-netlist.ensures.1 in
    rw (p.1, p.2)
    (no-fault (RefusesBytes asked.question c.as_slice.result.now) None _ _ c.in_err-netlist.field-0.0 (c.in_err-netlist.ensures.refused None) c.in_ok-bytes.ensures.reads)

pub returns-in_err-certificate-clause-due : goal.returns-in_err-certificate-clause-due
returns-in_err-certificate-clause-due g c =
    let asked = check_request c.args.asked in
    let disk = g.F.Files.disk c.args.files.now in
    let bytes = c.as_slice.result.now in
    let there = subst (IsWhole asked.netlist disk) (sym c.as_slice.ensures.value) c.in_ok-bytes.ensures.whole in
    let before = lacks-before asked.certificate most_certificate_bytes CertificateBytes disk _ c.in_ok-bytes.ensures.same in
    let p = err_from_is_err_and c.from_residual-in_err-certificate.result c.from_residual-in_err-certificate.ensures.1 in
    rw (p.1, p.2)
    (halts-as (Lacks _ asked.certificate most_certificate_bytes CertificateBytes) (AnswersCheck disk asked) None MayFail MayFail
    (λ s t f h. certificate-lacks disk asked bytes c.in_ok-netlist.netlist there c.in_ok-netlist.ensures.accepted s t f (before s t f h)) (λ fails. fails)
    c.in_err-certificate.field-0.0 (c.in_err-certificate.ensures.lacks None))

pub returns-in_err-certificate-clause-reads : goal.returns-in_err-certificate-clause-reads
returns-in_err-certificate-clause-reads g c =
    let p = err_from_is_err_and c.from_residual-in_err-certificate.result c.from_residual-in_err-certificate.ensures.1 in
    rw (p.1, p.2) (counts-from _ _ _ c.in_err-certificate.field-0.0 c.in_ok-bytes.ensures.reads c.in_err-certificate.ensures.reads)

pub returns-in_err-certificate-clause-same : goal.returns-in_err-certificate-clause-same
returns-in_err-certificate-clause-same g c = same-then _ _ _ c.in_ok-bytes.ensures.same c.in_err-certificate.ensures.same

pub returns-in_err-reply-clause-same : goal.returns-in_err-reply-clause-same
returns-in_err-reply-clause-same g c = same-then _ _ _ c.in_ok-bytes.ensures.same c.in_ok-certificate.ensures.same

pub returns-clause-due : goal.returns-clause-due
returns-clause-due g c =
    let asked = check_request c.args.asked in
    let disk = g.F.Files.disk c.args.files.now in
    let bytes = c.as_slice.result.now in
    let there = subst (IsWhole asked.netlist disk) (sym c.as_slice.ensures.value) c.in_ok-bytes.ensures.whole in
    let certificate = c.as_slice-2.result.now in
    let whole = whole-before asked.certificate c.in_ok-certificate.certificate.items disk _ c.in_ok-bytes.ensures.same c.in_ok-certificate.ensures.whole in
    let is = subst (IsWhole asked.certificate disk) (sym c.as_slice-2.ensures.value) whole in
    let short = subst (λ (b : List ℕ). length b ≤ most_certificate_bytes) (sym c.as_slice-2.ensures.value) c.in_ok-certificate.ensures.short in
    certificate-checked disk asked bytes c.in_ok-netlist.netlist there c.in_ok-netlist.ensures.accepted certificate is short c.in_ok-reply.reply c.in_ok-reply.ensures

pub returns-clause-reads : goal.returns-clause-reads
returns-clause-reads g c = c.in_ok-certificate.ensures.reads ∙ c.in_ok-bytes.ensures.reads

pub returns-clause-same : goal.returns-clause-same
returns-clause-same g c = same-then _ _ _ c.in_ok-bytes.ensures.same c.in_ok-certificate.ensures.same
