use Rattle.std.proofs.lemmas.Result.{err_from_is_err_and}
use Rattle.rtlil_lex.specs.Tokens.{most_bytes}
use Rattle.circuit_types.specs.declared.refusal.Which.TheVariants.{FileBytes}
use Rattle.command_words.specs.Commands.{verify_request}
use Rattle.maskverif_cli.specs.Answer.{AnswersNetlist, AnswersVerify, netlist}
use Rattle.maskverif_cli.specs.Reply.{Lacks, MayFail}
use Rattle.std.proofs.Common.{sym, subst}
use Rattle.mv_files.specs.Disk.{IsWhole}
use Rattle.maskverif_cli.proofs.Replies.{ends-as, ends-count, halts-as, verify-lacks}
use Rattle.maskverif_cli.proofs.files.verify_file.Goals as goal

pub returns-in_err-bytes-clause-due : goal.returns-in_err-bytes-clause-due
returns-in_err-bytes-clause-due g c =
    let asked = verify_request c.args.asked in
    let disk = g.F.Files.disk c.args.files.now in
    let p = err_from_is_err_and c.from_residual.result c.from_residual.ensures.1 in
    rw (p.1, p.2)
    (halts-as (Lacks disk asked.netlist most_bytes FileBytes) (AnswersVerify disk asked) asked.certificate MayFail MayFail (verify-lacks disk asked) (λ fails. fails)
    c.in_err-bytes.field-0.0 (c.in_err-bytes.ensures.lacks asked.certificate))

pub returns-clause-due : goal.returns-clause-due
returns-clause-due g c =
    let asked = verify_request c.args.asked in
    let disk = g.F.Files.disk c.args.files.now in
    let there = subst (IsWhole asked.netlist disk) (sym c.as_slice.ensures.value) c.in_ok-bytes.ensures.whole in
    ends-as (AnswersNetlist asked.question asked.certificate c.as_slice.result.now) (AnswersVerify disk asked) asked.certificate ⊥ MayFail
    (λ s t f h. netlist c.as_slice.result.now there h) (λ fails. absurd fails) c.verify.result c.verify.ensures

pub returns-clause-reads : goal.returns-clause-reads
returns-clause-reads g c =
    let asked = verify_request c.args.asked in
    ends-count (AnswersNetlist asked.question asked.certificate c.as_slice.result.now) asked.certificate _ _ c.verify.result c.verify.ensures c.in_ok-bytes.ensures.reads
