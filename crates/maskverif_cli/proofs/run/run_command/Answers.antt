use Rattle.std.proofs.Common.{None, refl, subst}
use Rattle.command_words.specs.declared.command.Command.{Command}
use Rattle.command_words.specs.Commands.{Means, check, check_request, generate, request_of, trial, verify, verify_request}
use Rattle.command_words.specs.Names.{texts}
use Rattle.maskverif_cli.specs.declared.status.Status.TheVariants.{Usage}
use Rattle.maskverif_cli.specs.Answer.{AnswersCheck, AnswersNetlist, AnswersVerify, IsDueTo, IsMade, usage}
use Rattle.maskverif_cli.specs.Gadgets.{gadget_text, trial_question}
use Rattle.maskverif_cli.specs.Reply.{MayFail}
use Rattle.maskverif_cli.proofs.Asked.{checked-question, made-shares, modest, tried-shares}
use Rattle.maskverif_cli.proofs.Ending.{concluded, delivered, no-reads, sends-alone, unread}
use Rattle.maskverif_cli.proofs.Replies.{ends-as}
use Rattle.maskverif_cli.proofs.run.run_command.Goals as goal

pub returns-in_default : goal.returns-in_default
returns-in_default g c =
    delivered c.args.words.now _ _ _ (unread _) refl Usage c.finish.result c.usage.result.now None
    (usage (record { not_taken = c.in_default.ensures.other; status_is = refl; text_is = c.usage.ensures; no_file = refl })) refl
    (sends-alone c.usage.result.now Usage c.finish.result _ _ refl refl refl c.finish.ensures)

pub verify_file-end-requires : goal.verify_file-end-requires
verify_file-end-requires g c =
    let words = texts c.args.words.now in
    let asks = subst (λ (command : Command). Means words (request_of command)) c.in-Verify.is c.in-Some.ensures.taken in
    let limits = modest words (verify_request c.in-Verify.asked) asks in
    record { asked = limits.question; crew = limits.crew }

pub returns-in-Verify : goal.returns-in-Verify
returns-in-Verify g c =
    let words = texts c.args.words.now in
    let disk = g.F.Files.disk c.args.files.now in
    let asks = subst (λ (command : Command). Means words (request_of command)) c.in-Verify.is c.in-Some.ensures.taken in
    let request = verify_request c.in-Verify.asked in
    let read = c.verify_file-end.ensures in
    concluded c.args.words.now _ _ _ (record { files = read.same; written = refl; writes = read.writes; sends = refl })
    (verify request) asks request.certificate c.verify_file-end.result c.conclude.result
    (ends-as (AnswersVerify disk request) (IsDueTo disk (verify request)) request.certificate MayFail _ (λ s t f h. h) (λ fails. refl) c.verify_file-end.result read.due)
    read.reads c.conclude.ensures

pub check_files-end-requires : goal.check_files-end-requires
check_files-end-requires g c =
    let words = texts c.args.words.now in
    let asks = subst (λ (command : Command). Means words (request_of command)) c.in-Check.is c.in-Some.ensures.taken in
    checked-question words (check_request c.in-Check.asked) asks

pub returns-in-Check : goal.returns-in-Check
returns-in-Check g c =
    let words = texts c.args.words.now in
    let disk = g.F.Files.disk c.args.files.now in
    let asks = subst (λ (command : Command). Means words (request_of command)) c.in-Check.is c.in-Some.ensures.taken in
    let request = check_request c.in-Check.asked in
    let read = c.check_files-end.ensures in
    concluded c.args.words.now _ _ _ (record { files = read.same; written = refl; writes = read.writes; sends = refl })
    (check request) asks None c.check_files-end.result c.conclude-in-Check.result
    (ends-as (AnswersCheck disk request) (IsDueTo disk (check request)) None MayFail _ (λ s t f h. h) (λ fails. refl) c.check_files-end.result read.due)
    read.reads c.conclude-in-Check.ensures

pub generate-end-requires : goal.generate-end-requires
generate-end-requires g c =
    let words = texts c.args.words.now in
    let asks = subst (λ (command : Command). Means words (request_of command)) c.in-Generate.is c.in-Some.ensures.taken in
    let limits = made-shares words c.in-Generate.asked asks in
    record { least = limits.least; most = limits.most }

pub returns-in-Generate : goal.returns-in-Generate
returns-in-Generate g c =
    let words = texts c.args.words.now in
    let disk = g.F.Files.disk c.args.files.now in
    let asks = subst (λ (command : Command). Means words (request_of command)) c.in-Generate.is c.in-Some.ensures.taken in
    let asked = c.in-Generate.asked in
    concluded c.args.words.now _ _ _ (unread _) (generate asked) asks None c.generate-end.result c.conclude-in-Generate.result
    (ends-as (IsMade asked) (IsDueTo disk (generate asked)) None ⊥ _ (λ s t f h. h) (λ fails. absurd fails) c.generate-end.result c.generate-end.ensures)
    (no-reads (IsMade asked) None _ c.generate-end.result c.generate-end.ensures) c.conclude-in-Generate.ensures

pub trial-end-requires : goal.trial-end-requires
trial-end-requires g c =
    let words = texts c.args.words.now in
    let asks = subst (λ (command : Command). Means words (request_of command)) c.in-Trial.is c.in-Some.ensures.taken in
    let limits = tried-shares words c.in-Trial.asked asks in
    record { least = limits.least; most = limits.most }

pub returns-in-Trial : goal.returns-in-Trial
returns-in-Trial g c =
    let words = texts c.args.words.now in
    let disk = g.F.Files.disk c.args.files.now in
    let asks = subst (λ (command : Command). Means words (request_of command)) c.in-Trial.is c.in-Some.ensures.taken in
    let asked = c.in-Trial.asked in
    let Tried = AnswersNetlist (trial_question asked.shares) None (gadget_text asked) in
    concluded c.args.words.now _ _ _ (unread _) (trial asked) asks None c.trial-end.result c.conclude-in-Trial.result
    (ends-as Tried (IsDueTo disk (trial asked)) None ⊥ _ (λ s t f h. h) (λ fails. absurd fails) c.trial-end.result c.trial-end.ensures)
    (no-reads Tried None _ c.trial-end.result c.trial-end.ensures) c.conclude-in-Trial.ensures
