use Rattle.command_words.specs.declared.command.Verification.{Verification}
use Rattle.command_words.specs.Names.{texts}
use Rattle.command_words.specs.Reading.{found_of}
use Rattle.command_words.specs.Commands.{VerifyRequest, AsksVerify, IsVerify, verify_request}
use Rattle.command_words.proofs.Uses.{if-some, if-none, is-none, no-verify, is-verify, asks-verify}
use Rattle.command_words.proofs.read.read_verify.Goals as goal

pub returns-in_err-given-clause-other : goal.returns-in_err-given-clause-other
returns-in_err-given-clause-other c =
    is-none c.from_residual.result ((request : VerifyRequest) → IsVerify (texts c.args.words.now) request → ⊥)
    (no-verify (texts c.args.words.now) c.in_err-given.ensures.other)

pub returns-clause-taken : goal.returns-clause-taken
returns-clause-taken c =
    if-some c.verification_asked.result
    (λ (asked : Verification). AsksVerify (found_of c.in_ok-given.given) (verify_request asked))
    (λ (asked : Verification). IsVerify (texts c.args.words.now) (verify_request asked))
    (λ asked asks. is-verify (texts c.args.words.now) (found_of c.in_ok-given.given) (verify_request asked) c.in_ok-given.ensures.read asks)
    c.verification_asked.ensures.taken

pub returns-clause-other : goal.returns-clause-other
returns-clause-other c =
    if-none c.verification_asked.result
    ((request : VerifyRequest) → AsksVerify (found_of c.in_ok-given.given) request → ⊥)
    ((request : VerifyRequest) → IsVerify (texts c.args.words.now) request → ⊥)
    (λ none request is. none request (asks-verify (texts c.args.words.now) (found_of c.in_ok-given.given) request c.in_ok-given.ensures.read is))
    c.verification_asked.ensures.other
