use Rattle.std.proofs.Common.{◌≡◌, ℕ, ◌<◌, List, length, None, ap, ◌∙◌, subst, arith}
use Rattle.rtlil_lex.specs.Tokens.{most_bytes}
use Rattle.circuit_types.specs.declared.refusal.Refusal.TheVariants.{Limit}
use Rattle.circuit_types.specs.declared.refusal.Which.TheVariants.{FileBytes}
use Rattle.verify_question.specs.declared.question.Question.{Question}
use Rattle.maskverif_cli.specs.Answer.{AnswersNetlist, Refuses}
use Rattle.maskverif_cli.specs.Gadgets.{gadget_text, trial_question}
use Rattle.maskverif_cli.specs.Reply.{Ends}
use Rattle.maskverif_cli.proofs.Replies.{halts-as, refused-length, refused-netlist}
use Rattle.maskverif_cli.proofs.gadgets.trial.Goals as goal

pub returns-then-len-gt-MOST_BYTES : goal.returns-then-len-gt-MOST_BYTES
returns-then-len-gt-MOST_BYTES c =
    let asked = c.args.asked in
    let question = trial_question asked.shares in
    let text = gadget_text asked in
    let size : length c.in_ok-text.text.items ≡ length text = ap length c.in_ok-text.ensures in
    let longer : most_bytes < length text = omega arith in
    halts-as (Refuses (Limit FileBytes)) (AnswersNetlist question None text) None ⊥ ⊥
    (λ s t f r. refused-netlist question None text s t f (refused-length question text s t f longer r))
    (λ none. none) c.refused.result (c.refused.ensures None)

pub returns : goal.returns
returns c =
    let asked = c.args.asked in
    let same : c.as_slice.result.now ≡ gadget_text asked = c.as_slice.ensures.value ∙ c.in_ok-text.ensures in
    let asks = subst (λ (q : Question). Ends (AnswersNetlist q None c.as_slice.result.now) None ⊥ c.verify.result) c.trial_question.ensures.asked c.verify.ensures in
    subst (λ (b : List ℕ). Ends (AnswersNetlist (trial_question asked.shares) None b) None ⊥ c.verify.result) same asks
