use Rattle.std.proofs.Common.{ℕ, List, ◌++◌, ap, ◌∙◌}
use Rattle.certificate.proofs.LineForms.{no_model, no_model_word}
use Rattle.certificate.proofs.words.model_after.Goals as goal

pub returns-in_err-text : goal.returns-in_err-text
returns-in_err-text c = rw c.from_residual.ensures (no_model_word c.args.word.now c.args.bytes.now c.in_err-text.ensures)

pub returns-in-Some : goal.returns-in-Some
returns-in-Some c = c.in_ok-text.ensures ∙ ap (λ (s : List ℕ). c.args.word.now ++ s) c.in-Some.ensures

pub returns-in-Some-after : goal.returns-in-Some-after
returns-in-Some-after c = c.in_ok-text.ensures ∙ ap (λ (s : List ℕ). c.args.word.now ++ s) c.in-Some-after.ensures

pub returns : goal.returns
returns c =
    no_model c.args.word.now c.args.bytes.now c.in_ok-text.text.now c.in_ok-text.ensures c.in_default.ensures c.in_default-after.ensures
