use Rattle.std.proofs.Common.{ℕ, List, ◌++◌, ap, ◌∙◌}
use Rattle.certificate.proofs.LineForms.{no_notion, no_notion_word}
use Rattle.certificate.proofs.words.notion_after.Goals as goal

pub returns-in_err-text : goal.returns-in_err-text
returns-in_err-text c = rw c.from_residual.ensures (no_notion_word c.args.word.now c.args.bytes.now c.in_err-text.ensures)

pub returns-in-Some : goal.returns-in-Some
returns-in-Some c = c.in_ok-text.ensures ∙ ap (λ (s : List ℕ). c.args.word.now ++ s) c.in-Some.ensures

pub returns-in-Some-after : goal.returns-in-Some-after
returns-in-Some-after c = c.in_ok-text.ensures ∙ ap (λ (s : List ℕ). c.args.word.now ++ s) c.in-Some-after.ensures

pub returns-in-Some-after-2 : goal.returns-in-Some-after-2
returns-in-Some-after-2 c = c.in_ok-text.ensures ∙ ap (λ (s : List ℕ). c.args.word.now ++ s) c.in-Some-after-2.ensures

pub returns : goal.returns
returns c =
    no_notion c.args.word.now c.args.bytes.now c.in_ok-text.text.now c.in_ok-text.ensures c.in_default.ensures c.in_default-after.ensures
    c.in_default-after-2.ensures
