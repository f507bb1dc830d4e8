use Rattle.std.proofs.Common.{◌≡◌, [], ◌∷◌, sym, ap, ◌∙◌}
use Rattle.command_words.specs.declared.command.Checking.{Checking}
use Rattle.command_words.specs.Names.{texts}
use Rattle.command_words.specs.Commands.{CheckRequest, AsksCheck, IsCheck, check_request}
use Rattle.command_words.proofs.Uses.{five, if-some, if-none, is-check, asks-check}
use Rattle.command_words.proofs.read.read_check.Goals as goal

pub returns-clause-taken : goal.returns-clause-taken
returns-clause-taken c =
    let items = five c.args.words.now c.notion-item.result c.order-item.result c.model-item.result c.netlist-item.result c.certificate-item.result
    c.in-len5.len_at_least c.in-len5.len_below c.notion-item.is c.order-item.is c.model-item.is c.netlist-item.is c.certificate-item.is in
    let words : texts c.args.words.now ≡ c.as_str.result.now ∷ c.as_str-2.result.now ∷ c.as_str-3.result.now ∷ c.as_str-4.result.now ∷ c.as_str-5.result.now ∷ [] =
    ap texts items ∙ (λ i. (sym c.as_str.ensures.value) i ∷ (sym c.as_str-2.ensures.value) i ∷ (sym c.as_str-3.ensures.value) i ∷ (sym c.as_str-4.ensures.value) i ∷ (sym c.as_str-5.ensures.value) i ∷ []) in
    if-some c.checking_asked.result
    (λ (asked : Checking). AsksCheck c.as_str.result.now c.as_str-2.result.now c.as_str-3.result.now c.as_str-4.result.now c.as_str-5.result.now (check_request asked))
    (λ (asked : Checking). IsCheck (texts c.args.words.now) (check_request asked))
    (λ asked asks. is-check (texts c.args.words.now) _ _ _ _ _ words (check_request asked) asks)
    c.checking_asked.ensures.taken

pub returns-clause-other : goal.returns-clause-other
returns-clause-other c =
    let items = five c.args.words.now c.notion-item.result c.order-item.result c.model-item.result c.netlist-item.result c.certificate-item.result
    c.in-len5.len_at_least c.in-len5.len_below c.notion-item.is c.order-item.is c.model-item.is c.netlist-item.is c.certificate-item.is in
    let words : texts c.args.words.now ≡ c.as_str.result.now ∷ c.as_str-2.result.now ∷ c.as_str-3.result.now ∷ c.as_str-4.result.now ∷ c.as_str-5.result.now ∷ [] =
    ap texts items ∙ (λ i. (sym c.as_str.ensures.value) i ∷ (sym c.as_str-2.ensures.value) i ∷ (sym c.as_str-3.ensures.value) i ∷ (sym c.as_str-4.ensures.value) i ∷ (sym c.as_str-5.ensures.value) i ∷ []) in
    if-none c.checking_asked.result
    ((request : CheckRequest) → AsksCheck c.as_str.result.now c.as_str-2.result.now c.as_str-3.result.now c.as_str-4.result.now c.as_str-5.result.now request → ⊥)
    ((request : CheckRequest) → IsCheck (texts c.args.words.now) request → ⊥)
    (λ none request is. none request (asks-check (texts c.args.words.now) _ _ _ _ _ words request is))
    c.checking_asked.ensures.other
