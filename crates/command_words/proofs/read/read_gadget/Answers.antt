use Rattle.std.proofs.Common.{◌≡◌, [], ◌∷◌, sym, ap, ◌∙◌}
use Rattle.command_words.specs.declared.command.Gadget.{Gadget}
use Rattle.command_words.specs.Names.{texts}
use Rattle.command_words.specs.Commands.{AsksGadget, IsGadget}
use Rattle.command_words.proofs.Uses.{two, if-some, if-none, is-gadget, asks-gadget}
use Rattle.command_words.proofs.read.read_gadget.Goals as goal

pub returns-clause-taken : goal.returns-clause-taken
returns-clause-taken c =
    let items = two c.args.words.now c.seed-item.result c.shares-item.result c.in-len2.len_at_least c.in-len2.len_below c.seed-item.is c.shares-item.is in
    let words : texts c.args.words.now ≡ c.as_str.result.now ∷ c.as_str-2.result.now ∷ [] =
    ap texts items ∙ (λ i. (sym c.as_str.ensures.value) i ∷ (sym c.as_str-2.ensures.value) i ∷ []) in
    if-some c.gadget_asked.result (AsksGadget c.as_str.result.now c.as_str-2.result.now) (IsGadget (texts c.args.words.now))
    (is-gadget (texts c.args.words.now) _ _ words) c.gadget_asked.ensures.taken

pub returns-clause-other : goal.returns-clause-other
returns-clause-other c =
    let items = two c.args.words.now c.seed-item.result c.shares-item.result c.in-len2.len_at_least c.in-len2.len_below c.seed-item.is c.shares-item.is in
    let words : texts c.args.words.now ≡ c.as_str.result.now ∷ c.as_str-2.result.now ∷ [] =
    ap texts items ∙ (λ i. (sym c.as_str.ensures.value) i ∷ (sym c.as_str-2.ensures.value) i ∷ []) in
    if-none c.gadget_asked.result
    ((gadget : Gadget) → AsksGadget c.as_str.result.now c.as_str-2.result.now gadget → ⊥)
    ((gadget : Gadget) → IsGadget (texts c.args.words.now) gadget → ⊥)
    (λ none gadget is. none gadget (asks-gadget (texts c.args.words.now) _ _ words gadget is))
    c.gadget_asked.ensures.other
