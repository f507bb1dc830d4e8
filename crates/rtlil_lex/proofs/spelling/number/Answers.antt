use Rattle.std.proofs.Common.{◌∙◌, sym, drop, List, ℕ}
use Rattle.std.proofs.lemmas.List.{take_rest}
use Rattle.rtlil_lex.specs.Next.{IsNext}
use Rattle.rtlil_lex.proofs.Runs.{begins_is}
use Rattle.rtlil_lex.proofs.Numbers.{bits_next, int_next}
use Rattle.rtlil_lex.proofs.spelling.number.Goals as goal

pub returns-then-begins_with : goal.returns-then-begins_with
unfolding IsNext
returns-then-begins_with c =
    let left : List ℕ = drop c.digits-width.result c.args.bytes.now in
    bits_next c.args.bytes.now (drop 1 (drop c.digits-width.result c.args.bytes.now)) _ _ c.requires c.digits-width.ensures.run
    (begins_is 39 (drop c.digits-width.result c.args.bytes.now) (simp take_rest at (sym c.begins_with.ensures ∙ c.if-begins_with.true)))
    (simp take_rest at c.value.ensures.value)

pub returns-else-begins_with : goal.returns-else-begins_with
unfolding IsNext
returns-else-begins_with c =
    int_next c.args.bytes.now _ c.requires c.digits-width.ensures.run
    (simp take_rest at (sym c.begins_with.ensures ∙ c.if-begins_with.false))
