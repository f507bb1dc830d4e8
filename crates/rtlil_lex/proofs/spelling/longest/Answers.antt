use Rattle.std.proofs.Common.{◌∙◌, sym, refl, inl, ◌==◌}
use Rattle.std.proofs.lemmas.Bool.{ne_eqb}
use Rattle.rtlil_lex.specs.Bytes.{is_letter, is_sigil, is_digit, is_feed, is_mark}
use Rattle.rtlil_lex.specs.Next.{IsNext}
use Rattle.rtlil_lex.proofs.Pieces.{not_begins}
use Rattle.rtlil_lex.proofs.Longest.{stray}
use Rattle.rtlil_lex.proofs.spelling.longest.Goals as goal

pub returns-else-is_mark : goal.returns-else-is_mark
unfolding IsNext
returns-else-is_mark c =
    let bytes = c.args.bytes.now in
    inl (
      refl,
      stray c.args.bytes.now c.requires
          (not_begins is_letter bytes (sym c.is_letter.ensures ∙ c.if-is_letter.false))
          (not_begins is_sigil bytes (sym c.is_sigil.ensures ∙ c.if-is_sigil.false))
          (not_begins is_digit bytes (sym c.is_digit.ensures ∙ c.if-is_digit.false))
          (not_begins (λ b. b == 45) bytes (ne_eqb _ 45 c.if-first-eq45.false))
          (not_begins (λ b. b == 34) bytes (ne_eqb _ 34 c.if-first-eq34.false))
          (not_begins is_feed bytes (ne_eqb _ 10 c.if-first-eq10.false))
          (not_begins is_mark bytes (sym c.is_mark.ensures ∙ c.if-is_mark.false)),
    )
