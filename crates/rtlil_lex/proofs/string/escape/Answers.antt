use Rattle.std.proofs.Common.{◌≡◌, ◌∙◌, sym, false, drop}
use Rattle.std.proofs.lemmas.List.{take_rest, drop-drop, get_or-drop}
use Rattle.rtlil_lex.specs.Bytes.{is_line_end}
use Rattle.rtlil_lex.specs.Next.{IsPiece}
use Rattle.rtlil_lex.proofs.Pieces.{escape_cuts, escaped_begins, one_begins, two_begin, three_begin, three_bad}
use Rattle.rtlil_lex.proofs.string.escape.Goals as goal
use Rattle.rtlil_lex.proofs.string.escape.Goals.{then-not-begins_octal-via-then-not-begins_octal, then-not-begins_octal-via-else-not-begins_octal+then-not-begins_octal-2}

pub returns-then-is_line_end : goal.returns-then-is_line_end
unfolding IsPiece
returns-then-is_line_end c = escape_cuts c.args.text.now c.requires (simp take_rest at (sym c.is_line_end.ensures ∙ c.if-is_line_end.true))

pub returns-then-not-begins_octal : goal.returns-then-not-begins_octal
unfolding IsPiece
returns-then-not-begins_octal c =
    let ends : is_line_end (drop 1 c.args.text.now) ≡ false = simp take_rest at (sym c.is_line_end.ensures ∙ c.if-is_line_end.false) in
    elim c.then-not-begins_octal.branch [
      | then-not-begins_octal-via-then-not-begins_octal w ↦
          escaped_begins c.args.text.now c.requires ends (simp take_rest at (sym c.begins_octal.ensures ∙ w.if-not-begins_octal.true))
      | then-not-begins_octal-via-else-not-begins_octal+then-not-begins_octal-2 w ↦
          one_begins c.args.text.now c.requires
          (simp take_rest at (sym c.begins_octal.ensures ∙ w.if-not-begins_octal.false))
          (simp drop-drop at (simp take_rest at (sym w.begins_octal-else-not-begins_octal.ensures ∙ w.if-not-begins_octal-2.true)))
    ]

pub returns-then-not-begins_octal-3 : goal.returns-then-not-begins_octal-3
unfolding IsPiece
returns-then-not-begins_octal-3 c =
    two_begin c.args.text.now c.requires
    (simp take_rest at (sym c.begins_octal.ensures ∙ c.if-not-begins_octal.false))
    (simp drop-drop at (simp take_rest at (sym c.begins_octal-else-not-begins_octal.ensures ∙ c.if-not-begins_octal-2.false)))
    (simp drop-drop at (simp take_rest at (sym c.begins_octal-2.ensures ∙ c.if-not-begins_octal-3.true)))

pub returns-then-after-gt51 : goal.returns-then-after-gt51
unfolding IsPiece
returns-then-after-gt51 c =
    three_bad c.args.text.now c.requires
    (simp take_rest at (sym c.begins_octal.ensures ∙ c.if-not-begins_octal.false))
    (simp drop-drop at (simp take_rest at (sym c.begins_octal-else-not-begins_octal.ensures ∙ c.if-not-begins_octal-2.false)))
    (simp drop-drop at (simp take_rest at (sym c.begins_octal-2.ensures ∙ c.if-not-begins_octal-3.false)))
    (simp get_or-drop at (simp take_rest at c.if-after-gt51.true))

pub returns : goal.returns
unfolding IsPiece
returns c =
    three_begin c.args.text.now c.requires
    (simp take_rest at (sym c.begins_octal.ensures ∙ c.if-not-begins_octal.false))
    (simp drop-drop at (simp take_rest at (sym c.begins_octal-else-not-begins_octal.ensures ∙ c.if-not-begins_octal-2.false)))
    (simp drop-drop at (simp take_rest at (sym c.begins_octal-2.ensures ∙ c.if-not-begins_octal-3.false)))
    (simp get_or-drop at (simp take_rest at c.if-after-gt51.false))
