use Rattle.std.proofs.Common.{drop, arith, length-drop}
use Rattle.std.proofs.lemmas.List.{take_rest}
use Rattle.rtlil_lex.specs.Next.{IsPiece, BeginsCharacter}
use Rattle.rtlil_lex.proofs.Pieces.{inside_start, inside_within, inside_more, character_within, string_closes, string_breaks, string_opens}
use Rattle.rtlil_lex.proofs.string.string_size.Goals as goal

pub loop-size-init : goal.loop-size-init
loop-size-init c = inside_start c.args.bytes.now c.requires

pub overflow_add-place : goal.overflow_add-place
unfolding IsPiece
overflow_add-place c =
    let character : BeginsCharacter (drop c.loop-size.place c.args.bytes.now) c.in-Character.size = simp take_rest at c.in-Character.ensures in
    omega (arith, character_within _ _ character, inside_within _ _ c.loop-size.invariant, length-drop c.loop-size.place c.args.bytes.now)

pub loop-size-smaller : goal.loop-size-smaller
unfolding IsPiece
loop-size-smaller c =
    let character : BeginsCharacter (drop c.loop-size.place c.args.bytes.now) c.in-Character.size = simp take_rest at c.in-Character.ensures in
    omega (arith, character_within _ _ character, inside_within _ _ c.loop-size.invariant, length-drop c.loop-size.place c.args.bytes.now)

pub loop-size-preserved : goal.loop-size-preserved
unfolding IsPiece
loop-size-preserved c =
    let character : BeginsCharacter (drop c.loop-size.place c.args.bytes.now) c.in-Character.size = simp take_rest at c.in-Character.ensures in
    inside_more c.args.bytes.now c.loop-size.place c.in-Character.size c.loop-size.invariant character

pub returns-in-Quote : goal.returns-in-Quote
unfolding IsPiece
returns-in-Quote c = string_closes c.args.bytes.now c.loop-size.place c.loop-size.invariant (simp take_rest at c.in-Quote.ensures)

pub returns-in-BadEscape : goal.returns-in-BadEscape
unfolding IsPiece
returns-in-BadEscape c = string_breaks c.args.bytes.now c.loop-size.place c.loop-size.invariant (simp take_rest at c.in-BadEscape.ensures)

pub returns-in-Cut : goal.returns-in-Cut
unfolding IsPiece
returns-in-Cut c = string_opens c.args.bytes.now c.loop-size.place c.loop-size.invariant (simp take_rest at c.in-Cut.ensures)
