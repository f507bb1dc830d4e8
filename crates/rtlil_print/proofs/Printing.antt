-- Statements, and a text whose lines are written as they are.
use Rattle.std.proofs.Common.{◌≡◌, ℕ, ◌+◌, List, [], ◌∷◌, ◌++◌, length, refl, ap, ◌∙◌, sym, subst, arith, append_assoc, append-nil}
use Rattle.std.specs.List.{AllByRecursion}
use Rattle.rtlil_lex.specs.Bytes.{NoneOrMore, is_blank}
use Rattle.rtlil_lex.proofs.Longest.{feed_next}
use Rattle.rtlil_tree.specs.declared.keyword.Keyword.{Keyword}
use Rattle.rtlil_tree.specs.Lexemes.{key}
use Rattle.rtlil_tree.specs.Statements.{Piece, Statement, IsStatement}
use Rattle.rtlil_tree.specs.Text.{AreWritten}
use Rattle.rtlil_print.specs.Printable.{IsPrintablePiece}
use Rattle.rtlil_print.specs.Printed.{line, spaced}
use Rattle.rtlil_print.proofs.Placing.{Laid, IsLaid, AreLaid, are_laid-append, text_of, text_of-append, IsRow, feed, all_rows, numbered}
use Rattle.rtlil_print.proofs.Rows.{lexemes_of, row, row_is, row_spelled, row_laid, row_said}

-- The text has one line for each statement, the first of which has the number.
pub record AreLinesOf (number : ℕ) (ss : List Statement) (text : List ℕ) : Type 0 where
  pub rows : List (List Laid)
  pub spelled : text_of (all_rows rows) ≡ text
  pub laid : (rest : List ℕ) → AreLaid (all_rows rows) rest
  pub each : AllByRecursion IsRow rows
  pub written : AreWritten ss (numbered rows number)

pub no_lines : (number : ℕ) → AreLinesOf number [] []
no_lines number = record { rows = []; spelled = refl; laid = λ rest. tt; each = tt; written = refl }

feed_laid : (rest : List ℕ) → IsLaid feed rest
feed_laid rest = record { blank = tt; ink = refl; longest = feed_next (10 ∷ rest) refl }

pub one_line : (number : ℕ) (s : Statement) (indent : List ℕ) (word : Keyword) (ps : List Piece) → NoneOrMore is_blank indent → AllByRecursion IsPrintablePiece ps
    → IsStatement s number (key word ∷ lexemes_of ps) → AreLinesOf number (s ∷ []) (line indent word (spaced ps))
one_line number s indent word ps blank h is =
    let r = row indent word ps in
    record {
      rows = r ∷ [];
      spelled = text_of-append r (feed ∷ []) ∙ row_spelled indent word ps [] ∙ append-nil (line indent word (spaced ps));
      laid = λ rest. are_laid-append r (feed ∷ []) rest (row_laid indent word ps rest blank h) (feed_laid rest, tt);
      each = (row_is indent word ps, tt);
      written = (record { lexemes = key word ∷ lexemes_of ps; said = row_said indent word ps h; form = is }, refl);
    }

all_rows-append : (rs us : List (List Laid)) → all_rows (rs ++ us) ≡ all_rows rs ++ all_rows us
all_rows-append [] us = refl
all_rows-append (r ∷ rs) us = ap (λ l. r ++ feed ∷ l) (all_rows-append rs us) ∙ sym (append_assoc r (feed ∷ all_rows rs) (all_rows us))

each-append : (rs us : List (List Laid)) → AllByRecursion IsRow rs → AllByRecursion IsRow us → AllByRecursion IsRow (rs ++ us)
each-append [] us h g = g
each-append (r ∷ rs) us h g = (h.0, each-append rs us h.1 g)

written-append : (ss us : List Statement) (rs vs : List (List Laid)) (number : ℕ) → AreWritten ss (numbered rs number) → AreWritten us (numbered vs (number + length ss)) → AreWritten (ss ++ us) (numbered (rs ++ vs) number)
written-append [] us [] vs number h g = subst (λ n. AreWritten us (numbered vs n)) (omega arith) g
written-append [] us (r ∷ rs) vs number h g = absurd cc
written-append (s ∷ ss) us [] vs number h g = absurd h
written-append (s ∷ ss) us (r ∷ rs) vs number h g =
    (h.0, written-append ss us rs vs (number + 1) h.1 (subst (λ n. AreWritten us (numbered vs n)) (omega arith) g))

-- one text behind the other
pub more_lines : (number : ℕ) (ss us : List Statement) (text more : List ℕ) → AreLinesOf number ss text → AreLinesOf (number + length ss) us more → AreLinesOf number (ss ++ us) (text ++ more)
more_lines number ss us text more h g = record {
  rows = h.rows ++ g.rows;
  spelled = ap text_of (all_rows-append h.rows g.rows) ∙ text_of-append (all_rows h.rows) (all_rows g.rows) ∙ ap (λ t. t ++ text_of (all_rows g.rows)) h.spelled ∙ ap (λ t. text ++ t) g.spelled;
  laid = λ rest. subst (λ l. AreLaid l rest) (sym (all_rows-append h.rows g.rows)) (are_laid-append (all_rows h.rows) (all_rows g.rows) rest (h.laid (text_of (all_rows g.rows) ++ rest)) (g.laid rest));
  each = each-append h.rows g.rows h.each g.each;
  written = written-append ss us h.rows g.rows number h.written g.written;
}
