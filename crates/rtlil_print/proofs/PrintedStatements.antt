-- The lines of attributes, parameters and connects are those of their statements.
use Rattle.std.proofs.Common.{◌≡◌, ℕ, ◌+◌, List, [], ◌∷◌, ◌++◌, map, Option, Some, None, refl, ap, sym, subst}
use Rattle.std.specs.List.{AllByRecursion}
use Rattle.std.proofs.lemmas.List.Folds.{flat_map-map}
use Rattle.rtlil_lex.specs.Bytes.{NoneOrMore, is_blank}
use Rattle.circuit_types.specs.declared.signal.Value.{Value}
use Rattle.circuit_types.specs.declared.tree.Attribute.{Attribute}
use Rattle.circuit_types.specs.declared.tree.Parameter.{Parameter}
use Rattle.circuit_types.specs.declared.tree.ParameterForm.{ParameterForm}
use Rattle.rtlil_tree.specs.declared.keyword.Keyword.{Keyword}
use Rattle.rtlil_tree.specs.declared.keyword.Keyword.TheVariants as word
use Rattle.rtlil_tree.specs.Lexemes.{Lexeme, key, id, constant}
use Rattle.rtlil_tree.specs.Statements.{lexeme, form_lexemes, optional, Statement, attribute, parameter, ends, IsStatement}
use Rattle.rtlil_print.specs.Printable.{IsPrintableLexeme, IsPrintablePiece, IsPrintableAttribute, IsPrintableOption, IsPrintableParameter}
use Rattle.rtlil_print.specs.Printed.{piece_text, lexemes_spaced, line, attribute_line, attribute_lines, parameter_line, end_line}
use Rattle.rtlil_print.specs.PrintedLines.{parameter_at}
use Rattle.rtlil_print.proofs.Rows.{lexemes_of}
use Rattle.rtlil_print.proofs.Printing.{AreLinesOf, no_lines, one_line, more_lines}

lexemes_back : (xs : List Lexeme) → lexemes_of (map lexeme xs) ≡ xs
lexemes_back [] = refl
lexemes_back (x ∷ xs) = ap (λ l. x ∷ l) (lexemes_back xs)

all_pieces : (xs : List Lexeme) → AllByRecursion IsPrintableLexeme xs → AllByRecursion IsPrintablePiece (map lexeme xs)
all_pieces [] h = tt
all_pieces (x ∷ xs) h = (h.0, all_pieces xs h.1)

-- a line of lexemes alone
pub lexeme_line : (number : ℕ) (s : Statement) (indent : List ℕ) (word : Keyword) (xs : List Lexeme) → NoneOrMore is_blank indent → AllByRecursion IsPrintableLexeme xs
    → IsStatement s number (key word ∷ xs) → AreLinesOf number (s ∷ []) (line indent word (lexemes_spaced xs))
lexeme_line number s indent word xs blank h is =
    subst (λ t. AreLinesOf number (s ∷ []) (line indent word t)) (flat_map-map (λ piece. 32 ∷ piece_text piece) lexeme xs)
    (one_line number s indent word (map lexeme xs) blank (all_pieces xs h) (subst (λ l. IsStatement s number (key word ∷ l)) (sym (lexemes_back xs)) is))

pub attributes_written : (number : ℕ) (indent : List ℕ) (notes : List Attribute) → NoneOrMore is_blank indent → AllByRecursion IsPrintableAttribute notes → AreLinesOf number (map attribute notes) (attribute_lines indent notes)
attributes_written number indent [] blank h = no_lines number
attributes_written number indent (a ∷ notes) blank h =
    more_lines number (attribute a ∷ []) (map attribute notes) (attribute_line indent a) (attribute_lines indent notes)
    (lexeme_line number (attribute a) indent word.Attribute (id a.name ∷ constant a.value ∷ []) blank (h.0.name, (h.0.value, tt)) refl)
    (attributes_written (number + 1) indent notes blank h.1)

optional_printable : (o : Option Value) → IsPrintableOption o → AllByRecursion IsPrintableLexeme (optional o)
optional_printable None h = tt
optional_printable (Some v) h = (h, tt)

pub parameter_written : (number : ℕ) (indent : List ℕ) (p : Parameter) → NoneOrMore is_blank indent → IsPrintableParameter p → AreLinesOf number (parameter (parameter_at number p) ∷ []) (parameter_line indent p)
parameter_written number indent p blank h =
    let plain : form_lexemes p.form ++ (id p.name ∷ optional p.value) ≡ id p.name ∷ optional p.value = ap (λ (f : ParameterForm). form_lexemes f ++ (id p.name ∷ optional p.value)) h.form in
    subst (λ l. AreLinesOf number (parameter (parameter_at number p) ∷ []) (line indent word.Parameter (lexemes_spaced l))) (sym plain)
    (lexeme_line number (parameter (parameter_at number p)) indent word.Parameter (id p.name ∷ optional p.value) blank (h.name, optional_printable p.value h.value) (refl, h.form, refl))

pub end_written : (number : ℕ) (indent : List ℕ) → NoneOrMore is_blank indent → AreLinesOf number (ends ∷ []) (end_line indent)
end_written number indent blank = lexeme_line number ends indent word.End [] blank tt refl
