-- The lines of connects and of a cell's parameters are those of their statements.
use Rattle.std.proofs.Common.{◌≡◌, ℕ, List, [], ◌∷◌, ◌++◌, Option, Some, None, IsSome, refl, ap, sym, subst, append-nil}
use Rattle.std.specs.List.{AllByRecursion}
use Rattle.rtlil_lex.specs.Bytes.{NoneOrMore, is_blank}
use Rattle.circuit_types.specs.declared.signal.Value.{Value}
use Rattle.circuit_types.specs.declared.tree.Parameter.{Parameter}
use Rattle.circuit_types.specs.declared.tree.ParameterForm.{ParameterForm}
use Rattle.circuit_types.specs.declared.tree.ParameterForm.TheVariants as form
use Rattle.circuit_types.specs.declared.tree.Connect.{Connect}
use Rattle.circuit_types.specs.declared.tree.PortConnect.{PortConnect}
use Rattle.rtlil_tree.specs.declared.keyword.Keyword.TheVariants as word
use Rattle.rtlil_tree.specs.Lexemes.{Lexeme, key, id, constant}
use Rattle.rtlil_tree.specs.Statements.{Piece, lexeme, pieces_of, ArePieces, form_lexemes, optional, connect, port_connect, cell_parameter}
use Rattle.rtlil_print.specs.Printable.{IsPrintableLexeme, IsPrintablePiece, IsPrintableConnect, IsPrintablePortConnect, IsPrintableCellParameter, IsPrintableOption}
use Rattle.rtlil_print.specs.Printed.{item_indent, connect_line, port_connect_line, parameter_line}
use Rattle.rtlil_print.specs.PrintedLines.{parameter_at, connect_at, port_connect_at}
use Rattle.rtlil_print.proofs.Rows.{lexemes_of, are_pieces}
use Rattle.rtlil_print.proofs.Printing.{AreLinesOf, one_line}
use Rattle.rtlil_print.proofs.PrintedStatements.{lexeme_line}

both : (ps qs : List Piece) → AllByRecursion IsPrintablePiece ps → AllByRecursion IsPrintablePiece qs → AllByRecursion IsPrintablePiece (ps ++ qs)
both [] qs h g = g
both (p ∷ ps) qs h g = (h.0, both ps qs h.1 g)

pub connect_written : (number : ℕ) (c : Connect) → IsPrintableConnect c → AreLinesOf number (connect (connect_at number c) ∷ []) (connect_line c)
connect_written number c h =
    let ps = pieces_of c.left ++ pieces_of c.right in
    let pieces = subst (λ l. ArePieces l (lexemes_of ps)) (ap (λ l. pieces_of c.left ++ l) (sym (append-nil (pieces_of c.right)))) (are_pieces ps) in
    one_line number (connect (connect_at number c)) item_indent word.Connect ps (refl, (refl, tt)) (both (pieces_of c.left) (pieces_of c.right) h.left.pieces h.right.pieces)
    (refl, lexemes_of ps, refl, (pieces, (h.left.nesting, (h.right.nesting, tt))))

pub port_connect_written : (number : ℕ) (indent : List ℕ) (c : PortConnect) → NoneOrMore is_blank indent → IsPrintablePortConnect c → AreLinesOf number (port_connect (port_connect_at number c) ∷ []) (port_connect_line indent c)
port_connect_written number indent c blank h =
    let ps = pieces_of c.signal in
    let pieces = subst (λ l. ArePieces l (lexemes_of ps)) (sym (append-nil ps)) (are_pieces ps) in
    one_line number (port_connect (port_connect_at number c)) indent word.Connect (lexeme (id c.port) ∷ ps) blank (h.port, h.signal.pieces)
    (refl, lexemes_of ps, refl, (pieces, (h.signal.nesting, tt)))

form_printable : (f : ParameterForm) (xs : List Lexeme) → AllByRecursion IsPrintableLexeme xs → AllByRecursion IsPrintableLexeme (form_lexemes f ++ xs)
form_printable form.Plain xs h = h
form_printable form.Signed xs h = (tt, h)
form_printable form.Real xs h = (tt, h)

the_value : (o : Option Value) → IsSome o → (v : Value) × (o ≡ Some v)
the_value None h = absurd cc
the_value (Some v) h = (v, refl)

pub cell_parameter_written : (number : ℕ) (indent : List ℕ) (p : Parameter) → NoneOrMore is_blank indent → IsPrintableCellParameter p → AreLinesOf number (cell_parameter (parameter_at number p) ∷ []) (parameter_line indent p)
cell_parameter_written number indent p blank h =
    let v = the_value p.value h.some in
    let xs = form_lexemes p.form ++ (id p.name ∷ optional p.value) in
    let is : xs ≡ form_lexemes p.form ++ (id p.name ∷ constant v.0 ∷ []) = ap (λ (o : Option Value). form_lexemes p.form ++ (id p.name ∷ optional o)) v.1 in
    lexeme_line number (cell_parameter (parameter_at number p)) indent word.Parameter xs blank
    (form_printable p.form (id p.name ∷ optional p.value) (h.name, subst (λ (o : Option Value). AllByRecursion IsPrintableLexeme (optional o)) (sym v.1) (subst IsPrintableOption v.1 h.value, tt)))
    (refl, v.0, v.1, ap (λ l. key word.Parameter ∷ l) is)
