-- A printed line as a row of tokens.
use Rattle.std.proofs.Common.{◌≡◌, ℕ, false, List, [], ◌∷◌, ◌++◌, map, refl, ap, ◌∙◌, sym, subst, append_assoc}
use Rattle.std.specs.List.{AllByRecursion}
use Rattle.std.proofs.lemmas.List.{map-append}
use Rattle.rtlil_lex.specs.Bytes.{NoneOrMore, is_blank}
use Rattle.circuit_types.specs.declared.signal.Value.TheVariants as value
use Rattle.rtlil_tree.specs.declared.keyword.Keyword.{Keyword}
use Rattle.rtlil_tree.specs.Lines.{is_eol}
use Rattle.rtlil_tree.specs.Lexemes.{Lexeme, key, id, constant, open_slice, close_slice, open_join, close_join, colon, Spelled, spelling, AreSaid}
use Rattle.rtlil_tree.specs.Statements.{Piece, ArePieces}
use Rattle.rtlil_print.specs.Printable.{IsPrintableLexeme, IsPrintablePiece}
use Rattle.rtlil_print.specs.Printed.{piece_text, spaced, line}
use Rattle.rtlil_print.proofs.Placing.{Laid, AreLaid, are_laid-append, text_of, text_of-append, spelled_as, IsRow}
use Rattle.rtlil_print.proofs.Words.{Stops, stops_at_space, stops_at_feed}
use Rattle.rtlil_print.proofs.Pieces.{lexeme_kind, laid, laid_all, lexeme_laid, lexeme_says, piece_lexemes, piece_laid, is_piece, piece_spelled, piece_are_laid, lexemes_of_piece}

abbrev pub pieces_laid : List Piece → List Laid
pieces_laid [] = []
pieces_laid (p ∷ ps) = piece_laid p ++ pieces_laid ps

abbrev pub lexemes_of : List Piece → List Lexeme
lexemes_of [] = []
lexemes_of (p ∷ ps) = piece_lexemes p ++ lexemes_of ps

pub pieces_spelled : (ps : List Piece) → text_of (pieces_laid ps) ≡ spaced ps
pieces_spelled [] = refl
pieces_spelled (p ∷ ps) =
    text_of-append (piece_laid p) (pieces_laid ps)
    ∙ ap (λ t. t ++ text_of (pieces_laid ps)) (piece_spelled p)
    ∙ ap (λ t. 32 ∷ (piece_text p ++ t)) (pieces_spelled ps)

pub stops_before : (ps : List Piece) (rest : List ℕ) → Stops (text_of (pieces_laid ps) ++ 10 ∷ rest)
stops_before [] rest = stops_at_feed rest
stops_before (p ∷ ps) rest =
    subst Stops (ap (λ t. t ++ 10 ∷ rest) (sym (pieces_spelled (p ∷ ps)))) (stops_at_space ((piece_text p ++ spaced ps) ++ 10 ∷ rest))

pub pieces_are_laid : (ps : List Piece) (rest : List ℕ) → AllByRecursion IsPrintablePiece ps → AreLaid (pieces_laid ps) (10 ∷ rest)
pieces_are_laid [] rest h = tt
pieces_are_laid (p ∷ ps) rest h =
    are_laid-append (piece_laid p) (pieces_laid ps) (10 ∷ rest)
    (piece_are_laid p (text_of (pieces_laid ps) ++ 10 ∷ rest) h.0 (stops_before ps rest))
    (pieces_are_laid ps rest h.1)

said-append : (xs ys : List Lexeme) (ts us : List Spelled) → AreSaid xs ts → AreSaid ys us → AreSaid (xs ++ ys) (ts ++ us)
said-append [] ys ts us h g = subst (λ l. AreSaid ys (l ++ us)) (sym h) g
said-append (x ∷ xs) ys [] us h g = absurd h
said-append (x ∷ xs) ys (t ∷ ts) us h g = (h.0, said-append xs ys ts us h.1 g)

all_said : (gap : List ℕ) (xs : List Lexeme) → AllByRecursion IsPrintableLexeme xs → AreSaid xs (map spelled_as (laid_all gap xs))
all_said gap [] h = refl
all_said gap (x ∷ xs) h = (lexeme_says gap x h.0, all_said [] xs h.1)

pub pieces_said : (ps : List Piece) → AllByRecursion IsPrintablePiece ps → AreSaid (lexemes_of ps) (map spelled_as (pieces_laid ps))
pieces_said [] h = refl
pieces_said (p ∷ ps) h =
    subst (AreSaid (piece_lexemes p ++ lexemes_of ps)) (sym (map-append spelled_as (piece_laid p) (pieces_laid ps)))
    (said-append (piece_lexemes p) (lexemes_of ps) (map spelled_as (piece_laid p)) (map spelled_as (pieces_laid ps))
    (all_said (32 ∷ []) (piece_lexemes p) (lexemes_of_piece p h.0)) (pieces_said ps h.1))

pub are_pieces : (ps : List Piece) → ArePieces ps (lexemes_of ps)
are_pieces [] = refl
are_pieces (p ∷ ps) = (piece_lexemes p, lexemes_of ps, refl, is_piece p, are_pieces ps)

-- ---- rows

abbrev IsInner : Laid → Type 0
IsInner l = is_eol l.kind ≡ false

lexeme_inner : (x : Lexeme) → is_eol (lexeme_kind x) ≡ false
lexeme_inner (key word) = refl
lexeme_inner (id name) = refl
lexeme_inner (constant (value.Bits b)) = refl
lexeme_inner (constant (value.Number n)) = refl
lexeme_inner (constant (value.Text bytes)) = refl
lexeme_inner open_slice = refl
lexeme_inner close_slice = refl
lexeme_inner open_join = refl
lexeme_inner close_join = refl
lexeme_inner colon = refl

all_inner : (gap : List ℕ) (xs : List Lexeme) → AllByRecursion IsInner (laid_all gap xs)
all_inner gap [] = tt
all_inner gap (x ∷ xs) = (lexeme_inner x, all_inner [] xs)

inner-append : (ks ls : List Laid) → AllByRecursion IsInner ks → AllByRecursion IsInner ls → AllByRecursion IsInner (ks ++ ls)
inner-append [] ls h g = g
inner-append (k ∷ ks) ls h g = (h.0, inner-append ks ls h.1 g)

pieces_inner : (ps : List Piece) → AllByRecursion IsInner (pieces_laid ps)
pieces_inner [] = tt
pieces_inner (p ∷ ps) = inner-append (piece_laid p) (pieces_laid ps) (all_inner (32 ∷ []) (piece_lexemes p)) (pieces_inner ps)

abbrev pub row : List ℕ → Keyword → List Piece → List Laid
row indent word ps = laid indent (key word) ∷ pieces_laid ps

pub row_is : (indent : List ℕ) (word : Keyword) (ps : List Piece) → IsRow (row indent word ps)
row_is indent word ps = (refl, pieces_inner ps)

pub row_spelled : (indent : List ℕ) (word : Keyword) (ps : List Piece) (rest : List ℕ) → text_of (row indent word ps) ++ 10 ∷ rest ≡ line indent word (spaced ps) ++ rest
row_spelled indent word ps rest =
    append_assoc indent (spelling word ++ text_of (pieces_laid ps)) (10 ∷ rest)
    ∙ ap (λ t. indent ++ t) (append_assoc (spelling word) (text_of (pieces_laid ps)) (10 ∷ rest))
    ∙ ap (λ t. indent ++ (spelling word ++ (t ++ 10 ∷ rest))) (pieces_spelled ps)
    ∙ sym (append_assoc indent (spelling word ++ (spaced ps ++ 10 ∷ [])) rest
    ∙ ap (λ t. indent ++ t) (append_assoc (spelling word) (spaced ps ++ 10 ∷ []) rest ∙ ap (λ t. spelling word ++ t) (append_assoc (spaced ps) (10 ∷ []) rest)))

pub row_laid : (indent : List ℕ) (word : Keyword) (ps : List Piece) (rest : List ℕ) → NoneOrMore is_blank indent → AllByRecursion IsPrintablePiece ps → AreLaid (row indent word ps) (10 ∷ rest)
row_laid indent word ps rest blank h =
    (lexeme_laid indent (key word) (text_of (pieces_laid ps) ++ 10 ∷ rest) blank tt (stops_before ps rest), pieces_are_laid ps rest h)

pub row_said : (indent : List ℕ) (word : Keyword) (ps : List Piece) → AllByRecursion IsPrintablePiece ps → AreSaid (key word ∷ lexemes_of ps) (map spelled_as (row indent word ps))
row_said indent word ps h = (lexeme_says indent (key word) tt, pieces_said ps h)
