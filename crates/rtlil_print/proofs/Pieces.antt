-- Printed pieces as tokens: which they are, and what they say.
use Rattle.std.proofs.Common.{◌≡◌, ℕ, ◌<◌, ◌^◌, ◌==◌, Bool, true, false, ◌&&◌, cond, List, [], ◌∷◌, ◌++◌, length, inl, inr, refl, ap, sym, arith, append_assoc, append-nil, eqb-true}
use Rattle.std.specs.Prelude.{IsTrue}
use Rattle.std.specs.List.{list_all, AllByRecursion}
use Rattle.std.specs.Fmt.{decimal as printed_decimal}
use Rattle.std.proofs.lemmas.Bool.{and_parts}
use Rattle.rtlil_lex.specs.Bytes.{NoneOrMore, OneOrMore, is_letter, is_blank, is_mark}
use Rattle.rtlil_lex.specs.Forms.{IsLongest}
use Rattle.rtlil_lex.specs.declared.token.TokenKind.{TokenKind}
use Rattle.rtlil_lex.specs.declared.token.TokenKind.TheVariants as kind
use Rattle.rtlil_lex.proofs.Longest.{mark_next}
use Rattle.circuit_types.specs.declared.signal.Value.{Value}
use Rattle.circuit_types.specs.declared.signal.Value.TheVariants as value
use Rattle.rtlil_tree.specs.declared.keyword.Keyword.{Keyword}
use Rattle.rtlil_tree.specs.declared.keyword.Keyword.TheVariants as word
use Rattle.rtlil_tree.specs.Lexemes.{Lexeme, key, id, constant, open_slice, close_slice, open_join, close_join, colon, spelling, Says}
use Rattle.rtlil_print.specs.Printable.{IsPrintableLexeme, IsPrintablePiece}
use Rattle.rtlil_print.specs.Printed.{lexeme_text, piece_text}
use Rattle.rtlil_tree.specs.Statements.{Piece, lexeme, places, IsPiece, number}
use Rattle.rtlil_print.proofs.Placing.{Laid, IsLaid, AreLaid, text_of, spelled_as}
use Rattle.rtlil_print.proofs.Inks.{is_ink}
use Rattle.rtlil_print.proofs.Strings.{string_next, is_text}
use Rattle.rtlil_print.proofs.Words.{Stops, StopsDigits, letters_next, name_next, number_next, number_says, bits_longest, bits_say, count_next}

-- ---- keywords

abbrev is_word : List ℕ → Bool
is_word [] = false
is_word (b ∷ bs) = is_letter b && list_all is_letter bs

all_letters : (bs : List ℕ) → list_all is_letter bs ≡ true → NoneOrMore is_letter bs
all_letters [] h = tt
all_letters (b ∷ bs) h = let parts = and_parts _ _ h in (parts.0, all_letters bs parts.1)

letters : (s : List ℕ) → is_word s ≡ true → OneOrMore is_letter s
letters [] h = absurd cc
letters (b ∷ bs) h = let parts = and_parts _ _ h in (parts.0, all_letters bs parts.1)

keyword_letters : (k : Keyword) → is_word (spelling k) ≡ true
keyword_letters word.Attribute = refl
keyword_letters word.Autoidx = refl
keyword_letters word.Cell = refl
keyword_letters word.Connect = refl
keyword_letters word.End = refl
keyword_letters word.Inout = refl
keyword_letters word.Input = refl
keyword_letters word.Memory = refl
keyword_letters word.Module = refl
keyword_letters word.Offset = refl
keyword_letters word.Output = refl
keyword_letters word.Parameter = refl
keyword_letters word.Process = refl
keyword_letters word.Real = refl
keyword_letters word.Signed = refl
keyword_letters word.Upto = refl
keyword_letters word.Width = refl
keyword_letters word.Wire = refl

-- ---- lexemes

abbrev pub value_kind : Value → TokenKind
value_kind (value.Bits b) = kind.Bits
value_kind (value.Number n) = kind.Int
value_kind (value.Text bytes) = kind.Str

abbrev pub lexeme_kind : Lexeme → TokenKind
lexeme_kind (key word) = kind.Word
lexeme_kind (id name) = kind.Id
lexeme_kind (constant v) = value_kind v
lexeme_kind open_slice = kind.Mark 91
lexeme_kind close_slice = kind.Mark 93
lexeme_kind open_join = kind.Mark 123
lexeme_kind close_join = kind.Mark 125
lexeme_kind colon = kind.Mark 58

abbrev pub laid : List ℕ → Lexeme → Laid
laid gap x = record { gap = gap; kind = lexeme_kind x; text = lexeme_text x }

pub lexeme_longest : (x : Lexeme) (rest : List ℕ) → IsPrintableLexeme x → Stops rest → IsLongest (lexeme_kind x) (length (lexeme_text x)) (lexeme_text x ++ rest)
lexeme_longest (key word) rest h stops = letters_next (spelling word) rest (letters (spelling word) (keyword_letters word)) stops.letter
lexeme_longest (id name) rest h stops = name_next name rest h stops.name
lexeme_longest (constant (value.Bits b)) rest h stops = bits_longest b rest h.0 stops
lexeme_longest (constant (value.Number n)) rest h stops = number_next n rest h stops
lexeme_longest (constant (value.Text bytes)) rest h stops = string_next bytes rest
lexeme_longest open_slice rest h stops = mark_next (91 ∷ rest) 91 refl refl
lexeme_longest close_slice rest h stops = mark_next (93 ∷ rest) 93 refl refl
lexeme_longest open_join rest h stops = mark_next (123 ∷ rest) 123 refl refl
lexeme_longest close_join rest h stops = mark_next (125 ∷ rest) 125 refl refl
lexeme_longest colon rest h stops = mark_next (58 ∷ rest) 58 refl refl

pub lexeme_says : (gap : List ℕ) (x : Lexeme) → IsPrintableLexeme x → Says x (spelled_as (laid gap x))
lexeme_says gap (key word) h = (refl, refl)
lexeme_says gap (id name) h = (refl, refl, h)
lexeme_says gap (constant (value.Bits b)) h = (refl, bits_say b h.0 h.1)
lexeme_says gap (constant (value.Number n)) h = (refl, number_says n h)
lexeme_says gap (constant (value.Text bytes)) h = (refl, is_text bytes)
lexeme_says gap open_slice h = refl
lexeme_says gap close_slice h = refl
lexeme_says gap open_join h = refl
lexeme_says gap close_join h = refl
lexeme_says gap colon h = refl

pub lexeme_laid : (gap : List ℕ) (x : Lexeme) (rest : List ℕ) → NoneOrMore is_blank gap → IsPrintableLexeme x → Stops rest → IsLaid (laid gap x) rest
lexeme_laid gap x rest blank h stops =
    let longest = lexeme_longest x rest h stops in
    record { blank = blank; ink = is_ink (lexeme_kind x) (lexeme_text x) rest longest; longest = longest }

-- ---- pieces

-- the first word behind a space, the others behind nothing
abbrev pub laid_all : List ℕ → List Lexeme → List Laid
laid_all gap [] = []
laid_all gap (x ∷ xs) = laid gap x ∷ laid_all [] xs

abbrev one_place : ℕ → List Lexeme
one_place low = open_slice ∷ number low ∷ close_slice ∷ []

abbrev both_places : ℕ → ℕ → List Lexeme
both_places high low = open_slice ∷ number high ∷ colon ∷ number low ∷ close_slice ∷ []

abbrev pub piece_lexemes : Piece → List Lexeme
piece_lexemes (lexeme x) = x ∷ []
piece_lexemes (places high low) = cond (high == low) (one_place low) (both_places high low)

abbrev pub piece_laid : Piece → List Laid
piece_laid p = laid_all (32 ∷ []) (piece_lexemes p)

places_by : (same : Bool) (high low : ℕ) → (high == low) ≡ same → IsPiece (places high low) (cond same (one_place low) (both_places high low))
places_by true high low e = inr (eqb-true high low e, refl)
places_by false high low e = inl refl

pub is_piece : (p : Piece) → IsPiece p (piece_lexemes p)
is_piece (lexeme x) = refl
is_piece (places high low) = places_by (high == low) high low refl

places_spelled : (same : Bool) (high low : ℕ) → text_of (laid_all (32 ∷ []) (cond same (one_place low) (both_places high low))) ≡ 32 ∷ 91 ∷ (cond same (printed_decimal low) (printed_decimal high ++ 58 ∷ printed_decimal low) ++ 93 ∷ [])
places_spelled true high low = refl
places_spelled false high low = ap (λ l. 32 ∷ 91 ∷ l) (sym (append_assoc (printed_decimal high) (58 ∷ printed_decimal low) (93 ∷ [])))

pub piece_spelled : (p : Piece) → text_of (piece_laid p) ≡ 32 ∷ piece_text p
piece_spelled (lexeme x) = ap (λ l. 32 ∷ l) (append-nil (lexeme_text x))
piece_spelled (places high low) = places_spelled (high == low) high low

mark_laid : (gap : List ℕ) (b : ℕ) (rest : List ℕ) → NoneOrMore is_blank gap → IsTrue (is_mark b) → IsLaid (record { gap = gap; kind = kind.Mark b; text = b ∷ [] }) rest
mark_laid gap b rest blank mark =
    let longest : IsLongest (kind.Mark b) 1 (b ∷ rest) = mark_next (b ∷ rest) b mark refl in
    record { blank = blank; ink = is_ink (kind.Mark b) (b ∷ []) rest longest; longest = longest }

count_laid : (n : ℕ) (rest : List ℕ) → n < 2 ^ 31 → StopsDigits rest → IsLaid (laid [] (number n)) rest
count_laid n rest small stops =
    let longest = count_next n rest (omega arith) stops in
    record { blank = tt; ink = is_ink kind.Int (printed_decimal n) rest longest; longest = longest }

at_mark : (rest : List ℕ) → StopsDigits (93 ∷ rest)
at_mark rest = record { digit = refl; tick = refl }

at_colon : (rest : List ℕ) → StopsDigits (58 ∷ rest)
at_colon rest = record { digit = refl; tick = refl }

places_laid : (same : Bool) (high low : ℕ) (rest : List ℕ) → high < 2 ^ 31 → low < 2 ^ 31 → AreLaid (laid_all (32 ∷ []) (cond same (one_place low) (both_places high low))) rest
places_laid true high low rest h l = (
  mark_laid (32 ∷ []) 91 (text_of (laid_all [] (number low ∷ close_slice ∷ [])) ++ rest) (refl, tt) refl,
  (count_laid low (93 ∷ rest) l (at_mark rest), (mark_laid [] 93 rest tt refl, tt)),
)
places_laid false high low rest h l = (
  mark_laid (32 ∷ []) 91 (text_of (laid_all [] (number high ∷ colon ∷ number low ∷ close_slice ∷ [])) ++ rest) (refl, tt) refl,
  (
    count_laid high (58 ∷ (text_of (laid_all [] (number low ∷ close_slice ∷ [])) ++ rest)) h (at_colon (text_of (laid_all [] (number low ∷ close_slice ∷ [])) ++ rest)),
    (
      mark_laid [] 58 (text_of (laid_all [] (number low ∷ close_slice ∷ [])) ++ rest) tt refl,
      (count_laid low (93 ∷ rest) l (at_mark rest), (mark_laid [] 93 rest tt refl, tt)),
    ),
  ),
)

pub piece_are_laid : (p : Piece) (rest : List ℕ) → IsPrintablePiece p → Stops rest → AreLaid (piece_laid p) rest
piece_are_laid (lexeme x) rest h stops = (lexeme_laid (32 ∷ []) x rest (refl, tt) h stops, tt)
piece_are_laid (places high low) rest h stops = places_laid (high == low) high low rest h.0 h.1

places_lexemes : (same : Bool) (high low : ℕ) → high < 2 ^ 31 → low < 2 ^ 31 → AllByRecursion IsPrintableLexeme (cond same (one_place low) (both_places high low))
places_lexemes true high low h l = (tt, (l, (tt, tt)))
places_lexemes false high low h l = (tt, (h, (tt, (l, (tt, tt)))))

pub lexemes_of_piece : (p : Piece) → IsPrintablePiece p → AllByRecursion IsPrintableLexeme (piece_lexemes p)
lexemes_of_piece (lexeme x) h = (h, tt)
lexemes_of_piece (places high low) h = places_lexemes (high == low) high low h.0 h.1
