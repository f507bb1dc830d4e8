-- A printed text is a string, which gives the text's bytes.
use Rattle.std.proofs.Common.{◌≡◌, ℕ, ◌==◌, Bool, true, false, cond, List, [], ◌∷◌, ◌++◌, length, map, refl, ap, ◌∙◌, arith, append_assoc, length-append, eqb-true}
use Rattle.std.specs.List.{flat_map}
use Rattle.std.proofs.lemmas.Bool.{or_from, not_from_false}
use Rattle.rtlil_lex.specs.Strings.{Character, spelling_of, text_of, IsCharacter, AreCharacters}
use Rattle.rtlil_lex.specs.Forms.{IsLongest}
use Rattle.rtlil_lex.specs.declared.token.TokenKind.TheVariants as kind
use Rattle.rtlil_lex.proofs.Quoted.{str_next}
use Rattle.rtlil_tree.specs.Lexemes.{byte_of, IsText}
use Rattle.rtlil_print.specs.Printed.{quoted}

-- the character that a byte is printed as, by which of the four it is
abbrev chosen : Bool → Bool → Bool → Bool → ℕ → Character
chosen quote slash feed tab b =
    cond quote (Character.escaped 34) (cond slash (Character.escaped 92) (cond feed (Character.escaped 110) (cond tab (Character.escaped 116) (Character.plain b))))

abbrev pub character_of : ℕ → Character
character_of b = chosen (b == 34) (b == 92) (b == 10) (b == 9) b

spelled_as : (quote slash feed tab : Bool) (b : ℕ) → cond quote (92 ∷ 34 ∷ []) (cond slash (92 ∷ 92 ∷ []) (cond feed (92 ∷ 110 ∷ []) (cond tab (92 ∷ 116 ∷ []) (b ∷ [])))) ≡ spelling_of (chosen quote slash feed tab b)
spelled_as true slash feed tab b = refl
spelled_as false true feed tab b = refl
spelled_as false false true tab b = refl
spelled_as false false false true b = refl
spelled_as false false false false b = refl

given_by : (quote slash feed tab : Bool) (b : ℕ) → (b == 34) ≡ quote → (b == 92) ≡ slash → (b == 10) ≡ feed → (b == 9) ≡ tab → b ≡ byte_of (chosen quote slash feed tab b)
given_by true slash feed tab b q s f t = eqb-true b 34 q
given_by false true feed tab b q s f t = eqb-true b 92 s
given_by false false true tab b q s f t = eqb-true b 10 f
given_by false false false true b q s f t = eqb-true b 9 t
given_by false false false false b q s f t = refl

is_character : (quote slash feed tab : Bool) (b : ℕ) (next : List ℕ) → (b == 34) ≡ quote → (b == 92) ≡ slash → (b == 10) ≡ feed → IsCharacter (chosen quote slash feed tab b) next
is_character true slash feed tab b next q s f = (refl, refl)
is_character false true feed tab b next q s f = (refl, refl)
is_character false false true tab b next q s f = (refl, refl)
is_character false false false true b next q s f = (refl, refl)
is_character false false false false b next q s f = not_from_false _ (or_from _ _ (or_from _ _ q s) f)

abbrev pub characters_of : List ℕ → List Character
characters_of bytes = map character_of bytes

pub texts_same : (bytes : List ℕ) → flat_map quoted bytes ≡ text_of (characters_of bytes)
texts_same [] = refl
texts_same (b ∷ bs) =
    ap (λ l. l ++ flat_map quoted bs) (spelled_as (b == 34) (b == 92) (b == 10) (b == 9) b)
    ∙ ap (λ l. spelling_of (character_of b) ++ l) (texts_same bs)

pub are_characters : (bytes next : List ℕ) → AreCharacters (characters_of bytes) next
are_characters [] next = tt
are_characters (b ∷ bs) next =
    (is_character (b == 34) (b == 92) (b == 10) (b == 9) b (text_of (characters_of bs) ++ next) refl refl refl, are_characters bs next)

pub bytes_given : (bytes : List ℕ) → bytes ≡ map byte_of (characters_of bytes)
bytes_given [] = refl
bytes_given (b ∷ bs) =
    ap (λ x. x ∷ bs) (given_by (b == 34) (b == 92) (b == 10) (b == 9) b refl refl refl refl)
    ∙ ap (λ l. byte_of (character_of b) ∷ l) (bytes_given bs)

abbrev pub string_of : List ℕ → List ℕ
string_of bytes = 34 ∷ (flat_map quoted bytes ++ 34 ∷ [])

pub is_text : (bytes : List ℕ) → IsText bytes (string_of bytes)
is_text bytes = record {
  characters = characters_of bytes;
  spelled = ap (λ l. 34 ∷ (l ++ 34 ∷ [])) (texts_same bytes);
  form = are_characters bytes (34 ∷ []);
  given = bytes_given bytes;
}

pub string_next : (bytes rest : List ℕ) → IsLongest kind.Str (length (string_of bytes)) (string_of bytes ++ rest)
string_next bytes rest =
    let cs = characters_of bytes in
    str_next (string_of bytes ++ rest) cs rest (length (string_of bytes))
    (record {
      text = ap (λ l. 34 ∷ l) (append_assoc (flat_map quoted bytes) (34 ∷ []) rest ∙ ap (λ l. l ++ 34 ∷ rest) (texts_same bytes));
      each = are_characters bytes (34 ∷ rest);
    })
    (omega (arith, length-append (flat_map quoted bytes) (34 ∷ []), ap length (texts_same bytes)))
