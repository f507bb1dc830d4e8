-- What the functions on strings answer: pieces, and the places between characters.
use Rattle.std.proofs.Common.{◌≡◌, ℕ, ◌+◌, ◌<◌, ◌≤◌, Bool, true, false, ◌==◌, inl, inr, List, [], ◌∷◌, ◌++◌, length, drop, sym, refl, ap, ◌∙◌, subst, arith, length-append}
use Rattle.std.specs.Prelude.{IsTrue, slice_index, Ok, Err}
use Rattle.std.proofs.lemmas.Bool.{false≢true, true≢false, eqb-true, eqb-false, ne_eqb, or_from, not_from_false}
use Rattle.std.proofs.lemmas.List.{drop_at, drop-drop}
use Rattle.rtlil_lex.specs.Bytes.{is_octal, begins, is_line_end}
use Rattle.rtlil_lex.specs.Strings.{Character, plain, escaped, octal, spelling_of, text_of, AreCharacters, IsBadEscape, IsCutShort}
use Rattle.rtlil_lex.specs.Tokens.{IsString}
use Rattle.rtlil_lex.specs.Next.{BeginsCharacter, IsStringEnd, IsNext}
use Rattle.rtlil_lex.specs.declared.spelling.Misfit.{Misfit}
use Rattle.rtlil_lex.specs.declared.spelling.Misfit.TheVariants.{BadByte, OpenString}
use Rattle.rtlil_lex.proofs.Runs.{begins_is}
use Rattle.rtlil_lex.proofs.FirstBytes.{octal_range}
use Rattle.rtlil_lex.proofs.Characters.{characters_more, length_more, text_more}

pub end_cuts : (text : List ℕ) → is_line_end text ≡ true → IsCutShort text
end_cuts [] h = tt
end_cuts (b ∷ bs) h = inl h

pub escape_cuts : (text : List ℕ) → IsTrue (begins (λ b. b == 92) text) → is_line_end (drop 1 text) ≡ true → IsCutShort text
escape_cuts [] h k = tt
escape_cuts (b ∷ bs) h k = inr (eqb-true b 92 h, k)

pub quote_first : (text : List ℕ) → slice_index text 0 ≡ 34 → (rest : List ℕ) × (text ≡ 34 ∷ rest)
quote_first [] h = absurd (eqb-false 0 34 refl h)
quote_first (b ∷ bs) h = (bs, ap (λ x. x ∷ bs) h)

pub plain_begins : (text : List ℕ) → is_line_end text ≡ false → (slice_index text 0 ≡ 34 → ⊥) → (slice_index text 0 ≡ 92 → ⊥) → BeginsCharacter text 1
plain_begins [] ends quote slash = absurd (true≢false ends)
plain_begins (b ∷ bs) ends quote slash = record {
  character = plain b;
  rest = bs;
  spelled = refl;
  form = not_from_false _ (or_from _ _ (or_from _ _ (ne_eqb b 34 quote) (ne_eqb b 92 slash)) ends);
  length = refl;
}

pub escaped_begins : (text : List ℕ) → IsTrue (begins (λ b. b == 92) text) → is_line_end (drop 1 text) ≡ false → begins is_octal (drop 1 text) ≡ false → BeginsCharacter text 2
escaped_begins [] h ends first = absurd (false≢true h)
escaped_begins (b ∷ []) h ends first = absurd (true≢false ends)
escaped_begins (b ∷ d ∷ ds) h ends first = record {
  character = escaped d;
  rest = ds;
  spelled = ap (λ x. x ∷ d ∷ ds) (eqb-true b 92 h);
  form = (not_from_false _ first, not_from_false _ ends);
  length = refl;
}

pub one_begins : (text : List ℕ) → IsTrue (begins (λ b. b == 92) text) → begins is_octal (drop 1 text) ≡ true → begins is_octal (drop 2 text) ≡ false → BeginsCharacter text 2
one_begins [] h first second = absurd (false≢true h)
one_begins (b ∷ []) h first second = absurd (false≢true first)
one_begins (b ∷ x ∷ ds) h first second = record {
  character = octal (x ∷ []);
  rest = ds;
  spelled = ap (λ v. v ∷ x ∷ ds) (eqb-true b 92 h);
  form = (first, not_from_false _ second);
  length = refl;
}

pub two_begin : (text : List ℕ) → IsTrue (begins (λ b. b == 92) text) → begins is_octal (drop 1 text) ≡ true → begins is_octal (drop 2 text) ≡ true → begins is_octal (drop 3 text) ≡ false → BeginsCharacter text 3
two_begin [] h first second third = absurd (false≢true h)
two_begin (b ∷ []) h first second third = absurd (false≢true first)
two_begin (b ∷ x ∷ []) h first second third = absurd (false≢true second)
two_begin (b ∷ x ∷ y ∷ ds) h first second third = record {
  character = octal (x ∷ y ∷ []);
  rest = ds;
  spelled = ap (λ v. v ∷ x ∷ y ∷ ds) (eqb-true b 92 h);
  form = (first, second, not_from_false _ third);
  length = refl;
}

pub three_begin : (text : List ℕ) → IsTrue (begins (λ b. b == 92) text) → begins is_octal (drop 1 text) ≡ true → begins is_octal (drop 2 text) ≡ true → begins is_octal (drop 3 text) ≡ true → slice_index text 1 ≤ 51 → BeginsCharacter text 4
three_begin [] h first second third low = absurd (false≢true h)
three_begin (b ∷ []) h first second third low = absurd (false≢true first)
three_begin (b ∷ x ∷ []) h first second third low = absurd (false≢true second)
three_begin (b ∷ x ∷ y ∷ []) h first second third low = absurd (false≢true third)
three_begin (b ∷ x ∷ y ∷ z ∷ ds) h first second third low = record {
  character = octal (x ∷ y ∷ z ∷ []);
  rest = ds;
  spelled = ap (λ v. v ∷ x ∷ y ∷ z ∷ ds) (eqb-true b 92 h);
  form = (first, second, third, omega (arith, octal_range x first, octal_range y second, octal_range z third));
  length = refl;
}

pub three_bad : (text : List ℕ) → IsTrue (begins (λ b. b == 92) text) → begins is_octal (drop 1 text) ≡ true → begins is_octal (drop 2 text) ≡ true → begins is_octal (drop 3 text) ≡ true → 51 < slice_index text 1 → IsBadEscape text
three_bad [] h first second third high = absurd (false≢true h)
three_bad (b ∷ []) h first second third high = absurd (false≢true first)
three_bad (b ∷ x ∷ []) h first second third high = absurd (false≢true second)
three_bad (b ∷ x ∷ y ∷ []) h first second third high = absurd (false≢true third)
three_bad (b ∷ x ∷ y ∷ z ∷ ds) h first second third high = (eqb-true b 92 h, first, second, third, omega arith)

-- the place is between two characters of the string that the bytes begin with
pub record IsInside (bytes : List ℕ) (place : ℕ) : Type 0 where
  pub characters : List Character
  pub string : IsString bytes characters (drop place bytes)
  pub at : place ≡ 1 + length (text_of characters)

pub inside_start : (bytes : List ℕ) → IsTrue (begins (λ b. b == 34) bytes) → IsInside bytes 1
inside_start bytes h = record {
  characters = [];
  string = record { text = begins_is 34 bytes h; each = tt };
  at = refl;
}

pub inside_within : (bytes : List ℕ) (place : ℕ) → IsInside bytes place → place ≤ length bytes
inside_within bytes place h = omega (arith, h.at, ap length h.string.text, length-append (text_of h.characters) (drop place bytes))

pub character_within : (text : List ℕ) (size : ℕ) → BeginsCharacter text size → (0 < size) × (size ≤ length text)
character_within text size h = (some h.character (sym h.length), omega (arith, h.length, ap length h.spelled, length-append (spelling_of h.character) h.rest))
  where
    some : (c : Character) → length (spelling_of c) ≡ size → 0 < size
    some (plain b) e = omega arith
    some (escaped b) e = omega arith
    some (octal digits) e = omega arith

pub inside_more : (bytes : List ℕ) (place size : ℕ) → IsInside bytes place → BeginsCharacter (drop place bytes) size → IsInside bytes (place + size)
inside_more bytes place size h c =
    let left : drop (place + size) bytes ≡ c.rest = sym (drop-drop size place bytes) ∙ ap (drop size) c.spelled ∙ drop_at (spelling_of c.character) c.rest size (sym c.length) in
    let each : AreCharacters h.characters (spelling_of c.character ++ c.rest) = subst (AreCharacters h.characters) c.spelled h.string.each in
    record {
      characters = h.characters ++ c.character ∷ [];
      string = record {
        text = h.string.text ∙ ap (λ s. 34 ∷ text_of h.characters ++ s) c.spelled ∙ ap (λ s. 34 ∷ s) (sym (text_more h.characters c.character c.rest)) ∙ ap (λ s. 34 ∷ text_of (h.characters ++ c.character ∷ []) ++ s) (sym left);
        each = subst (AreCharacters (h.characters ++ c.character ∷ [])) (sym left) (characters_more h.characters c.character c.rest each c.form);
      };
      at = omega (arith, h.at, c.length, length_more h.characters c.character);
    }

-- where the place is at the end of the string
pub string_closes : (bytes : List ℕ) (place : ℕ) → IsInside bytes place → (rest : List ℕ) × (drop place bytes ≡ 34 ∷ rest) → IsStringEnd bytes (Ok (place + 1))
unfolding IsStringEnd
string_closes bytes place h q = (
  h.characters,
  q.0,
  record {
    text = h.string.text ∙ ap (λ s. 34 ∷ text_of h.characters ++ s) q.1;
    each = subst (AreCharacters h.characters) q.1 h.string.each;
  },
  omega (arith, h.at),
)

pub string_breaks : (bytes : List ℕ) (place : ℕ) → IsInside bytes place → IsBadEscape (drop place bytes) → IsStringEnd bytes (Err (BadByte place))
unfolding IsStringEnd
string_breaks bytes place h bad = record { characters = h.characters; rest = drop place bytes; string = h.string; bad = bad; at = h.at }

pub string_opens : (bytes : List ℕ) (place : ℕ) → IsInside bytes place → IsCutShort (drop place bytes) → IsStringEnd bytes (Err OpenString)
unfolding IsStringEnd
string_opens bytes place h cut = record { characters = h.characters; rest = drop place bytes; string = h.string; cut = cut }

-- what is no string is no token
pub next_misfit : (bytes : List ℕ) (m : Misfit) → IsStringEnd bytes (Err m) → IsNext bytes (Err m)
unfolding IsStringEnd IsNext
next_misfit bytes (BadByte offset) h = inr h
next_misfit bytes OpenString h = h

pub not_begins : (p : ℕ → Bool) (bytes : List ℕ) → p (slice_index bytes 0) ≡ false → begins p bytes ≡ false
not_begins p [] h = refl
not_begins p (b ∷ bs) h = h
