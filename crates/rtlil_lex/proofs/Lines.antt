-- Only a token of the end of a line has a line feed, so counting these tokens counts lines.
use Rattle.std.proofs.Common.{◌≡◌, ℕ, ◌+◌, ◌≤◌, Bool, false, cond, ◌==◌, ◌||◌, List, [], ◌∷◌, ◌++◌, length, take, drop, sym, refl, ap, ◌∙◌, subst, ⊎_elim, arith, length-take}
use Rattle.std.specs.Prelude.{IsTrue}
use Rattle.std.specs.List.{count_by}
use Rattle.std.proofs.lemmas.Bool.{cond-false, not-true, not_from_false, or_parts, and_parts, leb-true, ne_eqb, both_ways}
use Rattle.std.proofs.lemmas.List.{take-append-drop, take-take, drop-take}
use Rattle.std.proofs.lemmas.List.Sums.{sum_by-cons, sum_by-append, count_by-le-length}
use Rattle.rtlil_lex.specs.Bytes.{NoneOrMore, is_letter, is_digit, is_octal, is_blank, is_feed, is_inline, is_sigil, is_name_byte, is_bit, is_mark, is_plain}
use Rattle.rtlil_lex.specs.Strings.{Character, plain, escaped, octal, spelling_of, IsCharacter, text_of, AreCharacters}
use Rattle.rtlil_lex.specs.Forms.{HasForm, IsValue}
use Rattle.rtlil_lex.specs.Tokens.{IsGap, line_at}
use Rattle.rtlil_lex.specs.Next.{feeds_of}
use Rattle.rtlil_lex.specs.declared.token.TokenKind.{TokenKind}
use Rattle.rtlil_lex.specs.declared.token.TokenKind.TheVariants.{Word, Id, Int, Bits, Str, Mark, Eol}
use Rattle.rtlil_lex.proofs.FirstBytes.{digit_range, octal_range}
use Rattle.rtlil_lex.proofs.Runs.{NoneOrMore-from_one}

no_feeds : (s : List ℕ) → NoneOrMore is_inline s → count_by is_feed s ≡ 0
no_feeds [] h = refl
no_feeds (b ∷ bs) h =
    sum_by-cons (λ x. cond (is_feed x) 1 0) b bs
    ∙ (let none : cond {A = ℕ} (is_feed b) 1 0 ≡ 0 = cond-false (is_feed b) _ _ (not-true _ h.0) in
    let rest : count_by is_feed bs ≡ 0 = no_feeds bs h.1 in
    omega arith)

-- a byte that is no line feed
inline_is : (b : ℕ) → (b ≡ 10 → ⊥) → IsTrue (is_inline b)
inline_is b h = not_from_false _ (ne_eqb b 10 h)

weaker : (p : ℕ → Bool) (s : List ℕ) → ((b : ℕ) → IsTrue (p b) → IsTrue (is_inline b)) → NoneOrMore p s → NoneOrMore is_inline s
weaker p [] up h = tt
weaker p (b ∷ bs) up h = (up b h.0, weaker p bs up h.1)

join : (xs ys : List ℕ) → NoneOrMore is_inline xs → NoneOrMore is_inline ys → NoneOrMore is_inline (xs ++ ys)
join [] ys h k = k
join (x ∷ xs) ys h k = (h.0, join xs ys h.1 k)

letter_inline : (b : ℕ) → IsTrue (is_letter b) → IsTrue (is_inline b)
letter_inline b h = let low : 97 ≤ b = leb-true _ _ (and_parts _ _ h).0 in inline_is b (λ e. omega arith)

digit_inline : (b : ℕ) → IsTrue (is_digit b) → IsTrue (is_inline b)
digit_inline b h = let range : (48 ≤ b) × (b ≤ 57) = digit_range b h in inline_is b (λ e. omega arith)

octal_inline : (b : ℕ) → IsTrue (is_octal b) → IsTrue (is_inline b)
octal_inline b h = let range : (48 ≤ b) × (b ≤ 55) = octal_range b h in inline_is b (λ e. omega arith)

name_inline : (b : ℕ) → IsTrue (is_name_byte b) → IsTrue (is_inline b)
name_inline b h = not_from_false _ (or_parts _ _ (not-true _ h)).1

plain_inline : (b : ℕ) → IsTrue (is_plain b) → IsTrue (is_inline b)
plain_inline b h = not_from_false _ (or_parts _ _ (not-true _ h)).1

-- a test that fails at the line feed
fails_at_feed : (p : ℕ → Bool) → p 10 ≡ false → (b : ℕ) → IsTrue (p b) → IsTrue (is_inline b)
fails_at_feed p never b h = inline_is b (λ e. both_ways (p 10) never (subst (λ x. IsTrue (p x)) e h))

value_inline : (s : List ℕ) → IsValue s → NoneOrMore is_inline s
value_inline [] h = tt
value_inline (b ∷ bs) h = (fails_at_feed (λ x. x == 115 || is_bit x) refl b h.0, weaker is_bit bs (fails_at_feed is_bit refl) h.1)

character_inline : (c : Character) (next : List ℕ) → IsCharacter c next → NoneOrMore is_inline (spelling_of c)
character_inline (plain b) next h = (plain_inline b h, tt)
character_inline (escaped b) next h = (refl, (h.1, tt))
character_inline (octal []) next h = absurd h
character_inline (octal (a ∷ [])) next h = (refl, (octal_inline a h.0, tt))
character_inline (octal (a ∷ b ∷ [])) next h = (refl, (octal_inline a h.0, (octal_inline b h.1, tt)))
character_inline (octal (a ∷ b ∷ c ∷ [])) next h = (refl, (octal_inline a h.0, (octal_inline b h.1, (octal_inline c h.2, tt))))
character_inline (octal (a ∷ b ∷ c ∷ d ∷ ds)) next h = absurd h

text_inline : (cs : List Character) (next : List ℕ) → AreCharacters cs next → NoneOrMore is_inline (text_of cs)
text_inline [] next h = tt
text_inline (c ∷ cs) next h = join (spelling_of c) (text_of cs) (character_inline c _ h.0) (text_inline cs next h.1)

pub feeds_in : (k : TokenKind) (s : List ℕ) → HasForm k s → count_by is_feed s ≡ feeds_of k
unfolding HasForm
feeds_in Word s h = no_feeds s (weaker is_letter s letter_inline (NoneOrMore-from_one is_letter s h))
feeds_in Id [] h = absurd h
feeds_in Id (b ∷ bs) h = no_feeds (b ∷ bs) (fails_at_feed is_sigil refl b h.0, weaker is_name_byte bs name_inline (NoneOrMore-from_one is_name_byte bs h.1))
feeds_in Int [] h = absurd h
feeds_in Int (b ∷ bs) h =
    ⊎_elim
    (λ digits. no_feeds (b ∷ bs) (weaker is_digit (b ∷ bs) digit_inline digits))
    (λ minus. no_feeds (b ∷ bs) (inline_is b (λ e. omega (arith, minus.0)), weaker is_digit bs digit_inline (NoneOrMore-from_one is_digit bs minus.1)))
    h
feeds_in Bits s (width, value, e, digits, form) =
    ap (count_by is_feed) e ∙ no_feeds (width ++ 39 ∷ value) (join width (39 ∷ value) (weaker is_digit width digit_inline (NoneOrMore-from_one is_digit width digits)) (refl, value_inline value form))
feeds_in Str s (characters, e, each) =
    ap (count_by is_feed) e ∙ no_feeds (34 ∷ text_of characters ++ 34 ∷ []) (refl, join (text_of characters) (34 ∷ []) (text_inline characters (34 ∷ []) each) (refl, tt))
feeds_in (Mark b) s h = ap (count_by is_feed) h.0 ∙ no_feeds (b ∷ []) (fails_at_feed is_mark refl b h.1, tt)
feeds_in Eol s h = ap (count_by is_feed) h ∙ refl

gap_inline : (gap next : List ℕ) → IsGap gap next → NoneOrMore is_inline gap
gap_inline gap next h =
    ⊎_elim
    (λ blank. weaker is_blank gap (fails_at_feed is_blank refl) blank.0)
    (λ comment. subst (NoneOrMore is_inline) (sym comment.2) (join comment.0 (35 ∷ comment.1) (weaker is_blank comment.0 (fails_at_feed is_blank refl) comment.3) (refl, comment.4)))
    h

-- the line a few bytes on
line_more : (bytes : List ℕ) (place size : ℕ) → line_at bytes (place + size) ≡ line_at bytes place + count_by is_feed (take size (drop place bytes))
line_more bytes place size =
    let front : take (place + size) bytes ≡ take place bytes ++ take size (drop place bytes) =
    sym (take-append-drop place (take (place + size) bytes))
    ∙ ap (λ s. s ++ drop place (take (place + size) bytes)) (take-take place (place + size) bytes (omega arith))
    ∙ ap (λ s. take place bytes ++ s) (drop-take place size bytes) in
    let feeds : count_by is_feed (take (place + size) bytes) ≡ count_by is_feed (take place bytes) + count_by is_feed (take size (drop place bytes)) =
    ap (count_by is_feed) front ∙ sum_by-append (λ x. cond (is_feed x) 1 0) (take place bytes) (take size (drop place bytes)) in
    omega arith

pub line_after_token : (bytes : List ℕ) (k : TokenKind) (place size : ℕ) → HasForm k (take size (drop place bytes)) → line_at bytes (place + size) ≡ line_at bytes place + feeds_of k
line_after_token bytes k place size h = line_more bytes place size ∙ ap (λ n. line_at bytes place + n) (feeds_in k _ h)

pub line_after_gap : (bytes : List ℕ) (place size : ℕ) (next : List ℕ) → IsGap (take size (drop place bytes)) next → line_at bytes (place + size) ≡ line_at bytes place
line_after_gap bytes place size next h =
    let none : count_by is_feed (take size (drop place bytes)) ≡ 0 = no_feeds _ (gap_inline _ next h) in
    line_more bytes place size ∙ omega arith

pub line_within : (bytes : List ℕ) (place : ℕ) → line_at bytes place ≤ 1 + length bytes
line_within bytes place = omega (arith, count_by-le-length is_feed (take place bytes), length-take place bytes)
