-- Strings: how the reader reads one, and how it is spelled.
use Rattle.std.proofs.Common.{◌≡◌, ℕ, ◌+◌, ◌-◌, ◌*◌, ◌%◌, ◌≤◌, ◌==◌, ◌||◌, not, List, [], ◌∷◌, ◌++◌, length, map, refl, ap, ◌∙◌, sym, arith, Bool, true, false, cond, nat_le, Option, Some, None, leb-true, le-leb, length-append, take_at, slice_range, mod-eq_of_lt}
use Rattle.std.proofs.lemmas.Bool.{cond-true, cond-false, or_parts}
use Rattle.rtlil_lex.specs.Bytes.{is_octal, is_plain, is_feed, begins}
use Rattle.rtlil_lex.specs.Forms.{IsStr}
use Rattle.rtlil_lex.specs.Strings.{Character, text_of, spelling_of, octal_value, IsOctal, IsCharacter, AreCharacters}
use Rattle.circuit_types.specs.declared.signal.Value.TheVariants as value
use Rattle.rtlil_tree.specs.declared.string.Escape.{Escape}
use Rattle.rtlil_tree.specs.declared.string.Escape.TheVariants as escape
use Rattle.rtlil_tree.specs.Lexemes.{Lexeme, constant, octal_number, byte_of, IsText}
use Rattle.rtlil_tree.specs.Said.{letter_of, with_digit, plain_step, escape_step, escape_end, text_from, text, string_of}
use Rattle.rtlil_tree.proofs.Numbers.{both_true}
use Rattle.rtlil_tree.proofs.Binding.{once}

-- ---- one step

abbrev next_text : List ℕ → Escape × List ℕ → List ℕ
next_text rest s = s.1 ++ text_from s.0 rest

at_byte : (e : Escape) (b : ℕ) (rest : List ℕ) → text_from e (b ∷ rest) ≡ next_text rest (escape_step e b)
unfolding text_from
at_byte e b rest = refl

at_end : (e : Escape) → text_from e [] ≡ escape_end e
unfolding text_from
at_end e = refl

not_true : (b : Bool) → not b ≡ true → b ≡ false
not_true false h = refl
not_true true h = absurd cc

plain_byte : (b : ℕ) (rest : List ℕ) → is_plain b ≡ true → text_from escape.None (b ∷ rest) ≡ b ∷ text_from escape.None rest
plain_byte b rest h =
    let parts = or_parts (b == 34 || b == 92) (is_feed b) (not_true (b == 34 || b == 92 || is_feed b) h) in
    let stays = or_parts (b == 34) (b == 92) parts.0 in
    at_byte escape.None b rest ∙ ap (next_text rest) (cond-false (b == 92) (escape.Begun, []) (escape.None, b ∷ []) stays.1)

after_backslash : (rest : List ℕ) → text_from escape.None (92 ∷ rest) ≡ text_from escape.Begun rest
after_backslash rest = at_byte escape.None 92 rest

escaped_byte : (b : ℕ) (rest : List ℕ) → not (is_octal b) ≡ true → text_from escape.Begun (b ∷ rest) ≡ letter_of b ∷ text_from escape.None rest
escaped_byte b rest h =
    at_byte escape.Begun b rest ∙ ap (next_text rest) (cond-false (is_octal b) (escape.One (with_digit 0 b), []) (escape.None, letter_of b ∷ []) (not_true (is_octal b) h))

first_digit : (a : ℕ) (rest : List ℕ) → is_octal a ≡ true → text_from escape.Begun (a ∷ rest) ≡ text_from (escape.One (with_digit 0 a)) rest
first_digit a rest h =
    at_byte escape.Begun a rest ∙ ap (next_text rest) (cond-true (is_octal a) (escape.One (with_digit 0 a), []) (escape.None, letter_of a ∷ []) h)

second_digit : (n b : ℕ) (rest : List ℕ) → is_octal b ≡ true → text_from (escape.One n) (b ∷ rest) ≡ text_from (escape.Two (with_digit n b)) rest
second_digit n b rest h =
    at_byte (escape.One n) b rest ∙ ap (next_text rest) (cond-true (is_octal b) (escape.Two (with_digit n b), []) ((plain_step b).0, n ∷ (plain_step b).1) h)

third_digit : (n c : ℕ) (rest : List ℕ) → is_octal c ≡ true → text_from (escape.Two n) (c ∷ rest) ≡ with_digit n c ∷ text_from escape.None rest
third_digit n c rest h =
    at_byte (escape.Two n) c rest ∙ ap (next_text rest) (cond-true (is_octal c) (escape.None, with_digit n c ∷ []) ((plain_step c).0, n ∷ (plain_step c).1) h)

-- where no digit follows
one_ends : (n : ℕ) (rest next : List ℕ) → not (begins is_octal (rest ++ next)) ≡ true → text_from (escape.One n) rest ≡ n ∷ text_from escape.None rest
one_ends n [] next h = at_end (escape.One n) ∙ ap (λ l. n ∷ l) (sym (at_end escape.None))
one_ends n (b ∷ rest) next h =
    at_byte (escape.One n) b rest
    ∙ ap (next_text rest) (cond-false (is_octal b) (escape.Two (with_digit n b), []) ((plain_step b).0, n ∷ (plain_step b).1) (not_true (is_octal b) h))
    ∙ ap (λ l. n ∷ l) (sym (at_byte escape.None b rest))

two_ends : (n : ℕ) (rest next : List ℕ) → not (begins is_octal (rest ++ next)) ≡ true → text_from (escape.Two n) rest ≡ n ∷ text_from escape.None rest
two_ends n [] next h = at_end (escape.Two n) ∙ ap (λ l. n ∷ l) (sym (at_end escape.None))
two_ends n (b ∷ rest) next h =
    at_byte (escape.Two n) b rest
    ∙ ap (next_text rest) (cond-false (is_octal b) (escape.None, with_digit n b ∷ []) ((plain_step b).0, n ∷ (plain_step b).1) (not_true (is_octal b) h))
    ∙ ap (λ l. n ∷ l) (sym (at_byte escape.None b rest))

-- ---- octal digits

octal_within : (d : ℕ) → is_octal d ≡ true → d - 48 ≤ 7
octal_within d h =
    let p = both_true (nat_le 48 d) (nat_le d 55) h in
    let most = leb-true d 55 p.1 in
    omega arith

kept : (n : ℕ) → n ≤ 255 → n % 256 ≡ n
kept n h = mod-eq_of_lt (omega arith)

one_is : (a : ℕ) → is_octal a ≡ true → with_digit 0 a ≡ 8 * 0 + (a - 48)
one_is a h = let most = octal_within a h in kept (8 * 0 + (a - 48)) (omega arith)

two_are : (n a b : ℕ) → is_octal a ≡ true → is_octal b ≡ true → n ≡ 8 * 0 + (a - 48) → with_digit n b ≡ 8 * n + (b - 48)
two_are n a b h k e =
    let first = octal_within a h in
    let second = octal_within b k in
    kept (8 * n + (b - 48)) (omega arith)

three_are : (n a b c : ℕ) → octal_value a b c ≤ 255 → n ≡ 8 * (8 * 0 + (a - 48)) + (b - 48) → with_digit n c ≡ 8 * n + (c - 48)
three_are n a b c most e = kept (8 * n + (c - 48)) (omega arith)

abbrev octal_text : List ℕ → List ℕ → List ℕ
octal_text digits rest = text_from escape.None (92 ∷ (digits ++ rest))

octal_read : (digits rest next : List ℕ) → IsOctal digits (rest ++ next) → octal_text digits rest ≡ octal_number digits ∷ text_from escape.None rest
octal_read [] rest next h = absurd h
octal_read (a ∷ []) rest next h =
    after_backslash (a ∷ rest) ∙ first_digit a rest h.0 ∙ one_ends (with_digit 0 a) rest next h.1
    ∙ ap (λ n. n ∷ text_from escape.None rest) (one_is a h.0)
octal_read (a ∷ b ∷ []) rest next h =
    let n : ℕ = with_digit 0 a in
    after_backslash (a ∷ b ∷ rest) ∙ first_digit a (b ∷ rest) h.0 ∙ second_digit (with_digit 0 a) b rest h.1 ∙ two_ends (with_digit (with_digit 0 a) b) rest next h.2
    ∙ ap (λ m. m ∷ text_from escape.None rest) (two_are (with_digit 0 a) a b h.0 h.1 (one_is a h.0) ∙ ap (λ m. 8 * m + (b - 48)) (one_is a h.0))
octal_read (a ∷ b ∷ c ∷ []) rest next h =
    let two : with_digit (with_digit 0 a) b ≡ 8 * (8 * 0 + (a - 48)) + (b - 48) = two_are (with_digit 0 a) a b h.0 h.1 (one_is a h.0) ∙ ap (λ m. 8 * m + (b - 48)) (one_is a h.0) in
    after_backslash (a ∷ b ∷ c ∷ rest) ∙ first_digit a (b ∷ c ∷ rest) h.0 ∙ second_digit (with_digit 0 a) b (c ∷ rest) h.1 ∙ third_digit (with_digit (with_digit 0 a) b) c rest h.2
    ∙ ap (λ m. m ∷ text_from escape.None rest) (three_are (with_digit (with_digit 0 a) b) a b c h.3 two ∙ ap (λ m. 8 * m + (c - 48)) two)
octal_read (a ∷ b ∷ c ∷ d ∷ digits) rest next h = absurd h

-- ---- characters

character_read : (c : Character) (rest next : List ℕ) → IsCharacter c (rest ++ next) → text_from escape.None (spelling_of c ++ rest) ≡ byte_of c ∷ text_from escape.None rest
character_read (Character.plain b) rest next h = plain_byte b rest h
character_read (Character.escaped b) rest next h = after_backslash (b ∷ rest) ∙ escaped_byte b rest h.0
character_read (Character.octal digits) rest next h = octal_read digits rest next h

characters_read : (cs : List Character) (next : List ℕ) → AreCharacters cs next → text_from escape.None (text_of cs) ≡ map byte_of cs
characters_read [] next h = at_end escape.None
characters_read (c ∷ cs) next h = character_read c (text_of cs) next h.0 ∙ ap (λ l. byte_of c ∷ l) (characters_read cs next h.1)

-- ---- strings

abbrev within : List ℕ → Option Lexeme
within spelled = cond (nat_le 2 (length spelled)) (Some (text (slice_range spelled 1 (length spelled - 1)))) None

inner_is : (raw : List ℕ) → slice_range (34 ∷ (raw ++ 34 ∷ [])) 1 (length (34 ∷ (raw ++ 34 ∷ [])) - 1) ≡ raw
inner_is raw =
    let len = length-append raw (34 ∷ []) in
    take_at raw (34 ∷ []) (length (34 ∷ (raw ++ 34 ∷ [])) - 1 - 1) (omega arith)

string_within : (raw : List ℕ) → string_of (34 ∷ (raw ++ 34 ∷ [])) ≡ Some (text raw)
unfolding string_of
string_within raw =
    let len = length-append raw (34 ∷ []) in
    cond-true (nat_le 2 (length (34 ∷ (raw ++ 34 ∷ [])))) _ _ (le-leb 2 (length (34 ∷ (raw ++ 34 ∷ []))) (omega arith))
    ∙ ap (λ l. Some (text l)) (inner_is raw)

pub string_read : (bytes spelled : List ℕ) → IsText bytes spelled → string_of spelled ≡ Some (constant (value.Text bytes))
string_read bytes spelled h =
    ap string_of h.spelled ∙ string_within (text_of h.characters)
    ∙ ap (λ l. Some (constant (value.Text l))) (characters_read h.characters (34 ∷ []) h.form ∙ sym h.given)

-- the constant that was read is spelled so
abbrev SpellsText : List ℕ → Lexeme → Type 0
SpellsText spelled x = (bytes : List ℕ) × (x ≡ constant (value.Text bytes)) × IsText bytes spelled

pub string_spelled : (spelled : List ℕ) (x : Lexeme) → IsStr spelled → string_of spelled ≡ Some x → SpellsText spelled x
string_spelled spelled x h e =
    let read : Some (text (text_of h.0)) ≡ Some x = sym (ap string_of h.1 ∙ string_within (text_of h.0)) ∙ e in
    (text_from escape.None (text_of h.0), sym (once (text (text_of h.0)) x read), record { characters = h.0; spelled = h.1; form = h.2; given = characters_read h.0 (34 ∷ []) h.2 })
