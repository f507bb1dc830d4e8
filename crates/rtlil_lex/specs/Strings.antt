-- The characters of a string, and how each is spelled.
use Rattle.std.specs.Prelude.{◌≡◌, ℕ, ◌+◌, ◌-◌, ◌*◌, ◌<◌, ◌≤◌, ◌⊎◌, not, List, [], ◌∷◌, ◌++◌, IsTrue}
use Rattle.std.specs.List.{flat_map}
use Rattle.rtlil_lex.specs.Bytes.{is_octal, is_plain, is_feed, begins, is_line_end}

-- A character is written as itself, as a byte after a backslash, or as octal digits after a backslash.
pub data Character : Type 0 where
  plain : ℕ → Character
  escaped : ℕ → Character
  octal : List ℕ → Character

abbrev pub spelling_of : Character → List ℕ
spelling_of (plain b) = b ∷ []
spelling_of (escaped b) = 92 ∷ b ∷ []
spelling_of (octal digits) = 92 ∷ digits

-- the number that three octal digits stand for
abbrev pub octal_value : ℕ → ℕ → ℕ → ℕ
octal_value a b c = 64 * (a - 48) + 8 * (b - 48) + (c - 48)

-- One to three octal digits of value at most 255. As many are taken as stand there, so fewer than three
-- are followed by another byte.
abbrev pub IsOctal : List ℕ → List ℕ → Type 0
IsOctal (a ∷ []) next = IsTrue (is_octal a) × IsTrue (not (begins is_octal next))
IsOctal (a ∷ b ∷ []) next = IsTrue (is_octal a) × IsTrue (is_octal b) × IsTrue (not (begins is_octal next))
IsOctal (a ∷ b ∷ c ∷ []) next = IsTrue (is_octal a) × IsTrue (is_octal b) × IsTrue (is_octal c) × (octal_value a b c ≤ 255)
IsOctal _ next = ⊥

-- The character is of its form, before the bytes that come next. After a backslash any byte but an octal
-- digit and the line feed stands alone: `n` for a line feed, `t` for a tab, another for itself.
abbrev pub IsCharacter : Character → List ℕ → Type 0
IsCharacter (plain b) next = IsTrue (is_plain b)
IsCharacter (escaped b) next = IsTrue (not (is_octal b)) × IsTrue (not (is_feed b))
IsCharacter (octal digits) next = IsOctal digits next

-- the characters, one after the other
abbrev pub text_of : List Character → List ℕ
text_of characters = flat_map spelling_of characters

-- each is of its form, before what comes next
abbrev pub AreCharacters : List Character → List ℕ → Type 0
AreCharacters [] next = Unit {0}
AreCharacters (c ∷ cs) next = IsCharacter c (text_of cs ++ next) × AreCharacters cs next

-- a backslash and three octal digits of value above 255
abbrev pub IsBadEscape : List ℕ → Type 0
IsBadEscape (b ∷ x ∷ y ∷ z ∷ more) = (b ≡ 92) × IsTrue (is_octal x) × IsTrue (is_octal y) × IsTrue (is_octal z) × (255 < octal_value x y z)
IsBadEscape _ = ⊥

-- the line ends, or a backslash is the last byte of it
abbrev pub IsCutShort : List ℕ → Type 0
IsCutShort [] = Unit {0}
IsCutShort (b ∷ next) = IsTrue (is_feed b) ⊎ ((b ≡ 92) × IsTrue (is_line_end next))
