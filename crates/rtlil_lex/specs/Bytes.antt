-- The classes of bytes that tokens and gaps are made of, and lists of bytes of one class.
use Rattle.std.specs.Prelude.{ℕ, Bool, true, false, not, ◌&&◌, ◌||◌, ◌==◌, nat_le, List, [], ◌∷◌, IsTrue}

-- from the first bound to the second
abbrev pub is_between : ℕ → ℕ → ℕ → Bool
is_between low high b = nat_le low b && nat_le b high

-- `a` to `z`
abbrev pub is_letter : ℕ → Bool
is_letter b = is_between 97 122 b

-- `0` to `9`
abbrev pub is_digit : ℕ → Bool
is_digit b = is_between 48 57 b

-- `0` to `7`
abbrev pub is_octal : ℕ → Bool
is_octal b = is_between 48 55 b

-- white space: space, tab, carriage return
abbrev pub is_blank : ℕ → Bool
is_blank b = b == 32 || b == 9 || b == 13

-- the line feed
abbrev pub is_feed : ℕ → Bool
is_feed b = b == 10

-- not the line feed
abbrev pub is_inline : ℕ → Bool
is_inline b = not (is_feed b)

-- what an identifier may begin with: a backslash or `$`
abbrev pub is_sigil : ℕ → Bool
is_sigil b = b == 92 || b == 36

-- what an identifier is made of: neither white space nor a line feed
abbrev pub is_name_byte : ℕ → Bool
is_name_byte b = not (is_blank b || is_feed b)

-- a written bit: one of `0 1 x z m -`
abbrev pub is_bit : ℕ → Bool
is_bit b = b == 48 || b == 49 || b == 120 || b == 122 || b == 109 || b == 45

-- one of `[ ] { } : ,`
abbrev pub is_mark : ℕ → Bool
is_mark b = b == 91 || b == 93 || b == 123 || b == 125 || b == 58 || b == 44

-- what stands for itself in a string: neither a double quote, nor a backslash, nor a line feed
abbrev pub is_plain : ℕ → Bool
is_plain b = not (b == 34 || b == 92 || is_feed b)

-- none or more bytes, each of the class
abbrev pub NoneOrMore : (ℕ → Bool) → List ℕ → Type 0
NoneOrMore is_member [] = Unit {0}
NoneOrMore is_member (b ∷ bs) = IsTrue (is_member b) × NoneOrMore is_member bs

-- one or more bytes, each of the class
abbrev pub OneOrMore : (ℕ → Bool) → List ℕ → Type 0
OneOrMore is_member [] = ⊥
OneOrMore is_member (b ∷ bs) = IsTrue (is_member b) × NoneOrMore is_member bs

-- whether there is a first byte, and it is of the class
abbrev pub begins : (ℕ → Bool) → List ℕ → Bool
begins is_member [] = false
begins is_member (b ∷ bs) = is_member b

-- nothing follows on the line: the text ends, or a line feed comes
abbrev pub is_line_end : List ℕ → Bool
is_line_end [] = true
is_line_end (b ∷ bs) = is_feed b
