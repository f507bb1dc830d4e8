-- The note that a text is, if it is one. It is the inverse of `note_text`, which is the grammar; the law
-- `notes_and_texts` says so.
use Rattle.std.specs.Prelude.{ℕ, ◌+◌, ◌-◌, ◌==◌, ◌&&◌, ◌||◌, Bool, true, false, nat_lt, nat_le, if◌then◌else◌, List, [], ◌∷◌, length, Option, Some, None, codes, option_and_then}
use Rattle.std.specs.List.{list_all}
use Rattle.std.specs.Option.{option_map}
use Rattle.std.specs.Str.{bytes_eq}
use Rattle.std.specs.Char.{is_ascii_alphanumeric}
use Rattle.share_notes.specs.declared.note.Note.{Note}
use Rattle.share_notes.specs.declared.note.Note.TheVariants.{Share, Shares, Random, Public, Clock, Held}

infixl 10 ◌>>=◌
abbrev pub ◌>>=◌ : {A B : Type 0} → Option A → (A → Option B) → Option B
o >>= f = option_and_then f o

-- what follows the front
abbrev pub after : List ℕ → List ℕ → Option (List ℕ)
after [] text = Some text
after (f ∷ fs) [] = None
after (f ∷ fs) (b ∷ bs) = if b == f then after fs bs else None

abbrev pub with_first : ℕ → Option (List ℕ × List ℕ) → Option (List ℕ × List ℕ)
with_first b None = None
with_first b (Some x) = Some (b ∷ x.0, x.1)

-- what stands before and after the first such byte
abbrev pub cut_at : ℕ → List ℕ → Option (List ℕ × List ℕ)
cut_at byte [] = None
cut_at byte (b ∷ bs) = if b == byte then Some ([], bs) else with_first b (cut_at byte bs)

abbrev pub is_word_byte : ℕ → Bool
is_word_byte b = is_ascii_alphanumeric b || b == 95

abbrev pub is_secret_name : List ℕ → Bool
is_secret_name text = nat_lt 0 (length text) && nat_le (length text) 64 && list_all is_word_byte text

unfoldable pub name_of : List ℕ → Option (List ℕ)
name_of text = if is_secret_name text then Some text else None

-- the digit's value, up to a greatest digit
abbrev pub digit_of : ℕ → ℕ → Option ℕ
digit_of most digit = if nat_le 48 digit && nat_le digit most then Some (digit - 48) else None

-- 0 to 9, or 1 and then 0 to 5
unfoldable pub index_of : List ℕ → Option ℕ
index_of (digit ∷ []) = digit_of 57 digit
index_of (ten ∷ digit ∷ []) = if ten == 49 then option_map (λ units. 10 + units) (digit_of 53 digit) else None
index_of other = None

unfoldable pub share_of : List ℕ → Option (List ℕ × ℕ)
share_of text = after (codes "share ") text >>= λ rest. cut_at 32 rest >>= λ parts. name_of parts.0 >>= λ name. index_of parts.1 >>= λ index.
    Some (name, index)

unfoldable pub shares_of : List ℕ → Option (List ℕ)
shares_of text = after (codes "shares ") text >>= λ rest. name_of rest

unfoldable pub plain_note : List ℕ → Option Note
plain_note text =
    if bytes_eq text (codes "random") then Some Random
    else (if bytes_eq text (codes "public") then Some Public
    else (if bytes_eq text (codes "clock") then Some Clock
    else (if bytes_eq text (codes "held 0") then Some (Held false)
    else (if bytes_eq text (codes "held 1") then Some (Held true) else None))))

-- what f makes of the value, where there is one, and else the other
abbrev pub choose : {A B : Type 0} → Option A → (A → B) → B → B
choose None f other = other
choose (Some x) f other = f x

unfoldable pub note_named : List ℕ → Option Note
note_named text =
    choose (plain_note text) (λ note. Some note)
    (choose (share_of text) (λ share. Some (Share share.0 share.1))
    (choose (shares_of text) (λ name. Some (Shares name)) None))
