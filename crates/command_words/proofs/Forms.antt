-- What a word is by itself, and the part that words begin with.
use Rattle.std.proofs.Common.{◌≡◌, ◌≢◌, ℕ, ◌≤◌, List, [], ◌∷◌, ◌++◌, length, get_or, sym, ap, ◌∙◌, subst, arith}
use Rattle.std.specs.Str.Pattern.{StripsPrefix, FindsTextPrefix, LacksTextAt}
use Rattle.std.proofs.lemmas.List.{append-nil, append_cancel_left}
use Rattle.command_words.specs.declared.names.OptionName.{OptionName}
use Rattle.command_words.specs.declared.names.OptionName.TheVariants.{Workers, Certificate, Schedule}
use Rattle.command_words.specs.Names.{option_word}
use Rattle.command_words.specs.Parts.{Part, operand, separate, joined, words_of, IsPlain, IsPlainPart}
use Rattle.command_words.specs.Reading.{LacksName}
use Rattle.command_words.proofs.Written.{NoPart, Starts, same-head, same-part, starts, name-not_plain, name-not_joined}

-- a text cut off the front
pub cut : (n s x : List ℕ) → StripsPrefix (FindsTextPrefix n) s x → s ≡ n ++ x
cut n s x h = h.1.1 ∙ ap (λ (t : List ℕ). n ++ t) (sym h.2)

pub lacks-name : (name : OptionName) (word text : List ℕ) → text ≡ option_word name → LacksTextAt text word 0 → LacksName name word
lacks-name name word text is none = record {
  no_name = λ e. none [] (e ∙ sym is ∙ sym (append-nil text));
  no_joined = λ value e. none (61 ∷ value) (e ∙ ap (λ (t : List ℕ). t ++ 61 ∷ value) (sym is));
}

pub lacks-value : (name : OptionName) (word text rest : List ℕ) → text ≡ option_word name → word ≡ text ++ rest → rest ≢ [] → LacksTextAt (61 ∷ []) rest 0 → LacksName name word
lacks-value name word text rest is split some none = record {
  no_name = λ e. some (append_cancel_left text rest [] (sym split ∙ e ∙ sym is ∙ sym (append-nil text)));
  no_joined = λ value e. none value (append_cancel_left text rest (61 ∷ value) (sym split ∙ e ∙ ap (λ (t : List ℕ). t ++ 61 ∷ value) (sym is)));
}

pub is-name : (name : OptionName) (word text rest : List ℕ) → text ≡ option_word name → word ≡ text ++ rest → rest ≡ [] → word ≡ option_word name
is-name name word text rest is split none = split ∙ ap (λ (t : List ℕ). text ++ t) none ∙ append-nil text ∙ is

pub is-joined : (name : OptionName) (word text rest value : List ℕ) → text ≡ option_word name → word ≡ text ++ rest → rest ≡ 61 ∷ value → word ≡ option_word name ++ 61 ∷ value
is-joined name word text rest value is split one = split ∙ ap (λ (t : List ℕ). text ++ t) one ∙ ap (λ (t : List ℕ). t ++ 61 ∷ value) is

pub every-name : (P : OptionName → Type 0) → P Workers → P Certificate → P Schedule → (name : OptionName) → P name
every-name P w c s Workers = w
every-name P w c s Certificate = c
every-name P w c s Schedule = s

-- no part, where a word is neither an option nor plain
pub no-word : (first : List ℕ) (tail : List (List ℕ)) → ((name : OptionName) → LacksName name first) → (IsPlain first → ⊥) → NoPart (first ∷ tail)
no-word first tail none not (operand w) behind plain e = not (subst IsPlain (sym (same-head first w tail behind e).head) plain)
no-word first tail none not (separate n v) behind plain e = (none n).no_name (same-head first (option_word n) tail (v ∷ behind) e).head
no-word first tail none not (joined n v) behind plain e = (none n).no_joined v (same-head first (option_word n ++ 61 ∷ v) tail behind e).head

-- nor where the part that the first word begins is not plain
pub not-plain : (p : Part) (words after : List (List ℕ)) → Starts p → (IsPlainPart p → ⊥) → words ≡ words_of p ++ after → NoPart words
not-plain p words after start not is q behind plain e =
    let s = same-part p q after behind start (starts q plain) (sym is ∙ e) in
    not (subst IsPlainPart (sym s.part) plain)

-- nor where the name of an option is the last word
pub name-alone : (name : OptionName) (first : List ℕ) → first ≡ option_word name → NoPart (first ∷ [])
name-alone name first is (operand w) behind plain e =
    name-not_plain name (subst IsPlain (sym (same-head first w [] behind e).head ∙ is) plain)
name-alone name first is (separate n v) behind plain e =
    let t : [] ≡ v ∷ behind = (same-head first (option_word n) [] (v ∷ behind) e).tail in cc
name-alone name first is (joined n v) behind plain e =
    name-not_joined name n v (sym is ∙ (same-head first (option_word n ++ 61 ∷ v) [] behind e).head)

-- plain words by their first byte
pub empty-not_plain : (word : List ℕ) → length word ≡ 0 → IsPlain word → ⊥
empty-not_plain [] e plain = plain
empty-not_plain (b ∷ bs) e plain = absurd (omega arith)

pub dash-not_plain : (word : List ℕ) (b : ℕ) → b ≡ get_or word 0 b → b ≡ 45 → IsPlain word → ⊥
dash-not_plain [] b e dash plain = plain
dash-not_plain (x ∷ xs) b e dash plain = plain (sym e ∙ dash)

pub is-plain : (word : List ℕ) (b : ℕ) → 1 ≤ length word → b ≡ get_or word 0 b → b ≢ 45 → IsPlain word
is-plain [] b some e other = absurd (omega arith)
is-plain (x ∷ xs) b some e other = λ same. other (e ∙ same)
