-- The notes that a wire may carry, and the text of each.
use Rattle.std.specs.Prelude.{ℕ, ◌<◌, ◌≤◌, ◌≡◌, ◌⊎◌, true, false, List, ◌++◌, length, codes, decimal, All, IsTrue}
use Rattle.std.specs.Char.{is_ascii_alphanumeric}
use Rattle.share_notes.specs.declared.note.Note.{Note}
use Rattle.share_notes.specs.declared.note.Note.TheVariants.{Share, Shares, Random, Public, Clock, Held}

-- one to 64 letters, digits and underscores
pub record IsSecretName (name : List ℕ) : Type 0 where
  pub some : 0 < length name
  pub few : length name ≤ 64
  pub each : All (λ b. IsTrue (is_ascii_alphanumeric b) ⊎ (b ≡ 95)) name

-- the greatest index that a share may have
abbrev pub most_index : ℕ
most_index = 15

abbrev pub note_text : Note → List ℕ
note_text (Share name index) = codes "share " ++ name ++ codes " " ++ decimal index
note_text (Shares name) = codes "shares " ++ name
note_text Random = codes "random"
note_text Public = codes "public"
note_text Clock = codes "clock"
note_text (Held false) = codes "held 0"
note_text (Held true) = codes "held 1"

-- its name and its index are of their forms
abbrev pub IsNote : Note → Type 0
IsNote (Share name index) = IsSecretName name × (index ≤ most_index)
IsNote (Shares name) = IsSecretName name
IsNote other = Unit {0}

-- the bytes are the note's text
abbrev pub IsTextOf : Note → List ℕ → Type 0
IsTextOf note bytes = (bytes ≡ note_text note) × IsNote note
