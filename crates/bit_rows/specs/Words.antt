-- Sets of numbers as the bits of words of 64 bits.
use Rattle.std.specs.Prelude.{ℕ, ◌+◌, ◌*◌, ◌/◌, ◌%◌, ◌^◌, ◌≡◌, ◌<◌, ◌≤◌, ◌==◌, Bool, true, false, List, length, slice_index}
use Rattle.std.specs.Int.{bit_at}
use Rattle.bit_rows.specs.Sets.{set_of}

-- the bit of a number, counted from the lowest bit of the first word on, is set
unfoldable pub words_bit : List ℕ → ℕ → Bool
words_bit words i = bit_at (slice_index words (i / 64)) (i % 64) == 1

-- no bit from a number on is set
abbrev pub NoBitFrom : List ℕ → ℕ → Type 0
NoBitFrom words start = (i : ℕ) → start ≤ i → words_bit words i ≡ false

-- i is the first number from start on whose bit is set
pub record IsFirstBit (words : List ℕ) (start i : ℕ) : Type 0 where
  pub from : start ≤ i
  pub is_set : words_bit words i ≡ true
  pub before : (j : ℕ) → start ≤ j → j < i → words_bit words j ≡ false

-- the bits of all words, as a set
abbrev pub bits : List ℕ → List Bool
bits words = set_of (64 * length words) (words_bit words)

-- there are as many words as n bits need, and the bits to spare are not set
pub record IsRow (n : ℕ) (words : List ℕ) : Type 0 where
  pub few : n < 2 ^ 32
  pub len : length words ≡ (n + 63) / 64
  pub spare : NoBitFrom words n
