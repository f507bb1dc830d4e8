-- The bits of words.
use Rattle.std.proofs.Common.{◌≡◌, ◌≢◌, ℕ, zero, suc, ◌+◌, ◌-◌, ◌*◌, ◌/◌, ◌%◌, ◌^◌, ◌<◌, ◌≤◌, ◌==◌, Bool, true, false, not, ◌&&◌, ◌||◌, min, max, List, length, slice_index, slice_set, count_ones, bit_and, bit_or, ◌⊎◌, inl, inr, ⊎_elim, refl, sym, ap, ◌∙◌, below_more, ◌↔◌, arith}
use Rattle.std.specs.Int.{bit_at, bit_not, trailing_zeros, w64}
use Rattle.std.proofs.lemmas.Bool.{cases_eq, cases_lt, cases_Bool, and_from, and_left, and_right, not_from_true, not_from_false, both_ways}
use Rattle.std.proofs.lemmas.List.{get_or_past, get_or-set_same, get_or-set_other}
use Rattle.std.proofs.lemmas.Nat.Bits.{bit_at-zero, bit_at-lt, bit_at_and, bit_at_or, bit_at_not, bit_at_set_same, bit_at_set_other, bit_at_clear_same, bit_at_clear_other, bit_at-trailing_zeros, bit_at_above, same_from_bits_below}
use Rattle.std.proofs.lemmas.Nat.{div-mul-add, mod-mul-add, pow-add, mod-pow-add, ones_cat, mod_below, pow_pos, ones-le, and_le_l, le_or_l, le_or_r}
use Rattle.std.proofs.Math.Nat.{div-div-eq-div-mul, mod-one, mod-eq_of_lt}
use Rattle.std.specs.Int.Count.{ones-ones}
use Rattle.std.specs.Int.Bits.{or_zero_l}
use Rattle.bit_rows.specs.Sets.{is_in, members_below, members}
use Rattle.bit_rows.proofs.Facts.{is_in-set_of, length-set_of, length-members_in, length-members_out}
use Rattle.bit_rows.specs.Words.{words_bit, bits, IsFirstBit}

-- ---- a bit as a truth

is_one : (x : ℕ) → x < 2 → (x ≡ 0) ⊎ (x ≡ 1)
is_one zero lt = inl refl
is_one (suc x) lt = inr (omega arith)

abbrev pub truth : ℕ → Bool
truth x = x == 1

truth-or : (x y : ℕ) → x < 2 → y < 2 → truth (max x y) ≡ (truth x || truth y)
truth-or x y hx hy =
    ⊎_elim
    (λ (a : x ≡ 0). ⊎_elim (λ (b : y ≡ 0). rw (a, b) refl) (λ (b : y ≡ 1). rw (a, b) refl) (is_one y hy))
    (λ (a : x ≡ 1). ⊎_elim (λ (b : y ≡ 0). rw (a, b) refl) (λ (b : y ≡ 1). rw (a, b) refl) (is_one y hy))
    (is_one x hx)

truth-and : (x y : ℕ) → x < 2 → y < 2 → truth (min x y) ≡ (truth x && truth y)
truth-and x y hx hy =
    ⊎_elim
    (λ (a : x ≡ 0). ⊎_elim (λ (b : y ≡ 0). rw (a, b) refl) (λ (b : y ≡ 1). rw (a, b) refl) (is_one y hy))
    (λ (a : x ≡ 1). ⊎_elim (λ (b : y ≡ 0). rw (a, b) refl) (λ (b : y ≡ 1). rw (a, b) refl) (is_one y hy))
    (is_one x hx)

truth-not : (x : ℕ) → x < 2 → truth (1 - x) ≡ not (truth x)
truth-not x hx = ⊎_elim (λ (a : x ≡ 0). rw a refl) (λ (a : x ≡ 1). rw a refl) (is_one x hx)

-- bits are equal where their truths are
same_truth : (x y : ℕ) → x < 2 → y < 2 → truth x ≡ truth y → x ≡ y
same_truth x y hx hy e =
    ⊎_elim
    (λ (a : x ≡ 0). ⊎_elim (λ (b : y ≡ 0). a ∙ sym b) (λ (b : y ≡ 1). absurd (both_ways (truth x) (ap truth a) (e ∙ ap truth b))) (is_one y hy))
    (λ (a : x ≡ 1). ⊎_elim (λ (b : y ≡ 0). absurd (both_ways (truth x) (e ∙ ap truth b) (ap truth a))) (λ (b : y ≡ 1). a ∙ sym b) (is_one y hy))
    (is_one x hx)

-- ---- the bits of one word

abbrev pub word_bit : ℕ → ℕ → Bool
word_bit w j = truth (bit_at w j)

pub word_bit-or : (a b j : ℕ) → word_bit (bit_or a b) j ≡ (word_bit a j || word_bit b j)
word_bit-or a b j = ap truth (bit_at_or a b j) ∙ truth-or (bit_at a j) (bit_at b j) (bit_at-lt a j) (bit_at-lt b j)

pub word_bit-and : (a b j : ℕ) → word_bit (bit_and a b) j ≡ (word_bit a j && word_bit b j)
word_bit-and a b j = ap truth (bit_at_and a b j) ∙ truth-and (bit_at a j) (bit_at b j) (bit_at-lt a j) (bit_at-lt b j)

pub word_bit-not : (b j : ℕ) → b < 2 ^ 64 → j < 64 → word_bit (bit_not w64 b) j ≡ not (word_bit b j)
word_bit-not b j fits lt = ap truth (bit_at_not w64 b j fits lt) ∙ truth-not (bit_at b j) (bit_at-lt b j)

pub word_bit-minus : (a b j : ℕ) → b < 2 ^ 64 → j < 64 → word_bit (bit_and a (bit_not w64 b)) j ≡ (word_bit a j && not (word_bit b j))
word_bit-minus a b j fits lt = word_bit-and a (bit_not w64 b) j ∙ ap (λ t. word_bit a j && t) (word_bit-not b j fits lt)

pub word_bit-none : (j : ℕ) → word_bit 0 j ≡ false
word_bit-none j = ap truth (bit_at-zero j)

-- ---- the bits of words

pub words_bit-is : (words : List ℕ) (i : ℕ) → words_bit words i ≡ word_bit (slice_index words (i / 64)) (i % 64)
unfolding words_bit
words_bit-is words i = refl

-- bit j of word k
pub words_bit-at : (words : List ℕ) (k j : ℕ) → j < 64 → words_bit words (k * 64 + j) ≡ word_bit (slice_index words k) j
words_bit-at words k j lt =
    words_bit-is words (k * 64 + j)
    ∙ ap (λ m. word_bit (slice_index words m) ((k * 64 + j) % 64)) (div-mul-add k 64 j lt)
    ∙ ap (word_bit (slice_index words k)) (mod-mul-add k 64 j lt)

place_in : (i : ℕ) → i % 64 < 64
place_in i = omega arith

pub words_bit-past : (words : List ℕ) (i : ℕ) → length words ≤ i / 64 → words_bit words i ≡ false
words_bit-past words i past = words_bit-is words i ∙ ap (λ w. word_bit w (i % 64)) (get_or_past words (i / 64) 0 past) ∙ word_bit-none (i % 64)

-- ---- words that are joined word by word

pub joined_bits : (f : Bool → Bool → Bool) (op : ℕ → ℕ → ℕ) (xs ys zs : List ℕ) → f false false ≡ false → length xs ≡ length zs → length ys ≡ length zs
    → ((k j : ℕ) → j < 64 → word_bit (op (slice_index xs k) (slice_index ys k)) j ≡ f (word_bit (slice_index xs k) j) (word_bit (slice_index ys k) j))
    → ((k : ℕ) → k < length zs → slice_index zs k ≡ op (slice_index xs k) (slice_index ys k)) → (i : ℕ) → words_bit zs i ≡ f (words_bit xs i) (words_bit ys i)
joined_bits f op xs ys zs none xs_len ys_len word each i =
    ⊎_elim
    (λ lt.
    words_bit-is zs i
    ∙ ap (λ w. word_bit w (i % 64)) (each (i / 64) lt)
    ∙ word (i / 64) (i % 64) (place_in i)
    ∙ sym (ap (λ b. f b (words_bit ys i)) (words_bit-is xs i) ∙ ap (f (word_bit (slice_index xs (i / 64)) (i % 64))) (words_bit-is ys i)))
    (λ past.
    words_bit-past zs i past
    ∙ sym none
    ∙ sym (ap (λ b. f b (words_bit ys i)) (words_bit-past xs i (omega arith)) ∙ ap (f false) (words_bit-past ys i (omega arith))))
    (cases_lt (i / 64) (length zs))

-- a word without bits outside another
pub none_outside : (a b j : ℕ) → b < 2 ^ 64 → j < 64 → bit_and a (bit_not w64 b) ≡ 0 → word_bit a j ≡ true → word_bit b j ≡ true
none_outside a b j fits lt none is =
    let masked : (word_bit a j && not (word_bit b j)) ≡ false = sym (word_bit-minus a b j fits lt) ∙ ap (λ w. word_bit w j) none ∙ word_bit-none j in
    ⊎_elim (λ inside. inside) (λ out. absurd (both_ways (word_bit a j && not (word_bit b j)) masked (and_from (word_bit a j) (not (word_bit b j)) is (not_from_false (word_bit b j) out)))) (cases_Bool (word_bit b j))

all_inside : (a b : ℕ) → a < 2 ^ 64 → b < 2 ^ 64 → ((j : ℕ) → j < 64 → word_bit a j ≡ true → word_bit b j ≡ true) → bit_and a (bit_not w64 b) ≡ 0
all_inside a b a_fits b_fits each =
    same_from_bits_below 64 (bit_and a (bit_not w64 b)) 0 (omega (arith, and_le_l a (bit_not w64 b))) (omega arith) (λ j lt.
    same_truth (bit_at (bit_and a (bit_not w64 b)) j) (bit_at 0 j) (bit_at-lt (bit_and a (bit_not w64 b)) j) (bit_at-lt 0 j)
    (word_bit-minus a b j b_fits lt ∙ outside j lt ∙ sym (word_bit-none j)))
  where
    outside : (j : ℕ) → j < 64 → (word_bit a j && not (word_bit b j)) ≡ false
    outside j lt =
        ⊎_elim
        (λ is. and_right (word_bit a j) (not (word_bit b j)) (not_from_true (word_bit b j) (each j lt is)))
        (λ off. and_left (word_bit a j) (not (word_bit b j)) off)
        (cases_Bool (word_bit a j))

-- one more word is looked at
pub outside_more : (outside more k : ℕ) (P : ℕ → Type 0) → (outside ≡ 0) ↔ ((j : ℕ) → j < k → P j) → (more ≡ 0) ↔ P k → (bit_or outside more ≡ 0) ↔ ((j : ℕ) → j < k + 1 → P j)
outside_more outside more k P before here = (
  (λ none. below_more P k (before.0 (omega (arith, le_or_l outside more))) (here.0 (omega (arith, le_or_r outside more)))),
  (λ all.
      let earlier : outside ≡ 0 = before.1 (λ j lt. all j (omega arith)) in
      let last : more ≡ 0 = here.1 (all k (omega arith)) in
      ap (λ a. bit_or a more) earlier ∙ ap (bit_or 0) last ∙ or_zero_l 0),
)

-- no word has bits outside the other's exactly where no bit is outside
pub within_from_words : (xs ys : List ℕ) → length xs ≡ length ys → ((k : ℕ) → slice_index ys k < 2 ^ 64) → ((k : ℕ) → k < length xs → bit_and (slice_index xs k) (bit_not w64 (slice_index ys k)) ≡ 0)
    → (i : ℕ) → words_bit xs i ≡ true → words_bit ys i ≡ true
within_from_words xs ys len fits none i is =
    ⊎_elim
    (λ lt. words_bit-is ys i ∙ none_outside (slice_index xs (i / 64)) (slice_index ys (i / 64)) (i % 64) (fits (i / 64)) (place_in i) (none (i / 64) lt) (sym (words_bit-is xs i) ∙ is))
    (λ past. absurd (both_ways (words_bit xs i) (words_bit-past xs i past) is))
    (cases_lt (i / 64) (length xs))

pub words_from_within : (xs ys : List ℕ) → ((k : ℕ) → slice_index xs k < 2 ^ 64) → ((k : ℕ) → slice_index ys k < 2 ^ 64) → ((i : ℕ) → words_bit xs i ≡ true → words_bit ys i ≡ true)
    → (k : ℕ) → bit_and (slice_index xs k) (bit_not w64 (slice_index ys k)) ≡ 0
words_from_within xs ys xs_fit ys_fit each k =
    all_inside (slice_index xs k) (slice_index ys k) (xs_fit k) (ys_fit k) (λ j lt is. sym (words_bit-at ys k j lt) ∙ each (k * 64 + j) (words_bit-at xs k j lt ∙ is))

-- ---- one bit is written

module _ (words : List ℕ) (i : ℕ) (within : i / 64 < length words) (w : ℕ) where
  written : List ℕ
  written = slice_set words (i / 64) w

  other_word : (k : ℕ) → (k / 64 ≡ i / 64 → ⊥) → words_bit (slice_set words (i / 64) w) k ≡ words_bit words k
  other_word k other =
      words_bit-is (slice_set words (i / 64) w) k ∙ ap (λ v. word_bit v (k % 64)) (get_or-set_other words (i / 64) (k / 64) w 0 other) ∙ sym (words_bit-is words k)

  same_word : (k : ℕ) → k / 64 ≡ i / 64 → words_bit (slice_set words (i / 64) w) k ≡ word_bit w (k % 64)
  same_word k same =
      words_bit-is (slice_set words (i / 64) w) k
      ∙ ap (λ m. word_bit (slice_index (slice_set words (i / 64) w) m) (k % 64)) same
      ∙ ap (λ v. word_bit v (k % 64)) (get_or-set_same words (i / 64) w 0 within)

  pub wrote_same : word_bit w (i % 64) ≡ true → words_bit (slice_set words (i / 64) w) i ≡ true
  wrote_same is = same_word i refl ∙ is

  pub wrote_same_off : word_bit w (i % 64) ≡ false → words_bit (slice_set words (i / 64) w) i ≡ false
  wrote_same_off is = same_word i refl ∙ is

  pub wrote_other : ((j : ℕ) → j < 64 → j ≢ i % 64 → word_bit w j ≡ word_bit (slice_index words (i / 64)) j) → (k : ℕ) → (k ≡ i → ⊥) → words_bit (slice_set words (i / 64) w) k ≡ words_bit words k
  wrote_other others k other =
      ⊎_elim
      (λ same.
      let apart : k % 64 ≢ i % 64 = λ e. other (omega (arith, same, e)) in
      same_word k same ∙ others (k % 64) (place_in k) apart ∙ ap (λ m. word_bit (slice_index words m) (k % 64)) (sym same) ∙ sym (words_bit-is words k))
      (λ apart. other_word k apart)
      (cases_eq (k / 64) (i / 64))

pub set_word : (n k : ℕ) → k < 64 → word_bit (bit_or n (1 * 2 ^ k % 2 ^ 64)) k ≡ true
set_word n k lt = ap truth (bit_at_set_same w64 n k lt)

pub set_word_other : (n k : ℕ) → k < 64 → (j : ℕ) → j < 64 → j ≢ k → word_bit (bit_or n (1 * 2 ^ k % 2 ^ 64)) j ≡ word_bit n j
set_word_other n k lt j _ other = ap truth (bit_at_set_other w64 n k lt j other)

pub clear_word : (n k : ℕ) → k < 64 → word_bit (bit_and n (bit_not w64 (1 * 2 ^ k % 2 ^ 64))) k ≡ false
clear_word n k lt = ap truth (bit_at_clear_same w64 n k lt)

pub clear_word_other : (n k : ℕ) → k < 64 → (j : ℕ) → j < 64 → j ≢ k → word_bit (bit_and n (bit_not w64 (1 * 2 ^ k % 2 ^ 64))) j ≡ word_bit n j
clear_word_other n k lt j in_word other = ap truth (bit_at_clear_other w64 n k lt j in_word other)

-- ---- the first bit that is set

-- the bits of a word from its bit s on
shifted_bit : (w s j : ℕ) → word_bit (w / 2 ^ s) j ≡ word_bit w (s + j)
shifted_bit w s j = ap (λ x. truth (x % 2)) (div-div-eq-div-mul w (2 ^ s) (2 ^ j) ∙ ap (λ m. w / m) (sym (pow-add 2 s j)))

-- the bits of the word of `start`, from `start` on
rest_bit : (words : List ℕ) (start j : ℕ) → start % 64 + j < 64 → word_bit (slice_index words (start / 64) / 2 ^ (start % 64)) j ≡ words_bit words (start + j)
rest_bit words start j lt =
    let place : start / 64 * 64 + (start % 64 + j) ≡ start + j = omega arith in
    shifted_bit (slice_index words (start / 64)) (start % 64) j ∙ sym (words_bit-at words (start / 64) (start % 64 + j) lt) ∙ ap (words_bit words) place

pub none_in_rest : (words : List ℕ) (start : ℕ) → slice_index words (start / 64) / 2 ^ (start % 64) ≡ 0 → (i : ℕ) → start ≤ i → i < start / 64 * 64 + 64 → words_bit words i ≡ false
none_in_rest words start none i from lt =
    let e : start + (i - start) ≡ i = omega arith in
    ap (words_bit words) (sym e) ∙ sym (rest_bit words start (i - start) (omega arith)) ∙ ap (λ w. word_bit w (i - start)) none ∙ word_bit-none (i - start)

pub none_in_word : (words : List ℕ) (k : ℕ) → slice_index words k ≡ 0 → (i : ℕ) → k * 64 ≤ i → i < k * 64 + 64 → words_bit words i ≡ false
none_in_word words k none i from lt =
    let e : k * 64 + (i - k * 64) ≡ i = omega arith in
    ap (words_bit words) (sym e) ∙ words_bit-at words k (i - k * 64) (omega arith) ∙ ap (λ w. word_bit w (i - k * 64)) none ∙ word_bit-none (i - k * 64)

-- the first bit of a word that is not 0, read by its trailing zeros
first_in : (w : ℕ) → 0 < w → w < 2 ^ 64 → (trailing_zeros w64 w < 64) × (word_bit w (trailing_zeros w64 w) ≡ true) × ((j : ℕ) → j < trailing_zeros w64 w → word_bit w j ≡ false)
first_in w some fits = let is = bit_at-trailing_zeros w64 w some fits in (is.0, ap truth is.1, (λ j lt. ap truth (is.2 j lt)))

pub first_in_rest : (words : List ℕ) (start w : ℕ) → w ≡ slice_index words (start / 64) / 2 ^ (start % 64) → 0 < w → w < 2 ^ 64 → slice_index words (start / 64) < 2 ^ 64 → IsFirstBit words start (start + trailing_zeros w64 w)
first_in_rest words start w is some fits word_fits =
    let zeros : ℕ = trailing_zeros w64 w in
    let first : (zeros < 64) × (word_bit w zeros ≡ true) × ((j : ℕ) → j < zeros → word_bit w j ≡ false) = first_in w some fits in
    let here : word_bit (slice_index words (start / 64)) (start % 64 + zeros) ≡ true = sym (shifted_bit (slice_index words (start / 64)) (start % 64) zeros) ∙ ap (λ v. word_bit v zeros) (sym is) ∙ first.1 in
    let in_word : start % 64 + zeros < 64 =
    ⊎_elim
    (λ lt. lt)
    (λ past. absurd (both_ways (word_bit (slice_index words (start / 64)) (start % 64 + zeros)) (ap truth (bit_at_above (slice_index words (start / 64)) 64 (start % 64 + zeros) word_fits past)) here))
    (cases_lt (start % 64 + zeros) 64) in
    record {
      from = omega arith;
      is_set = sym (rest_bit words start zeros in_word) ∙ ap (λ v. word_bit v zeros) (sym is) ∙ first.1;
      before = λ j from lt.
          let e : start + (j - start) ≡ j = omega arith in
          ap (words_bit words) (sym e) ∙ sym (rest_bit words start (j - start) (omega (arith, in_word))) ∙ ap (λ v. word_bit v (j - start)) (sym is) ∙ first.2 (j - start) (omega arith);
    }

pub first_in_word : (words : List ℕ) (start k w : ℕ) → w ≡ slice_index words k → 0 < w → w < 2 ^ 64 → start ≤ k * 64 → ((i : ℕ) → start ≤ i → i < k * 64 → words_bit words i ≡ false) → IsFirstBit words start (k * 64 + trailing_zeros w64 w)
first_in_word words start k w is some fits from before =
    let first = first_in w some fits in
    record {
      from = omega arith;
      is_set = words_bit-at words k (trailing_zeros w64 w) first.0 ∙ ap (λ v. word_bit v (trailing_zeros w64 w)) (sym is) ∙ first.1;
      before = λ j from_j lt. ⊎_elim
          (λ earlier. before j from_j earlier)
          (λ later.
          let e : k * 64 + (j - k * 64) ≡ j = omega arith in
          ap (words_bit words) (sym e) ∙ words_bit-at words k (j - k * 64) (omega (arith, first.0)) ∙ ap (λ v. word_bit v (j - k * 64)) (sym is) ∙ first.2 (j - k * 64) (omega arith))
          (cases_lt j (k * 64));
    }

-- ---- the number of bits that are set

-- how many of the lowest m bits of a word are set
abbrev bits_below : ℕ → ℕ → ℕ
bits_below w zero = 0
bits_below w (suc m) = bits_below w m + bit_at w m

ones-bit : (b : ℕ) → b < 2 → count_ones b ≡ b
ones-bit b lt = ⊎_elim (λ (e : b ≡ 0). ap count_ones e ∙ ones-none ∙ sym e) (λ (e : b ≡ 1). ap count_ones e ∙ ones-ones 1 ∙ sym e) (is_one b lt)
  where
    ones-none : count_ones 0 ≡ 0
    ones-none = ones-ones 0

ones-below : (w m : ℕ) → count_ones (w % 2 ^ m) ≡ bits_below w m
ones-below w zero = ap count_ones (mod-one w) ∙ ones-ones 0
ones-below w (suc m) =
    let e : 1 + m ≡ suc m = omega arith in
    let bit : ℕ = bit_at w m in
    ap (λ j. count_ones (w % 2 ^ j)) (sym e)
    ∙ ap count_ones (mod-pow-add w 1 m)
    ∙ ones_cat m bit (w % 2 ^ m) (mod_below w (2 ^ m) (pow_pos m))
    ∙ ap (λ c. c + count_ones (w % 2 ^ m)) (ones-bit bit (bit_at-lt w m))
    ∙ omega (arith, ones-below w m)

ones-word : (w : ℕ) → w < 2 ^ 64 → count_ones w ≡ bits_below w 64
ones-word w fits = ap count_ones (sym (mod-eq_of_lt fits)) ∙ ones-below w 64

module _ (words : List ℕ) (k : ℕ) (within : k < length words) where
  word_in : (j : ℕ) → j < 64 → is_in (bits words) (k * 64 + j) ≡ word_bit (slice_index words k) j
  word_in j lt = is_in-set_of (64 * length words) (words_bit words) (k * 64 + j) (omega arith) ∙ words_bit-at words k j lt

  word_members : (m : ℕ) → m ≤ 64 → length (members_below (bits words) (k * 64 + m)) ≡ length (members_below (bits words) (k * 64)) + bits_below (slice_index words k) m
  word_members zero le = let e : k * 64 + 0 ≡ k * 64 = omega arith in ap (λ n. length (members_below (bits words) n)) e ∙ omega arith
  word_members (suc m) le =
      let e : k * 64 + suc m ≡ suc (k * 64 + m) = omega arith in
      let before : length (members_below (bits words) (k * 64 + m)) ≡ length (members_below (bits words) (k * 64)) + bits_below (slice_index words k) m = word_members m (omega arith) in
      let bit : ℕ = bit_at (slice_index words k) m in
      ap (λ n. length (members_below (bits words) n)) e
      ∙ ⊎_elim
      (λ (off : bit ≡ 0).
      let out : is_in (bits words) (k * 64 + m) ≡ false = word_in m (omega arith) ∙ ap truth off in
      omega (arith, length-members_out (bits words) (k * 64 + m) out, before, off))
      (λ (on : bit ≡ 1).
      let inside : is_in (bits words) (k * 64 + m) ≡ true = word_in m (omega arith) ∙ ap truth on in
      omega (arith, length-members_in (bits words) (k * 64 + m) inside, before, on))
      (is_one bit (bit_at-lt (slice_index words k) m))

  -- one more word is counted
  pub counted_word : slice_index words k < 2 ^ 64 → length (members_below (bits words) ((k + 1) * 64)) ≡ length (members_below (bits words) (k * 64)) + count_ones (slice_index words k)
  counted_word fits =
      let e : (k + 1) * 64 ≡ k * 64 + 64 = omega arith in
      ap (λ n. length (members_below (bits words) n)) e ∙ word_members 64 (omega arith) ∙ ap (λ c. length (members_below (bits words) (k * 64)) + c) (sym (ones-word (slice_index words k) fits))

  pub few_in_word : slice_index words k < 2 ^ 64 → count_ones (slice_index words k) ≤ 64
  few_in_word fits = ones-le 64 (slice_index words k) fits

-- all words are counted
pub counted_all : (words : List ℕ) (k : ℕ) → k ≡ length words → members_below (bits words) (k * 64) ≡ members (bits words)
counted_all words k is =
    let e : k * 64 ≡ 64 * length words = omega arith in
    ap (members_below (bits words)) (e ∙ sym (length-set_of (64 * length words) (words_bit words)))
