-- Rows of words as sets.
use Rattle.std.proofs.Common.{◌≡◌, ◌≢◌, ℕ, ◌+◌, ◌*◌, ◌/◌, ◌%◌, ◌↔◌, ◌^◌, ◌<◌, ◌≤◌, Bool, true, false, not, ◌&&◌, ◌||◌, nat_le, ◌++◌, take, drop, None, Some, find, List, length, replicate, slice_set, sym, ap, ◌∙◌, ⊎_elim, arith}
use Rattle.std.proofs.lemmas.Bool.{cases_lt, cases_eq, cases_Bool, both_ways, or_from, and_left, false_from_ne_true}
use Rattle.std.proofs.lemmas.List.{length-replicate, length-set, get_or-replicate}
use Rattle.std.proofs.Math.Seq.{take-append_seam}
use Rattle.bit_rows.specs.Sets.{is_in, members_below, members, set_of, union, minus, meet, is_subset}
use Rattle.bit_rows.specs.Words.{words_bit, bits, NoBitFrom, IsFirstBit, IsRow}
use Rattle.bit_rows.proofs.Facts.{is_in_past, is_in-set_of, is_in-set_same, is_in-set_other, is_in-empty, length-set_of, set_of_is, members_below-same, members_below-none, is_subset-each, each-is_subset, first_from, none_from}
use Rattle.bit_rows.proofs.Bits.{words_bit-is, words_bit-past, word_bit, word_bit-none}

zeros_off : (k i : ℕ) → words_bit (replicate k 0) i ≡ false
zeros_off k i =
    ⊎_elim
    (λ lt. words_bit-is (replicate k 0) i ∙ ap (λ w. word_bit w (i % 64)) (get_or-replicate k (i / 64) 0 0 lt) ∙ word_bit-none (i % 64))
    (λ past. words_bit-past (replicate k 0) i (omega (arith, length-replicate {A = ℕ} k 0)))
    (cases_lt (i / 64) k)

-- the words of a vector after a call wrote them
pub written_back : (len : ℕ) (new old : List ℕ) → length new ≡ len → take len (new ++ drop (length new) old) ≡ new
written_back len new old e = ap (λ n. take n (new ++ drop (length new) old)) (sym e) ∙ take-append_seam new (drop (length new) old)

-- the set that a row of words stands for
abbrev pub row_set : ℕ → List ℕ → List Bool
row_set n words = set_of n (words_bit words)

pub row-length : (n : ℕ) (words : List ℕ) (flags : List Bool) → row_set n words ≡ flags → length flags ≡ n
row-length n words flags is = ap length (sym is) ∙ length-set_of n (words_bit words)

pub row-within : (n : ℕ) (words : List ℕ) (flags : List Bool) → row_set n words ≡ flags → (i : ℕ) → i < length flags → i < n
row-within n words flags is i lt = omega (arith, row-length n words flags is)

-- rows of sets of one length have as many words
pub same_lengths : (n m : ℕ) (xs ys : List ℕ) (x_flags y_flags : List Bool) → row_set n xs ≡ x_flags → row_set m ys ≡ y_flags → length x_flags ≡ length y_flags → n ≡ m
same_lengths n m xs ys x_flags y_flags x_is y_is same = sym (row-length n xs x_flags x_is) ∙ same ∙ row-length m ys y_flags y_is

pub same_word_count : (n m : ℕ) (xs ys : List ℕ) → IsRow n xs → IsRow m ys → n ≡ m → length xs ≡ length ys
same_word_count n m xs ys x_row y_row same = x_row.len ∙ ap (λ k. (k + 63) / 64) same ∙ sym y_row.len

module _ (n : ℕ) (words : List ℕ) (row : IsRow n words) where
  -- a number is in the set exactly where its bit is set
  pub row-is_in : (i : ℕ) → is_in (row_set n words) i ≡ words_bit words i
  row-is_in i =
      ⊎_elim
      (λ lt. is_in-set_of n (words_bit words) i lt)
      (λ past. is_in_past (row_set n words) i (omega (arith, length-set_of n (words_bit words))) ∙ sym (row.spare i past))
      (cases_lt i n)

  pub row-room : n ≤ 64 * length words
  row-room = omega (arith, row.len)

  pub row-few_words : length words < 2 ^ 32
  row-few_words = omega (arith, row.len, row.few)

  -- the members are the bits that are set
  pub row-members : members (bits words) ≡ members (row_set n words)
  row-members =
      let all : length (bits words) ≡ 64 * length words = length-set_of (64 * length words) (words_bit words) in
      let in_bits : (i : ℕ) → i < 64 * length words → is_in (bits words) i ≡ words_bit words i = is_in-set_of (64 * length words) (words_bit words) in
      ap (members_below (bits words)) all
      ∙ members_below-none (bits words) n (64 * length words) row-room (λ i from lt. in_bits i lt ∙ row.spare i from)
      ∙ members_below-same (bits words) (row_set n words) n (λ i lt. in_bits i (omega (arith, row-room)) ∙ sym (row-is_in i))
      ∙ ap (members_below (row_set n words)) (sym (length-set_of n (words_bit words)))

  -- one bit is changed
  module _ (i : ℕ) (lt : i < n) (b : Bool) (new : List ℕ) (len : length new ≡ length words) (bit : words_bit new i ≡ b) (others : (k : ℕ) → k ≢ i → words_bit new k ≡ words_bit words k) where
    pub changed-row : IsRow n new
    changed-row = record { few = row.few; len = len ∙ row.len; spare = λ k from. others k (λ same. omega arith) ∙ row.spare k from }

    pub changed-set : row_set n new ≡ slice_set (row_set n words) i b
    changed-set =
        sym (set_of_is (slice_set (row_set n words) i b) n (words_bit new) (length-set (row_set n words) i b ∙ length-set_of n (words_bit words)) (λ k _.
        ⊎_elim
        (λ same. ap (is_in (slice_set (row_set n words) i b)) same ∙ is_in-set_same (row_set n words) i b (omega (arith, length-set_of n (words_bit words))) ∙ sym bit ∙ ap (words_bit new) (sym same))
        (λ other. is_in-set_other (row_set n words) i k b other ∙ row-is_in k ∙ sym (others k other))
        (cases_eq k i)))

  -- the first bit from a number on is the least member from it on
  pub first-below : (start i : ℕ) → IsFirstBit words start i → i < n
  first-below start i first = ⊎_elim (λ lt. lt) (λ past. absurd (both_ways (words_bit words i) (row.spare i past) first.is_set)) (cases_lt i n)

  pub least_from : (start i : ℕ) → IsFirstBit words start i → find (λ k. nat_le start k) (members (row_set n words)) ≡ Some i
  least_from start i first =
      first_from (row_set n words) start i (record {
        from = first.from;
        within = omega (arith, first-below start i first, length-set_of n (words_bit words));
        is_member = row-is_in i ∙ first.is_set;
        before = λ j from lt. row-is_in j ∙ first.before j from lt;
      })

  pub none_left : (start : ℕ) → NoBitFrom words start → find (λ k. nat_le start k) (members (row_set n words)) ≡ None
  none_left start none = none_from (row_set n words) start (λ j from. row-is_in j ∙ none j from)

  pub past_all : (start : ℕ) → n ≤ start → NoBitFrom words start
  past_all start past = λ j from. row.spare j (omega arith)

-- the row of no numbers
pub empty-row : (n : ℕ) (words : List ℕ) → n < 2 ^ 32 → words ≡ replicate ((n + 63) / 64) 0 → IsRow n words
empty-row n words few is =
    record {
      few = few;
      len = ap length is ∙ length-replicate {A = ℕ} ((n + 63) / 64) 0;
      spare = λ i _. ap (λ ws. words_bit ws i) is ∙ zeros_off ((n + 63) / 64) i;
    }

pub empty-set : (n : ℕ) (words : List ℕ) → words ≡ replicate ((n + 63) / 64) 0 → row_set n words ≡ replicate n false
empty-set n words is =
    sym (set_of_is (replicate n false) n (words_bit words) (length-replicate {A = Bool} n false) (λ i _. is_in-empty n i ∙ sym (ap (λ ws. words_bit ws i) is ∙ zeros_off ((n + 63) / 64) i)))

-- ---- two rows of the same length

module _ (n m : ℕ) (xs ys zs : List ℕ) (x_row : IsRow n xs) (y_row : IsRow m ys) (same : n ≡ m) (len : length zs ≡ length xs) where
  same_len : length (row_set n zs) ≡ length (row_set n xs)
  same_len = length-set_of n (words_bit zs) ∙ sym (length-set_of n (words_bit xs))

  spare_y : NoBitFrom ys n
  spare_y = λ i from. y_row.spare i (omega arith)

  pub union-row : ((i : ℕ) → words_bit zs i ≡ (words_bit xs i || words_bit ys i)) → IsRow n zs
  union-row each = record { few = x_row.few; len = len ∙ x_row.len; spare = λ i from. each i ∙ or_from (words_bit xs i) (words_bit ys i) (x_row.spare i from) (spare_y i from) }

  pub minus-row : ((i : ℕ) → words_bit zs i ≡ (words_bit xs i && not (words_bit ys i))) → IsRow n zs
  minus-row each = record { few = x_row.few; len = len ∙ x_row.len; spare = λ i from. each i ∙ and_left (words_bit xs i) (not (words_bit ys i)) (x_row.spare i from) }

  pub meet-row : ((i : ℕ) → words_bit zs i ≡ (words_bit xs i && words_bit ys i)) → IsRow n zs
  meet-row each = record { few = x_row.few; len = len ∙ x_row.len; spare = λ i from. each i ∙ and_left (words_bit xs i) (words_bit ys i) (x_row.spare i from) }

  -- flags that are made of the flags of both sets are those of the bits that are made so
  joined-set : (f : Bool → Bool → Bool) → ((i : ℕ) → words_bit zs i ≡ f (words_bit xs i) (words_bit ys i)) → row_set n zs ≡ set_of (length (row_set n xs)) (λ i. f (is_in (row_set n xs) i) (is_in (row_set m ys) i))
  joined-set f each =
      set_of_is (row_set n zs) (length (row_set n xs)) (λ i. f (is_in (row_set n xs) i) (is_in (row_set m ys) i)) same_len (λ i lt.
      is_in-set_of n (words_bit zs) i (omega (arith, length-set_of n (words_bit xs)))
      ∙ each i
      ∙ sym (ap (λ b. f b (is_in (row_set m ys) i)) (row-is_in n xs x_row i) ∙ ap (f (words_bit xs i)) (row-is_in m ys y_row i)))

  pub union-set : ((i : ℕ) → words_bit zs i ≡ (words_bit xs i || words_bit ys i)) → row_set n zs ≡ union (row_set n xs) (row_set m ys)
  union-set each = joined-set (λ a b. a || b) each

  pub minus-set : ((i : ℕ) → words_bit zs i ≡ (words_bit xs i && not (words_bit ys i))) → row_set n zs ≡ minus (row_set n xs) (row_set m ys)
  minus-set each = joined-set (λ a b. a && not b) each

  pub meet-set : ((i : ℕ) → words_bit zs i ≡ (words_bit xs i && words_bit ys i)) → row_set n zs ≡ meet (row_set n xs) (row_set m ys)
  meet-set each = joined-set (λ a b. a && b) each

-- a set is a subset exactly where each bit is set in the other row
pub subset-rows : (n m : ℕ) (xs ys : List ℕ) → IsRow n xs → IsRow m ys → (b : Bool) → (b ≡ true) ↔ ((i : ℕ) → words_bit xs i ≡ true → words_bit ys i ≡ true) → b ≡ is_subset (row_set n xs) (row_set m ys)
subset-rows n m xs ys x_row y_row b iff =
    ⊎_elim
    (λ yes. yes ∙ sym (each-is_subset (row_set n xs) (row_set m ys) (λ i x. row-is_in m ys y_row i ∙ iff.0 yes i (sym (row-is_in n xs x_row i) ∙ x))))
    (λ no. no ∙ sym (false_from_ne_true (is_subset (row_set n xs) (row_set m ys)) (λ is. both_ways b no (iff.1 (λ i x.
    sym (row-is_in m ys y_row i) ∙ is_subset-each (row_set n xs) (row_set m ys) is i (row-is_in n xs x_row i ∙ x))))))
    (cases_Bool b)
