-- The names of wires and cells are identifiers, and tell their numbers.
use Rattle.std.proofs.Common.{◌≡◌, ℕ, ◌<◌, ◌^◌, Bool, true, false, ◌&&◌, List, [], ◌∷◌, ◌++◌, drop, refl, sym, ap, subst, ◌∙◌, arith}
use Rattle.std.specs.Prelude.{IsTrue}
use Rattle.std.specs.Fmt.{decimal}
use Rattle.std.specs.List.{list_all}
use Rattle.std.proofs.lemmas.Fmt.{decimal_injective}
use Rattle.std.proofs.lemmas.Bool.{and_parts}
use Rattle.std.proofs.lemmas.Bool.Decides.{nat_tests}
use Rattle.rtlil_lex.specs.Bytes.{NoneOrMore, is_digit, is_sigil, is_name_byte}
use Rattle.rtlil_lex.specs.Forms.{IsId}
use Rattle.rtlil_lex.proofs.Runs.{NoneOrMore-from_one}
use Rattle.rtlil_print.proofs.Words.{digits_of}
use Rattle.gadget_maker.specs.Gadget.{name_of, cell_name}

-- ---- they are identifiers

abbrev pub is_id : List ℕ → Bool
is_id [] = false
is_id (b ∷ []) = false
is_id (b ∷ c ∷ bs) = is_sigil b && (is_name_byte c && list_all is_name_byte bs)

each_name_byte : (bs : List ℕ) → list_all is_name_byte bs ≡ true → NoneOrMore is_name_byte bs
each_name_byte [] h = tt
each_name_byte (b ∷ bs) h = let parts = and_parts (is_name_byte b) (list_all is_name_byte bs) h in (parts.0, each_name_byte bs parts.1)

-- for a name that is given
pub given_id : (s : List ℕ) → is_id s ≡ true → IsId s
given_id [] h = let wrong : false ≡ true = h in absurd cc
given_id (b ∷ []) h = let wrong : false ≡ true = h in absurd cc
given_id (b ∷ c ∷ bs) h =
    let parts = and_parts (is_sigil b) (is_name_byte c && list_all is_name_byte bs) h in
    let more = and_parts (is_name_byte c) (list_all is_name_byte bs) parts.1 in
    (parts.0, (more.0, each_name_byte bs more.1))

digit_in_name : (b : ℕ) → IsTrue (is_digit b) → IsTrue (is_name_byte b)
digit_in_name b d = grind (arith, nat_tests)

digits_in_name : (bs : List ℕ) → NoneOrMore is_digit bs → NoneOrMore is_name_byte bs
digits_in_name [] d = tt
digits_in_name (b ∷ bs) d = (digit_in_name b d.0, digits_in_name bs d.1)

then_in_name : (xs ys : List ℕ) → NoneOrMore is_name_byte xs → NoneOrMore is_name_byte ys → NoneOrMore is_name_byte (xs ++ ys)
then_in_name [] ys h k = k
then_in_name (x ∷ xs) ys h k = (h.0, then_in_name xs ys h.1 k)

digits : (n : ℕ) → n < 2 ^ 64 → NoneOrMore is_digit (decimal n)
digits n small = NoneOrMore-from_one is_digit (decimal n) (digits_of n small).form

decimal_in_name : (n : ℕ) → n < 2 ^ 64 → NoneOrMore is_name_byte (decimal n)
decimal_in_name n small = digits_in_name (decimal n) (digits n small)

pub inner_id : (letter i j : ℕ) → IsTrue (is_name_byte letter) → i < 2 ^ 64 → j < 2 ^ 64 → IsId (name_of letter i j)
inner_id letter i j l a b = (refl, (l, (refl, then_in_name (decimal i) (95 ∷ decimal j) (decimal_in_name i a) (refl, decimal_in_name j b))))

pub cell_id : (n : ℕ) → n < 2 ^ 64 → IsId (cell_name n)
cell_id n small = (refl, (refl, (refl, decimal_in_name n small)))

-- ---- they tell their numbers

abbrev head_of : List ℕ → ℕ
head_of [] = 0
head_of (b ∷ bs) = b

abbrev tail_of : List ℕ → List ℕ
tail_of [] = []
tail_of (b ∷ bs) = bs

no_bar : (b : ℕ) → IsTrue (is_digit b) → 95 ≡ b → ⊥
no_bar b d e = let wrong : false ≡ true = subst (λ v. IsTrue (is_digit v)) (sym e) d in absurd cc

cut_at_bar : (xs ys us vs : List ℕ) → NoneOrMore is_digit xs → NoneOrMore is_digit ys → xs ++ 95 ∷ us ≡ ys ++ 95 ∷ vs → (xs ≡ ys) × (us ≡ vs)
cut_at_bar [] [] us vs h k e = (refl, ap tail_of e)
cut_at_bar [] (y ∷ ys) us vs h k e = absurd (no_bar y k.0 (ap head_of e))
cut_at_bar (x ∷ xs) [] us vs h k e = absurd (no_bar x h.0 (sym (ap head_of e)))
cut_at_bar (x ∷ xs) (y ∷ ys) us vs h k e =
    let rest = cut_at_bar xs ys us vs h.1 k.1 (ap tail_of e) in
    (ap (λ b. b ∷ xs) (ap head_of e) ∙ ap (λ s. y ∷ s) rest.0, rest.1)

pub inner_tells : (letter i j k n : ℕ) → i < 2 ^ 64 → j < 2 ^ 64 → k < 2 ^ 64 → n < 2 ^ 64 → name_of letter i j ≡ name_of letter k n → (i ≡ k) × (j ≡ n)
inner_tells letter i j k n a b c d e =
    let parts = cut_at_bar (decimal i) (decimal k) (decimal j) (decimal n) (digits i a) (digits k c) (ap (drop 3) e) in
    (decimal_injective i k a c parts.0, decimal_injective j n b d parts.1)

pub cell_tells : (m n : ℕ) → m < 2 ^ 64 → n < 2 ^ 64 → cell_name m ≡ cell_name n → m ≡ n
cell_tells m n a b e = decimal_injective m n a b (ap (drop 3) e)

-- the letter of an inner wire's name, and the bar behind it
abbrev pub second_byte : List ℕ → ℕ
second_byte s = head_of (tail_of s)

abbrev pub third_byte : List ℕ → ℕ
third_byte s = head_of (tail_of (tail_of s))
