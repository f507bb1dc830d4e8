-- Numbers, each after a space.
use Rattle.std.proofs.Common.{◌≡◌, ℕ, ◌+◌, ◌-◌, ◌<◌, ◌≤◌, ◌^◌, ◌⊎◌, inl, inr, ⊎_elim, zero, suc, Bool, true, false, ◌==◌, List, [], ◌∷◌, ◌++◌, length, get_or, take, codes, decimal, refl, sym, ap, ◌∙◌, subst, arith, append_assoc, append-nil}
use Rattle.std.specs.List.{AllByRecursion, flat_map}
use Rattle.std.specs.List.Sorted.{IsStrictlyIncreasing}
use Rattle.std.proofs.lemmas.Bool.{false≢true, true≢false, eqb-true}
use Rattle.std.proofs.lemmas.List.{append_cancel_left, take_more, flat_map_more}
use Rattle.rtlil_lex.specs.Bytes.{begins, is_digit}
use Rattle.certificate.specs.Lines.{IsSmall, IsHull, numbers_text}
use Rattle.certificate.specs.Parts.{NumberAfter, NoNumberAfter, NumbersFirst, ListAfter, NoListAfter, HasNot}
use Rattle.certificate.proofs.Numerals.{same_number, SameNumber}

-- one more number
pub first_more : (bytes : List ℕ) (numbers rest : List ℕ) (number : ℕ) (after : List ℕ) → NumbersFirst bytes numbers rest → NumberAfter (2 ^ 32) (codes " ") rest number after
    → NumbersFirst bytes (numbers ++ number ∷ []) after
first_more bytes [] rest number after h one = (after, subst (λ (s : List ℕ). NumberAfter (2 ^ 32) (codes " ") s number after) (sym h) one, refl)
first_more bytes (n ∷ ns) rest number after h one = (h.0, h.1, first_more h.0 ns rest number after h.2 one)

-- what they are written as
pub first_text : (bytes numbers rest : List ℕ) → NumbersFirst bytes numbers rest → bytes ≡ numbers_text numbers ++ rest
first_text bytes [] rest h = h
first_text bytes (n ∷ ns) rest h =
    h.1.text ∙ ap (λ s. 32 ∷ (decimal n ++ s)) (first_text h.0 ns rest h.2) ∙ ap (λ s. 32 ∷ s) (sym (append_assoc (decimal n) (numbers_text ns) rest))

pub first_small : (bytes numbers rest : List ℕ) → NumbersFirst bytes numbers rest → AllByRecursion IsSmall numbers
first_small bytes [] rest h = tt
first_small bytes (n ∷ ns) rest h = (h.1.below, first_small h.0 ns rest h.2)

stops_behind : (numbers rest : List ℕ) → begins is_digit rest ≡ false → begins is_digit (numbers_text numbers ++ rest) ≡ false
stops_behind [] rest h = h
stops_behind (n ∷ ns) rest h = refl

text_first : (numbers rest : List ℕ) → AllByRecursion IsSmall numbers → begins is_digit rest ≡ false → NumbersFirst (numbers_text numbers ++ rest) numbers rest
text_first [] rest small stops = refl
text_first (n ∷ ns) rest small stops = (
  numbers_text ns ++ rest,
  record { text = ap (λ s. 32 ∷ s) (append_assoc (decimal n) (numbers_text ns) rest); below = small.0; stops = stops_behind ns rest stops },
  text_first ns rest small.1 stops,
)

no_space : (xs ys : List ℕ) → 10 ∷ xs ≡ 32 ∷ ys → ⊥
no_space xs ys e = cc

no_number_at_feed : (more : List ℕ) → NoNumberAfter (2 ^ 32) (codes " ") (10 ∷ more)
no_number_at_feed more = λ n rest h. no_space more _ h.text

-- As many as there are were read, and these, where a line feed ends them.
pub record SameNumbers (ms ns rest more : List ℕ) : Type 0 where
  pub numbers : ms ≡ ns
  pub left : rest ≡ 10 ∷ more

same_numbers : (bytes read rest numbers more : List ℕ) → NumbersFirst bytes read rest → NoNumberAfter (2 ^ 32) (codes " ") rest → NumbersFirst bytes numbers (10 ∷ more)
    → SameNumbers read numbers rest more
same_numbers bytes [] rest [] more h none g = record { numbers = refl; left = sym h ∙ g }
same_numbers bytes [] rest (n ∷ ns) more h none g = absurd (none n g.0 (subst (λ (s : List ℕ). NumberAfter (2 ^ 32) (codes " ") s n g.0) h g.1))
same_numbers bytes (m ∷ ms) rest [] more h none g = absurd (no_space more _ (sym g ∙ h.1.text))
same_numbers bytes (m ∷ ms) rest (n ∷ ns) more h none g =
    let first : SameNumber m n h.0 g.0 = same_number (2 ^ 32) (2 ^ 32) (codes " ") bytes m n h.0 g.0 (omega arith) (omega arith) h.1 g.1 in
    let others : SameNumbers ms ns rest more = same_numbers h.0 ms rest ns more h.2 none (subst (λ (s : List ℕ). NumbersFirst s ns (10 ∷ more)) (sym first.left) g.2) in
    record { numbers = ap (λ x. x ∷ ms) first.number ∙ ap (λ xs. n ∷ xs) others.numbers; left = others.left }

-- ---- numbers behind a word, and a line feed

behind : (word bytes text numbers more : List ℕ) → bytes ≡ word ++ text → ListAfter word bytes numbers more → NumbersFirst text numbers (10 ∷ more)
behind word bytes text numbers more cut h =
    let same : text ≡ numbers_text numbers ++ (10 ∷ more) = append_cancel_left word _ _ (sym cut ∙ h.text) in
    subst (λ (s : List ℕ). NumbersFirst s numbers (10 ∷ more)) (sym same) (text_first numbers (10 ∷ more) h.small refl)

pub no_word : (word bytes : List ℕ) → HasNot word bytes → NoListAfter word bytes
no_word word bytes none = λ numbers rest h. none _ h.text

pub no_feed : (word bytes text read rest : List ℕ) → bytes ≡ word ++ text → NumbersFirst text read rest → NoNumberAfter (2 ^ 32) (codes " ") rest → HasNot (codes "\n") rest → NoListAfter word bytes
no_feed word bytes text read rest cut first all none = λ numbers more h.
    none more (same_numbers text read rest numbers more first all (behind word bytes text numbers more cut h)).left

pub list_found : (word bytes text read rest more : List ℕ) → bytes ≡ word ++ text → NumbersFirst text read rest → rest ≡ codes "\n" ++ more → ListAfter word bytes read more
list_found word bytes text read rest more cut first feed = record {
  text = cut ∙ ap (λ s. word ++ s) (first_text text read rest first ∙ ap (λ s. numbers_text read ++ s) feed);
  small = first_small text read rest first;
}

pub record SameList (ms ns rest more : List ℕ) : Type 0 where
  pub numbers : ms ≡ ns
  pub left : rest ≡ more

pub same_list : (word bytes read rest numbers more : List ℕ) → ListAfter word bytes read rest → ListAfter word bytes numbers more → SameList read numbers rest more
same_list word bytes read rest numbers more h g =
    let text : List ℕ = numbers_text read ++ (10 ∷ rest) in
    let same : SameNumbers read numbers (10 ∷ rest) more =
    same_numbers text read (10 ∷ rest) numbers more (text_first read (10 ∷ rest) h.small refl) (no_number_at_feed rest) (behind word bytes text numbers more h.text g) in
    record { numbers = same.numbers; left = tails rest more same.left }
  where
    tails : (xs ys : List ℕ) → 10 ∷ xs ≡ 10 ∷ ys → xs ≡ ys
    tails xs ys e = cc

-- ---- ascending numbers

-- each of the first i numbers but the last is below the next
abbrev pub AscendsTo : List ℕ → ℕ → Type 0
AscendsTo xs i = (k : ℕ) → k + 1 < i → get_or xs k 0 < get_or xs (k + 1) 0

at_last : (i k : ℕ) → k + 1 < i + 1 → (k + 1 < i) ⊎ (i ≡ k + 1)
at_last zero k l = absurd (omega arith)
at_last (suc zero) zero l = inr (omega arith)
at_last (suc zero) (suc k) l = absurd (omega arith)
at_last (suc (suc i)) zero l = inl (omega arith)
at_last (suc (suc i)) (suc k) l = ⊎_elim (λ less. inl (omega arith)) (λ same. inr (omega arith)) (at_last (suc i) k (omega arith))

pub ascends_one : (xs : List ℕ) → AscendsTo xs 1
ascends_one xs = λ k l. absurd (omega arith)

pub ascends_more : (xs : List ℕ) (i : ℕ) → AscendsTo xs i → 1 ≤ i → get_or xs (i - 1) 0 < get_or xs i 0 → AscendsTo xs (i + 1)
ascends_more xs i before low step = λ k l.
    ⊎_elim
    (λ (less : k + 1 < i). before k less)
    (λ (here : i ≡ k + 1).
    let last : i - 1 ≡ k = omega arith in
    subst (λ (j : ℕ). get_or xs j 0 < get_or xs (k + 1) 0) last (subst (λ (j : ℕ). get_or xs (i - 1) 0 < get_or xs j 0) here step))
    (at_last i k l)

pub ascends_not : (xs : List ℕ) (i : ℕ) → 1 ≤ i → i < length xs → get_or xs i 0 ≤ get_or xs (i - 1) 0 → IsStrictlyIncreasing xs → ⊥
ascends_not xs i low within over up =
    let here : i - 1 + 1 ≡ i = omega arith in
    let step : get_or xs (i - 1) 0 < get_or xs i 0 = subst (λ (j : ℕ). get_or xs (i - 1) 0 < get_or xs j 0) here (up (i - 1) (omega arith)) in
    omega arith

some_by : (n : ℕ) → (n == 0) ≡ false → 0 < n
some_by zero fails = absurd (true≢false fails)
some_by (suc n) fails = omega arith

-- there is none
pub no_hull : (xs : List ℕ) (empty : Bool) → empty ≡ (length xs == 0) → empty ≡ true → (false ≡ true → IsHull xs) × (IsHull xs → false ≡ true)
no_hull xs empty is t =
    let none : length xs ≡ 0 = eqb-true (length xs) 0 (sym is ∙ t) in
    (λ no. absurd (false≢true no), λ h. absurd (omega (arith, h.some)))

-- there is one
pub some_hull : (xs : List ℕ) (empty r : Bool) → empty ≡ (length xs == 0) → empty ≡ false → (r ≡ true → IsStrictlyIncreasing xs) × (IsStrictlyIncreasing xs → r ≡ true)
    → (r ≡ true → IsHull xs) × (IsHull xs → r ≡ true)
some_hull xs empty r is fails h =
    let some : 0 < length xs = some_by (length xs) (sym is ∙ fails) in
    (λ t. record { some = some; ascending = h.0 t }, λ g. h.1 g.ascending)

-- ---- numbers that are written

small-append : (ms ns : List ℕ) → AllByRecursion IsSmall ms → AllByRecursion IsSmall ns → AllByRecursion IsSmall (ms ++ ns)
small-append [] ns h g = g
small-append (m ∷ ms) ns h g = (h.0, small-append ms ns h.1 g)

pub small_more : (xs : List ℕ) (i : ℕ) → i < length xs → AllByRecursion IsSmall (take i xs) → get_or xs i 0 < 2 ^ 32 → AllByRecursion IsSmall (take (i + 1) xs)
small_more xs i lt before one =
    subst (λ (ns : List ℕ). AllByRecursion IsSmall ns) (sym (take_more xs i 0 lt)) (small-append (take i xs) (get_or xs i 0 ∷ []) before (one, tt))

pub text_more : (xs : List ℕ) (i : ℕ) (start text spaced more : List ℕ) → i < length xs → text ≡ start ++ numbers_text (take i xs) → spaced ≡ text ++ 32 ∷ []
    → more ≡ spaced ++ decimal (get_or xs i 0) → more ≡ start ++ numbers_text (take (i + 1) xs)
text_more xs i start text spaced more lt before space number =
    let piece : List ℕ = decimal (get_or xs i 0) in
    number ∙ ap (λ s. s ++ piece) (space ∙ ap (λ s. s ++ 32 ∷ []) before) ∙ append_assoc (start ++ numbers_text (take i xs)) (32 ∷ []) piece
    ∙ flat_map_more (λ (n : ℕ). codes " " ++ decimal n) start (take i xs) (get_or xs i 0)
    ∙ ap (λ ns. start ++ numbers_text ns) (sym (take_more xs i 0 lt))
