-- The places of choices and of tuples in their lists.
use Rattle.std.proofs.Common.{◌≡◌, ℕ, zero, suc, ◌+◌, ◌-◌, ◌<◌, ◌≤◌, min, Some, List, [], ◌∷◌, ◌++◌, length, map, slice_get, refl, sym, ap, ◌∙◌, ⊎_elim, arith}
use Rattle.std.specs.Option.{option_map}
use Rattle.std.specs.List.{flat_map, range_with_len}
use Rattle.std.proofs.lemmas.Bool.{cases_lt}
use Rattle.std.proofs.lemmas.List.{length-append, length-map, append-nil}
use Rattle.std.proofs.lemmas.List.FromFn.{length-range_with_len}
use Rattle.std.proofs.lemmas.Grind.{flat_map-append}
use Rattle.std.proofs.lemmas.Option.{slice_get-map}
use Rattle.tuple_rank.specs.Choices.{choices, choose, choose_to}
use Rattle.tuple_rank.specs.Tuples.{tuples}
use Rattle.tuple_rank.proofs.Choosing.{choices-more, choose-more, choose-grows, length-choices, choose_to-past, choose_to-grows}

-- ---- places in lists

pub get-append_left : {X : Type 0} (xs ys : List X) (r : ℕ) (v : X) → slice_get xs r ≡ Some v → slice_get (xs ++ ys) r ≡ Some v
get-append_left [] ys r v e = absurd (cc)
get-append_left (x ∷ xs) ys zero v e = e
get-append_left (x ∷ xs) ys (suc r) v e = get-append_left xs ys r v e

pub get-append_right : {X : Type 0} (xs ys : List X) (p r : ℕ) → length xs + r ≡ p → slice_get (xs ++ ys) p ≡ slice_get ys r
get-append_right [] ys p r e = ap (slice_get ys) (omega arith)
get-append_right (x ∷ xs) ys zero r e = absurd (omega arith)
get-append_right (x ∷ xs) ys (suc p) r e = get-append_right xs ys p r (omega arith)

pub range-more : (a n : ℕ) → range_with_len a (suc n) ≡ range_with_len a n ++ (a + n) ∷ []
range-more a zero = ap (λ x. x ∷ []) (omega arith)
range-more a (suc n) = ap (λ xs. a ∷ xs) (range-more (a + 1) n ∙ ap (λ x. range_with_len (a + 1) n ++ x ∷ []) (omega arith))

-- ---- places among the choices from the numbers low, low + 1, .. (room of them)

-- the place of a choice that begins with the first number
get-first : (k low room r : ℕ) (ys : List ℕ) → slice_get (choices k (range_with_len (low + 1) room)) r ≡ Some ys → slice_get (choices (suc k) (range_with_len low (suc room))) r ≡ Some (low ∷ ys)
get-first k low room r ys e =
    let rest = range_with_len (low + 1) room in
    ap (λ xs. slice_get xs r) (choices-more k low rest)
    ∙ get-append_left (map (λ zs. low ∷ zs) (choices k rest)) (choices (suc k) rest) r (low ∷ ys) (slice_get-map (λ zs. low ∷ zs) (choices k rest) r ∙ ap (option_map (λ zs. low ∷ zs)) e)

-- the place of a choice without the first number
get-later : (k low room p r : ℕ) (ys : List ℕ) → p ≡ choose room k + r → slice_get (choices (suc k) (range_with_len (low + 1) room)) r ≡ Some ys → slice_get (choices (suc k) (range_with_len low (suc room))) p ≡ Some ys
get-later k low room p r ys is e =
    let rest = range_with_len (low + 1) room in
    let len : length (map (λ zs. low ∷ zs) (choices k rest)) ≡ choose room k = length-map (choices k rest) (λ zs. low ∷ zs) ∙ length-choices k rest ∙ ap (λ n. choose n k) (length-range_with_len (low + 1) room) in
    ap (λ xs. slice_get xs p) (choices-more k low rest)
    ∙ get-append_right (map (λ zs. low ∷ zs) (choices k rest)) (choices (suc k) rest) p r (omega arith)
    ∙ e

-- the place of a choice without the first d numbers
get-skipping : (d k low room p r : ℕ) (ys : List ℕ) → p + choose room (suc k) ≡ choose (d + room) (suc k) + r → slice_get (choices (suc k) (range_with_len (low + d) room)) r ≡ Some ys → slice_get (choices (suc k) (range_with_len low (d + room))) p ≡ Some ys
get-skipping zero k low room p r ys is e =
    let same_room : zero + room ≡ room = omega arith in
    let same_low : low + zero ≡ low = omega arith in
    let same_place : p ≡ r = omega (arith, ap (λ n. choose n (suc k)) same_room) in
    ap (λ n. slice_get (choices (suc k) (range_with_len low n)) p) same_room
    ∙ ap (slice_get (choices (suc k) (range_with_len low room))) same_place
    ∙ ap (λ l. slice_get (choices (suc k) (range_with_len l room)) r) (sym same_low)
    ∙ e
get-skipping (suc d) k low room p r ys is e =
    let same_room : suc d + room ≡ suc (d + room) = omega arith in
    let same_low : low + suc d ≡ low + 1 + d = omega arith in
    let total : choose (suc d + room) (suc k) ≡ choose (d + room) k + choose (d + room) (suc k) = ap (λ n. choose n (suc k)) same_room ∙ choose-more (d + room) k in
    let fewer : choose room (suc k) ≤ choose (d + room) (suc k) = choose-grows room (d + room) (suc k) (omega arith) in
    ap (λ n. slice_get (choices (suc k) (range_with_len low n)) p) same_room
    ∙ get-later k low (d + room) p (p - choose (d + room) k) ys (omega arith)
    (get-skipping d k (low + 1) room (p - choose (d + room) k) r ys (omega arith) (ap (λ l. slice_get (choices (suc k) (range_with_len l room)) r) (sym same_low) ∙ e))

-- the place of a choice from the numbers from low on and below n, by its first number
pub get-number : (k n low x p r : ℕ) (ys : List ℕ) → low ≤ x → x < n → p + choose (n - x) (suc k) ≡ choose (n - low) (suc k) + r → slice_get (choices k (range_with_len (x + 1) (n - (x + 1)))) r ≡ Some ys → slice_get (choices (suc k) (range_with_len low (n - low))) p ≡ Some (x ∷ ys)
get-number k n low x p r ys from within is e =
    let d : (x - low) + (n - x) ≡ n - low = omega arith in
    let l : low + (x - low) ≡ x = omega arith in
    let s : n - x ≡ suc (n - (x + 1)) = omega arith in
    let first : slice_get (choices (suc k) (range_with_len x (n - x))) r ≡ Some (x ∷ ys) = ap (λ m. slice_get (choices (suc k) (range_with_len x m)) r) s ∙ get-first k x (n - (x + 1)) r ys e in
    ap (λ m. slice_get (choices (suc k) (range_with_len low m)) p) (sym d)
    ∙ get-skipping (x - low) k low (n - x) p r (x ∷ ys) (is ∙ ap (λ m. choose m (suc k) + r) (sym d)) (ap (λ m. slice_get (choices (suc k) (range_with_len m (n - x))) r) l ∙ first)

-- ---- places among the tuples

-- the choices of 1 to t of the numbers below n
abbrev pub of_sizes : ℕ → ℕ → List (List ℕ)
of_sizes n t = flat_map (λ k. choices k (range_with_len 0 n)) (range_with_len 1 t)

pub of_sizes-more : (n t : ℕ) → of_sizes n (suc t) ≡ of_sizes n t ++ choices (suc t) (range_with_len 0 n)
of_sizes-more n t =
    ap (flat_map (λ k. choices k (range_with_len 0 n))) (range-more 1 t)
    ∙ flat_map-append (λ k. choices k (range_with_len 0 n)) (range_with_len 1 t) ((1 + t) ∷ [])
    ∙ ap (λ xs. of_sizes n t ++ xs) (append-nil (choices (1 + t) (range_with_len 0 n)) ∙ ap (λ k. choices k (range_with_len 0 n)) (omega arith))

length-choices_below : (n k : ℕ) → length (choices k (range_with_len 0 n)) ≡ choose n k
length-choices_below n k = length-choices k (range_with_len 0 n) ∙ ap (λ m. choose m k) (length-range_with_len 0 n)

pub length-of_sizes : (n t : ℕ) → length (of_sizes n t) ≡ choose_to n t
length-of_sizes n zero = refl
length-of_sizes n (suc t) =
    ap length (of_sizes-more n t) ∙ length-append (of_sizes n t) (choices (suc t) (range_with_len 0 n)) ∙ omega (arith, length-of_sizes n t, length-choices_below n (suc t))

-- the number of tuples
pub length-tuples : (n t : ℕ) → length (tuples n t) ≡ choose_to n t
unfolding tuples
length-tuples n t =
    length-of_sizes n (min t n)
    ∙ ⊎_elim
    (λ lt. ap (choose_to n) (omega arith))
    (λ le. let e : min t n + (t - n) ≡ t = omega arith in sym (choose_to-past n (min t n) (t - n) (omega arith)) ∙ ap (choose_to n) e)
    (cases_lt t n)

get-size : (n t k r : ℕ) (xs : List ℕ) → k < t → slice_get (choices (suc k) (range_with_len 0 n)) r ≡ Some xs → slice_get (of_sizes n t) (choose_to n k + r) ≡ Some xs
get-size n zero k r xs lt e = absurd (omega arith)
get-size n (suc t) k r xs lt e =
    ap (λ l. slice_get l (choose_to n k + r)) (of_sizes-more n t)
    ∙ ⊎_elim
    (λ before. get-append_left (of_sizes n t) (choices (suc t) (range_with_len 0 n)) (choose_to n k + r) xs (get-size n t k r xs before e))
    (λ past.
    let same : k ≡ t = omega arith in
    let len : length (of_sizes n t) ≡ choose_to n k = length-of_sizes n t ∙ ap (choose_to n) (sym same) in
    get-append_right (of_sizes n t) (choices (suc t) (range_with_len 0 n)) (choose_to n k + r) r (omega arith) ∙ ap (λ s. slice_get (choices (suc s) (range_with_len 0 n)) r) (sym same) ∙ e)
    (cases_lt k t)

-- the place of a tuple of size k + 1, by its place among those of its size
pub get-tuple : (n t k p r : ℕ) (xs : List ℕ) → k < min t n → p ≡ choose_to n k + r → slice_get (choices (suc k) (range_with_len 0 n)) r ≡ Some xs → slice_get (tuples n t) p ≡ Some xs
unfolding tuples
get-tuple n t k p r xs lt is e = ap (slice_get (of_sizes n (min t n))) is ∙ get-size n (min t n) k r xs lt e

-- ---- sizes

-- where a tuple has a rank, there are tuples of one number
pub some_size : (n t rank : ℕ) → rank < length (tuples n t) → 1 ≤ t
some_size n t rank lt =
    ⊎_elim
    (λ some. omega arith)
    (λ none. let e : t ≡ 0 = omega arith in omega (arith, lt, length-tuples n t, ap (choose_to n) e))
    (cases_lt 0 t)

pub choose_to-last : (n size : ℕ) → 1 ≤ size → choose_to n size ≡ choose_to n (size - 1) + choose n size
choose_to-last n size some =
    let e : suc (size - 1) ≡ size = omega arith in
    ap (choose_to n) (sym e) ∙ ap (λ s. choose_to n (size - 1) + choose n s) e

-- a rank past the tuples of a size is one of a greater size
pub greater_size : (n t rank size place : ℕ) → rank < length (tuples n t) → 1 ≤ size → rank ≡ choose_to n (size - 1) + place → choose n size ≤ place → size < t
greater_size n t rank size place lt some is past =
    ⊎_elim
    (λ less. less)
    (λ le. absurd (omega (arith, lt, length-tuples n t, choose_to-last n size some, choose_to-grows n t size le)))
    (cases_lt size t)

-- the tuple at a place among those of its size, by its rank
pub tuple_of_rank : (n t size rank place : ℕ) (xs : List ℕ) → 1 ≤ size → size ≤ t → size ≤ n → rank ≡ choose_to n (size - 1) + place → slice_get (choices size (range_with_len 0 n)) place ≡ Some xs → slice_get (tuples n t) rank ≡ Some xs
tuple_of_rank n t size rank place xs some few in_n is e =
    let s : suc (size - 1) ≡ size = omega arith in
    get-tuple n t (size - 1) rank place xs (omega arith) is (ap (λ k. slice_get (choices k (range_with_len 0 n)) place) s ∙ e)
