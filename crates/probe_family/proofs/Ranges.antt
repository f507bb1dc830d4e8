-- Ascending lists, and the ways to choose from a range of numbers.
use Rattle.std.proofs.Common.{◌≡◌, ℕ, zero, suc, ◌+◌, ◌-◌, ◌<◌, ◌≤◌, Bool, true, List, [], ◌∷◌, ◌++◌, length, map, refl, sym, ap, ◌∙◌, subst, arith, nat_lt, add-one, append_assoc}
use Rattle.std.proofs.lemmas.List.{append-nil}
use Rattle.std.proofs.lemmas.Bool.{and_parts, and_from, lt-ltb, ltb-true}
use Rattle.std.specs.List.{list_all, flat_map, range_with_len, AllByRecursion}
use Rattle.tuple_rank.specs.Choices.{choices}
use Rattle.tuple_rank.proofs.Choosing.{choices-zero, choices-none, choices-more}
use Rattle.tuple_rank.proofs.Order.{IsBetween, within-lower}
use Rattle.bit_rows.specs.Sets.{is_in}
use Rattle.probe_family.specs.Families.{is_ascending, count_in}
use Rattle.probe_family.proofs.Bits.{count_cons}
use Rattle.probe_family.proofs.Members.{count_from, count_from_step}

pub choices-range : (k c m : ℕ) → choices (suc k) (range_with_len c (suc m)) ≡ map (λ t. c ∷ t) (choices k (range_with_len (suc c) m)) ++ choices (suc k) (range_with_len (suc c) m)
choices-range k c m = choices-more k c (range_with_len (c + 1) m) ∙ ap (λ d. map (λ t. c ∷ t) (choices k (range_with_len d m)) ++ choices (suc k) (range_with_len d m)) (add-one c)

all_above : (b c end : ℕ) (t : List ℕ) → b < c → IsBetween c end t → list_all (nat_lt b) t ≡ true
all_above b c end [] lt within = refl
all_above b c end (p ∷ t) lt within = and_from (nat_lt b p) _ (lt-ltb b p (omega (arith, within.0))) (all_above b (p + 1) end t (omega (arith, within.0)) within.2)

-- what ascends within bounds ascends
pub ascending-within : (c end : ℕ) (t : List ℕ) → IsBetween c end t → is_ascending t ≡ true
ascending-within c end [] within = refl
ascending-within c end (p ∷ t) within = and_from (list_all (nat_lt p) t) _ (all_above p (p + 1) end t (omega arith) within.2) (ascending-within (p + 1) end t within.2)

-- what ascends and meets the bounds ascends within them
pub within-ascending : (c end : ℕ) (t : List ℕ) → is_ascending t ≡ true → AllByRecursion (λ p. c ≤ p) t → AllByRecursion (λ p. p < end) t → IsBetween c end t
within-ascending c end [] up from below = tt
within-ascending c end (p ∷ t) up from below =
    let split = and_parts (list_all (nat_lt p) t) (is_ascending t) up in
    (from.0, below.0, within-ascending (p + 1) end t split.1 (above p t split.0) below.1)
  where
    above : (p : ℕ) (t : List ℕ) → list_all (nat_lt p) t ≡ true → AllByRecursion (λ q. p + 1 ≤ q) t
    above p [] all = tt
    above p (q ∷ t) all = let split = and_parts (nat_lt p q) (list_all (nat_lt p) t) all in let l = ltb-true p q split.0 in (omega arith, above p t split.1)

map_All : {X Y : Type 0} (P : X → Type 0) (Q : Y → Type 0) (f : X → Y) → ((x : X) → P x → Q (f x)) → (xs : List X) → AllByRecursion P xs → AllByRecursion Q (map f xs)
map_All P Q f gives [] all = tt
map_All P Q f gives (x ∷ xs) all = (gives x all.0, map_All P Q f gives xs all.1)

pub append_All : {X : Type 0} (P : X → Type 0) (xs ys : List X) → AllByRecursion P xs → AllByRecursion P ys → AllByRecursion P (xs ++ ys)
append_All P [] ys all more = more
append_All P (x ∷ xs) ys all more = (all.0, append_All P xs ys all.1 more)

pub weaken_All : {X : Type 0} (P Q : X → Type 0) → ((x : X) → P x → Q x) → (xs : List X) → AllByRecursion P xs → AllByRecursion Q xs
weaken_All P Q gives [] all = tt
weaken_All P Q gives (x ∷ xs) all = (gives x all.0, weaken_All P Q gives xs all.1)

-- what is chosen from a range ascends within it, and is as long as was asked for
pub record IsChosen (c end k : ℕ) (t : List ℕ) : Type 0 where
  pub within : IsBetween c end t
  pub size : length t ≡ k

pub choices_are_chosen : (k c m end : ℕ) → c + m ≡ end → AllByRecursion (IsChosen c end k) (choices k (range_with_len c m))
choices_are_chosen zero c m end is = subst (AllByRecursion (IsChosen c end zero)) (sym (choices-zero (range_with_len c m))) ((record { within = tt; size = refl }), tt)
choices_are_chosen (suc k) c zero end is = subst (AllByRecursion (IsChosen c end (suc k))) (sym (choices-none k)) tt
choices_are_chosen (suc k) c (suc m) end is =
    subst (AllByRecursion (IsChosen c end (suc k))) (sym (choices-more k c (range_with_len (c + 1) m)))
    (append_All (IsChosen c end (suc k)) _ _
    (map_All (IsChosen (c + 1) end k) (IsChosen c end (suc k)) (λ t. c ∷ t)
    (λ t is'. record { within = (omega arith, omega arith, is'.within); size = ap suc is'.size })
    (choices k (range_with_len (c + 1) m)) (choices_are_chosen k (c + 1) m end (omega arith)))
    (weaken_All (IsChosen (c + 1) end (suc k)) (IsChosen c end (suc k))
    (λ t is'. record { within = within-lower (c + 1) c end t (omega arith) is'.within; size = is'.size })
    (choices (suc k) (range_with_len (c + 1) m)) (choices_are_chosen (suc k) (c + 1) m end (omega arith))))

-- a set has no fewer numbers than an ascending list has of it
pub count_in_fits : (set : List Bool) (c end : ℕ) (t : List ℕ) → IsBetween c end t → count_in set t ≤ count_from set c
count_in_fits set c end [] within = omega arith
count_in_fits set c end (p ∷ t) within =
    let rest = count_in_fits set (p + 1) end t within.2 in
    omega (arith, count_cons (is_in set) p t, count_from_step set p, ap (count_from set) (add-one p), later set c p within.0)
  where
    later : (set : List Bool) (c p : ℕ) → c ≤ p → count_from set p ≤ count_from set c
    later set c p le = go (p - c) c (omega arith)
      where
        go : (k c : ℕ) → p ≡ c + k → count_from set p ≤ count_from set c
        go zero c is = let e : p ≡ c = omega arith in let same = ap (count_from set) e in omega arith
        go (suc k) c is = let rest = go k (suc c) (omega arith) in omega (arith, count_from_step set c)

-- what comes from one more number of a range stands at the end
range_more : {X : Type 0} (g : ℕ → List X) (a n : ℕ) → flat_map g (range_with_len a (n + 1)) ≡ flat_map g (range_with_len a n) ++ g (a + n)
range_more g a zero = let e : a + 0 ≡ a = omega arith in rw e (append-nil (g a))
range_more g a (suc n) =
    let e : a + suc n ≡ (a + 1) + n = omega arith in
    let f : suc n + 1 ≡ suc (n + 1) = omega arith in
    ap (λ k. flat_map g (range_with_len a k)) f
    ∙ (ap (λ l. g a ++ l) (range_more g (a + 1) n)
    ∙ (sym (append_assoc (g a) (flat_map g (range_with_len (a + 1) n)) (g ((a + 1) + n))) ∙ ap (λ k. (g a ++ flat_map g (range_with_len (a + 1) n)) ++ g k) (sym e)))

-- a loop's step: what comes from the next number was added behind what came from those before it
pub range_step : {X : Type 0} (g : ℕ → List X) (a n m b : ℕ) (start done now : List X) → m ≡ n + 1 → b ≡ a + n → done ≡ start ++ flat_map g (range_with_len a n) → now ≡ done ++ g b → now ≡ start ++ flat_map g (range_with_len a m)
range_step g a n m b start done now m_is b_is done_is now_is =
    now_is
    ∙ (ap (λ l. l ++ g b) done_is
    ∙ (append_assoc start (flat_map g (range_with_len a n)) (g b)
    ∙ ap (λ l. start ++ l) (ap (λ k. flat_map g (range_with_len a n) ++ g k) b_is ∙ (sym (range_more g a n) ∙ ap (λ k. flat_map g (range_with_len a k)) (sym m_is)))))
