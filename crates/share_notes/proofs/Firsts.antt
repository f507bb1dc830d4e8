-- The first bits that are shares, while shares are looked through.
use Rattle.std.proofs.Common.{◌≡◌, ℕ, ◌+◌, ◌<◌, ◌≤◌, min, Bool, true, false, eqb, ltb, not, ◌&&◌, ◌||◌, List, [], ◌∷◌, ◌++◌, length, map, get_or, drop, Option, Some, None, is_some, refl, sym, ap, ◌∙◌, arith, ⊎_elim, append_assoc}
use Rattle.std.specs.Prelude.{filter}
use Rattle.std.specs.List.{list_any, range_with_len}
use Rattle.std.specs.Option.{option_map_or}
use Rattle.std.specs.BTreeMap as tree
use Rattle.std.specs.BTreeMap.{BTreeMap, is_at}
use Rattle.std.specs.Map.{lookup}
use Rattle.std.specs.Ordering.{nat_cmp, ordering_then, is_eq}
use Rattle.std.specs.declared.cmp.Ordering.{Ordering}
use Rattle.std.specs.declared.cmp.Ordering.TheVariants.{Less, Equal, Greater}
use Rattle.std.proofs.lemmas.Bool.{cases_Bool, cases_lt, lt-ltb, le-ltb, eqb-true, and_parts, cond-true, cond-false}
use Rattle.std.proofs.lemmas.List.{drop_more}
use Rattle.std.proofs.lemmas.List.Folds.{list_any-append, list_any_at}
use Rattle.std.proofs.lemmas.List.FromFn.{length-range_with_len, get_or-range_with_len}
use Rattle.share_notes.specs.declared.shares.NumberedShare.{NumberedShare}
use Rattle.share_notes.specs.Known.{KnowsFirst, earlier_of, least_of, first_bit}
use Rattle.share_notes.specs.Shares.{is_share, share_lines}
use Rattle.share_notes.proofs.Lists.{range_more}
use Rattle.share_notes.proofs.Places.{eq_nat}

eq_then : (a b : Ordering) → is_eq (ordering_then a b) ≡ (is_eq a && is_eq b)
eq_then Less b = refl
eq_then Equal b = refl
eq_then Greater b = refl

key_eq : (a b c d : ℕ) → is_eq (ordering_then (nat_cmp a c) (nat_cmp b d)) ≡ (eqb a c && eqb b d)
key_eq a b c d =
    eq_then (nat_cmp a c) (nat_cmp b d) ∙ (ap (λ (t : Bool). t && is_eq (nat_cmp b d)) (eq_nat a c) ∙ ap (λ (t : Bool). eqb a c && t) (eq_nat b d))

-- ---- the first bit, one share more

earlier_with : (x : ℕ) (o : Option ℕ) (y : ℕ) → earlier_of (Some x) (earlier_of o (Some y)) ≡ earlier_of (earlier_of (Some x) o) (Some y)
earlier_with x None y = refl
earlier_with x (Some z) y = let same : min x (min z y) ≡ min (min x z) y = omega arith in ap (λ (k : ℕ). Some k) same

least_push : (xs : List ℕ) (y : ℕ) → least_of (xs ++ y ∷ []) ≡ earlier_of (least_of xs) (Some y)
unfolding least_of
least_push [] y = refl
least_push (x ∷ xs) y = ap (λ (o : Option ℕ). earlier_of (Some x) o) (least_push xs y) ∙ earlier_with x (least_of xs) y

abbrev bits : ℕ → ℕ → List NumberedShare → List ℕ
bits s i ts = map (λ (t : NumberedShare). t.bit) (filter (is_share s i) ts)

bits_yes : (s i : ℕ) (ts : List NumberedShare) (t : NumberedShare) → is_share s i t ≡ true → bits s i (ts ++ t ∷ []) ≡ bits s i ts ++ t.bit ∷ []
bits_yes s i [] t h = rw h refl
bits_yes s i (x ∷ ts) t h =
    ⊎_elim
    (λ (y : is_share s i x ≡ true). rw y (ap (λ (xs : List ℕ). x.bit ∷ xs) (bits_yes s i ts t h)))
    (λ (n : is_share s i x ≡ false). rw n (bits_yes s i ts t h))
    (cases_Bool (is_share s i x))

bits_no : (s i : ℕ) (ts : List NumberedShare) (t : NumberedShare) → is_share s i t ≡ false → bits s i (ts ++ t ∷ []) ≡ bits s i ts
bits_no s i [] t h = rw h refl
bits_no s i (x ∷ ts) t h =
    ⊎_elim
    (λ (y : is_share s i x ≡ true). rw y (ap (λ (xs : List ℕ). x.bit ∷ xs) (bits_no s i ts t h)))
    (λ (n : is_share s i x ≡ false). rw n (bits_no s i ts t h))
    (cases_Bool (is_share s i x))

-- the map knows one share more
pub first_known : (ts : List NumberedShare) (t : NumberedShare) (bit : ℕ) (m n : BTreeMap (ℕ × ℕ) ℕ)
    → tree.UpdatesBy (λ x y. ordering_then (nat_cmp x.0 y.0) (nat_cmp x.1 y.1)) (λ k. ordering_then (nat_cmp t.secret k.0) (nat_cmp t.share k.1)) m n (Some bit)
    → Some bit ≡ earlier_of (first_bit ts t.secret t.share) (Some t.bit) → KnowsFirst ts m → KnowsFirst (ts ++ t ∷ []) n
first_known ts t bit m n u first known s i =
    let at : is_eq (ordering_then (nat_cmp t.secret s) (nat_cmp t.share i)) ≡ is_share s i t = key_eq t.secret t.share s i in
    u.0 (s, i)
    ∙ ⊎_elim
    (λ (h : is_share s i t ≡ true).
    let p = and_parts (eqb t.secret s) (eqb t.share i) h in
    cond-true (is_eq (ordering_then (nat_cmp t.secret s) (nat_cmp t.share i))) (Some bit) _ (at ∙ h)
    ∙ (first ∙ (ap (λ (x : ℕ). earlier_of (first_bit ts x t.share) (Some t.bit)) (eqb-true t.secret s p.0) ∙ ap (λ (x : ℕ). earlier_of (first_bit ts s x) (Some t.bit)) (eqb-true t.share i p.1)))
    ∙ sym (ap least_of (bits_yes s i ts t h) ∙ least_push (bits s i ts) t.bit))
    (λ (h : is_share s i t ≡ false).
    cond-false (is_eq (ordering_then (nat_cmp t.secret s) (nat_cmp t.share i))) (Some bit) _ (at ∙ h) ∙ (known s i ∙ sym (ap least_of (bits_no s i ts t h))))
    (cases_Bool (is_share s i t))

pub none_first : (m : BTreeMap (ℕ × ℕ) ℕ) → tree.IsEmpty m → KnowsFirst [] m
unfolding least_of
none_first m e s i = ap (λ es. lookup (is_at (λ (k : ℕ × ℕ). ordering_then (nat_cmp s k.0) (nat_cmp i k.1))) es) e

-- ---- what the first bit tells

earlier_some : (x : ℕ) (o : Option ℕ) → is_some (earlier_of (Some x) o) ≡ true
earlier_some x None = refl
earlier_some x (Some y) = refl

first_some : (s i : ℕ) (ts : List NumberedShare) → is_some (first_bit ts s i) ≡ list_any (is_share s i) ts
unfolding least_of
first_some s i [] = refl
first_some s i (t ∷ ts) =
    ⊎_elim
    (λ (y : is_share s i t ≡ true). rw y (earlier_some t.bit (first_bit ts s i)))
    (λ (n : is_share s i t ≡ false). rw n (first_some s i ts))
    (cases_Bool (is_share s i t))

not_back : (b s : Bool) → s ≡ not b → b ≡ not s
not_back true s e = ap not (sym e)
not_back false s e = ap not (sym e)

-- a share is not there exactly where it has no first bit
pub first_none : (s i : ℕ) (ts : List NumberedShare) (o : Option ℕ) (b : Bool) → is_some o ≡ not b → o ≡ first_bit ts s i → b ≡ not (list_any (is_share s i) ts)
first_none s i ts o b e at = not_back b (is_some o) e ∙ ap not (ap is_some at ∙ first_some s i ts)

or_false : (b : Bool) → (b || false) ≡ b
or_false true = refl
or_false false = refl

pub any_more : (p : ℕ → Bool) (n : ℕ) → list_any p (range_with_len 0 n) ≡ false → p n ≡ false → list_any p (range_with_len 0 (n + 1)) ≡ false
any_more p n none here =
    ap (list_any p) (range_more n) ∙ (list_any-append p (range_with_len 0 n) (n ∷ []) ∙ (ap (λ (b : Bool). b || (p n || false)) none ∙ (or_false (p n) ∙ here)))

pub any_here : (p : ℕ → Bool) (n k : ℕ) → k < n → p k ≡ true → list_any p (range_with_len 0 n) ≡ true
any_here p n k lt here =
    let at : get_or (range_with_len 0 n) k 0 ≡ k = (let same : 0 + k ≡ k = omega arith in get_or-range_with_len 0 n k 0 lt ∙ same) in
    let len = length-range_with_len 0 n in
    list_any_at p (range_with_len 0 n) k 0 (omega (arith, lt, len)) (ap p at ∙ here)

abbrev pub is_before : ℕ → Option ℕ → Bool
is_before x o = option_map_or (λ b. ltb b x) o false

before_with : (x y : ℕ) (o : Option ℕ) → is_before x (earlier_of (Some y) o) ≡ (ltb y x || is_before x o)
before_with x y None = sym (or_false (ltb y x))
before_with x y (Some z) =
    ⊎_elim
    (λ (a : y < x). let lt : min y z < x = omega arith in rw (lt-ltb (min y z) x lt, lt-ltb y x a) refl)
    (λ (a : x ≤ y). rw (le-ltb y x a) (⊎_elim
    (λ (b : z < x). let lt : min y z < x = omega arith in rw (lt-ltb (min y z) x lt, lt-ltb z x b) refl)
    (λ (b : x ≤ z). let le : x ≤ min y z = omega arith in rw (le-ltb (min y z) x le, le-ltb z x b) refl)
    (cases_lt z x)))
    (cases_lt y x)

pub before_is : (s i x : ℕ) (ts : List NumberedShare) → is_before x (first_bit ts s i) ≡ list_any (λ (t : NumberedShare). is_share s i t && ltb t.bit x) ts
unfolding least_of
before_is s i x [] = refl
before_is s i x (t ∷ ts) =
    ⊎_elim
    (λ (y : is_share s i t ≡ true). rw y (before_with x t.bit (first_bit ts s i) ∙ ap (λ (b : Bool). ltb t.bit x || b) (before_is s i x ts)))
    (λ (n : is_share s i t ≡ false). rw n (before_is s i x ts))
    (cases_Bool (is_share s i t))

-- ---- lines

pub line_found : (test : NumberedShare → Bool) (xs : List NumberedShare) (i : ℕ) (x : NumberedShare) (lines all : List ℕ) → i < length xs → x ≡ get_or xs i x → test x ≡ true
    → lines ++ share_lines test (drop i xs) ≡ all → (lines ++ x.line ∷ []) ++ share_lines test (drop (i + 1) xs) ≡ all
line_found test xs i x lines all lt is t e =
    let front : drop i xs ≡ x ∷ drop (i + 1) xs = drop_more xs i x lt ∙ ap (λ (y : NumberedShare). y ∷ drop (i + 1) xs) (sym is) in
    let here : share_lines test (x ∷ drop (i + 1) xs) ≡ x.line ∷ share_lines test (drop (i + 1) xs) = rw t refl in
    append_assoc lines (x.line ∷ []) (share_lines test (drop (i + 1) xs)) ∙ (ap (λ (ls : List ℕ). lines ++ ls) (sym here ∙ ap (share_lines test) (sym front)) ∙ e)

pub line_passed : (test : NumberedShare → Bool) (xs : List NumberedShare) (i : ℕ) (x : NumberedShare) (lines all : List ℕ) → i < length xs → x ≡ get_or xs i x → test x ≡ false
    → lines ++ share_lines test (drop i xs) ≡ all → lines ++ share_lines test (drop (i + 1) xs) ≡ all
line_passed test xs i x lines all lt is f e =
    let front : drop i xs ≡ x ∷ drop (i + 1) xs = drop_more xs i x lt ∙ ap (λ (y : NumberedShare). y ∷ drop (i + 1) xs) (sym is) in
    let here : share_lines test (x ∷ drop (i + 1) xs) ≡ share_lines test (drop (i + 1) xs) = rw f refl in
    ap (λ (ls : List ℕ). lines ++ ls) (sym here ∙ ap (share_lines test) (sym front)) ∙ e

-- what an index past the end gives
abbrev pub no_share : NumberedShare
no_share = record { line = 0; bit = 0; secret = 0; share = 0 }
