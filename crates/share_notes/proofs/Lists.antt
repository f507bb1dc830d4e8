-- Ranges of places, one place further.
use Rattle.std.proofs.Common.{◌≡◌, ℕ, zero, suc, ◌+◌, ◌<◌, List, [], ◌∷◌, ◌++◌, take, get_or, length, map, Option, sym, ap, ◌∙◌, arith}
use Rattle.std.specs.List.{range_with_len, filter_map, flat_map, cons_option}
use Rattle.std.proofs.lemmas.List.{take_more, map-append}
use Rattle.std.proofs.lemmas.List.Elements.{filter_map-append}
use Rattle.std.proofs.lemmas.List.Concat.{flat_map-append}
use Rattle.std.proofs.Common.{append-nil, append_assoc}

range_push : (a n : ℕ) → range_with_len a (suc n) ≡ range_with_len a n ++ (a + n) ∷ []
range_push a zero = let same : a ≡ a + 0 = omega arith in ap (λ (k : ℕ). k ∷ []) same
range_push a (suc n) =
    let same : a + 1 + n ≡ a + suc n = omega arith in
    ap (λ (ks : List ℕ). a ∷ ks) (range_push (a + 1) n ∙ ap (λ (k : ℕ). range_with_len (a + 1) n ++ k ∷ []) same)

pub range_more : (n : ℕ) → range_with_len 0 (n + 1) ≡ range_with_len 0 n ++ n ∷ []
range_more n =
    let one : n + 1 ≡ suc n = omega arith in
    let same : 0 + n ≡ n = omega arith in
    ap (range_with_len 0) one ∙ (range_push 0 n ∙ ap (λ (k : ℕ). range_with_len 0 n ++ k ∷ []) same)

pub filter_map_more : {X : Type 0} (h : ℕ → Option X) (n : ℕ) → filter_map h (range_with_len 0 (n + 1)) ≡ filter_map h (range_with_len 0 n) ++ cons_option (h n) []
filter_map_more h n = ap (filter_map h) (range_more n) ∙ filter_map-append h (range_with_len 0 n) (n ∷ [])

pub flat_map_next : {X A : Type 0} (f : X → List A) (xs : List X) (i : ℕ) (x : X) → i < length xs → x ≡ get_or xs i x → flat_map f (take (i + 1) xs) ≡ flat_map f (take i xs) ++ f x
flat_map_next f xs i x lt is =
    ap (flat_map f) (take_more xs i x lt) ∙ (flat_map-append f (take i xs) (get_or xs i x ∷ []) ∙ (ap (λ (ys : List _). flat_map f (take i xs) ++ ys) (append-nil (f (get_or xs i x))) ∙ ap (λ y. flat_map f (take i xs) ++ f y) (sym is)))

-- what is made of the values of one place more
pub map_step : {X Y : Type 0} (f : X → Y) (h : ℕ → Option X) (n : ℕ) (old made new : List Y) → made ≡ old ++ map f (filter_map h (range_with_len 0 n))
    → new ≡ made ++ map f (cons_option (h n) []) → new ≡ old ++ map f (filter_map h (range_with_len 0 (n + 1)))
map_step f h n old made new e step =
    let front = filter_map h (range_with_len 0 n) in
    let back = cons_option (h n) [] in
    step ∙ (ap (λ ys. ys ++ map f back) e ∙ (append_assoc old (map f front) (map f back) ∙ ap (λ ys. old ++ ys) (sym (map-append f front back) ∙ ap (map f) (sym (filter_map_more h n)))))
