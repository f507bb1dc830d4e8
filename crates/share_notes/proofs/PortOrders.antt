-- A stable sort by port numbers gives the wires number by number.
use Rattle.std.proofs.Common.{◌≡◌, ℕ, zero, suc, ◌+◌, ◌<◌, ◌≤◌, max, Bool, true, false, cond, eqb, ltb, not, ◌&&◌, List, [], ◌∷◌, ◌++◌, refl, sym, ap, ◌∙◌, subst, arith, ⊎_elim}
use Rattle.std.specs.Prelude.{filter, fold}
use Rattle.std.specs.List.{flat_map, range_with_len, AllByRecursion}
use Rattle.std.specs.List.Sorted.{IsPermutation, IsNonDecreasingBy, IsStableByKey}
use Rattle.std.specs.Ordering.{nat_cmp, is_lt}
use Rattle.std.specs.declared.cmp.Ordering.TheVariants.{Equal, Greater}
use Rattle.std.proofs.lemmas.Bool.{cases_Bool, cases_lt, cases_eq, cases_order, lt-ltb, le-ltb, eq-eqb, ne_eqb}
use Rattle.std.proofs.lemmas.List.Elements.{filter_agree, recursion_from_All, All-from_recursion}
use Rattle.std.proofs.lemmas.List.Sorted.{All-permutation}
use Rattle.circuit_types.specs.declared.tree.Port.TheVariants as port
use Rattle.share_notes.specs.declared.mark.Mark.TheVariants.{Absent}
use Rattle.share_notes.specs.declared.mark.MarkedWire.{MarkedWire}
use Rattle.share_notes.specs.PortOrder.{port_number, numbers_end, numbered_wires, in_port_order}

abbrev pub number : MarkedWire → ℕ
number w = port_number w.port

-- ---- what ties

lt_nat : (a b : ℕ) → is_lt (nat_cmp a b) ≡ ltb a b
lt_nat a b = ⊎_elim (λ (t : ltb a b ≡ true). rw t refl) (λ (f : ltb a b ≡ false). rw f (inner (eqb a b))) (cases_Bool (ltb a b))
  where
    inner : (e : Bool) → is_lt (cond e Equal Greater) ≡ false
    inner true = refl
    inner false = refl

not_both : (a b : ℕ) → (not (ltb a b) && not (ltb b a)) ≡ eqb b a
not_both a b =
    ⊎_elim
    (λ (e : a ≡ b). let le : b ≤ a = omega arith in let ge : a ≤ b = omega arith in rw (le-ltb a b le, le-ltb b a ge, eq-eqb b a (sym e)) refl)
    (λ h. ⊎_elim
    (λ (l : a < b). let ne : b ≡ a → ⊥ = λ e. omega arith in rw (lt-ltb a b l, ne_eqb b a ne) refl)
    (λ (g : b < a). let ne : b ≡ a → ⊥ = λ e. omega arith in let le : b ≤ a = omega arith in rw (le-ltb a b le, lt-ltb b a g, ne_eqb b a ne) refl)
    h)
    (cases_order a b)

tie_eq : (a b : ℕ) → (not (is_lt (nat_cmp a b)) && not (is_lt (nat_cmp b a))) ≡ eqb b a
tie_eq a b = ap (λ (t : Bool). not t && not (is_lt (nat_cmp b a))) (lt_nat a b) ∙ (ap (λ (t : Bool). not (ltb a b) && not t) (lt_nat b a) ∙ not_both a b)

same_numbers : (xs ys : List MarkedWire) → IsStableByKey number nat_cmp xs ys → (n : ℕ) → numbered_wires ys n ≡ numbered_wires xs n
same_numbers xs ys stable n =
    let w : MarkedWire = record { line = 0; first = 0; width = 0; port = port.Input n; mark = Absent } in
    sym (filter_agree _ (λ (v : MarkedWire). eqb (number v) n) (λ v. tie_eq n (number v)) ys) ∙ (stable w ∙ filter_agree _ (λ (v : MarkedWire). eqb (number v) n) (λ v. tie_eq n (number v)) xs)

-- ---- rising numbers

abbrev Rising : ℕ → List MarkedWire → Type 0
Rising lo [] = Unit {0}
Rising lo (w ∷ ws) = (lo ≤ number w) × Rising (number w) ws

abbrev Below : ℕ → List MarkedWire → Type 0
Below hi ws = AllByRecursion (λ (w : MarkedWire). number w < hi) ws

rise : (w : MarkedWire) (ws : List MarkedWire) → IsNonDecreasingBy number (w ∷ ws) → Rising (number w) ws
rise w [] h = tt
rise w (v ∷ ws) h = (h 0 1 w (omega arith) (omega arith), rise v ws (λ i j d le lt. h (suc i) (suc j) d (omega arith) (omega arith)))

rising_all : (ws : List MarkedWire) → IsNonDecreasingBy number ws → Rising 0 ws
rising_all [] h = tt
rising_all (w ∷ ws) h = (omega arith, rise w ws h)

lower : (hi lo : ℕ) (ws : List MarkedWire) → lo ≤ hi → Rising hi ws → Rising lo ws
lower hi lo [] le h = tt
lower hi lo (w ∷ ws) le h = (omega (arith, h.0), h.1)

abbrev above : ℕ → MarkedWire → Bool
above lo w = ltb lo (number w)

none_at : (lo hi : ℕ) (ws : List MarkedWire) → lo < hi → Rising hi ws → numbered_wires ws lo ≡ []
none_at lo hi [] lt h = refl
none_at lo hi (w ∷ ws) lt h =
    let ne : number w ≡ lo → ⊥ = λ e. omega (arith, h.0) in
    let more : lo < number w = omega (arith, h.0) in
    rw (ne_eqb (number w) lo ne) (none_at lo (number w) ws more h.1)

all_above : (lo hi : ℕ) (ws : List MarkedWire) → lo < hi → Rising hi ws → filter (above lo) ws ≡ ws
all_above lo hi [] lt h = refl
all_above lo hi (w ∷ ws) lt h =
    let more : lo < number w = omega (arith, h.0) in
    rw (lt-ltb lo (number w) more) (ap (λ (vs : List MarkedWire). w ∷ vs) (all_above lo (number w) ws more h.1))

-- the wires of the least number come first
split : (lo : ℕ) (ws : List MarkedWire) → Rising lo ws → ws ≡ numbered_wires ws lo ++ filter (above lo) ws
split lo [] h = refl
split lo (w ∷ ws) h =
    ⊎_elim
    (λ (e : number w ≡ lo).
    let le : number w ≤ lo = omega arith in
    let ge : lo ≤ number w = omega arith in
    rw (eq-eqb (number w) lo e, le-ltb lo (number w) le) (ap (λ (vs : List MarkedWire). w ∷ vs) (split lo ws (lower (number w) lo ws ge h.1))))
    (λ (n : number w ≡ lo → ⊥).
    let more : lo < number w = omega (arith, h.0) in
    rw (ne_eqb (number w) lo n, lt-ltb lo (number w) more, none_at lo (number w) ws more h.1, all_above lo (number w) ws more h.1) refl)
    (cases_eq (number w) lo)

rising_above : (lo : ℕ) (ws : List MarkedWire) → Rising lo ws → Rising (lo + 1) (filter (above lo) ws)
rising_above lo [] h = tt
rising_above lo (w ∷ ws) h =
    ⊎_elim
    (λ (l : lo < number w).
    rw (lt-ltb lo (number w) l) ((let le : lo + 1 ≤ number w = omega arith in le), subst (λ (vs : List MarkedWire). Rising (number w) vs) (sym (all_above lo (number w) ws l h.1)) h.1))
    (λ (g : number w ≤ lo).
    let ge : lo ≤ number w = h.0 in
    rw (le-ltb lo (number w) g) (rising_above lo ws (lower (number w) lo ws ge h.1)))
    (cases_lt lo (number w))

below_filter : (hi : ℕ) (p : MarkedWire → Bool) (ws : List MarkedWire) → Below hi ws → Below hi (filter p ws)
below_filter hi p [] h = tt
below_filter hi p (w ∷ ws) h =
    ⊎_elim (λ (t : p w ≡ true). rw t (h.0, below_filter hi p ws h.1)) (λ (f : p w ≡ false). rw f (below_filter hi p ws h.1)) (cases_Bool (p w))

same_above : (lo n : ℕ) (ws : List MarkedWire) → lo < n → numbered_wires (filter (above lo) ws) n ≡ numbered_wires ws n
same_above lo n [] lt = refl
same_above lo n (w ∷ ws) lt =
    ⊎_elim
    (λ (l : lo < number w). rw (lt-ltb lo (number w) l) (ap (λ (vs : List MarkedWire). cond (eqb (number w) n) (w ∷ vs) vs) (same_above lo n ws lt)))
    (λ (g : number w ≤ lo).
    let ne : number w ≡ n → ⊥ = λ e. omega arith in
    rw (le-ltb lo (number w) g, ne_eqb (number w) n ne) (same_above lo n ws lt))
    (cases_lt lo (number w))

range_same : (f g : ℕ → List MarkedWire) (m lo : ℕ) → ((n : ℕ) → lo ≤ n → f n ≡ g n) → flat_map f (range_with_len lo m) ≡ flat_map g (range_with_len lo m)
range_same f g zero lo h = refl
range_same f g (suc m) lo h =
    ap (λ (vs : List MarkedWire). vs ++ flat_map f (range_with_len (lo + 1) m)) (h lo (omega arith))
    ∙ ap (λ (vs : List MarkedWire). g lo ++ vs) (range_same f g m (lo + 1) (λ n le. h n (omega arith)))

groups : (m lo : ℕ) (ws : List MarkedWire) → Rising lo ws → Below (lo + m) ws → ws ≡ flat_map (numbered_wires ws) (range_with_len lo m)
groups zero lo [] h b = refl
groups zero lo (w ∷ ws) h b = absurd (omega (arith, h.0, b.0))
groups (suc m) lo ws h b =
    let rest = filter (above lo) ws in
    let same : lo + suc m ≡ lo + 1 + m = omega arith in
    let later : rest ≡ flat_map (numbered_wires rest) (range_with_len (lo + 1) m) =
    groups m (lo + 1) rest (rising_above lo ws h) (subst (λ (hi : ℕ). Below hi rest) same (below_filter (lo + suc m) (above lo) ws b)) in
    split lo ws h ∙ ap (λ (vs : List MarkedWire). numbered_wires ws lo ++ vs) (later ∙ range_same (numbered_wires rest) (numbered_wires ws) m (lo + 1) (λ n le. same_above lo n ws (omega arith)))

-- ---- the end of the numbers

fold_grows : (a : ℕ) (ws : List MarkedWire) → a ≤ fold (λ n (w : MarkedWire). max n (number w + 1)) a ws
fold_grows a [] = omega arith
fold_grows a (w ∷ ws) = let more = fold_grows (max a (number w + 1)) ws in omega arith

below_end : (a : ℕ) (ws : List MarkedWire) → Below (fold (λ n (w : MarkedWire). max n (number w + 1)) a ws) ws
below_end a [] = tt
below_end a (w ∷ ws) = let more = fold_grows (max a (number w + 1)) ws in ((let lt : number w < fold (λ n (v : MarkedWire). max n (number v + 1)) (max a (number w + 1)) ws = omega arith in lt), below_end (max a (number w + 1)) ws)

pub sorted_is : (xs ys : List MarkedWire) → IsPermutation xs ys → IsNonDecreasingBy number ys → IsStableByKey number nat_cmp xs ys → ys ≡ in_port_order xs
unfolding in_port_order
sorted_is xs ys permuted up stable =
    let all = All-permutation (λ (w : MarkedWire). number w < numbers_end xs) xs ys permuted (All-from_recursion (λ (w : MarkedWire). number w < numbers_end xs) xs (below_end 0 xs)) in
    let bound : 0 + numbers_end xs ≡ numbers_end xs = omega arith in
    groups (numbers_end xs) 0 ys (rising_all ys up) (subst (λ (hi : ℕ). Below hi ys) (sym bound) (recursion_from_All (λ (w : MarkedWire). number w < numbers_end xs) ys all))
    ∙ range_same (numbered_wires ys) (numbered_wires xs) (numbers_end xs) 0 (λ n le. same_numbers xs ys stable n)
