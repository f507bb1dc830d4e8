-- The names of the gadget's wires stand once, and so do those of its cells.
use Rattle.std.proofs.Common.{◌≡◌, ℕ, if◌then◌else◌, ◌-◌, ◌==◌, true, false, eq-eqb, ◌+◌, ◌<◌, ◌≤◌, ◌^◌, ◌&&◌, nat_lt, inl, inr, List, [], ◌∷◌, ◌++◌, length, codes, refl, sym, ap, subst, ◌∙◌, arith}
use Rattle.std.specs.List.{flat_map}
use Rattle.std.proofs.lemmas.Bool.{cond_both}
use Rattle.std.proofs.lemmas.Grind.{flat_map-append}
use Rattle.circuit_types.specs.declared.tree.Item.{Item}
use Rattle.circuit_types.specs.declared.tree.Item.TheVariants as item
use Rattle.rtlil_tree.specs.Names.{wire_name, cell_name as name_of_cell, wire_names, cell_names}
use Rattle.gadget_maker.specs.Gadget.{shares_below, pair, pairs, pair_number, crossing, crossings_at, crossings, name_of, masked_name, kept_name, sum_name, cell_name, inner_wire, ports, product_wires, crossing_wires, sum_wires, inner_wires, product_cells, masking_cells, register_cells, sum_cells, all_cells, named_from, items_from, all_items}
use Rattle.gadget_maker.specs.declared.pairs.Pair.{Pair}
use Rattle.gadget_maker.specs.declared.pairs.Crossing.{Crossing}
use Rattle.gadget_maker.proofs.Each.{Each, each-append, each_weaker, each_flat, each_below}
use Rattle.gadget_maker.proofs.Names.{inner_tells, cell_tells, second_byte, third_byte}
use Rattle.gadget_maker.proofs.Distinct.{Distinct, distinct_more, distinct-append, AtMost, at_most_each, at_most_distinct, distinct_flat}

-- the names of the wires are distinct, and P holds of each
pub record Are (P : List ℕ → Type 0) (names : List (List ℕ)) : Type 0 where
  pub each : Each P names
  pub distinct : Distinct names

weaker : (P Q : List ℕ → Type 0) → ((s : List ℕ) → P s → Q s) → (names : List (List ℕ)) → Are P names → Are Q names
weaker P Q f names a = record { each = each_weaker P Q f names a.each; distinct = a.distinct }

-- the wires of the ones and of the others, where no name can be on both sides
both : (P Q R : List ℕ → Type 0) → ((s : List ℕ) → P s → Q s → ⊥) → ((s : List ℕ) → P s → R s) → ((s : List ℕ) → Q s → R s)
    → (xs ys : List Item) → Are P (wire_names xs) → Are Q (wire_names ys) → Are R (wire_names (xs ++ ys))
both P Q R never p q xs ys a b =
    let e = sym (flat_map-append wire_name xs ys) in
    subst (Are R) e record {
      each = each-append R (wire_names xs) (wire_names ys) (each_weaker P R p (wire_names xs) a.each) (each_weaker Q R q (wire_names ys) b.each);
      distinct = distinct-append P Q never (wire_names xs) (wire_names ys) a.each b.each a.distinct b.distinct;
    }

none : (P : List ℕ → Type 0) (names : List (List ℕ)) → names ≡ [] → Are P names
none P names e = subst (Are P) (sym e) (record { each = tt; distinct = refl })

-- ---- wires in rows

flat_flat : {X Y Z : Type 0} (g : Y → List Z) (f : X → List Y) (xs : List X) → flat_map g (flat_map f xs) ≡ flat_map (λ x. flat_map g (f x)) xs
flat_flat g f [] = refl
flat_flat g f (x ∷ xs) = flat_map-append g (f x) (flat_map f xs) ∙ ap (λ v. flat_map g (f x) ++ v) (flat_flat g f xs)

-- the names of the wires of what there is of two shares
abbrev pub names_of : {X : Type 0} → (X → List Item) → X → List (List ℕ)
names_of f x = wire_names (f x)

abbrev pub names_at : {X : Type 0} → (X → List Item) → (ℕ → ℕ → List X) → ℕ → ℕ → List (List ℕ)
names_at f of i j = flat_map (names_of f) (of i j)

abbrev pub row_at : {X : Type 0} → (ℕ → ℕ → List X) → ℕ → ℕ → List X
row_at of d i = flat_map (of i) (shares_below d)

abbrev pub in_rows : {X : Type 0} → (ℕ → ℕ → List X) → ℕ → List X
in_rows of d = flat_map (row_at of d) (shares_below d)

names_in_rows : {X : Type 0} (f : X → List Item) (of : ℕ → ℕ → List X) (d : ℕ) → wire_names (flat_map f (in_rows of d)) ≡ in_rows (names_at f of) d
names_in_rows f of d =
    let each_row : flat_map (λ i. flat_map (names_of f) (row_at of d i)) (shares_below d) ≡ in_rows (names_at f of) d =
    λ t. flat_map (λ i. flat_flat (names_of f) (of i) (shares_below d) t) (shares_below d) in
    flat_flat wire_name f (in_rows of d) ∙ (flat_flat (names_of f) (row_at of d) (shares_below d) ∙ each_row)

-- of the first share, in a row; of both, where the row is given
abbrev IsInRow : ℕ → ℕ → List ℕ → Type 0
IsInRow letter i s = (j : ℕ) × (i < 16) × (j < 16) × (s ≡ name_of letter i j)

abbrev IsAt : ℕ → ℕ → ℕ → List ℕ → Type 0
IsAt letter i j s = (i < 16) × (j < 16) × (s ≡ name_of letter i j)

row_tells : (letter i k : ℕ) (s : List ℕ) → IsInRow letter i s → IsInRow letter k s → i ≡ k
row_tells letter i k s a b =
    (inner_tells letter i a.0 k b.0 (omega (arith, a.1)) (omega (arith, a.2)) (omega (arith, b.1)) (omega (arith, b.2)) (sym a.3 ∙ b.3)).0

place_tells : (letter i j k : ℕ) (s : List ℕ) → IsAt letter i j s → IsAt letter i k s → j ≡ k
place_tells letter i j k s a b =
    (inner_tells letter i j i k (omega (arith, a.0)) (omega (arith, a.1)) (omega (arith, a.0)) (omega (arith, b.1)) (sym a.2 ∙ b.2)).1

-- it has this letter, and a bar behind it
pub record IsInner (wanted : ℕ) (s : List ℕ) : Type 0 where
  pub letter : second_byte s ≡ wanted
  pub bar : third_byte s ≡ 95

inner : (letter i : ℕ) (s : List ℕ) → IsInRow letter i s → IsInner letter s
inner letter i s a = record { letter = ap second_byte a.3; bar = ap third_byte a.3 }

module _ (letter d : ℕ) (few : d ≤ 16) (names : ℕ → ℕ → List (List ℕ)) (one : (i j : ℕ) → AtMost (name_of letter i j) (names i j)) where
  row_each : (i : ℕ) → i < d → Each (IsInRow letter i) (row_at names d i)
  row_each i low =
      each_flat (λ j. j < d) (IsInRow letter i) (names i)
      (λ j high. at_most_each (IsInRow letter i) (name_of letter i j) (names i j) (j, omega arith, omega arith, refl) (one i j))
      (shares_below d) (each_below d)

  row_distinct : (i : ℕ) → i < d → Distinct (row_at names d i)
  row_distinct i low =
      distinct_flat (IsAt letter i) (place_tells letter i) (names i) 0 d
      (λ j least most. at_most_each (IsAt letter i j) (name_of letter i j) (names i j) (omega arith, omega arith, refl) (one i j))
      (λ j least most. at_most_distinct (name_of letter i j) (names i j) (one i j))

  pub rows : Are (IsInner letter) (in_rows names d)
  rows = record {
    each = each_flat (λ i. i < d) (IsInner letter) (row_at names d)
        (λ i low. each_weaker (IsInRow letter i) (IsInner letter) (inner letter i) (row_at names d i) (row_each i low)) (shares_below d) (each_below d);
    distinct = distinct_flat (IsInRow letter) (row_tells letter) (row_at names d) 0 d (λ i least most. row_each i (omega arith))
        (λ i least most. row_distinct i (omega arith));
  }

-- the wires of pairs and of crossings
wires_in_rows : {X : Type 0} (letter d : ℕ) → d ≤ 16 → (f : X → List Item) (of : ℕ → ℕ → List X)
    → ((i j : ℕ) → AtMost (name_of letter i j) (names_at f of i j)) → Are (IsInner letter) (wire_names (flat_map f (in_rows of d)))
wires_in_rows letter d few f of one = subst (Are (IsInner letter)) (sym (names_in_rows f of d)) (rows letter d few (names_at f of) one)

abbrev pair_at : ℕ → ℕ → List Pair
pair_at i j = pair i j ∷ []

product_names : (d : ℕ) → d ≤ 16 → Are (IsInner 112) (wire_names (flat_map product_wires (pairs d)))
unfolding pairs
product_names d few = wires_in_rows 112 d few product_wires pair_at (λ i j. inr refl)

one_sum : (d i j : ℕ) → AtMost (sum_name i j) (names_at (sum_wires d) pair_at i j)
one_sum d i j =
    cond_both (nat_lt 0 j && nat_lt j (d - 1)) (inner_wire (sum_name i j) ∷ []) [] (λ items. AtMost (sum_name i j) (wire_names items ++ []))
    (λ e. inr refl) (λ e. inl refl)

sum_names : (d : ℕ) → d ≤ 16 → Are (IsInner 117) (wire_names (flat_map (sum_wires d) (pairs d)))
unfolding pairs
sum_names d few = wires_in_rows 117 d few (sum_wires d) pair_at (one_sum d)

one_crossing : (letter d i j : ℕ) → AtMost (name_of letter i j) (names_at (crossing_wires (name_of letter)) (crossings_at d) i j)
one_crossing letter d i j =
    let up = crossing i j (pair_number d i j) ∷ [] in
    let down = crossing i j (pair_number d j i) ∷ [] in
    let P : List Crossing → Type 0 = λ xs. AtMost (name_of letter i j) (flat_map (names_of (crossing_wires (name_of letter))) xs) in
    cond_both (nat_lt i j) up (if nat_lt j i then down else []) P (λ e. inr refl)
    (λ e. cond_both (nat_lt j i) down [] P (λ f. inr refl) (λ f. inl refl))

crossing_names : (letter d : ℕ) → d ≤ 16 → Are (IsInner letter) (wire_names (flat_map (crossing_wires (name_of letter)) (crossings d)))
unfolding crossings
crossing_names letter d few = wires_in_rows letter d few (crossing_wires (name_of letter)) (crossings_at d) (one_crossing letter d)

-- ---- all wires

-- not of these letters
abbrev IsPast : List ℕ → Type 0
IsPast s = (third_byte s ≡ 95) × (second_byte s ≡ 112 → ⊥) × (second_byte s ≡ 113 → ⊥)

abbrev IsPastFirst : List ℕ → Type 0
IsPastFirst s = (third_byte s ≡ 95) × (second_byte s ≡ 112 → ⊥)

abbrev IsBarred : List ℕ → Type 0
IsBarred s = third_byte s ≡ 95

other : (letter wrong : ℕ) (s : List ℕ) → (letter ≡ wrong → ⊥) → IsInner letter s → second_byte s ≡ wrong → ⊥
other letter wrong s differ is e = differ (sym is.letter ∙ e)

inner_names : (d : ℕ) → d ≤ 16 → Are IsBarred (wire_names (inner_wires d (pairs d) (crossings d)))
inner_names d few =
    let products = flat_map product_wires (pairs d) in
    let masked = flat_map (crossing_wires masked_name) (crossings d) in
    let kept = flat_map (crossing_wires kept_name) (crossings d) in
    let sums = flat_map (sum_wires d) (pairs d) in
    both (IsInner 112) IsPastFirst IsBarred (λ s a b. b.1 a.letter) (λ s a. a.bar) (λ s b. b.0) products (masked ++ (kept ++ sums)) (product_names d few)
    (both (IsInner 113) IsPast IsPastFirst (λ s a b. b.2 a.letter) (λ s a. (a.bar, other 113 112 s (λ e. omega arith) a)) (λ s b. (b.0, b.1))
    masked (kept ++ sums) (crossing_names 113 d few)
    (both (IsInner 122) (IsInner 117) IsPast (λ s a b. other 122 117 s (λ e. omega arith) a b.letter)
    (λ s a. (a.bar, other 122 112 s (λ e. omega arith) a, other 122 113 s (λ e. omega arith) a))
    (λ s b. (b.bar, other 117 112 s (λ e. omega arith) b, other 117 113 s (λ e. omega arith) b))
    kept sums (crossing_names 122 d few) (sum_names d few)))

no_wires : {X : Type 0} (f : X → List Item) → ((x : X) → wire_names (f x) ≡ []) → (xs : List X) → wire_names (flat_map f xs) ≡ []
no_wires f h [] = refl
no_wires f h (x ∷ xs) = flat_map-append wire_name (f x) (flat_map f xs) ∙ (ap (λ v. v ++ wire_names (flat_map f xs)) (h x) ∙ no_wires f h xs)

no_wires_either : (xs ys : List Item) → wire_names xs ≡ [] → wire_names ys ≡ [] → wire_names (xs ++ ys) ≡ []
no_wires_either xs ys a b = flat_map-append wire_name xs ys ∙ (ap (λ v. v ++ wire_names ys) a ∙ b)

cells_no_wires : (seed d : ℕ) (ps : List Pair) (xs : List Crossing) → wire_names (all_cells seed d ps xs) ≡ []
cells_no_wires seed d ps xs =
    no_wires_either (flat_map product_cells ps) (flat_map (masking_cells seed d) xs ++ (flat_map register_cells xs ++ flat_map (sum_cells d) xs))
    (no_wires product_cells (λ p. refl) ps)
    (no_wires_either (flat_map (masking_cells seed d) xs) (flat_map register_cells xs ++ flat_map (sum_cells d) xs)
    (no_wires (masking_cells seed d) (λ x. refl) xs)
    (no_wires_either (flat_map register_cells xs) (flat_map (sum_cells d) xs) (no_wires register_cells (λ x. refl) xs) (no_wires (sum_cells d) (λ x. refl) xs)))

no_bar : (b : ℕ) → (b == 95) ≡ false → b ≡ 95 → ⊥
no_bar b h e = let wrong : true ≡ false = sym (eq-eqb b 95 e) ∙ h in absurd cc

port_names : (d : ℕ) → Are (λ s. IsBarred s → ⊥) (wire_names (ports d))
port_names d = record {
  each = (no_bar 108 refl, (no_bar 0 refl, (no_bar 0 refl, (no_bar 0 refl, (no_bar 0 refl, tt)))));
  distinct = refl;
}

abbrev IsAny : List ℕ → Type 0
IsAny s = Unit {0}

pub wires_once : (seed d : ℕ) → d ≤ 16 → Distinct (wire_names (all_items seed d))
wires_once seed d few =
    let inners = inner_wires d (pairs d) (crossings d) in
    let cells = all_cells seed d (pairs d) (crossings d) in
    (both (λ s. IsBarred s → ⊥) IsBarred IsAny (λ s a b. a b) (λ s a. tt) (λ s b. tt) (ports d) (inners ++ cells) (port_names d)
    (both IsBarred (λ s. ⊥) IsBarred (λ s a b. b) (λ s a. a) (λ s b. absurd b) inners cells (inner_names d few)
    (none (λ s. ⊥) (wire_names cells) (cells_no_wires seed d (pairs d) (crossings d))))).distinct

-- ---- with cells named

pub wire_names_stay : (n : ℕ) (xs : List Item) → wire_names (named_from n xs) ≡ wire_names xs
wire_names_stay n [] = refl
wire_names_stay n (item.Cell c ∷ xs) = wire_names_stay (n + 1) xs
wire_names_stay n (item.Wire w ∷ xs) = ap (λ v. w.name ∷ v) (wire_names_stay n xs)
wire_names_stay n (item.Parameter p ∷ xs) = wire_names_stay n xs
wire_names_stay n (item.Connect c ∷ xs) = wire_names_stay n xs

later_cells : (m n : ℕ) (xs : List Item) → m < n → n + length xs < 2 ^ 64 → Each (λ s. cell_name m ≡ s → ⊥) (cell_names (named_from n xs))
later_cells m n [] low small = tt
later_cells m n (item.Cell c ∷ xs) low small = (
  (λ e. let same = cell_tells m n (omega arith) (omega arith) e in absurd (omega arith)),
  later_cells m (n + 1) xs (omega arith) (omega arith),
)
later_cells m n (item.Wire w ∷ xs) low small = later_cells m n xs low (omega arith)
later_cells m n (item.Parameter p ∷ xs) low small = later_cells m n xs low (omega arith)
later_cells m n (item.Connect c ∷ xs) low small = later_cells m n xs low (omega arith)

pub cells_once : (n : ℕ) (xs : List Item) → n + length xs < 2 ^ 64 → Distinct (cell_names (named_from n xs))
cells_once n [] small = refl
cells_once n (item.Cell c ∷ xs) small =
    distinct_more (cell_name n) (cell_names (named_from (n + 1) xs)) (later_cells n (n + 1) xs (omega arith) (omega arith)) (cells_once (n + 1) xs (omega arith))
cells_once n (item.Wire w ∷ xs) small = cells_once n xs (omega arith)
cells_once n (item.Parameter p ∷ xs) small = cells_once n xs (omega arith)
cells_once n (item.Connect c ∷ xs) small = cells_once n xs (omega arith)
