-- The items of the gadget make a gadget.
use Rattle.std.proofs.Common.{◌≡◌, ℕ, zero, suc, ◌+◌, ◌-◌, ◌<◌, ◌≤◌, ◌==◌, ◌&&◌, ◌||◌, inl, inr, ⊎_elim, if◌then◌else◌, nat_lt, true, false, not, List, [], ◌∷◌, ◌++◌, length, codes, filter, get_or, refl, sym, ap, subst, ◌∙◌, arith, ltb-true}
use Rattle.std.specs.List.{flat_map, range_with_len}
use Rattle.std.proofs.lemmas.Bool.{and_parts, and_from, or_cases, not-false, cond_both, cond-true, cond-false, lt-ltb, le-ltb, eqb-true, eqb-false, eq-eqb, not-true, cases_Bool, cases_eq, cases_lt}
use Rattle.circuit_types.specs.Drives.{is_input}
use Rattle.circuit_types.specs.Items.{top_items, wires, net_wires, numbered, wire_named}
use Rattle.circuit_types.specs.Reads.{is_output}
use Rattle.circuit_types.specs.declared.nets.NetWire.{NetWire}
use Rattle.circuit_types.specs.declared.nets.Nets.{Nets}
use Rattle.circuit_types.specs.declared.tree.Item.{Item}
use Rattle.circuit_types.specs.declared.tree.Item.TheVariants as item
use Rattle.circuit_types.specs.declared.tree.Port.{Port}
use Rattle.circuit_types.specs.declared.tree.Port.TheVariants as port
use Rattle.rtlil_tree.specs.Names.{wire_name, wire_names}
use Rattle.rtlil_print.specs.PrintedLines.{item_height, items_at}
use Rattle.gadget_maker.specs.Gadget.{shares_below, pair, row_of_pairs, pairs, pair_count, crossing, crossings_at, row_of_crossings, crossings, name_of, masked_name, kept_name, sum_name, steps_before, inner_wire, ports, product_wires, crossing_wires, sum_wires, inner_wires, product_cells, masking_cells, register_cells, sum_cells, all_cells, named_from, all_items, gadget_module, gadget}
use Rattle.gadget_maker.specs.declared.pairs.Pair.{Pair}
use Rattle.gadget_maker.specs.Listed.{placed}
use Rattle.gadget_maker.proofs.Each.{Each, each-append}
use Rattle.gadget_maker.proofs.Fitting.{few_items, few_randoms}
use Rattle.net_build.specs.Built.{IsAccepted}
use Rattle.net_build.proofs.EachLemmas.{each_flat}
use Rattle.gadget_maker.proofs.Numbering.{mirrored}
use Rattle.gadget_maker.proofs.Names.{second_byte, third_byte}
use Rattle.accepted_gadget.proofs.Spots.{Spot, clock, at_port, inside, port_width, has_inside, is_spot, is_given, spot_name, Step, gate, register, output, outputs, sum_spot, product_steps, masking_steps, register_steps, sum_steps, steps, are_steps, steps_are, for_each_shares}
use Rattle.accepted_gadget.proofs.Cells.{all_hold, placed_holds}
use Rattle.accepted_gadget.proofs.Wires.{In, in_left, in_right, bit, found_wire, one_wire, Fits, FitsItem, fits_placed, fits_numbered, names_placed}
use Rattle.accepted_gadget.proofs.Building.{IsOutput, IsGadget, nets_of, accepted}

-- ---- the order of the cells, for each number of shares

pub ordered : (d : ℕ) → 2 ≤ d → d ≤ 16 → are_steps d 0 (steps d) ≡ true
unfolding pairs crossings
ordered = for_each_shares (λ d. are_steps d 0 (steps d) ≡ true) refl refl refl refl refl refl refl refl refl refl refl refl refl refl refl

-- ---- what stands in rows

in_flat : {X Y : Type 0} (f : X → List Y) (y : Y) (x : X) (xs : List X) → In x xs → In y (f x) → In y (flat_map f xs)
in_flat f y x [] i h = absurd i
in_flat f y x (z ∷ xs) (inl e) h = in_left y (f z) (flat_map f xs) (subst (λ v. In y (f v)) e h)
in_flat f y x (z ∷ xs) (inr i) h = in_right y (f z) (flat_map f xs) (in_flat f y x xs i h)

in_range : (a n k : ℕ) → a ≤ k → k < a + n → In k (range_with_len a n)
in_range a zero k low high = absurd (omega (arith, low, high))
in_range a (suc n) k low high = ⊎_elim (λ e. inl e) (λ other. inr (in_range (a + 1) n k (omega (arith, low, other)) (omega (arith, high)))) (cases_eq k a)

in_below : (d k : ℕ) → k < d → In k (shares_below d)
in_below d k low = in_range 0 d k (omega arith) (omega (arith, low))

in_pairs : (d i j : ℕ) → i < d → j < d → In (pair i j) (pairs d)
unfolding pairs
in_pairs d i j a b =
    in_flat (row_of_pairs d) (pair i j) i (shares_below d) (in_below d i a) (in_flat (λ k. pair i k ∷ []) (pair i j) j (shares_below d) (in_below d j b) (inl refl))

-- two different shares cross
crossing_there : (d i j : ℕ) → (i ≡ j → ⊥) → (n : ℕ) × (crossings_at d i j ≡ crossing i j n ∷ [])
crossing_there d i j differ =
    ⊎_elim
    (λ lt. let m = mirrored d i j lt in (m.0, m.1))
    (λ ge. let m = mirrored d j i (omega (arith, ge, differ)) in (m.0, m.2))
    (cases_lt i j)

in_crossings : (d i j : ℕ) → i < d → j < d → (i ≡ j → ⊥) → (n : ℕ) × In (crossing i j n) (crossings d)
unfolding crossings
in_crossings d i j a b differ =
    let c = crossing_there d i j differ in (
      c.0,
      in_flat (row_of_crossings d) (crossing i j c.0) i (shares_below d) (in_below d i a)
          (in_flat (crossings_at d i) (crossing i j c.0) j (shares_below d) (in_below d j b) (subst (In (crossing i j c.0)) (sym c.1) (inl refl))),
    )

-- ---- each spot that is no input's is driven

in_outputs : (s : Step) (ss : List Step) → In s ss → In (output s) (outputs ss)
in_outputs s [] h = absurd h
in_outputs s (t ∷ ts) (inl e) = inl (ap output e)
in_outputs s (t ∷ ts) (inr h) = inr (in_outputs s ts h)

module _ (d : ℕ) where
  product_driven : (i j : ℕ) → i < d → j < d → In (inside 112 i j) (outputs (steps d))
  product_driven i j a b =
      let s = gate (at_port 97 i) (at_port 98 j) (inside 112 i j) in
      in_outputs s (steps d)
      (in_left s (flat_map product_steps (pairs d)) _ (in_flat product_steps s (pair i j) (pairs d) (in_pairs d i j a b) (inl refl)))

  masked_driven : (i j : ℕ) → i < d → j < d → (i ≡ j → ⊥) → In (inside 113 i j) (outputs (steps d))
  masked_driven i j a b differ =
      let c = in_crossings d i j a b differ in
      let s = gate (inside 112 i j) (at_port 114 c.0) (inside 113 i j) in
      in_outputs s (steps d)
      (in_right s (flat_map product_steps (pairs d)) _
      (in_left s (flat_map masking_steps (crossings d)) _ (in_flat masking_steps s (crossing i j c.0) (crossings d) c.1 (inl refl))))

  kept_driven : (i j : ℕ) → i < d → j < d → (i ≡ j → ⊥) → In (inside 122 i j) (outputs (steps d))
  kept_driven i j a b differ =
      let c = in_crossings d i j a b differ in
      let s = register (inside 113 i j) (inside 122 i j) in
      in_outputs s (steps d)
      (in_right s (flat_map product_steps (pairs d)) _
      (in_right s (flat_map masking_steps (crossings d)) _
      (in_left s (flat_map register_steps (crossings d)) _ (in_flat register_steps s (crossing i j c.0) (crossings d) c.1 (inl refl)))))

  sum_driven : (i j k : ℕ) → i < d → j < d → (i ≡ j → ⊥) → steps_before i j ≡ k → In (sum_spot d i (k + 1)) (outputs (steps d))
  sum_driven i j k a b differ e =
      let c = in_crossings d i j a b differ in
      let m = steps_before i j in
      let s = gate (sum_spot d i m) (inside 122 i j) (sum_spot d i (m + 1)) in
      subst (λ v. In (sum_spot d i (v + 1)) (outputs (steps d))) e
      (in_outputs s (steps d)
      (in_right s (flat_map product_steps (pairs d)) _
      (in_right s (flat_map masking_steps (crossings d)) _
      (in_right s (flat_map register_steps (crossings d)) _ (in_flat (sum_steps d) s (crossing i j c.0) (crossings d) c.1 (inl refl))))))

  step_driven : (i k : ℕ) → i < d → k + 1 < d → In (sum_spot d i (k + 1)) (outputs (steps d))
  step_driven i k a b =
      ⊎_elim
      (λ lt. sum_driven i k k a (omega (arith, b)) (λ e. absurd (omega (arith, e, lt))) (cond-true (nat_lt k i) k (k - 1) (lt-ltb k i lt)))
      (λ ge. sum_driven i (k + 1) k a b (λ e. absurd (omega (arith, e, ge)))
      (cond-false (nat_lt (k + 1) i) (k + 1) (k + 1 - 1) (le-ltb (k + 1) i (omega (arith, ge))) ∙ (let z : k + 1 - 1 ≡ k = omega arith in z)))
      (cases_lt k i)

  not_same : (m n : ℕ) → (m ≡ n → ⊥) → (m == n) ≡ false
  not_same m n f = ⊎_elim (λ t. absurd (f (eqb-true m n t))) (λ e. e) (cases_Bool (m == n))

  last_sum : (i k : ℕ) → 2 ≤ d → k ≡ d - 1 → sum_spot d i k ≡ at_port 99 i
  last_sum i k some e =
      cond-false (k == 0) (inside 112 i i) (if k == d - 1 then at_port 99 i else inside 117 i k) (not_same k 0 (λ z. absurd (omega (arith, z, e, some))))
      ∙ cond-true (k == d - 1) (at_port 99 i) (inside 117 i k) (eq-eqb k (d - 1) e)

  inner_sum : (i k : ℕ) → 0 < k → k < d - 1 → sum_spot d i k ≡ inside 117 i k
  inner_sum i k some low =
      cond-false (k == 0) (inside 112 i i) (if k == d - 1 then at_port 99 i else inside 117 i k) (not_same k 0 (λ z. absurd (omega (arith, z, some))))
      ∙ cond-false (k == d - 1) (at_port 99 i) (inside 117 i k) (not_same k (d - 1) (λ z. absurd (omega (arith, z, low))))

  output_driven : (l p : ℕ) → 2 ≤ d → l ≡ 99 → p < port_width d l → In (at_port l p) (outputs (steps d))
  output_driven l p some e low =
      let within : p < d = subst (λ v. p < port_width d v) e low in
      let k : d - 2 + 1 ≡ d - 1 = omega (arith, some) in
      subst (λ s. In s (outputs (steps d))) (last_sum p (d - 2 + 1) some k ∙ ap (λ v. at_port v p) (sym e)) (step_driven p (d - 2) within (omega (arith, some)))

  inner_sum_driven : (l i j : ℕ) → i < d → l ≡ 117 → 0 < j → j < d - 1 → In (inside l i j) (outputs (steps d))
  inner_sum_driven l i j a e some low =
      let k : j - 1 + 1 ≡ j = omega (arith, some) in
      subst (λ s. In s (outputs (steps d))) (ap (sum_spot d i) k ∙ (inner_sum i j some low ∙ ap (λ v. inside v i j) (sym e))) (step_driven i (j - 1) a (omega (arith, some, low)))

  -- of an inner wire, which kind it is
  pub data InsideKind (l i j : ℕ) : Type 0 where
    of_product : l ≡ 112 → InsideKind l i j
    of_masked : l ≡ 113 → (i ≡ j → ⊥) → InsideKind l i j
    of_kept : l ≡ 122 → (i ≡ j → ⊥) → InsideKind l i j
    of_sum : l ≡ 117 → 0 < j → j < d - 1 → InsideKind l i j

  crossing_kind : (l i j : ℕ) → (l == 113 || l == 122) ≡ true → not (i == j) ≡ true → InsideKind l i j
  crossing_kind l i j t n =
      let differ : i ≡ j → ⊥ = eqb-false i j (not-true (i == j) n) in
      ⊎_elim (λ a. of_masked (eqb-true l 113 a) differ) (λ b. of_kept (eqb-true l 122 b) differ) (or_cases (l == 113) (l == 122) t)

  sum_kind : (l i j : ℕ) → (l == 117 && (nat_lt 0 j && nat_lt j (d - 1))) ≡ true → InsideKind l i j
  sum_kind l i j h =
      let a = and_parts (l == 117) (nat_lt 0 j && nat_lt j (d - 1)) h in
      let b = and_parts (nat_lt 0 j) (nat_lt j (d - 1)) a.1 in
      of_sum (eqb-true l 117 a.0) (ltb-true 0 j b.0) (ltb-true j (d - 1) b.1)

  kind_of : (l i j : ℕ) → has_inside d l i j ≡ true → InsideKind l i j
  kind_of l i j h =
      ⊎_elim (λ t. of_product (eqb-true l 112 t))
      (λ f. ⊎_elim
      (λ t. crossing_kind l i j t (sym (cond-true (l == 113 || l == 122) (not (i == j)) (l == 117 && (nat_lt 0 j && nat_lt j (d - 1))) t) ∙ (sym (first l i j f) ∙ h)))
      (λ g. sum_kind l i j (sym (cond-false (l == 113 || l == 122) (not (i == j)) (l == 117 && (nat_lt 0 j && nat_lt j (d - 1))) g) ∙ (sym (first l i j f) ∙ h)))
      (cases_Bool (l == 113 || l == 122)))
      (cases_Bool (l == 112))
    where
      first : (l i j : ℕ) → (l == 112) ≡ false
          → has_inside d l i j ≡ (if l == 113 || l == 122 then not (i == j) else (l == 117 && (nat_lt 0 j && nat_lt j (d - 1))))
      first l i j f = cond-false (l == 112) true (if l == 113 || l == 122 then not (i == j) else (l == 117 && (nat_lt 0 j && nat_lt j (d - 1)))) f

  inside_driven : (l i j : ℕ) → i < d → j < d → InsideKind l i j → In (inside l i j) (outputs (steps d))
  inside_driven l i j a b (of_product e) = subst (λ v. In (inside v i j) (outputs (steps d))) (sym e) (product_driven i j a b)
  inside_driven l i j a b (of_masked e f) = subst (λ v. In (inside v i j) (outputs (steps d))) (sym e) (masked_driven i j a b f)
  inside_driven l i j a b (of_kept e f) = subst (λ v. In (inside v i j) (outputs (steps d))) (sym e) (kept_driven i j a b f)
  inside_driven l i j a b (of_sum e some low) = inner_sum_driven l i j a e some low

  pub covered : 2 ≤ d → (s : Spot) → is_spot d s ≡ true → is_given s ≡ false → In s (outputs (steps d))
  covered some clock is inner = let wrong : true ≡ false = inner in absurd (cc)
  covered some (at_port l p) is inner = output_driven l p some (eqb-true l 99 (not-false (l == 99) inner)) (ltb-true p (port_width d l) is)
  covered some (inside l i j) is inner =
      let x = and_parts (nat_lt i d) (nat_lt j d && has_inside d l i j) is in
      let y = and_parts (nat_lt j d) (has_inside d l i j) x.1 in
      inside_driven l i j (ltb-true i d x.0) (ltb-true j d y.0) (kind_of l i j y.1)

-- ---- each wire fits

fits_clock : (d : ℕ) → Fits d (codes "\\clk") 1 (port.Input 1)
fits_clock d clock is e = (refl, refl)
fits_clock d (at_port l p) is e = let wrong : 4 ≡ 2 = ap length e in absurd (omega (arith, wrong))
fits_clock d (inside l i j) is e = let wrong : 108 ≡ 95 = ap third_byte e in absurd (omega (arith, wrong))

fits_port : (d letter width : ℕ) (way : Port) → width ≡ port_width d letter → is_input way ≡ not (letter == 99) → Fits d (92 ∷ letter ∷ []) width way
fits_port d letter width way w i clock is e = let wrong : 2 ≡ 4 = ap length e in absurd (omega (arith, wrong))
fits_port d letter width way w i (at_port l p) is e =
    let same : letter ≡ l = ap second_byte e in (w ∙ ap (port_width d) same, i ∙ ap (λ v. not (v == 99)) same)
fits_port d letter width way w i (inside l a b) is e = let wrong : 0 ≡ 95 = ap third_byte e in absurd (omega (arith, wrong))

fits_inner : (d letter i j : ℕ) → Fits d (name_of letter i j) 1 port.Inner
fits_inner d letter i j clock is e = let wrong : 95 ≡ 108 = ap third_byte e in absurd (omega (arith, wrong))
fits_inner d letter i j (at_port l p) is e = let wrong : 95 ≡ 0 = ap third_byte e in absurd (omega (arith, wrong))
fits_inner d letter i j (inside l a b) is e = (refl, refl)

fits_one : (d letter i j : ℕ) → Each (FitsItem d) (inner_wire (name_of letter i j) ∷ [])
fits_one d letter i j = ((omega arith, fits_inner d letter i j), tt)

fits_sum : (d : ℕ) (p : Pair) → Each (FitsItem d) (sum_wires d p)
fits_sum d p =
    cond_both (nat_lt 0 p.second && nat_lt p.second (d - 1)) (inner_wire (sum_name p.first p.second) ∷ []) [] (Each (FitsItem d))
    (λ e. fits_one d 117 p.first p.second) (λ e. tt)

fits_ports : (d : ℕ) → d ≤ 16 → Each (FitsItem d) (ports d)
fits_ports d few = (
  (omega arith, fits_clock d),
  (
    (omega arith, fits_port d 97 d (port.Input 2) refl refl),
    (
      (omega arith, fits_port d 98 d (port.Input 3) refl refl),
      ((few_randoms d few, fits_port d 114 (pair_count d) (port.Input 4) refl refl), ((omega arith, fits_port d 99 d (port.Output 5) refl refl), tt)),
    ),
  ),
)

fits_inner_wires : (d : ℕ) → Each (FitsItem d) (inner_wires d (pairs d) (crossings d))
fits_inner_wires d =
    let products = flat_map product_wires (pairs d) in
    let masked = flat_map (crossing_wires masked_name) (crossings d) in
    let kept = flat_map (crossing_wires kept_name) (crossings d) in
    let sums = flat_map (sum_wires d) (pairs d) in
    each-append (FitsItem d) products (masked ++ (kept ++ sums)) (each_flat (FitsItem d) product_wires (pairs d) (λ p. fits_one d 112 p.first p.second))
    (each-append (FitsItem d) masked (kept ++ sums) (each_flat (FitsItem d) (crossing_wires masked_name) (crossings d) (λ x. fits_one d 113 x.first x.second))
    (each-append (FitsItem d) kept sums (each_flat (FitsItem d) (crossing_wires kept_name) (crossings d) (λ x. fits_one d 122 x.first x.second))
    (each_flat (FitsItem d) (sum_wires d) (pairs d) (fits_sum d))))

fits_cells : (seed d : ℕ) → Each (FitsItem d) (all_cells seed d (pairs d) (crossings d))
fits_cells seed d =
    let xs = crossings d in
    let maskings = flat_map (masking_cells seed d) xs in
    let registers = flat_map register_cells xs in
    let sums = flat_map (sum_cells d) xs in
    each-append (FitsItem d) (flat_map product_cells (pairs d)) (maskings ++ (registers ++ sums)) (each_flat (FitsItem d) product_cells (pairs d) (λ p. (tt, tt)))
    (each-append (FitsItem d) maskings (registers ++ sums) (each_flat (FitsItem d) (masking_cells seed d) xs (λ x. (tt, tt)))
    (each-append (FitsItem d) registers sums (each_flat (FitsItem d) register_cells xs (λ x. (tt, tt))) (each_flat (FitsItem d) (sum_cells d) xs (λ x. (tt, tt)))))

all_fit : (seed d : ℕ) → d ≤ 16 → Each (FitsItem d) (all_items seed d)
all_fit seed d few =
    let inners = inner_wires d (pairs d) (crossings d) in
    let cells = all_cells seed d (pairs d) (crossings d) in
    each-append (FitsItem d) (ports d) (inners ++ cells) (fits_ports d few) (each-append (FitsItem d) inners cells (fits_inner_wires d) (fits_cells seed d))

-- ---- each spot has a wire of its name

named_there : (name : List ℕ) (i : Item) (xs : List Item) → In i xs → wire_name i ≡ name ∷ [] → In name (wire_names xs)
named_there name i xs h e = in_flat wire_name name i xs h (subst (In name) (sym e) (inl refl))

inner_there : (d l i j : ℕ) → i < d → j < d → InsideKind d l i j → In (inner_wire (name_of l i j)) (inner_wires d (pairs d) (crossings d))
inner_there d l i j a b (of_product e) =
    let w = inner_wire (name_of l i j) in
    in_left w (flat_map product_wires (pairs d)) _
    (in_flat product_wires w (pair i j) (pairs d) (in_pairs d i j a b) (inl (ap (λ v. inner_wire (name_of v i j)) e)))
inner_there d l i j a b (of_masked e f) =
    let w = inner_wire (name_of l i j) in
    let c = in_crossings d i j a b f in
    in_right w (flat_map product_wires (pairs d)) _
    (in_left w (flat_map (crossing_wires masked_name) (crossings d)) _
    (in_flat (crossing_wires masked_name) w (crossing i j c.0) (crossings d) c.1 (inl (ap (λ v. inner_wire (name_of v i j)) e))))
inner_there d l i j a b (of_kept e f) =
    let w = inner_wire (name_of l i j) in
    let c = in_crossings d i j a b f in
    in_right w (flat_map product_wires (pairs d)) _
    (in_right w (flat_map (crossing_wires masked_name) (crossings d)) _
    (in_left w (flat_map (crossing_wires kept_name) (crossings d)) _
    (in_flat (crossing_wires kept_name) w (crossing i j c.0) (crossings d) c.1 (inl (ap (λ v. inner_wire (name_of v i j)) e)))))
inner_there d l i j a b (of_sum e some low) =
    let w = inner_wire (name_of l i j) in
    in_right w (flat_map product_wires (pairs d)) _
    (in_right w (flat_map (crossing_wires masked_name) (crossings d)) _
    (in_right w (flat_map (crossing_wires kept_name) (crossings d)) _
    (in_flat (sum_wires d) w (pair i j) (pairs d) (in_pairs d i j a b)
    (subst (In w)
    (sym (cond-true (nat_lt 0 j && nat_lt j (d - 1)) (inner_wire (sum_name i j) ∷ []) []
    (and_from (nat_lt 0 j) (nat_lt j (d - 1)) (lt-ltb 0 j some) (lt-ltb j (d - 1) low))))
    (inl (ap (λ v. inner_wire (name_of v i j)) e))))))

-- the letter of a port
pub data PortKind (l : ℕ) : Type 0 where
  of_a : l ≡ 97 → PortKind l
  of_b : l ≡ 98 → PortKind l
  of_c : l ≡ 99 → PortKind l
  of_r : l ≡ 114 → PortKind l

port_kind : (d l p : ℕ) → p < port_width d l → PortKind l
port_kind d l p low =
    ⊎_elim (λ t. of_r (eqb-true l 114 t))
    (λ f. ⊎_elim
    (λ t. ⊎_elim (λ a. of_a (eqb-true l 97 a))
    (λ b. ⊎_elim (λ x. of_b (eqb-true l 98 x)) (λ y. of_c (eqb-true l 99 y)) (or_cases (l == 98) (l == 99) b))
    (or_cases (l == 97) (l == 98 || l == 99) t))
    (λ g.
    let zero_wide : port_width d l ≡ 0 =
    cond-false (l == 114) (pair_count d) (if l == 97 || (l == 98 || l == 99) then d else 0) f ∙ cond-false (l == 97 || (l == 98 || l == 99)) d 0 g in
    absurd (omega (arith, low, zero_wide)))
    (cases_Bool (l == 97 || (l == 98 || l == 99))))
    (cases_Bool (l == 114))

port_there : (seed d l : ℕ) → PortKind l → In (92 ∷ l ∷ []) (wire_names (all_items seed d))
port_there seed d l (of_a e) = inr (inl (ap (λ v. 92 ∷ v ∷ []) e))
port_there seed d l (of_b e) = inr (inr (inl (ap (λ v. 92 ∷ v ∷ []) e)))
port_there seed d l (of_r e) = inr (inr (inr (inl (ap (λ v. 92 ∷ v ∷ []) e))))
port_there seed d l (of_c e) = inr (inr (inr (inr (inl (ap (λ v. 92 ∷ v ∷ []) e)))))

spot_there : (seed d : ℕ) (s : Spot) → is_spot d s ≡ true → In (spot_name s) (wire_names (all_items seed d))
spot_there seed d clock is = inl refl
spot_there seed d (at_port l p) is = port_there seed d l (port_kind d l p (ltb-true p (port_width d l) is))
spot_there seed d (inside l i j) is =
    let x = and_parts (nat_lt i d) (nat_lt j d && has_inside d l i j) is in
    let y = and_parts (nat_lt j d) (has_inside d l i j) x.1 in
    let w = inner_wire (name_of l i j) in
    named_there (name_of l i j) w (all_items seed d)
    (in_right w (ports d) _
    (in_left w (inner_wires d (pairs d) (crossings d)) _ (inner_there d l i j (ltb-true i d x.0) (ltb-true j d y.0) (kind_of d l i j y.1))))
    refl

-- ---- the wire of the output

abbrev NoOutput : Item → Type 0
NoOutput (item.Wire w) = is_output w.port ≡ false
NoOutput other = Unit {0}

none_out : (first l n : ℕ) (xs : List Item) → Each NoOutput xs → filter (λ (v : NetWire). is_output v.port) (numbered first (wires (items_at l (named_from n xs)))) ≡ []
none_out first l n [] h = refl
none_out first l n (item.Wire w ∷ xs) h =
    let v : NetWire = record { line = l + length w.attributes; name = w.name; first = first; width = w.width; port = w.port } in
    let rest = filter (λ (v : NetWire). is_output v.port) (numbered (first + w.width) (wires (items_at (l + item_height (item.Wire w)) (named_from n xs)))) in
    cond-false (is_output w.port) (v ∷ rest) rest h.0 ∙ none_out (first + w.width) (l + item_height (item.Wire w)) n xs h.1
none_out first l n (item.Cell c ∷ xs) h = none_out first _ (n + 1) xs h.1
none_out first l n (item.Parameter p ∷ xs) h = none_out first (l + 1) n xs h.1
none_out first l n (item.Connect c ∷ xs) h = none_out first (l + 1) n xs h.1

inner_no_output : (d : ℕ) → Each NoOutput (inner_wires d (pairs d) (crossings d))
inner_no_output d =
    let products = flat_map product_wires (pairs d) in
    let masked = flat_map (crossing_wires masked_name) (crossings d) in
    let kept = flat_map (crossing_wires kept_name) (crossings d) in
    let sums = flat_map (sum_wires d) (pairs d) in
    each-append NoOutput products (masked ++ (kept ++ sums)) (each_flat NoOutput product_wires (pairs d) (λ p. (refl, tt)))
    (each-append NoOutput masked (kept ++ sums) (each_flat NoOutput (crossing_wires masked_name) (crossings d) (λ x. (refl, tt)))
    (each-append NoOutput kept sums (each_flat NoOutput (crossing_wires kept_name) (crossings d) (λ x. (refl, tt)))
    (each_flat NoOutput (sum_wires d) (pairs d)
    (λ p. cond_both (nat_lt 0 p.second && nat_lt p.second (d - 1)) (inner_wire (sum_name p.first p.second) ∷ []) [] (Each NoOutput) (λ e. (refl, tt)) (λ e. tt)))))

cells_no_output : (seed d : ℕ) → Each NoOutput (all_cells seed d (pairs d) (crossings d))
cells_no_output seed d =
    let xs = crossings d in
    let maskings = flat_map (masking_cells seed d) xs in
    let registers = flat_map register_cells xs in
    let sums = flat_map (sum_cells d) xs in
    each-append NoOutput (flat_map product_cells (pairs d)) (maskings ++ (registers ++ sums)) (each_flat NoOutput product_cells (pairs d) (λ p. (tt, tt)))
    (each-append NoOutput maskings (registers ++ sums) (each_flat NoOutput (masking_cells seed d) xs (λ x. (tt, tt)))
    (each-append NoOutput registers sums (each_flat NoOutput register_cells xs (λ x. (tt, tt))) (each_flat NoOutput (sum_cells d) xs (λ x. (tt, tt)))))

-- ---- the gadget

placed_length : (l n : ℕ) (xs : List Item) → length (items_at l (named_from n xs)) ≡ length xs
placed_length l n [] = refl
placed_length l n (item.Wire w ∷ xs) = ap suc (placed_length (l + item_height (item.Wire w)) n xs)
placed_length l n (item.Cell c ∷ xs) = ap suc (placed_length _ (n + 1) xs)
placed_length l n (item.Parameter p ∷ xs) = ap suc (placed_length (l + 1) n xs)
placed_length l n (item.Connect c ∷ xs) = ap suc (placed_length (l + 1) n xs)

the_output : ℕ → ℕ → NetWire
the_output seed d = get_or (net_wires (placed 3 0 (all_items seed d))) 4 (record { line = 0; name = []; first = 0; width = 0; port = port.Inner })

output_is : (seed d : ℕ) → IsOutput d (net_wires (placed 3 0 (all_items seed d))) (the_output seed d)
unfolding wire_named the_output
output_is seed d = record {
  only = ap (λ v. the_output seed d ∷ v)
      (none_out (0 + 1 + d + d + pair_count d + d) 13 0 (inner_wires d (pairs d) (crossings d) ++ all_cells seed d (pairs d) (crossings d))
      (each-append NoOutput (inner_wires d (pairs d) (crossings d)) (all_cells seed d (pairs d) (crossings d)) (inner_no_output d) (cells_no_output seed d)));
  named = refl;
  width = refl;
}

clock_zero : (seed d : ℕ) → bit (net_wires (placed 3 0 (all_items seed d))) clock ≡ 0
unfolding wire_named
clock_zero seed d = refl

pub is_gadget : (seed d : ℕ) → 2 ≤ d → d ≤ 16 → IsGadget d (steps d) (placed 3 0 (all_items seed d))
is_gadget seed d some few =
    let items = all_items seed d in
    let fits = fits_placed d 3 0 items (all_fit seed d few) in record {
      few = few;
      small = omega (arith, placed_length 3 0 items, few_items seed d few);
      holds = placed_holds d 3 0 (steps d) items (all_hold seed d);
      ordered = steps_are d 0 (steps d) (ordered d some few);
      covers = covered d some;
      spots = record {
        found = λ s is. found_wire 0 (placed 3 0 items) (spot_name s) (subst (In (spot_name s)) (sym (names_placed 3 0 items)) (spot_there seed d s is));
        fits = fits_numbered d 0 (placed 3 0 items) fits;
        one = one_wire 0 (wires (placed 3 0 items));
      };
      fits = fits;
      clock_first = clock_zero seed d;
      last = the_output seed d;
      last_is = output_is seed d;
    }

pub items_are : (seed d : ℕ) → top_items (gadget seed d) ≡ placed 3 0 (all_items seed d)
unfolding gadget gadget_module
items_are seed d = refl

pub build : (seed d : ℕ) → 2 ≤ d → d ≤ 16 → (nets : Nets) × IsAccepted (top_items (gadget seed d)) nets
build seed d some few =
    let items = placed 3 0 (all_items seed d) in
    (nets_of items, subst (λ xs. IsAccepted xs (nets_of items)) (sym (items_are seed d)) (accepted d (steps d) items (is_gadget seed d some few)))
