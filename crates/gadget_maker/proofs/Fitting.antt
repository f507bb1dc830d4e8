-- Each item of the gadget is printable, once its cells are named.
use Rattle.std.proofs.Common.{◌≡◌, ℕ, if◌then◌else◌, ◌%◌, ◌+◌, ◌-◌, ◌<◌, ◌≤◌, ◌^◌, ◌*◌, ◌/◌, ◌==◌, ◌&&◌, nat_lt, List, [], ◌∷◌, ◌++◌, length, length-append, codes, refl, sym, subst, arith}
use Rattle.std.specs.Prelude.{IsTrue}
use Rattle.std.specs.List.{flat_map}
use Rattle.std.proofs.lemmas.Bool.{cond_both}
use Rattle.std.proofs.lemmas.Nat.{mul-le}
use Rattle.rtlil_lex.specs.Bytes.{is_name_byte}
use Rattle.rtlil_lex.specs.Forms.{IsId}
use Rattle.circuit_types.specs.declared.signal.Signal.{Signal}
use Rattle.circuit_types.specs.declared.signal.Signal.TheVariants as signal
use Rattle.circuit_types.specs.declared.tree.Item.{Item}
use Rattle.circuit_types.specs.declared.tree.Item.TheVariants as item
use Rattle.circuit_types.specs.declared.tree.Port.{Port}
use Rattle.circuit_types.specs.declared.tree.Port.TheVariants as port
use Rattle.rtlil_tree.specs.Names.{HasPortsOnce}
use Rattle.rtlil_print.specs.Printable.{IsPrintableItem, IsPrintableCell, IsPrintablePort, IsPrintablePiece, IsPrintableSignal}
use Rattle.gadget_maker.specs.Gadget.{pairs, pair_count, crossings, name_of, product_name, kept_name, masked_name, sum_name, cell_name, bit_of, random_bit, sum_after, steps_before, note, port_wire, inner_wire, ports, product_wires, crossing_wires, sum_wires, inner_wires, gate, register, product_cells, masking_kind, masking_cells, register_cells, sum_cells, all_cells, named_from, all_items}
use Rattle.gadget_maker.specs.declared.pairs.Pair.{Pair}
use Rattle.gadget_maker.specs.declared.pairs.Crossing.{Crossing}
use Rattle.gadget_maker.proofs.Counting.{few_pairs, few_crossings}
use Rattle.gadget_maker.proofs.Each.{Each, each-append, each_flat, length_flat}
use Rattle.gadget_maker.proofs.Names.{given_id, inner_id, cell_id}
use Rattle.gadget_maker.proofs.Pieces.{wire_pieces, wire_nesting, bit_pieces, bit_nesting}
use Rattle.gadget_maker.proofs.Within.{IsPair, IsCrossing, pairs_within, crossings_within}

-- it is printable under any name that a cell may get
abbrev IsPrintableNamed : Item → Type 0
IsPrintableNamed (item.Parameter p) = IsPrintableItem (item.Parameter p)
IsPrintableNamed (item.Wire w) = IsPrintableItem (item.Wire w)
IsPrintableNamed (item.Cell c) = (name : List ℕ) → IsId name → IsPrintableCell (record c { name = name })
IsPrintableNamed (item.Connect c) = IsPrintableItem (item.Connect c)

-- and connects each port once
pub record IsFit (i : Item) : Type 0 where
  pub printable : IsPrintableNamed i
  pub ports : HasPortsOnce i

pub named_printable : (n : ℕ) (xs : List Item) → n + length xs < 2 ^ 64 → Each IsFit xs → Each IsPrintableItem (named_from n xs)
named_printable n [] small h = tt
named_printable n (item.Cell c ∷ xs) small h = (h.0.printable (cell_name n) (cell_id n (omega arith)), named_printable (n + 1) xs (omega arith) h.1)
named_printable n (item.Wire w ∷ xs) small h = (h.0.printable, named_printable n xs (omega arith) h.1)
named_printable n (item.Parameter p ∷ xs) small h = (h.0.printable, named_printable n xs (omega arith) h.1)
named_printable n (item.Connect c ∷ xs) small h = (h.0.printable, named_printable n xs (omega arith) h.1)

pub named_ports : (n : ℕ) (xs : List Item) → Each IsFit xs → Each HasPortsOnce (named_from n xs)
named_ports n [] h = tt
named_ports n (item.Cell c ∷ xs) h = (h.0.ports, named_ports (n + 1) xs h.1)
named_ports n (item.Wire w ∷ xs) h = (h.0.ports, named_ports n xs h.1)
named_ports n (item.Parameter p ∷ xs) h = (h.0.ports, named_ports n xs h.1)
named_ports n (item.Connect c ∷ xs) h = (h.0.ports, named_ports n xs h.1)

-- ---- signals

wire_signal : (name : List ℕ) → IsId name → IsPrintableSignal (signal.Wire name)
wire_signal name id = record {
  pieces = subst (Each IsPrintablePiece) (sym (wire_pieces name)) (id, tt);
  nesting = omega (arith, wire_nesting name);
}

bit_signal : (name : List ℕ) (k : ℕ) → IsId name → k < 2 ^ 31 → IsPrintableSignal (bit_of name k)
bit_signal name k id small = record {
  pieces = subst (Each IsPrintablePiece) (sym (bit_pieces name k)) (id, ((small, small), tt));
  nesting = omega (arith, bit_nesting name k);
}

inner_signal : (letter i j : ℕ) → IsTrue (is_name_byte letter) → i ≤ 16 → j ≤ 16 → IsPrintableSignal (signal.Wire (name_of letter i j))
inner_signal letter i j l a b = wire_signal (name_of letter i j) (inner_id letter i j l (omega arith) (omega arith))

pub few_randoms : (d : ℕ) → d ≤ 16 → pair_count d ≤ 128
few_randoms d few = let k : d * (d - 1) ≤ 16 * 16 = mul-le d (d - 1) 16 16 few (omega arith) in omega arith

random_signal : (d n : ℕ) → d ≤ 16 → n < pair_count d → IsPrintableSignal (random_bit d n)
random_signal d n few low =
    let most = few_randoms d few in
    cond_both (pair_count d == 1) (signal.Wire (codes "\\r")) (bit_of (codes "\\r") n) IsPrintableSignal
    (λ e. wire_signal (codes "\\r") (given_id (codes "\\r") refl)) (λ e. bit_signal (codes "\\r") n (given_id (codes "\\r") refl) (omega arith))

sum_signal : (d i k : ℕ) → i ≤ 16 → k ≤ 16 → IsPrintableSignal (sum_after d i k)
sum_signal d i k a b =
    cond_both (k == 0) (signal.Wire (product_name i i)) (if k == d - 1 then bit_of (codes "\\c") i else signal.Wire (sum_name i k)) IsPrintableSignal
    (λ e. inner_signal 112 i i refl a a)
    (λ e.
    cond_both (k == d - 1) (bit_of (codes "\\c") i) (signal.Wire (sum_name i k)) IsPrintableSignal
    (λ f. bit_signal (codes "\\c") i (given_id (codes "\\c") refl) (omega arith)) (λ f. inner_signal 117 i k refl a b))

few_steps : (i j : ℕ) → j < 16 → steps_before i j + 1 ≤ 16
few_steps i j b = cond_both (nat_lt j i) j (j - 1) (λ v. v + 1 ≤ 16) (λ e. omega arith) (λ e. omega arith)

-- ---- wires

fit_port : (name : List ℕ) (width : ℕ) (way : Port) (text : List ℕ) → IsId name → width < 2 ^ 31 → IsPrintablePort way
    → IsFit (port_wire name width way text)
fit_port name width way text id small is = record {
  printable = record {
    name = id;
    attributes = (record { name = given_id (codes "\\mask") refl; value = tt }, tt);
    width = small;
    offset = omega arith;
    port = is;
  };
  ports = tt;
}

fit_inner : (letter i j : ℕ) → IsTrue (is_name_byte letter) → i < 16 → j < 16 → IsFit (inner_wire (name_of letter i j))
fit_inner letter i j l a b = record {
  printable = record { name = inner_id letter i j l (omega arith) (omega arith); attributes = tt; width = omega arith; offset = omega arith; port = tt };
  ports = tt;
}

fit_ports : (d : ℕ) → d ≤ 16 → Each IsFit (ports d)
fit_ports d few =
    let most = few_randoms d few in (
      fit_port (codes "\\clk") 1 (port.Input 1) (codes "clock") (given_id (codes "\\clk") refl) (omega arith) (omega arith),
      (
        fit_port (codes "\\a") d (port.Input 2) (codes "shares a") (given_id (codes "\\a") refl) (omega arith) (omega arith),
        (
          fit_port (codes "\\b") d (port.Input 3) (codes "shares b") (given_id (codes "\\b") refl) (omega arith) (omega arith),
          (
            fit_port (codes "\\r") (pair_count d) (port.Input 4) (codes "random") (given_id (codes "\\r") refl) (omega arith) (omega arith),
            (fit_port (codes "\\c") d (port.Output 5) (codes "shares c") (given_id (codes "\\c") refl) (omega arith) (omega arith), tt),
          ),
        ),
      ),
    )

-- what is put for pairs, and for crossings
for_pairs : (d : ℕ) (f : Pair → List Item) → ((p : Pair) → IsPair d p → Each IsFit (f p)) → Each IsFit (flat_map f (pairs d))
for_pairs d f h = each_flat (IsPair d) IsFit f h (pairs d) (pairs_within d)

for_crossings : (d : ℕ) (f : Crossing → List Item) → ((x : Crossing) → IsCrossing d x → Each IsFit (f x)) → Each IsFit (flat_map f (crossings d))
for_crossings d f h = each_flat (IsCrossing d) IsFit f h (crossings d) (crossings_within d)

fit_sum_wires : (d : ℕ) → d ≤ 16 → (p : Pair) → IsPair d p → Each IsFit (sum_wires d p)
fit_sum_wires d few p is =
    cond_both (nat_lt 0 p.second && nat_lt p.second (d - 1)) (inner_wire (sum_name p.first p.second) ∷ []) [] (Each IsFit)
    (λ e. (fit_inner 117 p.first p.second refl (omega (arith, is.first)) (omega (arith, is.second)), tt)) (λ e. tt)

fit_inner_wires : (d : ℕ) → d ≤ 16 → Each IsFit (inner_wires d (pairs d) (crossings d))
fit_inner_wires d few =
    let products = flat_map product_wires (pairs d) in
    let masked = flat_map (crossing_wires masked_name) (crossings d) in
    let kept = flat_map (crossing_wires kept_name) (crossings d) in
    let sums = flat_map (sum_wires d) (pairs d) in
    each-append IsFit products (masked ++ (kept ++ sums))
    (for_pairs d product_wires (λ p is. (fit_inner 112 p.first p.second refl (omega (arith, is.first)) (omega (arith, is.second)), tt)))
    (each-append IsFit masked (kept ++ sums)
    (for_crossings d (crossing_wires masked_name) (λ x is. (fit_inner 113 x.first x.second refl (omega (arith, is.first)) (omega (arith, is.second)), tt)))
    (each-append IsFit kept sums
    (for_crossings d (crossing_wires kept_name) (λ x is. (fit_inner 122 x.first x.second refl (omega (arith, is.first)) (omega (arith, is.second)), tt)))
    (for_pairs d (sum_wires d) (fit_sum_wires d few))))

-- ---- cells

fit_gate : (kind : List ℕ) (a b y : Signal) → IsId kind → IsPrintableSignal a → IsPrintableSignal b → IsPrintableSignal y → IsFit (gate kind a b y)
fit_gate kind a b y id pa pb py = record {
  printable = λ name named. record {
    kind = id;
    name = named;
    attributes = tt;
    parameters = tt;
    connects = (record { port = (refl, (refl, tt)); signal = pa }, (record { port = (refl, (refl, tt)); signal = pb }, (record { port = (refl, (refl, tt)); signal = py }, tt)));
  };
  ports = refl;
}

fit_register : (d q : Signal) → IsPrintableSignal d → IsPrintableSignal q → IsFit (register d q)
fit_register d q pd pq = record {
  printable = λ name named. record {
    kind = given_id (codes "$_DFF_P_") refl;
    name = named;
    attributes = tt;
    parameters = tt;
    connects = (
      record { port = (refl, (refl, tt)); signal = wire_signal (codes "\\clk") (given_id (codes "\\clk") refl) },
      (record { port = (refl, (refl, tt)); signal = pd }, (record { port = (refl, (refl, tt)); signal = pq }, tt)),
    );
  };
  ports = refl;
}

kind_id : (seed n : ℕ) → IsId (masking_kind seed n)
kind_id seed n =
    cond_both (seed / 2 ^ (n % 64) % 2 == 1) (codes "$_XNOR_") (codes "$_XOR_") IsId (λ e. given_id (codes "$_XNOR_") refl) (λ e. given_id (codes "$_XOR_") refl)

module _ (seed d : ℕ) (few : d ≤ 16) where
  product : (p : Pair) → IsPair d p → Each IsFit (product_cells p)
  product p is =
      let i : p.first ≤ 16 = omega (arith, is.first) in
      let j : p.second ≤ 16 = omega (arith, is.second) in (
        fit_gate (codes "$_AND_") (bit_of (codes "\\a") p.first) (bit_of (codes "\\b") p.second) (signal.Wire (product_name p.first p.second))
            (given_id (codes "$_AND_") refl) (bit_signal (codes "\\a") p.first (given_id (codes "\\a") refl) (omega arith))
            (bit_signal (codes "\\b") p.second (given_id (codes "\\b") refl) (omega arith)) (inner_signal 112 p.first p.second refl i j),
        tt,
      )

  masking : (x : Crossing) → IsCrossing d x → Each IsFit (masking_cells seed d x)
  masking x is =
      let i : x.first ≤ 16 = omega (arith, is.first) in
      let j : x.second ≤ 16 = omega (arith, is.second) in (
        fit_gate (masking_kind seed x.random) (signal.Wire (product_name x.first x.second)) (random_bit d x.random) (signal.Wire (masked_name x.first x.second))
            (kind_id seed x.random) (inner_signal 112 x.first x.second refl i j) (random_signal d x.random few is.random)
            (inner_signal 113 x.first x.second refl i j),
        tt,
      )

  kept : (x : Crossing) → IsCrossing d x → Each IsFit (register_cells x)
  kept x is =
      let i : x.first ≤ 16 = omega (arith, is.first) in
      let j : x.second ≤ 16 = omega (arith, is.second) in (
        fit_register (signal.Wire (masked_name x.first x.second)) (signal.Wire (kept_name x.first x.second)) (inner_signal 113 x.first x.second refl i j)
            (inner_signal 122 x.first x.second refl i j),
        tt,
      )

  sum : (x : Crossing) → IsCrossing d x → Each IsFit (sum_cells d x)
  sum x is =
      let i : x.first ≤ 16 = omega (arith, is.first) in
      let j : x.second ≤ 16 = omega (arith, is.second) in
      let k = steps_before x.first x.second in
      let few_k : k + 1 ≤ 16 = few_steps x.first x.second (omega (arith, is.second)) in (
        fit_gate (codes "$_XOR_") (sum_after d x.first k) (signal.Wire (kept_name x.first x.second)) (sum_after d x.first (k + 1))
            (given_id (codes "$_XOR_") refl) (sum_signal d x.first k i (omega arith)) (inner_signal 122 x.first x.second refl i j)
            (sum_signal d x.first (k + 1) i few_k),
        tt,
      )

  fit_cells : Each IsFit (all_cells seed d (pairs d) (crossings d))
  fit_cells =
      let maskings = flat_map (masking_cells seed d) (crossings d) in
      let registers = flat_map register_cells (crossings d) in
      let sums = flat_map (sum_cells d) (crossings d) in
      each-append IsFit (flat_map product_cells (pairs d)) (maskings ++ (registers ++ sums)) (for_pairs d product_cells product)
      (each-append IsFit maskings (registers ++ sums) (for_crossings d (masking_cells seed d) masking)
      (each-append IsFit registers sums (for_crossings d register_cells kept) (for_crossings d (sum_cells d) sum)))

  pub all_fit : Each IsFit (all_items seed d)
  all_fit =
      let inners = inner_wires d (pairs d) (crossings d) in
      let cells = all_cells seed d (pairs d) (crossings d) in
      each-append IsFit (ports d) (inners ++ cells) (fit_ports d few) (each-append IsFit inners cells (fit_inner_wires d few) fit_cells)

-- ---- how many items there are

both_lengths : (m n : ℕ) (xs ys : List Item) → length xs ≤ m → length ys ≤ n → length (xs ++ ys) ≤ m + n
both_lengths m n xs ys a b = let e = length-append xs ys in omega arith

one_each : {X : Type 0} (f : X → List Item) → ((x : X) → length (f x) ≤ 1) → (xs : List X) → length xs ≤ 256 → length (flat_map f xs) ≤ 256
one_each f h xs few = let l = length_flat f 1 h xs in omega arith

one_sum_wire : (d : ℕ) (p : Pair) → length (sum_wires d p) ≤ 1
one_sum_wire d p =
    cond_both (nat_lt 0 p.second && nat_lt p.second (d - 1)) (inner_wire (sum_name p.first p.second) ∷ []) [] (λ items. length items ≤ 1)
    (λ e. omega arith) (λ e. omega arith)

pub few_items : (seed d : ℕ) → d ≤ 16 → length (all_items seed d) ≤ 2053
few_items seed d few =
    let ps = pairs d in
    let xs = crossings d in
    let p = few_pairs d few in
    let x = few_crossings d few in
    let products = flat_map product_wires ps in
    let masked = flat_map (crossing_wires masked_name) xs in
    let kept = flat_map (crossing_wires kept_name) xs in
    let sums = flat_map (sum_wires d) ps in
    let product_gates = flat_map product_cells ps in
    let masking_gates = flat_map (masking_cells seed d) xs in
    let registers = flat_map register_cells xs in
    let sum_gates = flat_map (sum_cells d) xs in
    let inners = both_lengths 256 768 products (masked ++ (kept ++ sums)) (one_each product_wires (λ y. omega arith) ps p)
    (both_lengths 256 512 masked (kept ++ sums) (one_each (crossing_wires masked_name) (λ y. omega arith) xs x)
    (both_lengths 256 256 kept sums (one_each (crossing_wires kept_name) (λ y. omega arith) xs x) (one_each (sum_wires d) (one_sum_wire d) ps p))) in
    let cells = both_lengths 256 768 product_gates (masking_gates ++ (registers ++ sum_gates)) (one_each product_cells (λ y. omega arith) ps p)
    (both_lengths 256 512 masking_gates (registers ++ sum_gates) (one_each (masking_cells seed d) (λ y. omega arith) xs x)
    (both_lengths 256 256 registers sum_gates (one_each register_cells (λ y. omega arith) xs x) (one_each (sum_cells d) (λ y. omega arith) xs x))) in
    both_lengths 5 2048 (ports d) (inner_wires d ps xs ++ all_cells seed d ps xs) (omega arith)
    (both_lengths 1024 1024 (inner_wires d ps xs) (all_cells seed d ps xs) inners cells)
