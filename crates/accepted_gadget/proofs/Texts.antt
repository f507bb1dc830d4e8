-- The text of a gadget is short.
use Rattle.std.proofs.Common.{◌≡◌, ℕ, suc, ◌+◌, ◌-◌, ◌*◌, ◌/◌, ◌%◌, ◌^◌, ◌<◌, ◌≤◌, ◌==◌, ◌&&◌, nat_lt, nat_le, if◌then◌else◌, true, List, [], ◌∷◌, ◌++◌, length, length-append, codes, refl, sym, ap, subst, ◌∙◌, arith}
use Rattle.std.specs.Fmt.{decimal, digits}
use Rattle.std.specs.List.{flat_map}
use Rattle.std.proofs.lemmas.Bool.{cond_both, leb-true}
use Rattle.std.proofs.lemmas.Fmt.{length-decimal-le}
use Rattle.std.proofs.lemmas.Grind.{flat_map-append}
use Rattle.circuit_types.specs.declared.signal.Signal.{Signal}
use Rattle.circuit_types.specs.declared.signal.Signal.TheVariants as signal
use Rattle.circuit_types.specs.declared.tree.Item.{Item}
use Rattle.circuit_types.specs.declared.tree.Item.TheVariants as item
use Rattle.circuit_types.specs.declared.tree.Tree.{Tree}
use Rattle.rtlil_lex.specs.Tokens.{most_bytes}
use Rattle.rtlil_tree.specs.declared.keyword.Keyword.{Keyword}
use Rattle.rtlil_tree.specs.declared.keyword.Keyword.TheVariants as word
use Rattle.rtlil_tree.specs.Lexemes.{id, spelling}
use Rattle.rtlil_tree.specs.Statements.{lexeme, pieces_of}
use Rattle.rtlil_print.specs.Printed.{places_text, places_between, spaced, lexemes_spaced, line, inside_indent, cell_line, inside_lines, port_connect_line, end_line, item_indent, module_indent, item_lines, module_line, attribute_lines, printed}
use Rattle.rtlil_print.proofs.SameText.{same_text}
use Rattle.gadget_maker.specs.Gadget.{pairs, pair_count, crossings, name_of, product_name, masked_name, kept_name, sum_name, cell_name, bit_of, random_bit, sum_after, steps_before, connect_on, cell_on, inner_wire, ports, product_wires, crossing_wires, sum_wires, inner_wires, gate, register, product_cells, masking_kind, masking_cells, register_cells, sum_cells, all_cells, named_from, all_items, top_mark, gadget_module, gadget}
use Rattle.gadget_maker.specs.declared.pairs.Pair.{Pair}
use Rattle.gadget_maker.specs.declared.pairs.Crossing.{Crossing}
use Rattle.gadget_maker.proofs.Each.{Each, each-append, each_flat}
use Rattle.gadget_maker.proofs.Fitting.{few_randoms, few_items}
use Rattle.gadget_maker.proofs.Pieces.{wire_pieces, bit_pieces}
use Rattle.gadget_maker.proofs.Within.{IsPair, IsCrossing, pairs_within, crossings_within}
use Rattle.accepted_gadget.proofs.Spots.{for_each_shares}

-- ---- pieces of lines

few_digits : (n : ℕ) → n < 2 ^ 31 → length (decimal n) ≤ 10
few_digits n low = length-decimal-le 10 n (omega arith) (omega (arith, low)) (omega (arith, low))

line_length : (indent : List ℕ) (kw : Keyword) (text : List ℕ) → length (line indent kw text) ≡ length indent + (length (spelling kw) + (length text + 1))
line_length indent kw text =
    let a = length-append indent (spelling kw ++ (text ++ codes "\n")) in
    let b = length-append (spelling kw) (text ++ codes "\n") in
    let c = length-append text (codes "\n") in
    omega (arith, a, b, c)

inner_name : (letter i j : ℕ) → i ≤ 16 → j ≤ 16 → length (name_of letter i j) ≤ 50
inner_name letter i j a b =
    let c = length-append (decimal i) (95 ∷ decimal j) in
    let d = few_digits i (omega (arith, a)) in
    let e = few_digits j (omega (arith, b)) in
    omega (arith, c, d, e)

-- ---- signals

abbrev IsShortSignal : Signal → Type 0
IsShortSignal s = length (spaced (pieces_of s)) ≤ 100

wire_short : (name : List ℕ) → length name ≤ 50 → IsShortSignal (signal.Wire name)
wire_short name few =
    let e = ap (λ ps. length (spaced ps)) (wire_pieces name) in
    let a = length-append (32 ∷ name) [] in
    omega (arith, e, a, few)

few_places : (k : ℕ) → k < 2 ^ 31 → length (places_between k k) ≤ 21
few_places k low =
    let d = few_digits k low in
    let a = length-append (decimal k) (58 ∷ decimal k) in
    cond_both (k == k) (decimal k) (decimal k ++ 58 ∷ decimal k) (λ v. length v ≤ 21) (λ e. omega (arith, d)) (λ e. omega (arith, d, a))

bit_short : (name : List ℕ) (k : ℕ) → length name ≤ 50 → k < 2 ^ 31 → IsShortSignal (bit_of name k)
bit_short name k few low =
    let e = ap (λ ps. length (spaced ps)) (bit_pieces name k) in
    let a = length-append (32 ∷ name) (32 ∷ (places_text k k) ++ []) in
    let b = length-append (32 ∷ places_text k k) [] in
    let c = length-append (places_between k k) (93 ∷ []) in
    let d = few_places k low in
    omega (arith, e, a, b, c, d, few)

inner_short : (letter i j : ℕ) → i ≤ 16 → j ≤ 16 → IsShortSignal (signal.Wire (name_of letter i j))
inner_short letter i j a b = wire_short (name_of letter i j) (inner_name letter i j a b)

random_short : (d n : ℕ) → d ≤ 16 → n < pair_count d → IsShortSignal (random_bit d n)
random_short d n few low =
    let most = few_randoms d few in
    cond_both (pair_count d == 1) (signal.Wire (codes "\\r")) (bit_of (codes "\\r") n) IsShortSignal
    (λ e. wire_short (codes "\\r") (omega arith)) (λ e. bit_short (codes "\\r") n (omega arith) (omega (arith, most, low)))

sum_short : (d i k : ℕ) → i ≤ 16 → k ≤ 16 → IsShortSignal (sum_after d i k)
sum_short d i k a b =
    cond_both (k == 0) (signal.Wire (product_name i i)) (if k == d - 1 then bit_of (codes "\\c") i else signal.Wire (sum_name i k)) IsShortSignal
    (λ e. inner_short 112 i i a a)
    (λ e.
    cond_both (k == d - 1) (bit_of (codes "\\c") i) (signal.Wire (sum_name i k)) IsShortSignal
    (λ f. bit_short (codes "\\c") i (omega arith) (omega (arith, a))) (λ f. inner_short 117 i k a b))

few_steps : (i j : ℕ) → j < 16 → steps_before i j + 1 ≤ 16
few_steps i j b = cond_both (nat_lt j i) j (j - 1) (λ v. v + 1 ≤ 16) (λ e. omega (arith, b)) (λ e. omega (arith, b))

-- ---- items

-- short under any name that a cell may get
abbrev IsShortNamed : Item → Type 0
IsShortNamed (item.Cell c) = (name : List ℕ) → length name ≤ 50 → length (item_lines (item.Cell (record c { name = name }))) ≤ 1000
IsShortNamed (item.Wire w) = length (item_lines (item.Wire w)) ≤ 1000
IsShortNamed (item.Parameter p) = length (item_lines (item.Parameter p)) ≤ 1000
IsShortNamed (item.Connect c) = length (item_lines (item.Connect c)) ≤ 1000

abbrev IsShort : Item → Type 0
IsShort i = length (item_lines i) ≤ 1000

short_name : (n : ℕ) → n < 2 ^ 31 → length (cell_name n) ≤ 50
short_name n low = let a = length-append (codes "$g$") (decimal n) in let b = few_digits n low in omega (arith, a, b)

named_short : (n : ℕ) (xs : List Item) → n + length xs < 2 ^ 31 → Each IsShortNamed xs → Each IsShort (named_from n xs)
named_short n [] small h = tt
named_short n (item.Cell c ∷ xs) small h = (h.0 (cell_name n) (short_name n (omega (arith, small))), named_short (n + 1) xs (omega (arith, small)) h.1)
named_short n (item.Wire w ∷ xs) small h = (h.0, named_short n xs (omega (arith, small)) h.1)
named_short n (item.Parameter p ∷ xs) small h = (h.0, named_short n xs (omega (arith, small)) h.1)
named_short n (item.Connect c ∷ xs) small h = (h.0, named_short n xs (omega (arith, small)) h.1)

connect_short : (l letter : ℕ) (s : Signal) → IsShortSignal s → length (port_connect_line inside_indent (connect_on l letter s)) ≤ 120
connect_short l letter s h =
    let text = spaced (lexeme (id (92 ∷ letter ∷ [])) ∷ pieces_of s) in
    let a = line_length inside_indent word.Connect text in
    let b = length-append (32 ∷ 92 ∷ letter ∷ []) (spaced (pieces_of s)) in
    omega (arith, a, b, h)

three_short : (kind name : List ℕ) (la lb ly : ℕ) (sa sb sy : Signal) → length kind ≤ 50 → length name ≤ 50 → IsShortSignal sa → IsShortSignal sb → IsShortSignal sy
    → length (item_lines (item.Cell (cell_on 0 kind name (connect_on 0 la sa ∷ connect_on 0 lb sb ∷ connect_on 0 ly sy ∷ [])))) ≤ 1000
three_short kind name la lb ly sa sb sy k n a b y =
    let c = cell_on 0 kind name (connect_on 0 la sa ∷ connect_on 0 lb sb ∷ connect_on 0 ly sy ∷ []) in
    let one = port_connect_line inside_indent (connect_on 0 la sa) in
    let two = port_connect_line inside_indent (connect_on 0 lb sb) in
    let three = port_connect_line inside_indent (connect_on 0 ly sy) in
    let e = length-append (cell_line c) (inside_lines c ++ end_line item_indent) in
    let f = length-append (inside_lines c) (end_line item_indent) in
    let g = length-append one (two ++ (three ++ [])) in
    let h = length-append two (three ++ []) in
    let i = length-append three [] in
    let head = line_length item_indent word.Cell (lexemes_spaced (id kind ∷ id name ∷ [])) in
    let names = length-append (32 ∷ kind) ((32 ∷ name) ++ []) in
    let last = length-append (32 ∷ name) [] in
    let p = connect_short 0 la sa a in
    let q = connect_short 0 lb sb b in
    let r = connect_short 0 ly sy y in
    let m = line_length item_indent word.End [] in
    omega (arith, e, f, g, h, i, head, names, last, p, q, r, m, k, n)

wire_item_short : (letter i j : ℕ) → i ≤ 16 → j ≤ 16 → IsShortNamed (inner_wire (name_of letter i j))
wire_item_short letter i j a b =
    let name = name_of letter i j in
    let e = line_length item_indent word.Wire (lexemes_spaced (id name ∷ [])) in
    let f = length-append (32 ∷ name) [] in
    let n = inner_name letter i j a b in
    omega (arith, e, f, n)

gate_short : (kind : List ℕ) (a b y : Signal) → length kind ≤ 50 → IsShortSignal a → IsShortSignal b → IsShortSignal y → IsShortNamed (gate kind a b y)
gate_short kind a b y k sa sb sy = λ name few. three_short kind name 65 66 89 a b y k few sa sb sy

register_short : (d q : Signal) → IsShortSignal d → IsShortSignal q → IsShortNamed (register d q)
register_short d q sd sq =
    λ name few. three_short (codes "$_DFF_P_") name 67 68 81 (signal.Wire (codes "\\clk")) d q (omega arith) few (wire_short (codes "\\clk") (omega arith)) sd sq

kind_short : (seed n : ℕ) → length (masking_kind seed n) ≤ 50
kind_short seed n =
    cond_both (seed / 2 ^ (n % 64) % 2 == 1) (codes "$_XNOR_") (codes "$_XOR_") (λ v. length v ≤ 50) (λ e. omega arith) (λ e. omega arith)

-- ---- the gadget

for_pairs : (d : ℕ) (f : Pair → List Item) → ((p : Pair) → IsPair d p → Each IsShortNamed (f p)) → Each IsShortNamed (flat_map f (pairs d))
for_pairs d f h = each_flat (IsPair d) IsShortNamed f h (pairs d) (pairs_within d)

for_crossings : (d : ℕ) (f : Crossing → List Item) → ((x : Crossing) → IsCrossing d x → Each IsShortNamed (f x)) → Each IsShortNamed (flat_map f (crossings d))
for_crossings d f h = each_flat (IsCrossing d) IsShortNamed f h (crossings d) (crossings_within d)

module _ (seed d : ℕ) (few : d ≤ 16) where
  wire_for : (letter i j : ℕ) → i < d → j < d → Each IsShortNamed (inner_wire (name_of letter i j) ∷ [])
  wire_for letter i j a b = (wire_item_short letter i j (omega (arith, a, few)) (omega (arith, b, few)), tt)

  short_wires : Each IsShortNamed (inner_wires d (pairs d) (crossings d))
  short_wires =
      let products = flat_map product_wires (pairs d) in
      let masked = flat_map (crossing_wires masked_name) (crossings d) in
      let kept = flat_map (crossing_wires kept_name) (crossings d) in
      let sums = flat_map (sum_wires d) (pairs d) in
      each-append IsShortNamed products (masked ++ (kept ++ sums)) (for_pairs d product_wires (λ p is. wire_for 112 p.first p.second is.first is.second))
      (each-append IsShortNamed masked (kept ++ sums) (for_crossings d (crossing_wires masked_name) (λ x is. wire_for 113 x.first x.second is.first is.second))
      (each-append IsShortNamed kept sums (for_crossings d (crossing_wires kept_name) (λ x is. wire_for 122 x.first x.second is.first is.second))
      (for_pairs d (sum_wires d)
      (λ p is. cond_both (nat_lt 0 p.second && nat_lt p.second (d - 1)) (inner_wire (sum_name p.first p.second) ∷ []) [] (Each IsShortNamed)
      (λ e. wire_for 117 p.first p.second is.first is.second) (λ e. tt)))))

  product : (p : Pair) → IsPair d p → Each IsShortNamed (product_cells p)
  product p is =
      let i : p.first ≤ 16 = omega (arith, is.first, few) in
      let j : p.second ≤ 16 = omega (arith, is.second, few) in (
        gate_short (codes "$_AND_") (bit_of (codes "\\a") p.first) (bit_of (codes "\\b") p.second) (signal.Wire (product_name p.first p.second)) (omega arith)
            (bit_short (codes "\\a") p.first (omega arith) (omega (arith, i))) (bit_short (codes "\\b") p.second (omega arith) (omega (arith, j)))
            (inner_short 112 p.first p.second i j),
        tt,
      )

  masking : (x : Crossing) → IsCrossing d x → Each IsShortNamed (masking_cells seed d x)
  masking x is =
      let i : x.first ≤ 16 = omega (arith, is.first, few) in
      let j : x.second ≤ 16 = omega (arith, is.second, few) in (
        gate_short (masking_kind seed x.random) (signal.Wire (product_name x.first x.second)) (random_bit d x.random) (signal.Wire (masked_name x.first x.second))
            (kind_short seed x.random) (inner_short 112 x.first x.second i j) (random_short d x.random few is.random) (inner_short 113 x.first x.second i j),
        tt,
      )

  keeping : (x : Crossing) → IsCrossing d x → Each IsShortNamed (register_cells x)
  keeping x is =
      let i : x.first ≤ 16 = omega (arith, is.first, few) in
      let j : x.second ≤ 16 = omega (arith, is.second, few) in
      (register_short (signal.Wire (masked_name x.first x.second)) (signal.Wire (kept_name x.first x.second)) (inner_short 113 x.first x.second i j) (inner_short 122 x.first x.second i j), tt)

  summing : (x : Crossing) → IsCrossing d x → Each IsShortNamed (sum_cells d x)
  summing x is =
      let i : x.first ≤ 16 = omega (arith, is.first, few) in
      let j : x.second ≤ 16 = omega (arith, is.second, few) in
      let k = steps_before x.first x.second in
      let few_k : k + 1 ≤ 16 = few_steps x.first x.second (omega (arith, is.second, few)) in (
        gate_short (codes "$_XOR_") (sum_after d x.first k) (signal.Wire (kept_name x.first x.second)) (sum_after d x.first (k + 1)) (omega arith)
            (sum_short d x.first k i (omega (arith, few_k))) (inner_short 122 x.first x.second i j) (sum_short d x.first (k + 1) i few_k),
        tt,
      )

  short_cells : Each IsShortNamed (all_cells seed d (pairs d) (crossings d))
  short_cells =
      let maskings = flat_map (masking_cells seed d) (crossings d) in
      let registers = flat_map register_cells (crossings d) in
      let sums = flat_map (sum_cells d) (crossings d) in
      each-append IsShortNamed (flat_map product_cells (pairs d)) (maskings ++ (registers ++ sums)) (for_pairs d product_cells product)
      (each-append IsShortNamed maskings (registers ++ sums) (for_crossings d (masking_cells seed d) masking)
      (each-append IsShortNamed registers sums (for_crossings d register_cells keeping) (for_crossings d (sum_cells d) summing)))

each_length : (xs : List Item) → Each IsShort xs → length (flat_map item_lines xs) ≤ 1000 * length xs
each_length [] h = omega arith
each_length (x ∷ xs) h = omega (arith, length-append (item_lines x) (flat_map item_lines xs), each_length xs h.1, h.0)

named_length : (n : ℕ) (xs : List Item) → length (named_from n xs) ≡ length xs
named_length n [] = refl
named_length n (item.Cell c ∷ xs) = ap suc (named_length (n + 1) xs)
named_length n (item.Wire w ∷ xs) = ap suc (named_length n xs)
named_length n (item.Parameter p ∷ xs) = ap suc (named_length n xs)
named_length n (item.Connect c ∷ xs) = ap suc (named_length n xs)

-- the ports, for each number of shares
short_ports : (d : ℕ) → 2 ≤ d → d ≤ 16 → nat_le (length (flat_map item_lines (ports d))) 1000 ≡ true
unfolding digits
short_ports =
    for_each_shares (λ d. nat_le (length (flat_map item_lines (ports d))) 1000 ≡ true) refl refl refl refl refl refl refl refl refl refl refl refl refl refl refl

abbrev inner_items : ℕ → ℕ → List Item
inner_items seed d = inner_wires d (pairs d) (crossings d) ++ all_cells seed d (pairs d) (crossings d)

abbrev unnumbered : ℕ → ℕ → Tree
unnumbered seed d = record { modules = gadget_module seed d ∷ [] }

text_of : (seed d : ℕ) → printed (unnumbered seed d)
    ≡ (attribute_lines module_indent (top_mark ∷ []) ++ (module_line (codes "\\gadget") ++ (flat_map item_lines (named_from 0 (all_items seed d)) ++ end_line module_indent))) ++ []
unfolding printed gadget_module
text_of seed d = refl

items_length : (seed d : ℕ) → 2 ≤ d → d ≤ 16 → length (flat_map item_lines (named_from 0 (all_items seed d))) ≤ 2054000
items_length seed d some few =
    let more = named_from 0 (inner_items seed d) in
    let e : named_from 0 (all_items seed d) ≡ ports d ++ more = refl in
    let split = ap length (ap (flat_map item_lines) e ∙ flat_map-append item_lines (ports d) more) in
    let a = length-append (flat_map item_lines (ports d)) (flat_map item_lines more) in
    let b = leb-true (length (flat_map item_lines (ports d))) 1000 (short_ports d some few) in
    let count = few_items seed d few in
    let all = length-append (ports d) (inner_items seed d) in
    let named = named_length 0 (inner_items seed d) in
    let short = each_length more
    (named_short 0 (inner_items seed d) (omega (arith, count, all))
    (each-append IsShortNamed (inner_wires d (pairs d) (crossings d)) (all_cells seed d (pairs d) (crossings d)) (short_wires seed d few) (short_cells seed d few))) in
    omega (arith, split, a, b, count, all, named, short)

parts_short : (head name items last : List ℕ) → length head ≤ 100 → length name ≤ 100 → length last ≤ 100 → length items ≤ 2054000
    → length ((head ++ (name ++ (items ++ last))) ++ []) ≤ most_bytes
parts_short head name items last h n l most =
    let a = length-append (head ++ (name ++ (items ++ last))) [] in
    let b = length-append head (name ++ (items ++ last)) in
    let c = length-append name (items ++ last) in
    let e = length-append items last in
    omega (arith, a, b, c, e, h, n, l, most)

head_short : nat_le (length (attribute_lines module_indent (top_mark ∷ []))) 100 ≡ true
unfolding digits
head_short = refl

pub short_text : (seed d : ℕ) → 2 ≤ d → d ≤ 16 → length (printed (gadget seed d)) ≤ most_bytes
unfolding gadget
short_text seed d some few =
    let items = flat_map item_lines (named_from 0 (all_items seed d)) in
    let head = attribute_lines module_indent (top_mark ∷ []) in
    let name = module_line (codes "\\gadget") in
    let last = end_line module_indent in
    subst (λ text. length text ≤ most_bytes) (sym (same_text (unnumbered seed d) ∙ text_of seed d))
    (parts_short head name items last (leb-true (length head) 100 head_short) (leb-true (length name) 100 refl) (leb-true (length last) 100 refl)
    (items_length seed d some few))
