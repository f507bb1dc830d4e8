-- The masked AND after the domain-oriented scheme (Gross, Mangard and Korak, TIS 2016), as the tree of a netlist.
use Rattle.std.specs.Prelude.{ℕ, zero, suc, ◌+◌, ◌-◌, ◌*◌, ◌/◌, ◌%◌, ◌^◌, ◌==◌, ◌&&◌, nat_lt, if◌then◌else◌, pos, Bool, false, List, [], ◌∷◌, ◌++◌, codes}
use Rattle.std.specs.List.{flat_map, range_with_len}
use Rattle.std.specs.Fmt.{decimal}
use Rattle.circuit_types.specs.declared.signal.Value.{Value}
use Rattle.circuit_types.specs.declared.signal.Value.TheVariants as value
use Rattle.circuit_types.specs.declared.signal.Signal.{Signal}
use Rattle.circuit_types.specs.declared.signal.Signal.TheVariants as signal
use Rattle.circuit_types.specs.declared.tree.Tree.{Tree}
use Rattle.circuit_types.specs.declared.tree.Module.{Module}
use Rattle.circuit_types.specs.declared.tree.Attribute.{Attribute}
use Rattle.circuit_types.specs.declared.tree.Item.{Item}
use Rattle.circuit_types.specs.declared.tree.Item.TheVariants as item
use Rattle.circuit_types.specs.declared.tree.Wire.{Wire}
use Rattle.circuit_types.specs.declared.tree.Port.{Port}
use Rattle.circuit_types.specs.declared.tree.Port.TheVariants as port
use Rattle.circuit_types.specs.declared.tree.Cell.{Cell}
use Rattle.circuit_types.specs.declared.tree.PortConnect.{PortConnect}
use Rattle.rtlil_print.specs.PrintedLines.{with_printed_lines}
use Rattle.gadget_maker.specs.declared.pairs.Pair.{Pair}
use Rattle.gadget_maker.specs.declared.pairs.Crossing.{Crossing}

-- ---- pairs of shares

abbrev pub shares_below : ℕ → List ℕ
shares_below d = range_with_len 0 d

abbrev pub pair : ℕ → ℕ → Pair
pair i j = record { first = i; second = j }

abbrev pub row_of_pairs : ℕ → ℕ → List Pair
row_of_pairs d i = flat_map (λ j. pair i j ∷ []) (shares_below d)

-- each share of `a` with each share of `b`, in row order
unfoldable pub pairs : ℕ → List Pair
pairs d = flat_map (row_of_pairs d) (shares_below d)

-- how many pairs of two shares, the lesser first, there are
abbrev pub pair_count : ℕ → ℕ
pair_count d = d * (d - 1) / 2

-- how many of them begin with a share below this one: d - 1 begin with share 0, d - 2 with share 1, and so on
abbrev pub pairs_before : ℕ → ℕ → ℕ
pairs_before d zero = 0
pairs_before d (suc i) = pairs_before d i + (d - 1 - i)

-- the number of a pair, the lesser share first: they are numbered from 0, by the first share and then by the second
abbrev pub pair_number : ℕ → ℕ → ℕ → ℕ
pair_number d i j = pairs_before d i + (j - i - 1)

-- the product of two shares, masked with this random
abbrev pub crossing : ℕ → ℕ → ℕ → Crossing
crossing i j random = record { first = i; second = j; random = random }

-- Two different shares cross, and need a random. A pair and its mirror have one random, that of the pair's number.
abbrev pub crossings_at : ℕ → ℕ → ℕ → List Crossing
crossings_at d i j =
    if nat_lt i j then crossing i j (pair_number d i j) ∷ [] else (if nat_lt j i then crossing i j (pair_number d j i) ∷ [] else [])

abbrev pub row_of_crossings : ℕ → ℕ → List Crossing
row_of_crossings d i = flat_map (crossings_at d i) (shares_below d)

-- each share of `a` with each other share of `b`, in row order
unfoldable pub crossings : ℕ → List Crossing
crossings d = flat_map (row_of_crossings d) (shares_below d)

-- ---- names and signals

-- a backslash, a letter, and the numbers of two shares or of a share and a step: `\p_0_1`
abbrev pub name_of : ℕ → ℕ → ℕ → List ℕ
name_of letter i j = 92 ∷ letter ∷ 95 ∷ (decimal i ++ 95 ∷ decimal j)

-- the product of share i of `a` and share j of `b`
abbrev pub product_name : ℕ → ℕ → List ℕ
product_name i j = name_of 112 i j

-- the product with the pair's random
abbrev pub masked_name : ℕ → ℕ → List ℕ
masked_name i j = name_of 113 i j

-- the same behind its register
abbrev pub kept_name : ℕ → ℕ → List ℕ
kept_name i j = name_of 122 i j

-- the sum of row i after k steps
abbrev pub sum_name : ℕ → ℕ → List ℕ
sum_name i k = name_of 117 i k

abbrev pub cell_name : ℕ → List ℕ
cell_name n = codes "$g$" ++ decimal n

-- one bit of a wire
abbrev pub bit_of : List ℕ → ℕ → Signal
bit_of name k = signal.Slice (signal.Wire name) k k

-- Where there is one random only, its wire has one bit and is named without a place.
abbrev pub random_bit : ℕ → ℕ → Signal
random_bit d n = if pair_count d == 1 then signal.Wire (codes "\\r") else bit_of (codes "\\r") n

-- The sum of row i after so many of its d - 1 steps: at first it is the product of both shares i, at last it is share i
-- of `c`.
abbrev pub sum_after : ℕ → ℕ → ℕ → Signal
sum_after d i k =
    if k == 0 then signal.Wire (product_name i i) else (if k == d - 1 then bit_of (codes "\\c") i else signal.Wire (sum_name i k))

-- how many steps of row i are before that of share j: one for each share below j but i
abbrev pub steps_before : ℕ → ℕ → ℕ
steps_before i j = if nat_lt j i then j else j - 1

-- ---- wires

abbrev pub wire_on : ℕ → List ℕ → List Attribute → ℕ → Port → Wire
wire_on line name attributes width way =
    record { line = line; name = name; attributes = attributes; width = width; offset = pos 0; port = way; upto = false; signed = false }

abbrev pub note : List ℕ → Attribute
note text = record { name = codes "\\mask"; value = value.Text text }

abbrev pub port_wire : List ℕ → ℕ → Port → List ℕ → Item
port_wire name width way text = item.Wire (wire_on 0 name (note text ∷ []) width way)

abbrev pub inner_wire : List ℕ → Item
inner_wire name = item.Wire (wire_on 0 name [] 1 port.Inner)

abbrev pub ports : ℕ → List Item
ports d =
    port_wire (codes "\\clk") 1 (port.Input 1) (codes "clock")
    ∷ port_wire (codes "\\a") d (port.Input 2) (codes "shares a")
    ∷ port_wire (codes "\\b") d (port.Input 3) (codes "shares b")
    ∷ port_wire (codes "\\r") (pair_count d) (port.Input 4) (codes "random")
    ∷ port_wire (codes "\\c") d (port.Output 5) (codes "shares c")
    ∷ []

abbrev pub product_wires : Pair → List Item
product_wires p = inner_wire (product_name p.first p.second) ∷ []

-- the one that is named so
abbrev pub crossing_wires : (ℕ → ℕ → List ℕ) → Crossing → List Item
crossing_wires name x = inner_wire (name x.first x.second) ∷ []

-- of each share and each step from 1 to d - 2
abbrev pub sum_wires : ℕ → Pair → List Item
sum_wires d p = if nat_lt 0 p.second && nat_lt p.second (d - 1) then inner_wire (sum_name p.first p.second) ∷ [] else []

abbrev pub inner_wires : ℕ → List Pair → List Crossing → List Item
inner_wires d ps xs =
    flat_map product_wires ps
    ++ (flat_map (crossing_wires masked_name) xs ++ (flat_map (crossing_wires kept_name) xs ++ flat_map (sum_wires d) ps))

-- ---- cells

abbrev pub connect_on : ℕ → ℕ → Signal → PortConnect
connect_on line letter s = record { line = line; port = 92 ∷ letter ∷ []; signal = s }

abbrev pub cell_on : ℕ → List ℕ → List ℕ → List PortConnect → Cell
cell_on line kind name connects =
    record { line = line; kind = kind; name = name; attributes = []; parameters = []; connects = connects }

abbrev pub gate : List ℕ → Signal → Signal → Signal → Item
gate kind a b y = item.Cell (cell_on 0 kind [] (connect_on 0 65 a ∷ connect_on 0 66 b ∷ connect_on 0 89 y ∷ []))

abbrev pub register : Signal → Signal → Item
register d q =
    item.Cell (cell_on 0 (codes "$_DFF_P_") [] (connect_on 0 67 (signal.Wire (codes "\\clk")) ∷ connect_on 0 68 d ∷ connect_on 0 81 q ∷ []))

abbrev pub product_cells : Pair → List Item
product_cells p =
    gate (codes "$_AND_") (bit_of (codes "\\a") p.first) (bit_of (codes "\\b") p.second) (signal.Wire (product_name p.first p.second)) ∷ []

-- the bit of the seed at this place, counted round in 64 bits
abbrev pub seed_bit : ℕ → ℕ → ℕ
seed_bit seed n = seed / 2 ^ (n % 64) % 2

-- where the seed's bit is 1 the random is added negated
abbrev pub masking_kind : ℕ → ℕ → List ℕ
masking_kind seed n = if seed_bit seed n == 1 then codes "$_XNOR_" else codes "$_XOR_"

abbrev pub masking_cells : ℕ → ℕ → Crossing → List Item
masking_cells seed d x =
    gate (masking_kind seed x.random) (signal.Wire (product_name x.first x.second)) (random_bit d x.random)
    (signal.Wire (masked_name x.first x.second)) ∷ []

abbrev pub register_cells : Crossing → List Item
register_cells x = register (signal.Wire (masked_name x.first x.second)) (signal.Wire (kept_name x.first x.second)) ∷ []

-- the step of row i for share j
abbrev pub sum_cells : ℕ → Crossing → List Item
sum_cells d x = let k = steps_before x.first x.second in
    gate (codes "$_XOR_") (sum_after d x.first k) (signal.Wire (kept_name x.first x.second)) (sum_after d x.first (k + 1)) ∷ []

abbrev pub all_cells : ℕ → ℕ → List Pair → List Crossing → List Item
all_cells seed d ps xs =
    flat_map product_cells ps
    ++ (flat_map (masking_cells seed d) xs ++ (flat_map register_cells xs ++ flat_map (sum_cells d) xs))

-- the cells named in order, `$g$0` or a later one first
abbrev pub named_from : ℕ → List Item → List Item
named_from n [] = []
named_from n (item.Cell c ∷ is) = item.Cell (record c { name = cell_name n }) ∷ named_from (n + 1) is
named_from n (i ∷ is) = i ∷ named_from n is

-- ---- the tree

abbrev pub items_from : ℕ → ℕ → List Pair → List Crossing → List Item
items_from seed d ps xs = ports d ++ (inner_wires d ps xs ++ all_cells seed d ps xs)

abbrev pub all_items : ℕ → ℕ → List Item
all_items seed d = items_from seed d (pairs d) (crossings d)

abbrev pub top_mark : Attribute
top_mark = record { name = codes "\\top"; value = value.Number (pos 1) }

-- the module, with lines still to be numbered
unfoldable pub gadget_module : ℕ → ℕ → Module
gadget_module seed d =
    record { line = 0; name = codes "\\gadget"; attributes = top_mark ∷ []; items = named_from 0 (all_items seed d) }

-- the tree, with the lines that its printed text has
unfoldable pub gadget : ℕ → ℕ → Tree
gadget seed d = with_printed_lines (record { modules = gadget_module seed d ∷ [] })
