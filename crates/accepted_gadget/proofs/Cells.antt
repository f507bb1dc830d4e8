-- The cells of a gadget are those of its steps.
use Rattle.std.proofs.Common.{◌≡◌, ℕ, ◌+◌, ◌/◌, ◌%◌, ◌^◌, ◌-◌, ◌==◌, if◌then◌else◌, Bool, true, false, List, [], ◌∷◌, ◌++◌, length, codes, refl, sym, ap, subst, ◌∙◌}
use Rattle.std.specs.List.{flat_map}
use Rattle.std.proofs.lemmas.Bool.{cond_both}
use Rattle.circuit_types.specs.declared.signal.Signal.{Signal}
use Rattle.circuit_types.specs.declared.signal.Signal.TheVariants as signal
use Rattle.circuit_types.specs.declared.tree.Cell.{Cell}
use Rattle.circuit_types.specs.declared.tree.Item.{Item}
use Rattle.circuit_types.specs.declared.tree.Item.TheVariants as item
use Rattle.circuit_types.specs.declared.tree.Wire.{Wire}
use Rattle.rtlil_print.specs.PrintedLines.{cell_at, item_height, items_at}
use Rattle.gadget_maker.specs.Gadget.{pairs, pair_count, crossings, bit_of, random_bit, sum_after, steps_before, sum_name, product_name, masking_kind, connect_on, cell_name, inner_wire, ports, product_wires, crossing_wires, masked_name, kept_name, sum_wires, inner_wires, product_cells, masking_cells, register_cells, sum_cells, all_cells, named_from, all_items}
use Rattle.gadget_maker.specs.Gadget as gadget
use Rattle.gadget_maker.specs.declared.pairs.Pair.{Pair}
use Rattle.gadget_maker.specs.declared.pairs.Crossing.{Crossing}
use Rattle.accepted_gadget.proofs.Spots.{Spot, clock, at_port, inside, signal_of, Step, gate, register, sum_spot, product_steps, masking_steps, register_steps, sum_steps, steps}

-- the gates of a gadget
pub data GateName : Type 0 where
  conjunction : GateName
  difference : GateName
  sameness : GateName

abbrev pub gate_text : GateName → List ℕ
gate_text conjunction = codes "$_AND_"
gate_text difference = codes "$_XOR_"
gate_text sameness = codes "$_XNOR_"

-- what a step leaves open: lines, names, and which gate it is
pub record Dress : Type 0 where
  pub line : ℕ
  pub name : List ℕ
  pub kind : GateName
  pub one : ℕ
  pub two : ℕ
  pub three : ℕ

abbrev pub cell_of : ℕ → Step → Dress → Cell
cell_of d (gate a b y) x = record {
  line = x.line;
  kind = gate_text x.kind;
  name = x.name;
  attributes = [];
  parameters = [];
  connects = connect_on x.one 65 (signal_of d a) ∷ connect_on x.two 66 (signal_of d b) ∷ connect_on x.three 89 (signal_of d y) ∷ [];
}
cell_of d (register a y) x = record {
  line = x.line;
  kind = codes "$_DFF_P_";
  name = x.name;
  attributes = [];
  parameters = [];
  connects = connect_on x.one 67 (signal_of d clock) ∷ connect_on x.two 68 (signal_of d a) ∷ connect_on x.three 81 (signal_of d y) ∷ [];
}

abbrev pub IsCellOf : ℕ → Step → Cell → Type 0
IsCellOf d s c = (x : Dress) × (c ≡ cell_of d s x)

-- the items are wires, and cells that are those of the steps in their order
pub data Holds (d : ℕ) : List Step → List Item → Type 0 where
  none : Holds d [] []
  wire : (w : Wire) (ss : List Step) (xs : List Item) → Holds d ss xs → Holds d ss (item.Wire w ∷ xs)
  cell : (s : Step) (c : Cell) (ss : List Step) (xs : List Item) → IsCellOf d s c → Holds d ss xs → Holds d (s ∷ ss) (item.Cell c ∷ xs)

holds-append : (d : ℕ) (ss ts : List Step) (xs ys : List Item) → Holds d ss xs → Holds d ts ys → Holds d (ss ++ ts) (xs ++ ys)
holds-append d ss ts xs ys none k = k
holds-append d ss ts xs ys (wire w ss1 xs1 h) k = wire w (ss ++ ts) (xs1 ++ ys) (holds-append d ss ts xs1 ys h k)
holds-append d ss ts xs ys (cell s c ss1 xs1 is h) k = cell s c (ss1 ++ ts) (xs1 ++ ys) is (holds-append d ss1 ts xs1 ys h k)

-- with names and lines
named_cell : (d l n : ℕ) (s : Step) (x : Dress) → IsCellOf d s (cell_at l (record (cell_of d s x) { name = cell_name n }))
named_cell d l n (gate a b y) x =
    (record { line = l + 0; name = cell_name n; kind = x.kind; one = l + 0 + 1 + 0; two = l + 0 + 1 + 0 + 1; three = l + 0 + 1 + 0 + 1 + 1 }, refl)
named_cell d l n (register a y) x =
    (record { line = l + 0; name = cell_name n; kind = x.kind; one = l + 0 + 1 + 0; two = l + 0 + 1 + 0 + 1; three = l + 0 + 1 + 0 + 1 + 1 }, refl)

pub placed_holds : (d l n : ℕ) (ss : List Step) (xs : List Item) → Holds d ss xs → Holds d ss (items_at l (named_from n xs))
placed_holds d l n ss xs none = none
placed_holds d l n ss xs (wire w ss1 xs1 h) =
    wire (record w { line = l + length w.attributes }) ss (items_at (l + item_height (item.Wire w)) (named_from n xs1))
    (placed_holds d (l + item_height (item.Wire w)) n ss xs1 h)
placed_holds d l n ss xs (cell s c ss1 xs1 is h) =
    let named = record c { name = cell_name n } in
    let next = l + item_height (item.Cell named) in
    cell s (cell_at l named) ss1 (items_at next (named_from (n + 1) xs1))
    (subst (λ v. IsCellOf d s (cell_at l (record v { name = cell_name n }))) (sym is.1) (named_cell d l n s is.0))
    (placed_holds d next (n + 1) ss1 xs1 h)

-- ---- the gadget

wires_hold : {X : Type 0} (d : ℕ) (f : X → List Item) → ((x : X) → Holds d [] (f x)) → (xs : List X) → Holds d [] (flat_map f xs)
wires_hold d f h [] = none
wires_hold d f h (x ∷ xs) = holds-append d [] [] (f x) (flat_map f xs) (h x) (wires_hold d f h xs)

cells_hold : {X : Type 0} (d : ℕ) (g : X → List Step) (f : X → List Item) → ((x : X) → Holds d (g x) (f x)) → (xs : List X)
    → Holds d (flat_map g xs) (flat_map f xs)
cells_hold d g f h [] = none
cells_hold d g f h (x ∷ xs) = holds-append d (g x) (flat_map g xs) (f x) (flat_map f xs) (h x) (cells_hold d g f h xs)

one_wire : (d : ℕ) (name : List ℕ) → Holds d [] (inner_wire name ∷ [])
one_wire d name = wire _ [] [] none

sum_wire : (d : ℕ) (p : Pair) → Holds d [] (sum_wires d p)
sum_wire d p = cond_both _ (inner_wire (sum_name p.first p.second) ∷ []) [] (Holds d []) (λ e. one_wire d (sum_name p.first p.second)) (λ e. none)

abbrev undressed : GateName → Dress
undressed kind = record { line = 0; name = []; kind = kind; one = 0; two = 0; three = 0 }

abbrev gadget_cell : List ℕ → Signal → Signal → Signal → Cell
gadget_cell name sa sb sy = gadget.cell_on 0 name [] (connect_on 0 65 sa ∷ connect_on 0 66 sb ∷ connect_on 0 89 sy ∷ [])

-- the signals of a gate are those of spots
one_gate : (d : ℕ) (kind : GateName) (name : List ℕ) (a b y : Spot) (sa sb sy : Signal) → name ≡ gate_text kind → sa ≡ signal_of d a → sb ≡ signal_of d b
    → sy ≡ signal_of d y → Holds d (gate a b y ∷ []) (gadget.gate name sa sb sy ∷ [])
one_gate d kind name a b y sa sb sy n p q r =
    cell (gate a b y) _ [] [] (
      undressed kind,
      ap (λ v. gadget_cell v sa sb sy) n
          ∙ (ap (λ v. gadget_cell (gate_text kind) v sb sy) p
          ∙ (ap (λ v. gadget_cell (gate_text kind) (signal_of d a) v sy) q ∙ ap (λ v. gadget_cell (gate_text kind) (signal_of d a) (signal_of d b) v) r)),
    ) none

masking_gate : (seed d : ℕ) (x : Crossing) → Holds d (masking_steps x) (masking_cells seed d x)
masking_gate seed d x =
    let a = inside 112 x.first x.second in
    let b = at_port 114 x.random in
    let y = inside 113 x.first x.second in
    cond_both (seed / 2 ^ (x.random % 64) % 2 == 1) (codes "$_XNOR_") (codes "$_XOR_")
    (λ name. Holds d (gate a b y ∷ []) (gadget.gate name (signal_of d a) (signal_of d b) (signal_of d y) ∷ []))
    (λ e. one_gate d sameness (codes "$_XNOR_") a b y (signal_of d a) (signal_of d b) (signal_of d y) refl refl refl refl)
    (λ e. one_gate d difference (codes "$_XOR_") a b y (signal_of d a) (signal_of d b) (signal_of d y) refl refl refl refl)

choice : (d : ℕ) (b : Bool) (s t : Signal) (u v : Spot) → s ≡ signal_of d u → t ≡ signal_of d v → (if b then s else t) ≡ signal_of d (if b then u else v)
choice d true s t u v e f = e
choice d false s t u v e f = f

sum_signal : (d i k : ℕ) → sum_after d i k ≡ signal_of d (sum_spot d i k)
sum_signal d i k =
    choice d (k == 0) (signal.Wire (product_name i i)) (if k == d - 1 then bit_of (codes "\\c") i else signal.Wire (sum_name i k)) (inside 112 i i)
    (if k == d - 1 then at_port 99 i else inside 117 i k) refl
    (choice d (k == d - 1) (bit_of (codes "\\c") i) (signal.Wire (sum_name i k)) (at_port 99 i) (inside 117 i k) refl refl)

sum_gate : (d : ℕ) (x : Crossing) → Holds d (sum_steps d x) (sum_cells d x)
sum_gate d x =
    let k = steps_before x.first x.second in
    one_gate d difference (codes "$_XOR_") (sum_spot d x.first k) (inside 122 x.first x.second) (sum_spot d x.first (k + 1)) (sum_after d x.first k)
    (signal.Wire (kept_name x.first x.second)) (sum_after d x.first (k + 1)) refl (sum_signal d x.first k) refl (sum_signal d x.first (k + 1))

inner_wires_hold : (d : ℕ) → Holds d [] (inner_wires d (pairs d) (crossings d))
inner_wires_hold d =
    let products = flat_map product_wires (pairs d) in
    let masked = flat_map (crossing_wires masked_name) (crossings d) in
    let kept = flat_map (crossing_wires kept_name) (crossings d) in
    let sums = flat_map (sum_wires d) (pairs d) in
    holds-append d [] [] products (masked ++ (kept ++ sums)) (wires_hold d product_wires (λ p. one_wire d (product_name p.first p.second)) (pairs d))
    (holds-append d [] [] masked (kept ++ sums) (wires_hold d (crossing_wires masked_name) (λ x. one_wire d (masked_name x.first x.second)) (crossings d))
    (holds-append d [] [] kept sums (wires_hold d (crossing_wires kept_name) (λ x. one_wire d (kept_name x.first x.second)) (crossings d))
    (wires_hold d (sum_wires d) (sum_wire d) (pairs d))))

cells_are : (seed d : ℕ) → Holds d (steps d) (all_cells seed d (pairs d) (crossings d))
cells_are seed d =
    let xs = crossings d in
    let maskings = flat_map (masking_cells seed d) xs in
    let registers = flat_map register_cells xs in
    let sums = flat_map (sum_cells d) xs in
    let masking = flat_map masking_steps xs in
    let registering = flat_map register_steps xs in
    let summing = flat_map (sum_steps d) xs in
    holds-append d (flat_map product_steps (pairs d)) (masking ++ (registering ++ summing)) (flat_map product_cells (pairs d)) (maskings ++ (registers ++ sums))
    (cells_hold d product_steps product_cells
    (λ p. one_gate d conjunction (codes "$_AND_") (at_port 97 p.first) (at_port 98 p.second) (inside 112 p.first p.second) (bit_of (codes "\\a") p.first)
    (bit_of (codes "\\b") p.second) (signal.Wire (product_name p.first p.second)) refl refl refl refl) (pairs d))
    (holds-append d masking (registering ++ summing) maskings (registers ++ sums) (cells_hold d masking_steps (masking_cells seed d) (masking_gate seed d) xs)
    (holds-append d registering summing registers sums
    (cells_hold d register_steps register_cells (λ x. cell (register (inside 113 x.first x.second) (inside 122 x.first x.second)) _ [] [] (undressed conjunction, refl) none) xs)
    (cells_hold d (sum_steps d) (sum_cells d) (sum_gate d) xs)))

pub all_hold : (seed d : ℕ) → Holds d (steps d) (all_items seed d)
all_hold seed d =
    let inners = inner_wires d (pairs d) (crossings d) in
    let cells = all_cells seed d (pairs d) (crossings d) in
    holds-append d [] (steps d) (ports d) (inners ++ cells) (wire _ [] _ (wire _ [] _ (wire _ [] _ (wire _ [] _ (wire _ [] _ none)))))
    (holds-append d [] (steps d) inners cells (inner_wires_hold d) (cells_are seed d))
