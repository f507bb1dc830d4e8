-- The bits of signals, and those that are driven and read, are bits of the wires.
use Rattle.std.proofs.Common.{◌≡◌, ℕ, zero, suc, ◌+◌, ◌<◌, ◌≤◌, Bool, true, false, ◌&&◌, nat_le, nat_lt, cond, List, [], ◌∷◌, ◌++◌, length, drop, map, filter, Option, Some, None, ⊎_elim, sym, subst, arith}
use Rattle.std.specs.List.{All, find, zip, flat_map, list_any}
use Rattle.std.specs.Str.{bytes_eq}
use Rattle.std.specs.Option.{IfSome}
use Rattle.std.proofs.lemmas.Bool.{cond_both, and_parts, or_cases, ltb-true}
use Rattle.std.proofs.lemmas.List.Elements.{All-from_recursion, recursion_from_All}
use Rattle.std.proofs.lemmas.List.Sums.{sum_by-cons}
use Rattle.cell_kinds.specs.Names.{kind_named}
use Rattle.circuit_types.specs.Bits.{numbers, value_bit, value_width, constant_bit, written_bit, missing_bit, number_bit}
use Rattle.circuit_types.specs.Items.{wires, is_kept, kept_cells, numbered, net_wires, bit_count, wire_named}
use Rattle.circuit_types.specs.Signals.{signal_bits, bits_step, joined_from_last, slice_width, wire_bits}
use Rattle.circuit_types.specs.Drives.{Drive, by_cell, by_bit, output_connect, connect_drives, cell_drives, drives_from, drives, is_input, is_input_bit}
use Rattle.circuit_types.specs.Drives as drives
use Rattle.circuit_types.specs.Reads.{Read, connect_reads, letters, cell_reads, wire_reads, is_output, reads}
use Rattle.circuit_types.specs.declared.signal.Signal.{Signal}
use Rattle.circuit_types.specs.declared.signal.Signal.TheOpen.{Signal-F}
use Rattle.circuit_types.specs.declared.signal.Signal.{roll-Signal, map-Signal}
use Rattle.circuit_types.specs.declared.signal.Signal.TheFolds.{ind-Signal}
use Rattle.circuit_types.specs.declared.signal.Value.{Value}
use Rattle.circuit_types.specs.declared.signal.Value.TheVariants as value
use Rattle.circuit_types.specs.declared.signal.BitValue.{BitValue}
use Rattle.circuit_types.specs.declared.signal.BitValue.TheVariants as written
use Rattle.circuit_types.specs.declared.nets.NetWire.{NetWire}
use Rattle.circuit_types.specs.declared.nets.SignalBit.{SignalBit}
use Rattle.circuit_types.specs.declared.nets.SignalBit.TheVariants.{Net, Zero, One}
use Rattle.circuit_types.specs.declared.tree.Cell.{Cell}
use Rattle.circuit_types.specs.declared.tree.PortConnect.{PortConnect}
use Rattle.circuit_types.specs.declared.tree.Item.{Item}
use Rattle.circuit_types.specs.declared.tree.Item.TheVariants as item
use Rattle.circuit_types.specs.declared.tree.Wire.{Wire}
use Rattle.net_build.specs.Drivers.{IsWithin, joined, tied, has_input}
use Rattle.net_build.specs.Good.{AreWithin}
use Rattle.net_build.proofs.EachLemmas.{Each, each-append, each_take, each_drop, each_map, each_any, each_flat, each_found, each_filter}
use Rattle.net_build.proofs.BitLemmas.{bits_rolled}

-- constants
written_within : (n : ℕ) (b : BitValue) → IsWithin n (written_bit b)
written_within n written.Zero = tt
written_within n written.One = tt
written_within n written.X = tt
written_within n written.Z = tt
written_within n written.M = tt
written_within n written.Dash = tt

missing_within : (n : ℕ) (bs : List BitValue) → IsWithin n (missing_bit bs)
missing_within n [] = tt
missing_within n (written.Zero ∷ bs) = tt
missing_within n (written.One ∷ bs) = tt
missing_within n (written.X ∷ bs) = tt
missing_within n (written.Z ∷ bs) = tt
missing_within n (written.M ∷ bs) = tt
missing_within n (written.Dash ∷ bs) = tt

constant_within : (n : ℕ) (bs : List BitValue) (place : ℕ) → IsWithin n (constant_bit bs place)
unfolding constant_bit
constant_within n bs place =
    cond_both _ (written_bit _) (missing_bit bs) (λ b. IsWithin n b) (λ e. written_within n _) (λ e. missing_within n bs)

number_within : (n number place : ℕ) → IsWithin n (number_bit number place)
unfolding number_bit
number_within n number place = cond_both _ One Zero (λ b. IsWithin n b) (λ e. tt) (λ e. tt)

value_within : (n : ℕ) (v : Value) (place : ℕ) → IsWithin n (value_bit v place)
value_within n (value.Bits b) place = constant_within n b.written place
value_within n (value.Number k) place = number_within n _ place
value_within n (value.Text text) place = number_within n _ _

numbers_within : (n a count : ℕ) → a + count ≤ n → Each (IsWithin n) (map (λ k. Net k) (numbers a count))
numbers_within n a zero h = tt
numbers_within n a (suc count) h = ((let z : a < n = omega (arith, h) in z), numbers_within n (a + 1) count (omega (arith, h)))

-- a wire
option_within : (n : ℕ) (o : Option NetWire) → IfSome o (λ w. w.first + w.width ≤ n) → Each (IsWithin n) (wire_bits o)
option_within n None h = tt
option_within n (Some w) h = numbers_within n w.first w.width h

named_within : (n : ℕ) (ws : List NetWire) (name : List ℕ) → Each (λ w. w.first + w.width ≤ n) ws → Each (IsWithin n) (wire_bits (wire_named ws name))
unfolding wire_named
named_within n ws name h =
    option_within n (find (λ w. bytes_eq w.name name) ws) (each_found (λ (w : NetWire). w.first + w.width ≤ n) (λ w. bytes_eq w.name name) ws h)

joined_within : (n : ℕ) {E : Type 0} (p : E → List SignalBit) → ((e : E) → Each (IsWithin n) (p e)) → (es : List E) → Each (IsWithin n) (joined_from_last (map p es))
joined_within n p h [] = tt
joined_within n p h (e ∷ es) = each-append (IsWithin n) (joined_from_last (map p es)) (p e) (joined_within n p h es) (h e)

abbrev HasWithin : ℕ → List NetWire → Signal → Type 0
HasWithin n ws s = Each (IsWithin n) (signal_bits ws s)

step_within : (n : ℕ) (ws : List NetWire) → Each (λ w. w.first + w.width ≤ n) ws → {E : Type 0} (p : E → Signal) → ((e : E) → HasWithin n ws (p e)) → (y : Signal-F E)
    → Each (IsWithin n) (bits_step ws (map-Signal E (List SignalBit) (λ e. signal_bits ws (p e)) y))
step_within n ws h p each (Signal-F.Value v) = each_map (IsWithin n) (value_bit v) (numbers 0 (value_width v)) (each_any (λ k. IsWithin n (value_bit v k)) (value_within n v) (numbers 0 (value_width v)))
step_within n ws h p each (Signal-F.Wire name) = named_within n ws name h
step_within n ws h p each (Signal-F.Slice of high low) =
    each_take (IsWithin n) (slice_width high low) (drop low (signal_bits ws (p of))) (each_drop (IsWithin n) low (signal_bits ws (p of)) (each of))
step_within n ws h p each (Signal-F.Join es) = joined_within n (λ e. signal_bits ws (p e)) each es

rolled_within : (n : ℕ) (ws : List NetWire) → Each (λ w. w.first + w.width ≤ n) ws → {E : Type 0} (p : E → Signal) → ((e : E) → HasWithin n ws (p e)) → (y : Signal-F E)
    → HasWithin n ws (roll-Signal (map-Signal E Signal p y))
rolled_within n ws h p each y = subst (λ bs. Each (IsWithin n) bs) (sym (bits_rolled ws p y)) (step_within n ws h p each y)

-- the bits of any signal
pub bits_within : (n : ℕ) (ws : List NetWire) → Each (λ w. w.first + w.width ≤ n) ws → (s : Signal) → Each (IsWithin n) (signal_bits ws s)
bits_within n ws h s =
    ind-Signal (HasWithin n ws) (λ x y e. subst (λ z. HasWithin n ws (roll-Signal z)) e (rolled_within n ws h (λ v. v.0) (λ v. v.1) y)) s

abbrev pub EachWithin : List NetWire → Type 0
EachWithin ws = Each (λ w. w.first + w.width ≤ bit_count ws) ws

pub each_within : (ws : List NetWire) → AreWithin ws → EachWithin ws
each_within ws h = recursion_from_All (λ (w : NetWire). w.first + w.width ≤ bit_count ws) ws h

-- what bits_of gives
pub bits_all_within : (ws : List NetWire) (s : Signal) (bits : List SignalBit) (n : ℕ) → AreWithin ws → bits ≡ signal_bits ws s → n ≡ bit_count ws → All (IsWithin n) bits
bits_all_within ws s bits n h e p =
    subst (λ m. All (IsWithin m) bits) (sym p)
    (subst (λ bs. All (IsWithin (bit_count ws)) bs) (sym e)
    (All-from_recursion (IsWithin (bit_count ws)) (signal_bits ws s) (bits_within (bit_count ws) ws (each_within ws h) s)))

-- wires that are numbered one after another
numbered_within : (first : ℕ) (vs : List Wire) (n : ℕ) → first + bit_count (numbered first vs) ≤ n → Each (λ w. w.first + w.width ≤ n) (numbered first vs)
numbered_within first [] n h = tt
numbered_within first (v ∷ vs) n h =
    let w : NetWire = record { line = v.line; name = v.name; first = first; width = v.width; port = v.port } in
    let c = sum_by-cons (λ (x : NetWire). x.width) w (numbered (first + v.width) vs) in
    ((let z : first + v.width ≤ n = omega (arith, c, h) in z), numbered_within (first + v.width) vs n (omega (arith, c, h)))

pub wires_within : (ws : List NetWire) (items : List Item) → ws ≡ net_wires items → AreWithin ws
wires_within ws items e =
    subst AreWithin (sym e)
    (All-from_recursion (λ (w : NetWire). w.first + w.width ≤ bit_count (net_wires items)) (net_wires items)
    (numbered_within 0 (wires items) (bit_count (net_wires items)) (omega arith)))

-- drives
abbrev pub IsDriverWithin : ℕ → ℕ → drives.Driver → Type 0
IsDriverWithin n m (by_cell c) = c < m
IsDriverWithin n m (by_bit b) = IsWithin n b

pub record IsDriveWithin (n m : ℕ) (d : Drive) : Type 0 where
  pub target : IsWithin n d.target
  pub driver : IsDriverWithin n m d.driver

joined_bits_within : (n m line : ℕ) (ls rs : List SignalBit) → Each (IsWithin n) ls → Each (IsWithin n) rs → Each (IsDriveWithin n m) (map (joined line) (zip ls rs))
joined_bits_within n m line [] rs h k = tt
joined_bits_within n m line (l ∷ ls) [] h k = tt
joined_bits_within n m line (l ∷ ls) (r ∷ rs) h k = (record { target = h.0; driver = k.0 }, joined_bits_within n m line ls rs h.1 k.1)

tied_bits_within : (n m line number : ℕ) (bs : List SignalBit) → number < m → Each (IsWithin n) bs → Each (IsDriveWithin n m) (map (tied line number) bs)
tied_bits_within n m line number [] f h = tt
tied_bits_within n m line number (b ∷ bs) f h = (record { target = h.0; driver = f }, tied_bits_within n m line number bs f h.1)

port_within : (ws : List NetWire) (n m number : ℕ) (o : Option PortConnect) → Each (λ w. w.first + w.width ≤ n) ws → number < m → Each (IsDriveWithin n m) (connect_drives ws number o)
port_within ws n m number None h f = tt
port_within ws n m number (Some p) h f = tied_bits_within n m p.line number (signal_bits ws p.signal) f (bits_within n ws h p.signal)

cell_within : (ws : List NetWire) (n m number : ℕ) (c : Cell) → Each (λ w. w.first + w.width ≤ n) ws → number < m → Each (IsDriveWithin n m) (cell_drives ws number c)
unfolding cell_drives
cell_within ws n m number c h f = port_within ws n m number (output_connect c (kind_named c.kind)) h f

kept_case : (n m number : ℕ) (b : Bool) (c : Cell) (ks : List Cell) (zs xs ys : List Drive) → number + length (cond b (c ∷ ks) ks) ≤ m
    → (number + 1 + length ks ≤ m → Each (IsDriveWithin n m) xs) → (number + length ks ≤ m → Each (IsDriveWithin n m) ys) → (number < m → Each (IsDriveWithin n m) zs)
    → Each (IsDriveWithin n m) (cond b (zs ++ xs) ys)
kept_case n m number true c ks zs xs ys few one two three =
    each-append (IsDriveWithin n m) zs xs (three (omega (arith, few))) (one (omega (arith, few)))
kept_case n m number false c ks zs xs ys few one two three = two few

pub items_within : (ws : List NetWire) (n m : ℕ) → Each (λ w. w.first + w.width ≤ n) ws → (number : ℕ) (items : List Item) → number + length (kept_cells items) ≤ m
    → Each (IsDriveWithin n m) (drives_from ws number items)
items_within ws n m h number [] few = tt
items_within ws n m h number (item.Cell c ∷ items) few =
    kept_case n m number (is_kept c) c (kept_cells items) (cell_drives ws number c) (drives_from ws (number + 1) items) (drives_from ws number items) few
    (items_within ws n m h (number + 1) items) (items_within ws n m h number items) (cell_within ws n m number c h)
items_within ws n m h number (item.Connect c ∷ items) few =
    each-append (IsDriveWithin n m) (map (joined c.line) (zip (signal_bits ws c.left) (signal_bits ws c.right))) (drives_from ws number items)
    (joined_bits_within n m c.line (signal_bits ws c.left) (signal_bits ws c.right) (bits_within n ws h c.left) (bits_within n ws h c.right))
    (items_within ws n m h number items few)
items_within ws n m h number (item.Wire w ∷ items) few = items_within ws n m h number items few
items_within ws n m h number (item.Parameter p ∷ items) few = items_within ws n m h number items few

pub drives_within : (ws : List NetWire) (items : List Item) → EachWithin ws → Each (IsDriveWithin (bit_count ws) (length (kept_cells items))) (drives ws items)
unfolding drives
drives_within ws items h = items_within ws (bit_count ws) (length (kept_cells items)) h 0 items (omega arith)

-- reads
connect_reads_within : (ws : List NetWire) (n : ℕ) (o : Option PortConnect) → Each (λ w. w.first + w.width ≤ n) ws → Each (λ r. IsWithin n r.bit) (connect_reads ws o)
connect_reads_within ws n None h = tt
connect_reads_within ws n (Some p) h =
    each_map (λ (r : Read). IsWithin n r.bit) (λ b. record { line = p.line; bit = b }) (signal_bits ws p.signal) (bits_within n ws h p.signal)

cell_reads_within : (ws : List NetWire) (n : ℕ) (c : Cell) → Each (λ w. w.first + w.width ≤ n) ws → Each (λ r. IsWithin n r.bit) (cell_reads ws c)
unfolding cell_reads
cell_reads_within ws n c h =
    each_flat (λ (r : Read). IsWithin n r.bit) (λ letter. connect_reads ws (drives.connect_of c letter)) (letters (kind_named c.kind))
    (λ letter. connect_reads_within ws n (drives.connect_of c letter) h)

wire_reads_within : (n : ℕ) (w : NetWire) (a count : ℕ) → a + count ≤ n → Each (λ r. IsWithin n r.bit) (map (λ k. let r : Read = record { line = w.line; bit = Net k } in r) (numbers a count))
wire_reads_within n w a zero h = tt
wire_reads_within n w a (suc count) h = ((let z : a < n = omega (arith, h) in z), wire_reads_within n w (a + 1) count (omega (arith, h)))

outputs_within : (n : ℕ) (ws : List NetWire) → Each (λ w. w.first + w.width ≤ n) ws → Each (λ r. IsWithin n r.bit) (flat_map wire_reads ws)
outputs_within n [] h = tt
outputs_within n (w ∷ ws) h =
    each-append (λ (r : Read). IsWithin n r.bit) (wire_reads w) (flat_map wire_reads ws) (wire_reads_within n w w.first w.width h.0) (outputs_within n ws h.1)

pub reads_within : (ws : List NetWire) (items : List Item) → EachWithin ws → Each (λ r. IsWithin (bit_count ws) r.bit) (reads ws items)
unfolding reads
reads_within ws items h =
    each-append (λ (r : Read). IsWithin (bit_count ws) r.bit) _ _
    (each_flat (λ (r : Read). IsWithin (bit_count ws) r.bit) (cell_reads ws) (kept_cells items) (λ c. cell_reads_within ws (bit_count ws) c h))
    (outputs_within (bit_count ws) (filter (λ w. is_output w.port) ws) (each_filter (λ (w : NetWire). w.first + w.width ≤ bit_count ws) (λ w. is_output w.port) ws h))

-- an input's bit
pub input_bit_within : (n : ℕ) (ws : List NetWire) (k : ℕ) → Each (λ w. w.first + w.width ≤ n) ws → is_input_bit ws k ≡ true → k < n
unfolding is_input_bit
input_bit_within n [] k h e = absurd (let z : false ≡ true = e in cc)
input_bit_within n (w ∷ ws) k h e =
    ⊎_elim
    (λ a. let p = and_parts (nat_le w.first k) (nat_lt k (w.first + w.width)) (and_parts (is_input w.port) (nat_le w.first k && nat_lt k (w.first + w.width)) a).1 in
    omega (arith, ltb-true k (w.first + w.width) p.1, h.0))
    (λ a. input_bit_within n ws k h.1 a)
    (or_cases (has_input k w) (list_any (has_input k) ws) e)
