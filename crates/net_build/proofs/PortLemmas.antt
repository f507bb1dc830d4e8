-- Cells and the bits on their ports, one after another.
use Rattle.std.proofs.Common.{◌≡◌, ℕ, zero, suc, ◌+◌, ◌-◌, ◌<◌, ◌≤◌, Bool, true, false, cond, List, [], ◌∷◌, ◌++◌, length, take, drop, map, get_or, Option, Some, None, refl, sym, ap, ◌∙◌, subst, append_assoc, length-append, arith}
use Rattle.std.specs.Prelude.{slice_range, slice_get}
use Rattle.std.specs.List.{All, AllZip, flat_map}
use Rattle.std.specs.Borrow.{Bor}
use Rattle.std.specs.Option.{option_copied}
use Rattle.std.proofs.lemmas.List.{append-nil, map-append, take_more, take_all, take-append-le, drop-append-le, length-drop, drop_more, drop-drop}
use Rattle.std.proofs.lemmas.List.Elements.{All-from_recursion}
use Rattle.std.proofs.lemmas.Option.{same_Some}
use Rattle.std.proofs.Math.Seq.{drop-append_seam}
use Rattle.cell_kinds.specs.Names.{kind_named}
use Rattle.cell_kinds.specs.declared.kind.CellKind.{CellKind}
use Rattle.circuit_types.specs.Items.{is_kept, kept_cells, bit_count}
use Rattle.circuit_types.specs.Signals.{signal_bits}
use Rattle.circuit_types.specs.Drives.{connect_of, output_connect, connect_drives, cell_drives}
use Rattle.circuit_types.specs.Nets.{end_in, pin_of, first_net, output_net}
use Rattle.circuit_types.specs.Reads.{Read, letters, connect_reads, cell_reads}
use Rattle.circuit_types.specs.declared.nets.NetWire.{NetWire}
use Rattle.circuit_types.specs.declared.nets.Pin.{Pin}
use Rattle.circuit_types.specs.declared.nets.SignalBit.{SignalBit}
use Rattle.circuit_types.specs.declared.nets.Source.{Source}
use Rattle.circuit_types.specs.declared.tree.Cell.{Cell}
use Rattle.circuit_types.specs.declared.tree.Item.{Item}
use Rattle.circuit_types.specs.declared.tree.Item.TheVariants as item
use Rattle.circuit_types.specs.declared.tree.PortConnect.{PortConnect}
use Rattle.net_build.specs.Drivers.{IsWithin, tied}
use Rattle.net_build.specs.Good.{AreWithin}
use Rattle.net_build.specs.Ports.{port_bit, pin_at, output_line, output_bits, IsRunOf, IsPortCell, KnowsCells, KnowsNext, KnowsPorts}
use Rattle.net_build.specs.declared.ports.PortBit.{PortBit}
use Rattle.net_build.specs.declared.ports.PortCell.{PortCell}
use Rattle.net_build.specs.declared.ports.Ports.{Ports}
use Rattle.net_build.specs.declared.ports.Run.{Run}
use Rattle.net_build.proofs.FaultLemmas.{kept-append}
use Rattle.net_build.proofs.ReadLemmas.{flat_more}
use Rattle.net_build.proofs.WithinLemmas.{bits_all_within}

-- ---- runs

slice_grown : {X : Type 0} (xs ys : List X) (i j : ℕ) → i ≤ j → j ≤ length xs → slice_range (xs ++ ys) i j ≡ slice_range xs i j
slice_grown xs ys i j h k =
    let size = length-drop i xs in
    ap (take (j - i)) (drop-append-le i xs ys (omega arith)) ∙ take-append-le (j - i) (drop i xs) ys (omega (arith, size))

-- a run stays when the list grows
run_grown : {X : Type 0} (xs ys : List X) (r : Run) (es : List X) → IsRunOf xs r es → IsRunOf (xs ++ ys) r es
run_grown xs ys r es h = record {
  order = h.order;
  within = let w = h.within in let size = length-append xs ys in omega (arith, w, size);
  are = slice_grown xs ys r.first r.end h.order h.within ∙ h.are;
}

-- the last part of a list
last_run : {X : Type 0} (xs ys : List X) → IsRunOf (xs ++ ys) (record { first = length xs; end = length (xs ++ ys) }) ys
last_run xs ys = let size = length-append xs ys in record {
  order = omega (arith, size);
  within = omega arith;
  are = ap (take (length (xs ++ ys) - length xs)) (drop-append_seam xs ys) ∙ take_all (length (xs ++ ys) - length xs) ys (omega (arith, size));
}

pub run_is : {X : Type 0} (items list : List X) (r : Run) (es result : List X) → IsRunOf items r es → list ≡ items
    → (r.first ≤ r.end → r.end ≤ length list → result ≡ slice_range list r.first r.end) → result ≡ es
run_is items list r es result h e f =
    subst (λ v. (r.first ≤ r.end → r.end ≤ length v → result ≡ slice_range v r.first r.end) → result ≡ es) (sym e) (λ g. g h.order h.within ∙ h.are) f

abbrev run_from : ℕ → ℕ → Run
run_from i j = record { first = i; end = j }

pub run_same : (i j i' j' : ℕ) → i ≡ i' → j ≡ j' → run_from i j ≡ run_from i' j'
run_same i j i' j' p q = ap (λ k. run_from k j) p ∙ ap (run_from i') q

-- ---- cells

cell_grown : (ws : List NetWire) (c : Cell) (p : PortCell) (reads rs : List PortBit) (outs os : List SignalBit) → IsPortCell ws reads outs c p → IsPortCell ws (reads ++ rs) (outs ++ os) c p
cell_grown ws c p reads rs outs os h = record {
  line = h.line;
  kind = h.kind;
  inputs = run_grown reads rs p.inputs (map port_bit (cell_reads ws c)) h.inputs;
  at_line = h.at_line;
  output = run_grown outs os p.output (output_bits ws (output_connect c (kind_named c.kind))) h.output;
}

cells_grown : (ws : List NetWire) (cs : List Cell) (ps : List PortCell) (reads rs : List PortBit) (outs os : List SignalBit) → AllZip (IsPortCell ws reads outs) cs ps
    → AllZip (IsPortCell ws (reads ++ rs) (outs ++ os)) cs ps
cells_grown ws [] [] reads rs outs os h = tt
cells_grown ws [] (p ∷ ps) reads rs outs os h = h
cells_grown ws (c ∷ cs) [] reads rs outs os h = h
cells_grown ws (c ∷ cs) (p ∷ ps) reads rs outs os h = (cell_grown ws c p reads rs outs os h.0, cells_grown ws cs ps reads rs outs os h.1)

zip_push : {X Y : Type 0} (R : X → Y → Type 0) (xs : List X) (ys : List Y) (x : X) (y : Y) → AllZip R xs ys → R x y → AllZip R (xs ++ x ∷ []) (ys ++ y ∷ [])
zip_push R [] [] x y h r = (r, tt)
zip_push R [] (b ∷ ys) x y h r = absurd h
zip_push R (a ∷ xs) [] x y h r = absurd h
zip_push R (a ∷ xs) (b ∷ ys) x y h r = (h.0, zip_push R xs ys x y h.1 r)

abbrev pub outputs_of : List NetWire → Cell → List SignalBit
outputs_of ws c = output_bits ws (output_connect c (kind_named c.kind))

-- one cell more
pub cell_known : (ws : List NetWire) (cs : List Cell) (c : Cell) (old new : Ports) (p : PortCell) → KnowsPorts ws cs old
    → new.reads.items ≡ old.reads.items ++ map port_bit (cell_reads ws c) → new.outputs.items ≡ old.outputs.items ++ outputs_of ws c → new.cells.items ≡ old.cells.items ++ p ∷ []
    → p.line ≡ c.line → p.kind ≡ kind_named c.kind → p.inputs ≡ record { first = length old.reads.items; end = length new.reads.items }
    → p.output_line ≡ output_line (output_connect c (kind_named c.kind)) → p.output ≡ record { first = length old.outputs.items; end = length new.outputs.items }
    → KnowsPorts ws (cs ++ c ∷ []) new
cell_known ws cs c old new p h reads outs cells line kind inputs at_line output =
    let rs = map port_bit (cell_reads ws c) in
    let os = outputs_of ws c in
    let R = IsPortCell ws (old.reads.items ++ rs) (old.outputs.items ++ os) in
    let run : ℕ → ℕ → Run = λ i j. record { first = i; end = j } in
    let ins : p.inputs ≡ run (length old.reads.items) (length (old.reads.items ++ rs)) = inputs ∙ ap (λ (v : List PortBit). run (length old.reads.items) (length v)) reads in
    let outs_run : p.output ≡ run (length old.outputs.items) (length (old.outputs.items ++ os)) = output ∙ ap (λ (v : List SignalBit). run (length old.outputs.items) (length v)) outs in
    let one : R c p = record {
      line = line;
      kind = kind;
      inputs = subst (λ v. IsRunOf (old.reads.items ++ rs) v rs) (sym ins) (last_run old.reads.items rs);
      at_line = at_line;
      output = subst (λ v. IsRunOf (old.outputs.items ++ os) v os) (sym outs_run) (last_run old.outputs.items os);
    } in
    let all = zip_push R cs old.cells.items c p (cells_grown ws cs old.cells.items old.reads.items rs old.outputs.items os h) one in
    subst (λ v. AllZip (IsPortCell ws new.reads.items new.outputs.items) (cs ++ c ∷ []) v) (sym cells)
    (subst (λ v. AllZip (IsPortCell ws v new.outputs.items) (cs ++ c ∷ []) (old.cells.items ++ p ∷ [])) (sym reads)
    (subst (λ v. AllZip (IsPortCell ws (old.reads.items ++ rs) v) (cs ++ c ∷ []) (old.cells.items ++ p ∷ [])) (sym outs) all))

kept_one : (c : Cell) (b : Bool) → b ≡ true → cond b (c ∷ []) [] ≡ c ∷ []
kept_one c true e = refl
kept_one c false e = cc

kept_none : (c : Cell) (b : Bool) → b ≡ false → cond b (c ∷ []) [] ≡ []
kept_none c true e = cc
kept_none c false e = refl

-- the kept cell of an item, if there is one
pub kept_cell : (x : Item) (c : Cell) → x ≡ item.Cell c → is_kept c ≡ true → kept_cells (x ∷ []) ≡ c ∷ []
kept_cell x c e k = ap (λ v. kept_cells (v ∷ [])) e ∙ kept_one c (is_kept c) k

pub dropped_cell : (x : Item) (c : Cell) → x ≡ item.Cell c → is_kept c ≡ false → kept_cells (x ∷ []) ≡ []
dropped_cell x c e k = ap (λ v. kept_cells (v ∷ [])) e ∙ kept_none c (is_kept c) k

pub no_kept_cell : (x : Item) → ((c : Cell) → x ≡ item.Cell c → ⊥) → kept_cells (x ∷ []) ≡ []
no_kept_cell (item.Cell c) n = absurd (n c refl)
no_kept_cell (item.Connect c) n = refl
no_kept_cell (item.Wire w) n = refl
no_kept_cell (item.Parameter p) n = refl

pub known_more : (ws : List NetWire) (cs xs ys : List Cell) (p : Ports) → xs ≡ ys → KnowsPorts ws (cs ++ xs) p → KnowsPorts ws (cs ++ ys) p
known_more ws cs xs ys p e h = subst (λ v. KnowsPorts ws (cs ++ v) p) e h

pub known_still : (ws : List NetWire) (cs xs : List Cell) (p : Ports) → xs ≡ [] → KnowsPorts ws cs p → KnowsPorts ws (cs ++ xs) p
known_still ws cs xs p e h = subst (λ v. KnowsPorts ws v p) (sym (ap (λ v. cs ++ v) e ∙ append-nil cs)) h

pub none_ported : (ws : List NetWire) (p : Ports) → p.cells.items ≡ [] → KnowsPorts ws [] p
none_ported ws p e = subst (λ v. AllZip (IsPortCell ws p.reads.items p.outputs.items) [] v) (sym e) tt

-- ---- the cells from a number on

pub next_is : (R : Cell → PortCell → Type 0) (c : Cell) (n : ℕ) (ps : List PortCell) (p : PortCell) → AllZip R (c ∷ []) (take 1 (drop n ps)) → slice_get ps n ≡ Some p → R c p
next_is R c zero [] p h e = absurd h
next_is R c zero (x ∷ xs) p h e = subst (R c) (same_Some x p e) h.0
next_is R c (suc n) [] p h e = absurd h
next_is R c (suc n) (x ∷ xs) p h e = next_is R c n xs p h e

pub next_there : (R : Cell → PortCell → Type 0) (c : Cell) (n : ℕ) (ps : List PortCell) → AllZip R (c ∷ []) (take 1 (drop n ps)) → slice_get ps n ≡ None → ⊥
next_there R c zero [] h e = h
next_there R c zero (x ∷ xs) h e = absurd cc
next_there R c (suc n) [] h e = h
next_there R c (suc n) (x ∷ xs) h e = next_there R c n xs h e

zip_parts : {X Y : Type 0} (R : X → Y → Type 0) (xs zs : List X) (ys : List Y) → AllZip R (xs ++ zs) ys → AllZip R xs (take (length xs) ys) × AllZip R zs (drop (length xs) ys)
zip_parts R [] zs ys h = (tt, h)
zip_parts R (x ∷ xs) zs [] h = (h, absurd h)
zip_parts R (x ∷ xs) zs (y ∷ ys) h = let r = zip_parts R xs zs ys h.1 in ((h.0, r.0), r.1)

-- the cell of the next item, and those behind it
pub next_known : (ws : List NetWire) (items : List Item) (i : ℕ) (x : Item) (n : ℕ) (p : Ports) → i < length items → x ≡ get_or items i x → KnowsCells ws (kept_cells (drop i items)) (drop n p.cells.items) p
    → KnowsNext ws (kept_cells (x ∷ [])) n p × KnowsCells ws (kept_cells (drop (i + 1) items)) (drop (n + length (kept_cells (x ∷ []))) p.cells.items) p
next_known ws items i x n p lt e h =
    let R = IsPortCell ws p.reads.items p.outputs.items in
    let whole : kept_cells (drop i items) ≡ kept_cells (x ∷ []) ++ kept_cells (drop (i + 1) items)
    = ap kept_cells (drop_more items i x lt ∙ ap (λ v. v ∷ drop (i + 1) items) (sym e)) ∙ kept-append (x ∷ []) (drop (i + 1) items) in
    let r = zip_parts R (kept_cells (x ∷ [])) (kept_cells (drop (i + 1) items)) (drop n p.cells.items) (subst (λ v. AllZip R v (drop n p.cells.items)) whole h) in
    (r.0, subst (AllZip R (kept_cells (drop (i + 1) items))) (drop-drop (length (kept_cells (x ∷ []))) n p.cells.items) r.1)

-- ---- what an output drives

pub output_within : (ws : List NetWire) (o : Option PortConnect) (bits : List SignalBit) (n : ℕ) → AreWithin ws → bits ≡ output_bits ws o → n ≡ bit_count ws → All (IsWithin n) bits
output_within ws None bits n h e q = subst (All (IsWithin n)) (sym e) (All-from_recursion (IsWithin n) [] tt)
output_within ws (Some p) bits n h e q = bits_all_within ws p.signal bits n h e q

drives_of : (ws : List NetWire) (n line : ℕ) (o : Option PortConnect) → line ≡ output_line o → map (tied line n) (output_bits ws o) ≡ connect_drives ws n o
drives_of ws n line None e = refl
drives_of ws n line (Some p) e = ap (λ l. map (tied l n) (signal_bits ws p.signal)) e

pub cell_tied : (ws : List NetWire) (n line : ℕ) (c : Cell) (bits : List SignalBit) → line ≡ output_line (output_connect c (kind_named c.kind)) → bits ≡ outputs_of ws c
    → map (tied line n) bits ≡ cell_drives ws n c
unfolding cell_drives
cell_tied ws n line c bits e q = ap (map (tied line n)) q ∙ drives_of ws n line (output_connect c (kind_named c.kind)) e

pub output_of_cell : (ws : List NetWire) (o : Option PortConnect) → first_net (output_bits ws o) ≡ output_net ws o
output_of_cell ws None = refl
output_of_cell ws (Some p) = refl

-- ---- what the inputs of a cell read

-- what is read of these bits
abbrev pub read_bits : ℕ → List SignalBit → List PortBit
read_bits line bits = map port_bit (map (λ b. let r : Read = record { line = line; bit = b } in r) bits)

pub reads_pushed : (line : ℕ) (bits : List SignalBit) (i : ℕ) (b : SignalBit) (old now new : List PortBit) → i < length bits → b ≡ get_or bits i b
    → new ≡ now ++ record { line = line; bit = b } ∷ [] → now ≡ old ++ read_bits line (take i bits) → new ≡ old ++ read_bits line (take (i + 1) bits)
reads_pushed line bits i b old now new lt e p h =
    let read : SignalBit → Read = λ x. record { line = line; bit = x } in
    let last : PortBit = record { line = line; bit = b } in
    let more : read_bits line (take (i + 1) bits) ≡ read_bits line (take i bits) ++ last ∷ []
    = ap (read_bits line) (take_more bits i b lt ∙ ap (λ x. take i bits ++ x ∷ []) (sym e))
    ∙ (ap (map port_bit) (map-append read (take i bits) (b ∷ [])) ∙ map-append port_bit (map read (take i bits)) (read b ∷ [])) in
    p ∙ (ap (λ v. v ++ last ∷ []) h ∙ (append_assoc old (read_bits line (take i bits)) (last ∷ []) ∙ ap (λ v. old ++ v) (sym more)))

pub reads_done : (ws : List NetWire) (p : PortConnect) (room bits items : List SignalBit) (i : ℕ) (old new : List PortBit) → room ≡ [] → items ≡ bits → bits ≡ room ++ signal_bits ws p.signal → length items ≤ i
    → new ≡ old ++ read_bits p.line (take i items) → new ≡ old ++ map port_bit (connect_reads ws (Some p))
reads_done ws p room bits items i old new z e q h n =
    n ∙ ap (λ v. old ++ read_bits p.line v) (take_all i items h ∙ (e ∙ (q ∙ ap (λ v. v ++ signal_bits ws p.signal) z)))

pub none_read : (ws : List NetWire) (old : List PortBit) (r : Option (Bor PortConnect)) (o : Option PortConnect) → option_copied r ≡ o → r ≡ None → old ≡ old ++ map port_bit (connect_reads ws o)
none_read ws old r o e q = sym (ap (λ v. old ++ map port_bit (connect_reads ws v)) (sym e ∙ ap option_copied q) ∙ append-nil old)

pub one_read : (ws : List NetWire) (r : Option (Bor PortConnect)) (p : Bor PortConnect) (o : Option PortConnect) (old new : List PortBit) → option_copied r ≡ o → r ≡ Some p
    → new ≡ old ++ map port_bit (connect_reads ws (Some p.now)) → new ≡ old ++ map port_bit (connect_reads ws o)
one_read ws r p o old new e q h = h ∙ ap (λ v. old ++ map port_bit (connect_reads ws v)) (sym (ap option_copied q) ∙ e)

-- one port more
pub ports_more : (ws : List NetWire) (c : Cell) (ls : List ℕ) (i letter : ℕ) (old now new : List PortBit) → i < length ls → letter ≡ get_or ls i letter
    → now ≡ old ++ map port_bit (flat_map (λ x. connect_reads ws (connect_of c x)) (take i ls)) → new ≡ now ++ map port_bit (connect_reads ws (connect_of c letter))
    → new ≡ old ++ map port_bit (flat_map (λ x. connect_reads ws (connect_of c x)) (take (i + 1) ls))
ports_more ws c ls i letter old now new lt e h n =
    let f : ℕ → List Read = λ x. connect_reads ws (connect_of c x) in
    n ∙ (ap (λ v. v ++ map port_bit (f letter)) h
    ∙ (append_assoc old (map port_bit (flat_map f (take i ls))) (map port_bit (f letter))
    ∙ ap (λ v. old ++ v) (sym (map-append port_bit (flat_map f (take i ls)) (f letter)) ∙ ap (map port_bit) (sym (flat_more f ls i letter lt e)))))

pub all_read : (ws : List NetWire) (c : Cell) (kind : Option CellKind) (ls : List ℕ) (i : ℕ) (old new : List PortBit) → kind ≡ kind_named c.kind → ls ≡ letters kind → length ls ≤ i
    → new ≡ old ++ map port_bit (flat_map (λ x. connect_reads ws (connect_of c x)) (take i ls)) → new ≡ old ++ map port_bit (cell_reads ws c)
unfolding cell_reads
all_read ws c kind ls i old new k e h n =
    let f : ℕ → List Read = λ x. connect_reads ws (connect_of c x) in
    n ∙ ap (λ v. old ++ map port_bit (flat_map f v)) (take_all i ls h ∙ (e ∙ ap letters k))

pub none_out : (ws : List NetWire) (old : List SignalBit) (kind : Option CellKind) (c : Cell) (r : Option (Bor PortConnect)) → kind ≡ kind_named c.kind → option_copied r ≡ output_connect c kind → r ≡ None
    → (0 ≡ output_line (output_connect c (kind_named c.kind))) × (old ≡ old ++ outputs_of ws c)
none_out ws old kind c r k e q =
    let none : None ≡ output_connect c (kind_named c.kind) = sym (ap option_copied q) ∙ (e ∙ ap (output_connect c) k) in
    (ap output_line none, sym (append-nil old) ∙ ap (λ o. old ++ output_bits ws o) none)

pub one_out : (ws : List NetWire) (old new : List SignalBit) (kind : Option CellKind) (c : Cell) (r : Option (Bor PortConnect)) (p : Bor PortConnect) → kind ≡ kind_named c.kind
    → option_copied r ≡ output_connect c kind → r ≡ Some p → new ≡ old ++ signal_bits ws p.now.signal
    → (p.now.line ≡ output_line (output_connect c (kind_named c.kind))) × (new ≡ old ++ outputs_of ws c)
one_out ws old new kind c r p k e q h =
    let some : Some p.now ≡ output_connect c (kind_named c.kind) = sym (ap option_copied q) ∙ (e ∙ ap (output_connect c) k) in
    (ap output_line some, h ∙ ap (λ o. old ++ output_bits ws o) some)

-- ---- cells with what they read, by where bits end

pub pins_read : (sources : List Source) (rs : List Read) → map (pin_at sources) (map port_bit rs) ≡ map (pin_of sources) rs
pins_read sources [] = refl
pins_read sources (r ∷ rs) = ap (λ v. pin_of sources r ∷ v) (pins_read sources rs)

pub pin_pushed : (sources : List Source) (reads : List PortBit) (i : ℕ) (b : PortBit) (s : Source) (now new : List Pin) → i < length reads → b ≡ get_or reads i b → s ≡ end_in sources b.bit
    → new ≡ now ++ record { line = b.line; source = s } ∷ [] → now ≡ map (pin_at sources) (take i reads) → new ≡ map (pin_at sources) (take (i + 1) reads)
pin_pushed sources reads i b s now new lt e q p h =
    let pin : Source → Pin = λ v. record { line = b.line; source = v } in
    p ∙ (ap (λ v. v ++ pin s ∷ []) h ∙ (ap (λ v. map (pin_at sources) (take i reads) ++ pin v ∷ []) q
    ∙ (sym (map-append (pin_at sources) (take i reads) (b ∷ [])) ∙ ap (map (pin_at sources)) (sym (take_more reads i b lt ∙ ap (λ x. take i reads ++ x ∷ []) (sym e))))))

-- the next of the known cells is that of some cell
pub record HasNext {X Y : Type 0} (R : X → Y → Type 0) (xs : List X) (i : ℕ) (y : Y) : Type 0 where
  pub next : X
  pub more : take (i + 1) xs ≡ take i xs ++ next ∷ []
  pub fits : R next y

pub zip_at : {X Y : Type 0} (R : X → Y → Type 0) (xs : List X) (ys : List Y) (i : ℕ) (y : Y) → AllZip R xs ys → i < length ys → y ≡ get_or ys i y → HasNext R xs i y
zip_at R [] [] i y h lt e = absurd (omega (arith, lt))
zip_at R [] (b ∷ ys) i y h lt e = absurd h
zip_at R (x ∷ xs) [] i y h lt e = absurd h
zip_at R (x ∷ xs) (b ∷ ys) zero y h lt e = record { next = x; more = refl; fits = subst (R x) (sym e) h.0 }
zip_at R (x ∷ xs) (b ∷ ys) (suc i) y h lt e =
    let r = zip_at R xs ys i y h.1 (omega (arith, lt)) e in record {
      next = r.next;
      more = ap (λ k. take k (x ∷ xs)) (let z : suc i + 1 ≡ suc (i + 1) = omega arith in z) ∙ ap (λ v. x ∷ v) r.more;
      fits = r.fits;
    }

pub zip_length : {X Y : Type 0} (R : X → Y → Type 0) (xs : List X) (ys : List Y) → AllZip R xs ys → length xs ≡ length ys
zip_length R [] [] h = refl
zip_length R [] (y ∷ ys) h = absurd h
zip_length R (x ∷ xs) [] h = absurd h
zip_length R (x ∷ xs) (y ∷ ys) h = ap suc (zip_length R xs ys h.1)
