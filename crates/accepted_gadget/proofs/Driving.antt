-- What the cells of a gadget drive and read, and where its bits end.
use Rattle.std.proofs.Common.{◌≡◌, ℕ, ◌+◌, ◌<◌, ◌≤◌, ◌==◌, ◌||◌, ◌&&◌, inl, inr, cond, Bool, true, false, not, List, [], ◌∷◌, ◌++◌, map, filter, Option, Some, None, is_none, codes, refl, sym, ap, subst, ◌∙◌, arith}
use Rattle.std.specs.List.{Any, flat_map, list_any}
use Rattle.std.specs.Str.{bytes_eq}
use Rattle.std.proofs.lemmas.Bool.{cond-true, cond_both, eqb-true, or_right}
use Rattle.cell_kinds.specs.Cells.{input_letters}
use Rattle.cell_kinds.specs.Names.{kind_named}
use Rattle.cell_kinds.specs.declared.kind.CellKind.{CellKind}
use Rattle.cell_kinds.specs.declared.kind.CellKind.TheVariants.{Gate, Flop}
use Rattle.cell_kinds.specs.declared.kind.Flop.{Flop as AnyFlop}
use Rattle.cell_kinds.specs.declared.kind.GateKind.{GateKind}
use Rattle.cell_kinds.specs.declared.kind.GateKind.TheVariants.{And, Xor, Xnor}
use Rattle.circuit_types.specs.Drives.{Drive, by_cell, connect_of, connect_drives, output_connect, cell_drives, drives_from, is_net, Ends, at_input, at_cell, EndsAt, is_taken, redriven}
use Rattle.circuit_types.specs.Items.{cells, is_kept, kept_cells}
use Rattle.circuit_types.specs.Nets.{Link, port_link, is_port, item_links, links, port_letters, lacks_port, is_module, is_unsupported, begins_with_backslash}
use Rattle.circuit_types.specs.Reads.{Read, connect_reads, letters, cell_reads}
use Rattle.circuit_types.specs.Signals.{Shape, signal_bits}
use Rattle.circuit_types.specs.declared.nets.NetWire.{NetWire}
use Rattle.circuit_types.specs.declared.nets.SignalBit.{SignalBit}
use Rattle.circuit_types.specs.declared.nets.SignalBit.TheVariants.{Net}
use Rattle.circuit_types.specs.declared.nets.Source.{Source}
use Rattle.circuit_types.specs.declared.nets.Source.TheVariants as source
use Rattle.circuit_types.specs.declared.tree.Cell.{Cell}
use Rattle.circuit_types.specs.declared.tree.Item.{Item}
use Rattle.circuit_types.specs.declared.tree.Item.TheVariants as item
use Rattle.net_build.proofs.EachLemmas.{any_first, any_later}
use Rattle.gadget_maker.specs.Gadget.{connect_on}
use Rattle.gadget_maker.proofs.Each.{Each, each-append, each_weaker}
use Rattle.accepted_gadget.proofs.Spots.{Spot, clock, is_spot, is_given, signal_of, Step, gate, register, output, outputs, index, IsDriven, IsStep, AreSteps, driven_of}
use Rattle.accepted_gadget.proofs.Cells.{GateName, conjunction, difference, sameness, gate_text, Dress, cell_of, IsCellOf, Holds, none, wire, cell}
use Rattle.accepted_gadget.proofs.Wires.{In, bit, good, AreSpotWires, apart, given_bit, spot_bit}

-- ---- kinds

abbrev pub gate_kind : GateName → GateKind
gate_kind conjunction = And
gate_kind difference = Xor
gate_kind sameness = Xnor

-- a flip-flop with neither a reset nor an enable
abbrev pub plain_flop : AnyFlop
plain_flop = record { rising = true; reset = None; enable = None }

pub gate_named : (g : GateName) → kind_named (gate_text g) ≡ Some (Gate (gate_kind g))
unfolding kind_named
gate_named conjunction = refl
gate_named difference = refl
gate_named sameness = refl

pub flop_named : kind_named (codes "$_DFF_P_") ≡ Some (Flop plain_flop)
unfolding kind_named
flop_named = refl

pub gate_letters : (g : GateName) → input_letters (Gate (gate_kind g)) ≡ 65 ∷ 66 ∷ []
unfolding input_letters
gate_letters conjunction = refl
gate_letters difference = refl
gate_letters sameness = refl

pub flop_letters : input_letters (Flop plain_flop) ≡ 68 ∷ 67 ∷ []
unfolding input_letters
flop_letters = refl

kept_gate : (g : GateName) → not (bytes_eq (gate_text g) (codes "$scopeinfo")) ≡ true
kept_gate conjunction = refl
kept_gate difference = refl
kept_gate sameness = refl

pub kept : (d : ℕ) (s : Step) (x : Dress) → is_kept (cell_of d s x) ≡ true
kept d (gate a b y) x = kept_gate x.kind
kept d (register a y) x = refl

-- ---- cells

-- cells that are those of the steps in their order
abbrev pub AreCells : ℕ → List Step → List Cell → Type 0
AreCells d [] [] = Unit {0}
AreCells d (s ∷ ss) (c ∷ cs) = IsCellOf d s c × AreCells d ss cs
AreCells d [] (c ∷ cs) = ⊥
AreCells d (s ∷ ss) [] = ⊥

pub cells_are : (d : ℕ) (ss : List Step) (xs : List Item) → Holds d ss xs → AreCells d ss (kept_cells xs)
cells_are d ss xs none = tt
cells_are d ss xs (wire w ss1 xs1 h) = cells_are d ss xs1 h
cells_are d ss xs (cell s c ss1 xs1 is h) =
    let is_one : is_kept c ≡ true = subst (λ v. is_kept v ≡ true) (sym is.1) (kept d s is.0) in
    subst (AreCells d (s ∷ ss1)) (sym (cond-true (is_kept c) (c ∷ filter is_kept (cells xs1)) (filter is_kept (cells xs1)) is_one))
    (is, cells_are d ss1 xs1 h)

-- ---- over the wires of spots

module _ (d : ℕ) (few : d ≤ 16) (ws : List NetWire) (are : AreSpotWires d ws) where
  bits_of : (s : Spot) → is_spot d s ≡ true → signal_bits ws (signal_of d s) ≡ Net (bit ws s) ∷ []
  bits_of s is = (spot_bit d few ws are s is).bits

  -- ---- drives

  abbrev pub drive : ℕ → Step → Dress → Drive
  drive n s x = record { line = x.three; target = Net (bit ws (output s)); driver = by_cell n }

  one_drive : (n : ℕ) (s : Step) (x : Dress) → is_spot d (output s) ≡ true → cell_drives ws n (cell_of d s x) ≡ drive n s x ∷ []
  unfolding cell_drives connect_of
  one_drive n (gate a b y) x is =
      ap (λ k. connect_drives ws n (output_connect (cell_of d (gate a b y) x) k)) (gate_named x.kind)
      ∙ ap (map (λ b. record { line = x.three; target = b; driver = by_cell n })) (bits_of y is)
  one_drive n (register a y) x is =
      ap (λ k. connect_drives ws n (output_connect (cell_of d (register a y) x) k)) flop_named
      ∙ ap (map (λ b. record { line = x.three; target = b; driver = by_cell n })) (bits_of y is)

  -- the drives of cells from this number on are those of the steps
  abbrev pub AreDrives : ℕ → List Step → List Drive → Type 0
  AreDrives n [] [] = Unit {0}
  AreDrives n (s ∷ ss) (x ∷ xs) = (x.target ≡ Net (bit ws (output s))) × (x.driver ≡ by_cell n) × AreDrives (n + 1) ss xs
  AreDrives n [] (x ∷ xs) = ⊥
  AreDrives n (s ∷ ss) [] = ⊥

  next_drives : (n : ℕ) (s : Step) (ss : List Step) (x : Dress) (b : Bool) (ds more other : List Drive) → b ≡ true → ds ≡ drive n s x ∷ []
      → AreDrives (n + 1) ss more → AreDrives n (s ∷ ss) (cond b (ds ++ more) other)
  next_drives n s ss x b ds more other t e h =
      subst (AreDrives n (s ∷ ss)) (sym (cond-true b (ds ++ more) other t ∙ ap (λ v. v ++ more) e)) (refl, refl, h)

  pub drives_are : (n : ℕ) (ss : List Step) (xs : List Item) → Holds d ss xs → AreSteps d n ss → AreDrives n ss (drives_from ws n xs)
  drives_are n ss xs none h = tt
  drives_are n ss xs (wire w ss1 xs1 is) h = drives_are n ss xs1 is h
  drives_are n ss xs (cell s c ss1 xs1 is more) h =
      subst (λ v. AreDrives n (s ∷ ss1) (cond (is_kept v) (cell_drives ws n v ++ drives_from ws (n + 1) xs1) (drives_from ws n xs1))) (sym is.1)
      (next_drives n s ss1 is.0 (is_kept (cell_of d s is.0)) (cell_drives ws n (cell_of d s is.0)) (drives_from ws (n + 1) xs1) (drives_from ws n xs1)
      (kept d s is.0) (one_drive n s is.0 (driven_of d n s h.0).spot) (drives_are (n + 1) ss1 xs1 more h.1))

  -- ---- no bit is driven twice

  pub record IsEarlier (k : ℕ) (x : Drive) : Type 0 where
    pub spot : Spot
    pub is : is_spot d spot ≡ true
    pub low : index d spot < k
    pub target : x.target ≡ Net (bit ws spot)

  other_net : (k : ℕ) (s : Spot) (x : Drive) → IsDriven d k s → IsEarlier k x → is_net (bit ws s) x.target ≡ true → ⊥
  other_net k s x is e t =
      let hit : (bit ws e.spot == bit ws s) ≡ true = subst (λ v. is_net (bit ws s) v ≡ true) e.target t in
      let same : e.spot ≡ s = apart d few ws are e.spot s e.is is.spot (eqb-true (bit ws e.spot) (bit ws s) hit) in
      let number : index d e.spot ≡ k = ap (index d) same ∙ is.number in
      omega (arith, number, e.low)

  not_true : (b : Bool) → (b ≡ true → ⊥) → b ≡ false
  not_true true h = absurd (h refl)
  not_true false h = refl

  none_earlier : (k : ℕ) (s : Spot) (earlier : List Drive) → IsDriven d k s → Each (IsEarlier k) earlier
      → list_any (λ (x : Drive). is_net (bit ws s) x.target) earlier ≡ false
  none_earlier k s [] is h = refl
  none_earlier k s (x ∷ xs) is h =
      ap (λ b. b || list_any (λ (x : Drive). is_net (bit ws s) x.target) xs) (not_true (is_net (bit ws s) x.target) (other_net k s x is h.0)) ∙ none_earlier k s xs is h.1

  free : (k : ℕ) (s : Spot) (earlier : List Drive) (t : SignalBit) → IsDriven d k s → Each (IsEarlier k) earlier → t ≡ Net (bit ws s)
      → is_taken ws earlier t ≡ false
  free k s earlier t is h e =
      ap (is_taken ws earlier) e
      ∙ (ap (λ b. b || list_any (λ (x : Drive). is_net (bit ws s) x.target) earlier) (given_bit d few ws are s is.spot ∙ is.inner) ∙ none_earlier k s earlier is h)

  pub none_redriven : (k : ℕ) (ss : List Step) (ds earlier : List Drive) → AreSteps d k ss → AreDrives k ss ds → Each (IsEarlier k) earlier
      → redriven ws earlier ds ≡ []
  unfolding redriven
  none_redriven k [] [] earlier h e before = refl
  none_redriven k [] (x ∷ xs) earlier h e before = absurd e
  none_redriven k (s ∷ ss) [] earlier h e before = absurd e
  none_redriven k (s ∷ ss) (x ∷ xs) earlier h e before =
      let is = driven_of d k s h.0 in
      let now : IsEarlier (k + 1) x = record { spot = output s; is = is.spot; low = omega (arith, is.number); target = e.0 } in
      let later = each_weaker (IsEarlier k) (IsEarlier (k + 1))
      (λ y b. record { spot = b.spot; is = b.is; low = omega (arith, b.low); target = b.target }) earlier before in
      ap (λ b. cond b (x.line ∷ []) [] ++ redriven ws (earlier ++ x ∷ []) xs) (free k (output s) earlier x.target is before e.0)
      ∙ none_redriven (k + 1) ss xs (earlier ++ x ∷ []) h.1 e.2 (each-append (IsEarlier (k + 1)) earlier (x ∷ []) later (now, tt))

  -- ---- where bits end

  abbrev pub spot_source : Spot → Source
  spot_source s = cond (is_given s) (source.Input (bit ws s)) (source.Cell (index d s))

  abbrev pub DrivenBy : Spot → Drive → Type 0
  DrivenBy s x = (x.target ≡ Net (bit ws s)) × (x.driver ≡ by_cell (index d s))

  pub any_driver : (k : ℕ) (ss : List Step) (ds : List Drive) (s : Spot) → AreSteps d k ss → AreDrives k ss ds → In s (outputs ss) → Any (DrivenBy s) ds
  any_driver k [] ds s h e i = absurd i
  any_driver k (t ∷ ss) [] s h e i = absurd e
  any_driver k (t ∷ ss) (x ∷ xs) s h e (inl same) =
      let is = driven_of d k t h.0 in
      let number : k ≡ index d s = sym is.number ∙ ap (index d) (sym same) in
      any_first (DrivenBy s) x xs (e.0 ∙ ap (λ v. Net (bit ws v)) (sym same), e.1 ∙ ap by_cell number)
  any_driver k (t ∷ ss) (x ∷ xs) s h e (inr more) = any_later (DrivenBy s) x xs (any_driver (k + 1) ss xs s h.1 e.2 more)

  pub spot_ends : (ds : List Drive) (s : Spot) → is_spot d s ≡ true → (is_given s ≡ false → Any (DrivenBy s) ds) → Ends ws ds (Net (bit ws s)) (spot_source s)
  spot_ends ds s is driven =
      cond_both (is_given s) (source.Input (bit ws s)) (source.Cell (index d s)) (Ends ws ds (Net (bit ws s)))
      (λ yes. at_input (bit ws s) (given_bit d few ws are s is ∙ yes)) (λ no. at_cell (bit ws s) (index d s) (driven no))

  pub spot_ends_at : (ds : List Drive) (s : Spot) → is_spot d s ≡ true → (is_given s ≡ false → Any (DrivenBy s) ds) → EndsAt ws ds (Net (bit ws s)) (spot_source s)
  spot_ends_at ds s is driven =
      cond_both (is_given s) (source.Input (bit ws s)) (source.Cell (index d s)) (EndsAt ws ds (Net (bit ws s)))
      (λ yes. at_input (bit ws s) (given_bit d few ws are s is ∙ yes)) (λ no. at_cell (bit ws s) (index d s) (driven no))

  -- ---- reads

  abbrev pub step_reads : Step → Dress → List Read
  step_reads (gate a b y) x = record { line = x.one; bit = Net (bit ws a) } ∷ record { line = x.two; bit = Net (bit ws b) } ∷ []
  step_reads (register a y) x = record { line = x.two; bit = Net (bit ws a) } ∷ record { line = x.one; bit = Net (bit ws clock) } ∷ []

  abbrev read_at : ℕ → SignalBit → Read
  read_at line b = record { line = line; bit = b }

  gate_reads : (c : Cell) (a b y : Spot) (x : Dress) → is_spot d a ≡ true → is_spot d b ≡ true → c ≡ cell_of d (gate a b y) x
      → flat_map (λ letter. connect_reads ws (connect_of c letter)) (65 ∷ 66 ∷ []) ≡ step_reads (gate a b y) x
  unfolding connect_of
  gate_reads c a b y x ia ib e =
      ap (λ v. flat_map (λ letter. connect_reads ws (connect_of v letter)) (65 ∷ 66 ∷ [])) e
      ∙ (ap (λ v. map (read_at x.one) v ++ (map (read_at x.two) (signal_bits ws (signal_of d b)) ++ [])) (bits_of a ia)
      ∙ ap (λ v. read_at x.one (Net (bit ws a)) ∷ (map (read_at x.two) v ++ [])) (bits_of b ib))

  flop_reads : (c : Cell) (a y : Spot) (x : Dress) → is_spot d a ≡ true → c ≡ cell_of d (register a y) x
      → flat_map (λ letter. connect_reads ws (connect_of c letter)) (68 ∷ 67 ∷ []) ≡ step_reads (register a y) x
  unfolding connect_of
  flop_reads c a y x ia e =
      ap (λ v. flat_map (λ letter. connect_reads ws (connect_of v letter)) (68 ∷ 67 ∷ [])) e
      ∙ (ap (λ v. map (read_at x.two) v ++ (map (read_at x.one) (signal_bits ws (signal_of d clock)) ++ [])) (bits_of a ia)
      ∙ ap (λ v. read_at x.two (Net (bit ws a)) ∷ (map (read_at x.one) v ++ [])) (bits_of clock refl))

  pub reads_are : (k : ℕ) (s : Step) (x : Dress) → IsStep d k s → cell_reads ws (cell_of d s x) ≡ step_reads s x
  unfolding cell_reads
  reads_are k (gate a b y) x is =
      let c = cell_of d (gate a b y) x in
      ap (λ v. flat_map (λ letter. connect_reads ws (connect_of c letter)) (letters v)) (gate_named x.kind)
      ∙ (ap (flat_map (λ letter. connect_reads ws (connect_of c letter))) (gate_letters x.kind) ∙ gate_reads c a b y x is.0.spot is.1.spot refl)
  reads_are k (register a y) x is =
      let c = cell_of d (register a y) x in
      ap (λ v. flat_map (λ letter. connect_reads ws (connect_of c letter)) (letters v)) flop_named
      ∙ (ap (flat_map (λ letter. connect_reads ws (connect_of c letter))) flop_letters ∙ flop_reads c a y x is.0.spot refl)

  -- it reads a spot
  pub record ReadsSpot (r : Read) : Type 0 where
    pub spot : Spot
    pub is : is_spot d spot ≡ true
    pub at : r.bit ≡ Net (bit ws spot)

  step_reads_spots : (k : ℕ) (s : Step) (x : Dress) → IsStep d k s → Each ReadsSpot (step_reads s x)
  step_reads_spots k (gate a b y) x is =
      (record { spot = a; is = is.0.spot; at = refl }, (record { spot = b; is = is.1.spot; at = refl }, tt))
  step_reads_spots k (register a y) x is =
      (record { spot = a; is = is.0.spot; at = refl }, (record { spot = clock; is = refl; at = refl }, tt))

  pub cells_read : (k : ℕ) (ss : List Step) (cs : List Cell) → AreCells d ss cs → AreSteps d k ss → Each ReadsSpot (flat_map (cell_reads ws) cs)
  cells_read k [] [] h is = tt
  cells_read k [] (c ∷ cs) h is = absurd h
  cells_read k (s ∷ ss) [] h is = absurd h
  cells_read k (s ∷ ss) (c ∷ cs) h is =
      each-append ReadsSpot (cell_reads ws c) (flat_map (cell_reads ws) cs)
      (subst (λ v. Each ReadsSpot (cell_reads ws v)) (sym h.0.1)
      (subst (Each ReadsSpot) (sym (reads_are k s h.0.0 is.0)) (step_reads_spots k s h.0.0 is.0)))
      (cells_read (k + 1) ss cs h.1 is.1)

  -- ---- forms

  pub record IsFine (l : Link) : Type 0 where
    pub sides : l.sides ≡ good ∷ []
    pub fits : l.fits ≡ true

  fine : (kind : Option CellKind) (line letter : ℕ) (s : Spot) → is_spot d s ≡ true → IsFine (port_link ws kind (connect_on line letter (signal_of d s)))
  fine kind line letter s is =
      let e = (spot_bit d few ws are s is).fits in record {
        sides = ap (λ v. v ∷ []) e;
        fits = ap (λ (v : Shape). not (is_port kind (92 ∷ letter ∷ [])) || v.width == 1) e ∙ or_right (not (is_port kind (92 ∷ letter ∷ []))) true refl;
      }

  fine_cell : (kind : Option CellKind) (k : ℕ) (s : Step) (x : Dress) → IsStep d k s → Each IsFine (map (port_link ws kind) (cell_of d s x).connects)
  fine_cell kind k (gate a b y) x is =
      (fine kind x.one 65 a is.0.spot, (fine kind x.two 66 b is.1.spot, (fine kind x.three 89 y is.2.spot, tt)))
  fine_cell kind k (register a y) x is =
      (fine kind x.one 67 clock refl, (fine kind x.two 68 a is.0.spot, (fine kind x.three 81 y is.1.spot, tt)))

  pub fine_links : (k : ℕ) (ss : List Step) (xs : List Item) → Holds d ss xs → AreSteps d k ss → Each IsFine (links ws xs)
  unfolding item_links
  fine_links k ss xs none h = tt
  fine_links k ss xs (wire w ss1 xs1 is) h = fine_links k ss xs1 is h
  fine_links k ss xs (cell s c ss1 xs1 is more) h =
      each-append IsFine (item_links ws (item.Cell c)) (links ws xs1)
      (subst (λ v. Each IsFine (item_links ws (item.Cell v))) (sym is.1)
      (subst (Each IsFine) (sym (cond-true (is_kept (cell_of d s is.0)) (map (port_link ws (kind_named (cell_of d s is.0).kind)) (cell_of d s is.0).connects) [] (kept d s is.0)))
      (fine_cell (kind_named (cell_of d s is.0).kind) k s is.0 h.0)))
      (fine_links (k + 1) ss1 xs1 more h.1)

-- ---- kinds and ports

pub record IsPlain (c : Cell) : Type 0 where
  pub supported : is_unsupported c ≡ false
  pub no_module : is_module c ≡ false
  pub ported : lacks_port c ≡ false

gate_ported : (d : ℕ) (a b y : Spot) (x : Dress) → lacks_port (cell_of d (gate a b y) x) ≡ false
unfolding connect_of
gate_ported d a b y x =
    let c = cell_of d (gate a b y) x in
    ap (λ v. list_any (λ letter. is_none (connect_of c letter)) (port_letters v)) (gate_named x.kind)
    ∙ ap (λ ls. list_any (λ letter. is_none (connect_of c letter)) (ls ++ 89 ∷ [])) (gate_letters x.kind)

flop_ported : (d : ℕ) (a y : Spot) (x : Dress) → lacks_port (cell_of d (register a y) x) ≡ false
unfolding connect_of
flop_ported d a y x =
    let c = cell_of d (register a y) x in
    ap (λ v. list_any (λ letter. is_none (connect_of c letter)) (port_letters v)) flop_named
    ∙ ap (λ ls. list_any (λ letter. is_none (connect_of c letter)) (ls ++ 81 ∷ [])) flop_letters

plain : (d : ℕ) (s : Step) (x : Dress) → IsPlain (cell_of d s x)
plain d (gate a b y) x = record {
  supported = ap (λ v. is_none v && not (begins_with_backslash (gate_text x.kind))) (gate_named x.kind);
  no_module = ap (λ v. is_none v && begins_with_backslash (gate_text x.kind)) (gate_named x.kind);
  ported = gate_ported d a b y x;
}
plain d (register a y) x = record {
  supported = ap (λ v. is_none v && not (begins_with_backslash (codes "$_DFF_P_"))) flop_named;
  no_module = ap (λ v. is_none v && begins_with_backslash (codes "$_DFF_P_")) flop_named;
  ported = flop_ported d a y x;
}

pub plain_cells : (d : ℕ) (ss : List Step) (cs : List Cell) → AreCells d ss cs → Each IsPlain cs
plain_cells d [] [] h = tt
plain_cells d [] (c ∷ cs) h = absurd h
plain_cells d (s ∷ ss) [] h = absurd h
plain_cells d (s ∷ ss) (c ∷ cs) h = (subst IsPlain (sym h.0.1) (plain d s h.0.0), plain_cells d ss cs h.1)
