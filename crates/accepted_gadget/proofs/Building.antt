-- A gadget's module has nets, and no refusal of a module is due.
use Rattle.std.proofs.Common.{◌≡◌, ℕ, zero, suc, ◌+◌, ◌*◌, ◌<◌, ◌≤◌, ⊎_elim, cond, ◌||◌, not, Bool, true, false, List, [], ◌∷◌, length, map, filter, get_or, Option, Some, None, refl, sym, ap, subst, ◌∙◌, arith}
use Rattle.std.specs.Prelude.{Contains}
use Rattle.std.specs.List.{Any, find, flat_map, list_any, list_all, range_with_len}
use Rattle.std.proofs.lemmas.Bool.{cases_Bool, cond-true, cond-false, eqb-true, eq-eqb, both_ways, lt-ltb}
use Rattle.std.proofs.lemmas.List.{length-map}
use Rattle.std.proofs.lemmas.List.FromFn.{length-range_with_len, get_or-map-range_with_len}
use Rattle.std.proofs.lemmas.List.Sums.{sum_by-cons}
use Rattle.std.proofs.lemmas.Option.{same_Some}
use Rattle.circuit_types.specs.Bits.{numbers}
use Rattle.circuit_types.specs.Drives.{Drive, Driver, by_cell, by_bit, is_input_bit, is_net, drives, Ends, at_zero, at_one, at_unknown, at_input, at_cell, through, EndsNowhere, EndsAt, redriven}
use Rattle.circuit_types.specs.Due.{Never, IsClear}
use Rattle.circuit_types.specs.Items.{wires, cells, kept_cells, net_wires, numbered, bit_count, wire_named}
use Rattle.circuit_types.specs.Nets.{Link, links, net_causes, is_too_wide, is_unnamed, is_badly_sliced, is_mismatched, is_unsupported, is_module, lacks_port, cell_lines, link_lines, net_cell, AreNets}
use Rattle.circuit_types.specs.Reads.{Read, cell_reads, is_output, wire_reads, reads}
use Rattle.circuit_types.specs.declared.nets.NetWire.{NetWire}
use Rattle.circuit_types.specs.declared.nets.Nets.{Nets}
use Rattle.circuit_types.specs.declared.nets.SignalBit.{SignalBit}
use Rattle.circuit_types.specs.declared.nets.SignalBit.TheVariants.{Net, Zero, One, Unknown}
use Rattle.circuit_types.specs.declared.nets.Source.{Source}
use Rattle.circuit_types.specs.declared.nets.Source.TheVariants as source
use Rattle.circuit_types.specs.declared.tree.Cell.{Cell}
use Rattle.circuit_types.specs.declared.tree.Item.{Item}
use Rattle.circuit_types.specs.declared.tree.Item.TheVariants as item
use Rattle.net_build.specs.Built.{IsAccepted}
use Rattle.net_build.proofs.EachLemmas.{any_cases, any_none, any_first, any_later}
use Rattle.gadget_maker.proofs.Each.{Each, each-append}
use Rattle.accepted_gadget.proofs.Spots.{Spot, clock, at_port, is_spot, is_given, Step, outputs, AreSteps}
use Rattle.accepted_gadget.proofs.Cells.{Holds}
use Rattle.accepted_gadget.proofs.Wires.{In, first_of, bit, AreSpotWires, FitsItem}
use Rattle.accepted_gadget.proofs.Driving.{AreCells, cells_are, AreDrives, drives_are, none_redriven, spot_source, any_driver, spot_ends, spot_ends_at, ReadsSpot, cells_read, IsFine, fine_links, IsPlain, plain_cells}

-- ---- sources where each drive is a cell's

abbrev pub IsByCell : Drive → Type 0
IsByCell x = (c : ℕ) × (x.driver ≡ by_cell c)

abbrev driver_end : Driver → Source
driver_end (by_cell c) = source.Cell c
driver_end (by_bit b) = source.Missing

abbrev found_end : Option Drive → Source
found_end None = source.Missing
found_end (Some x) = driver_end x.driver

-- an input, or what the first drive says
pub first_end : List NetWire → List Drive → ℕ → Source
first_end ws ds k = cond (is_input_bit ws k) (source.Input k) (found_end (find (λ (x : Drive). is_net k x.target) ds))

-- a bit of this number is driven by this cell
abbrev Cells : ℕ → ℕ → Drive → Type 0
Cells k c x = (x.target ≡ Net k) × (x.driver ≡ by_cell c)

net_is : (k : ℕ) (b : SignalBit) → is_net k b ≡ true → b ≡ Net k
net_is k (Net j) e = ap Net (eqb-true j k e)
net_is k Zero e = cc
net_is k One e = cc
net_is k Unknown e = cc

found_any : (k c : ℕ) (ds : List Drive) (x : Drive) → find (λ (y : Drive). is_net k y.target) ds ≡ Some x → x.driver ≡ by_cell c → Any (Cells k c) ds
found_any k c [] x e h = cc
found_any k c (y ∷ ys) x e h =
    ⊎_elim
    (λ t. let same : y ≡ x = same_Some y x (sym (cond-true (is_net k y.target) (Some y) (find (λ (z : Drive). is_net k z.target) ys) t) ∙ e) in
    any_first (Cells k c) y ys (net_is k y.target t, ap (λ (z : Drive). z.driver) same ∙ h))
    (λ f. any_later (Cells k c) y ys (found_any k c ys x (sym (cond-false (is_net k y.target) (Some y) (find (λ (z : Drive). is_net k z.target) ys) f) ∙ e) h))
    (cases_Bool (is_net k y.target))

-- what drives the one that is found
found_by_cell : (k : ℕ) (ds : List Drive) (x : Drive) → Each IsByCell ds → find (λ (y : Drive). is_net k y.target) ds ≡ Some x → IsByCell x
found_by_cell k [] x h e = cc
found_by_cell k (y ∷ ys) x h e =
    ⊎_elim
    (λ t. subst IsByCell (same_Some y x (sym (cond-true (is_net k y.target) (Some y) (find (λ (z : Drive). is_net k z.target) ys) t) ∙ e)) h.0)
    (λ f. found_by_cell k ys x h.1 (sym (cond-false (is_net k y.target) (Some y) (find (λ (z : Drive). is_net k z.target) ys) f) ∙ e))
    (cases_Bool (is_net k y.target))

none_any : (k : ℕ) (D : Drive → Type 0) (ds : List Drive) → find (λ (y : Drive). is_net k y.target) ds ≡ None → Any (λ x. (x.target ≡ Net k) × D x) ds → ⊥
none_any k D [] e a = any_none (λ x. (x.target ≡ Net k) × D x) a
none_any k D (y ∷ ys) e a =
    ⊎_elim
    (λ t. let wrong : Some y ≡ None = sym (cond-true (is_net k y.target) (Some y) (find (λ (z : Drive). is_net k z.target) ys) t) ∙ e in absurd (cc))
    (λ f. ⊎_elim
    (λ h. both_ways (is_net k y.target) f (ap (is_net k) h.0 ∙ eq-eqb k k refl))
    (λ b. none_any k D ys (sym (cond-false (is_net k y.target) (Some y) (find (λ (z : Drive). is_net k z.target) ys) f) ∙ e) b)
    (any_cases (λ x. (x.target ≡ Net k) × D x) y ys a))
    (cases_Bool (is_net k y.target))

net_same : (j k : ℕ) → Net j ≡ Net k → j ≡ k
net_same j k e = cc

nowhere : (ws : List NetWire) (ds : List Drive) (k : ℕ) (b : SignalBit) (end : Source) → is_input_bit ws k ≡ false
    → find (λ (y : Drive). is_net k y.target) ds ≡ None → b ≡ Net k → Ends ws ds b end → ⊥
nowhere ws ds k b end i n e at_zero = cc
nowhere ws ds k b end i n e at_one = cc
nowhere ws ds k b end i n e at_unknown = cc
nowhere ws ds k b end i n e (at_input j h) = both_ways (is_input_bit ws k) i (subst (λ v. is_input_bit ws v ≡ true) (net_same j k e) h)
nowhere ws ds k b end i n e (at_cell j c a) =
    none_any k (λ x. x.driver ≡ by_cell c) ds n (subst (λ v. Any (λ x. (x.target ≡ Net v) × (x.driver ≡ by_cell c)) ds) (net_same j k e) a)
nowhere ws ds k b end i n e (through j c end2 a l) =
    none_any k (λ x. x.driver ≡ by_bit c) ds n (subst (λ v. Any (λ x. (x.target ≡ Net v) × (x.driver ≡ by_bit c)) ds) (net_same j k e) a)

by_cell_ends : (ws : List NetWire) (ds : List Drive) (k c : ℕ) (x : Driver) → x ≡ by_cell c → Any (Cells k c) ds → EndsAt ws ds (Net k) (driver_end x)
by_cell_ends ws ds k c x e a = subst (λ v. EndsAt ws ds (Net k) (driver_end v)) (sym e) (at_cell k c a)

ends_by : (ws : List NetWire) (ds : List Drive) (k : ℕ) (b : Bool) (o : Option Drive) → Each IsByCell ds → is_input_bit ws k ≡ b
    → find (λ (x : Drive). is_net k x.target) ds ≡ o → EndsAt ws ds (Net k) (cond b (source.Input k) (found_end o))
ends_by ws ds k true o h i e = at_input k i
ends_by ws ds k false None h i e = λ end l. nowhere ws ds k (Net k) end i e refl l
ends_by ws ds k false (Some x) h i e = let c = found_by_cell k ds x h e in by_cell_ends ws ds k c.0 x.driver c.1 (found_any k c.0 ds x e c.1)

pub ends_at_first : (ws : List NetWire) (ds : List Drive) (k : ℕ) → Each IsByCell ds → EndsAt ws ds (Net k) (first_end ws ds k)
unfolding first_end
ends_at_first ws ds k h = ends_by ws ds k (is_input_bit ws k) (find (λ (x : Drive). is_net k x.target) ds) h refl refl

both_drive : (x : Drive) (n : ℕ) (m : SignalBit) → x.driver ≡ by_cell n → x.driver ≡ by_bit m → ⊥
both_drive x n m p q = let wrong : by_cell n ≡ by_bit m = sym p ∙ q in cc

no_bit : (k : ℕ) (m : SignalBit) (ds : List Drive) → Each IsByCell ds → Any (λ x. (x.target ≡ Net k) × (x.driver ≡ by_bit m)) ds → ⊥
no_bit k m [] h a = any_none (λ x. (x.target ≡ Net k) × (x.driver ≡ by_bit m)) a
no_bit k m (x ∷ xs) h a =
    ⊎_elim (λ d. both_drive x h.0.0 m h.0.1 d.1) (λ r. no_bit k m xs h.1 r) (any_cases (λ x. (x.target ≡ Net k) × (x.driver ≡ by_bit m)) x xs a)

-- no bit of a wire ends at an unknown constant
never_unknown : (ws : List NetWire) (ds : List Drive) (k : ℕ) (b : SignalBit) (end : Source) → Each IsByCell ds → b ≡ Net k → end ≡ source.Unknown → Ends ws ds b end → ⊥
never_unknown ws ds k b end h e u at_zero = cc
never_unknown ws ds k b end h e u at_one = cc
never_unknown ws ds k b end h e u at_unknown = cc
never_unknown ws ds k b end h e u (at_input j i) = cc
never_unknown ws ds k b end h e u (at_cell j c a) = cc
never_unknown ws ds k b end h e u (through j c end2 a l) = no_bit j c ds h a

-- ---- nets

pub sources_of : List NetWire → List Drive → List Source
sources_of ws ds = map (first_end ws ds) (range_with_len 0 (bit_count ws))

unfoldable pub nets_of : List Item → Nets
nets_of items = let ws = net_wires items in let sources = sources_of ws (drives ws items) in
    record { wires = ws; sources = sources; cells = flat_map (net_cell ws sources) (kept_cells items) }

sources_length : (ws : List NetWire) (ds : List Drive) → length (sources_of ws ds) ≡ bit_count ws
unfolding sources_of
sources_length ws ds = length-map (range_with_len 0 (bit_count ws)) (first_end ws ds) ∙ length-range_with_len 0 (bit_count ws)

source_at : (ws : List NetWire) (ds : List Drive) (k : ℕ) → k < bit_count ws → get_or (sources_of ws ds) k source.Missing ≡ first_end ws ds k
unfolding sources_of
source_at ws ds k low = get_or-map-range_with_len (first_end ws ds) 0 (bit_count ws) k k source.Missing low (let z : 0 + k ≡ k = omega arith in z)

pub are_nets : (items : List Item) → Each IsByCell (drives (net_wires items) items) → AreNets items (nets_of items)
unfolding nets_of
are_nets items h =
    let ws = net_wires items in
    let ds = drives ws items in record {
      each_wire = refl;
      each_bit = sources_length ws ds;
      ends = λ k low. subst (EndsAt ws ds (Net k)) (sym (source_at ws ds k (omega (arith, low, sources_length ws ds)))) (ends_at_first ws ds k h);
      each_cell = refl;
    }

-- ---- no refusal

pub no_lines : (xs : List ℕ) → xs ≡ [] → Never (Contains xs)
no_lines xs e line c = let z : length xs ≡ 0 = ap length e in omega (arith, z, c.1)

pub none_pass : {X : Type 0} (P : X → Type 0) (test : X → Bool) → ((x : X) → P x → test x ≡ false) → (xs : List X) → Each P xs → filter test xs ≡ []
none_pass P test f [] h = refl
none_pass P test f (x ∷ xs) h = cond-false (test x) (x ∷ filter test xs) (filter test xs) (f x h.0) ∙ none_pass P test f xs h.1

none_any_pass : {X : Type 0} (P : X → Type 0) (test : X → Bool) → ((x : X) → P x → test x ≡ false) → (xs : List X) → Each P xs → list_any test xs ≡ false
none_any_pass P test f [] h = refl
none_any_pass P test f (x ∷ xs) h = ap (λ b. b || list_any test xs) (f x h.0) ∙ none_any_pass P test f xs h.1

any_clash : {X : Type 0} (P Q : X → Type 0) → ((x : X) → P x → Q x → ⊥) → (xs : List X) → Each P xs → Any Q xs → ⊥
any_clash P Q f [] h a = any_none Q a
any_clash P Q f (x ∷ xs) h a = ⊎_elim (λ q. f x h.0 q) (λ b. any_clash P Q f xs h.1 b) (any_cases Q x xs a)

pub few_bits : (d first : ℕ) (xs : List Item) → Each (FitsItem d) xs → bit_count (numbered first (wires xs)) ≤ 128 * length xs
few_bits d first [] h = omega arith
few_bits d first (item.Wire w ∷ xs) h =
    let v : NetWire = record { line = w.line; name = w.name; first = first; width = w.width; port = w.port } in
    let rest = few_bits d (first + w.width) xs h.1 in
    let sum = sum_by-cons (λ (x : NetWire). x.width) v (numbered (first + w.width) (wires xs)) in
    omega (arith, rest, sum, h.0.0)
few_bits d first (item.Cell c ∷ xs) h = omega (arith, few_bits d first xs h.1)
few_bits d first (item.Parameter p ∷ xs) h = omega (arith, few_bits d first xs h.1)
few_bits d first (item.Connect c ∷ xs) h = omega (arith, few_bits d first xs h.1)

pub few_cells : (xs : List Item) → length (cells xs) ≤ length xs
few_cells [] = omega arith
few_cells (item.Cell c ∷ xs) = omega (arith, few_cells xs)
few_cells (item.Wire w ∷ xs) = omega (arith, few_cells xs)
few_cells (item.Parameter p ∷ xs) = omega (arith, few_cells xs)
few_cells (item.Connect c ∷ xs) = omega (arith, few_cells xs)

-- the only wire of an output, by its name
pub record IsOutput (d : ℕ) (ws : List NetWire) (w : NetWire) : Type 0 where
  pub only : filter (λ (v : NetWire). is_output v.port) ws ≡ w ∷ []
  pub named : wire_named ws (92 ∷ 99 ∷ []) ≡ Some w
  pub width : w.width ≡ d

-- items that make a gadget of d shares
pub record IsGadget (d : ℕ) (ss : List Step) (items : List Item) : Type 0 where
  pub few : d ≤ 16
  pub small : length items ≤ 2053
  pub holds : Holds d ss items
  pub ordered : AreSteps d 0 ss
  pub covers : (s : Spot) → is_spot d s ≡ true → is_given s ≡ false → In s (outputs ss)
  pub spots : AreSpotWires d (net_wires items)
  pub fits : Each (FitsItem d) items
  pub clock_first : bit (net_wires items) clock ≡ 0
  pub last : NetWire
  pub last_is : IsOutput d (net_wires items) last

module _ (d : ℕ) (ss : List Step) (items : List Item) (is : IsGadget d ss items) where
  pub are_drives : AreDrives d is.few (net_wires items) is.spots 0 ss (drives (net_wires items) items)
  unfolding drives
  are_drives = drives_are d is.few (net_wires items) is.spots 0 ss items is.holds is.ordered

  by_cells : (k : ℕ) (ts : List Step) (ds : List Drive) → AreDrives d is.few (net_wires items) is.spots k ts ds → Each IsByCell ds
  by_cells k [] [] h = tt
  by_cells k [] (x ∷ xs) h = absurd h
  by_cells k (t ∷ ts) [] h = absurd h
  by_cells k (t ∷ ts) (x ∷ xs) h = ((k, h.1), by_cells (k + 1) ts xs h.2)

  pub all_by_cells : Each IsByCell (drives (net_wires items) items)
  all_by_cells = by_cells 0 ss (drives (net_wires items) items) are_drives

  pub all_cells : AreCells d ss (kept_cells items)
  all_cells = cells_are d ss items is.holds

  pub ends : (s : Spot) → is_spot d s ≡ true → Ends (net_wires items) (drives (net_wires items) items) (Net (bit (net_wires items) s)) (spot_source d is.few (net_wires items) is.spots s)
  ends s spot =
      spot_ends d is.few (net_wires items) is.spots (drives (net_wires items) items) s spot
      (λ no. any_driver d is.few (net_wires items) is.spots 0 ss (drives (net_wires items) items) s is.ordered are_drives (is.covers s spot no))

  pub ends_at : (s : Spot) → is_spot d s ≡ true
      → EndsAt (net_wires items) (drives (net_wires items) items) (Net (bit (net_wires items) s)) (spot_source d is.few (net_wires items) is.spots s)
  ends_at s spot =
      spot_ends_at d is.few (net_wires items) is.spots (drives (net_wires items) items) s spot
      (λ no. any_driver d is.few (net_wires items) is.spots 0 ss (drives (net_wires items) items) s is.ordered are_drives (is.covers s spot no))

  pub once : redriven (net_wires items) [] (drives (net_wires items) items) ≡ []
  once = none_redriven d is.few (net_wires items) is.spots 0 ss (drives (net_wires items) items) [] is.ordered are_drives tt

  abbrev Spotted : Read → Type 0
  Spotted r = ReadsSpot d is.few (net_wires items) is.spots r

  share_reads : (line p n : ℕ) → p + n ≤ d → Each Spotted (map (λ k. record { line = line; bit = Net k }) (numbers (is.last.first + p) n))
  share_reads line p zero low = tt
  share_reads line p (suc n) low =
      let at : is.last.first + p ≡ bit (net_wires items) (at_port 99 p) = ap (λ o. first_of o + p) (sym is.last_is.named) in
      let next : is.last.first + (p + 1) ≡ is.last.first + p + 1 = omega arith in (
        record { spot = at_port 99 p; is = lt-ltb p d (omega (arith, low)); at = ap Net at },
        subst (λ v. Each Spotted (map (λ k. record { line = line; bit = Net k }) (numbers v n))) next (share_reads line (p + 1) n (omega (arith, low))),
      )

  last_reads : Each Spotted (wire_reads is.last)
  last_reads =
      let first : is.last.first + 0 ≡ is.last.first = omega arith in
      subst (λ v. Each Spotted (map (λ k. record { line = is.last.line; bit = Net k }) (numbers v is.last.width))) first
      (share_reads is.last.line 0 is.last.width (omega (arith, is.last_is.width)))

  output_reads : Each Spotted (flat_map wire_reads (filter (λ (v : NetWire). is_output v.port) (net_wires items)))
  output_reads =
      subst (λ vs. Each Spotted (flat_map wire_reads vs)) (sym is.last_is.only) (each-append Spotted (wire_reads is.last) [] last_reads tt)

  all_read : Each Spotted (reads (net_wires items) items)
  unfolding reads
  all_read =
      each-append Spotted (flat_map (cell_reads (net_wires items)) (kept_cells items)) (flat_map wire_reads (filter (λ (v : NetWire). is_output v.port) (net_wires items)))
      (cells_read d is.few (net_wires items) is.spots 0 ss (kept_cells items) all_cells is.ordered) output_reads

  ends_somewhere : (l : ℕ) (r : Read) → Spotted r → (r.line ≡ l) × EndsNowhere (net_wires items) (drives (net_wires items) items) r.bit → ⊥
  ends_somewhere l r s n =
      n.1 (spot_source d is.few (net_wires items) is.spots s.spot)
      (subst (λ b. Ends (net_wires items) (drives (net_wires items) items) b (spot_source d is.few (net_wires items) is.spots s.spot)) (sym s.at) (ends s.spot s.is))

  ends_known : (l : ℕ) (r : Read) → Spotted r → (r.line ≡ l) × Ends (net_wires items) (drives (net_wires items) items) r.bit source.Unknown → ⊥
  ends_known l r s n =
      never_unknown (net_wires items) (drives (net_wires items) items) (bit (net_wires items) s.spot) r.bit source.Unknown all_by_cells s.at refl n.1

  abbrev Fine : Link → Type 0
  Fine l = IsFine d is.few (net_wires items) is.spots l

  fine : Each Fine (links (net_wires items) items)
  fine = fine_links d is.few (net_wires items) is.spots 0 ss items is.holds is.ordered

  plain : Each IsPlain (kept_cells items)
  plain = plain_cells d ss (kept_cells items) all_cells

  no_link_lines : (test : Link → Bool) → ((l : Link) → Fine l → test l ≡ false) → Never (Contains (link_lines test (net_wires items) items))
  no_link_lines test f =
      no_lines (link_lines test (net_wires items) items) (ap (map (λ (l : Link). l.line)) (none_pass Fine test f (links (net_wires items) items) fine))

  no_cell_lines : (test : Cell → Bool) → ((c : Cell) → IsPlain c → test c ≡ false) → Never (Contains (cell_lines test items))
  no_cell_lines test f = no_lines (cell_lines test items) (ap (map (λ (c : Cell). c.line)) (none_pass IsPlain test f (kept_cells items) plain))

  pub build_clear : IsClear (net_causes items)
  unfolding net_causes
  build_clear = (
    (λ over. let most = few_bits d 0 items is.fits in omega (arith, most, over, is.small)),
    (
      (λ over. let most = few_cells items in omega (arith, most, over, is.small)),
      (
        (λ wide. both_ways (list_any is_too_wide (links (net_wires items) items))
            (none_any_pass Fine is_too_wide (λ l f. ap (λ ss. not (list_all (λ s. s.narrow) ss)) f.sides) (links (net_wires items) items) fine) wide),
        (
          no_cell_lines is_unsupported (λ c p. p.supported),
          (
            no_cell_lines is_module (λ c p. p.no_module),
            (
              no_link_lines is_unnamed (λ l f. ap (λ ss. not (list_all (λ s. s.named) ss)) f.sides),
              (
                no_link_lines is_badly_sliced (λ l f. ap (λ ss. not (list_all (λ s. s.sliced) ss)) f.sides),
                (
                  no_link_lines is_mismatched (λ l f. ap not f.fits),
                  (
                    no_cell_lines lacks_port (λ c p. p.ported),
                    (
                      no_lines (redriven (net_wires items) [] (drives (net_wires items) items)) once,
                      (
                        (λ l a. any_clash Spotted (λ r. (r.line ≡ l) × EndsNowhere (net_wires items) (drives (net_wires items) items) r.bit) (ends_somewhere l)
                            (reads (net_wires items) items) all_read a),
                        (
                          (λ l a. any_clash Spotted (λ r. (r.line ≡ l) × Ends (net_wires items) (drives (net_wires items) items) r.bit source.Unknown) (ends_known l)
                              (reads (net_wires items) items) all_read a),
                          tt,
                        ),
                      ),
                    ),
                  ),
                ),
              ),
            ),
          ),
        ),
      ),
    ),
  )

  pub accepted : IsAccepted items (nets_of items)
  accepted = record { nets = are_nets items all_by_cells; clear = build_clear }
