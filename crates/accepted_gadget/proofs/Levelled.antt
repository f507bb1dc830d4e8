-- The cells of a gadget with what they read, and that all of them are levelled and settled.
use Rattle.std.proofs.Common.{◌≡◌, ℕ, zero, suc, ◌+◌, ◌<◌, ◌==◌, ⊎_elim, ◌&&◌, Bool, true, false, not, List, [], ◌∷◌, ◌++◌, length, map, get_or, Some, refl, sym, ap, subst, ◌∙◌, arith}
use Rattle.std.specs.List.{flat_map, list_all, position}
use Rattle.std.specs.Option.{option_map_or}
use Rattle.std.proofs.lemmas.Bool.{cases_Bool, cond-true, cond-false, both_ways}
use Rattle.cell_kinds.specs.declared.kind.CellKind.{CellKind}
use Rattle.cell_kinds.specs.declared.kind.CellKind.TheVariants.{Gate, Flop}
use Rattle.circuit_types.specs.Causes.{AtCell, level_causes}
use Rattle.circuit_types.specs.DataSources.{cell_at, settled_sources}
use Rattle.circuit_types.specs.Drives.{drives, output_connect, EndsAt}
use Rattle.circuit_types.specs.Due.{IsClear}
use Rattle.circuit_types.specs.Held.{held_value, has_open_reset, has_open_enable}
use Rattle.circuit_types.specs.Items.{net_wires, bit_count, kept_cells}
use Rattle.circuit_types.specs.Nets.{net_cell, net_cell_of, pin_of, output_net, end_in, AreNets}
use Rattle.circuit_types.specs.Order.{has, is_ready, order, is_levelled, is_settled, AllSettled, AllLevelled}
use Rattle.circuit_types.specs.declared.circuit.Timing.TheVariants.{Settled}
use Rattle.circuit_types.specs.declared.nets.NetCell.{NetCell}
use Rattle.circuit_types.specs.declared.nets.Pin.{Pin}
use Rattle.circuit_types.specs.declared.nets.SignalBit.TheVariants.{Net}
use Rattle.circuit_types.specs.declared.nets.Source.{Source}
use Rattle.circuit_types.specs.declared.nets.Source.TheVariants as source
use Rattle.circuit_types.specs.declared.roles.Roles.{Roles}
use Rattle.circuit_types.specs.declared.tree.Cell.{Cell}
use Rattle.circuit_types.specs.declared.tree.Item.{Item}
use Rattle.circuit_types.proofs.ByCells.{settled_are_levelled}
use Rattle.circuit_types.proofs.Listing.{order_is_least}
use Rattle.net_build.specs.Drivers.{IsWithin}
use Rattle.net_build.specs.Sources.{AreSources}
use Rattle.net_build.proofs.SourceLemmas.{AreOnce, ends_at_once, bit_ends}
use Rattle.net_build.proofs.WithinLemmas.{EachWithin, each_within, wires_within, drives_within, bits_within}
use Rattle.gadget_maker.proofs.Each.{Each}
use Rattle.accepted_gadget.proofs.Spots.{Spot, clock, is_spot, is_given, signal_of, Step, gate, register, index, IsRead, IsStep, AreSteps}
use Rattle.accepted_gadget.proofs.Cells.{GateName, Dress, cell_of}
use Rattle.accepted_gadget.proofs.Wires.{bit, spot_bit}
use Rattle.accepted_gadget.proofs.Driving.{gate_kind, plain_flop, gate_named, flop_named, flop_letters, AreCells, step_reads, reads_are, spot_source}
use Rattle.accepted_gadget.proofs.Building.{IsGadget, nets_of, are_nets, all_by_cells, all_cells, ends_at, once, no_lines}

-- what a net cell leaves open
pub record NetDress : Type 0 where
  pub line : ℕ
  pub kind : GateName
  pub one : ℕ
  pub two : ℕ
  pub output : ℕ

-- a step with its number
pub record StepAt (d k : ℕ) (R : Step → NetCell → Type 0) (c : NetCell) : Type 0 where
  pub step : Step
  pub is : IsStep d k step
  pub cell : R step c

abbrev pub Along : (Step → NetCell → Type 0) → List Step → List NetCell → Type 0
Along R [] [] = Unit {0}
Along R (s ∷ ss) (c ∷ cs) = R s c × Along R ss cs
Along R [] (c ∷ cs) = ⊥
Along R (s ∷ ss) [] = ⊥

pub step_at : (d n i : ℕ) (R : Step → NetCell → Type 0) (ss : List Step) (cs : List NetCell) (e : NetCell) → AreSteps d n ss → Along R ss cs → i < length cs
    → StepAt d (n + i) R (get_or cs i e)
step_at d n i R [] [] e h a low = absurd (omega (arith, low))
step_at d n i R [] (c ∷ cs) e h a low = absurd a
step_at d n i R (s ∷ ss) [] e h a low = absurd a
step_at d n zero R (s ∷ ss) (c ∷ cs) e h a low =
    let z : n ≡ n + 0 = omega arith in
    record { step = s; is = subst (λ v. IsStep d v s) z h.0; cell = a.0 }
step_at d n (suc i) R (s ∷ ss) (c ∷ cs) e h a low =
    let z : n + 1 + i ≡ n + suc i = omega arith in
    subst (λ v. StepAt d v R (get_or cs i e)) z (step_at d (n + 1) i R ss cs e h.1 a.1 (omega (arith, low)))

pub along_length : (R : Step → NetCell → Type 0) (ss : List Step) (cs : List NetCell) → Along R ss cs → length cs ≡ length ss
along_length R [] [] a = refl
along_length R [] (c ∷ cs) a = absurd a
along_length R (s ∷ ss) [] a = absurd a
along_length R (s ∷ ss) (c ∷ cs) a = ap suc (along_length R ss cs a.1)

module _ (d : ℕ) (ss : List Step) (items : List Item) (is : IsGadget d ss items) where
  abbrev pub src : Spot → Source
  src s = spot_source d is.few (net_wires items) is.spots s

  within : EachWithin (net_wires items)
  within = each_within (net_wires items) (wires_within (net_wires items) items refl)

  are_once : AreOnce (net_wires items) (drives (net_wires items) items) (length (kept_cells items))
  are_once = record {
    once = no_lines _ (once d ss items is);
    wires = within;
    drives = drives_within (net_wires items) items within;
  }

  are_sources : AreSources (net_wires items) (drives (net_wires items) items) (nets_of items).sources
  are_sources = let n = are_nets items (all_by_cells d ss items is) in record { each_bit = wired n; ends = ended n }
    where
      wired : AreNets items (nets_of items) → length (nets_of items).sources ≡ bit_count (net_wires items)
      wired n = n.each_bit

      ended : AreNets items (nets_of items) → (k : ℕ) → k < length (nets_of items).sources
          → EndsAt (net_wires items) (drives (net_wires items) items) (Net k) (get_or (nets_of items).sources k source.Missing)
      ended n = n.ends

  bit_within : (s : Spot) → is_spot d s ≡ true → IsWithin (bit_count (net_wires items)) (Net (bit (net_wires items) s))
  bit_within s spot =
      (subst (Each (IsWithin (bit_count (net_wires items)))) (spot_bit d is.few (net_wires items) is.spots s spot).bits
      (bits_within (bit_count (net_wires items)) (net_wires items) within (signal_of d s))).0

  -- what a read of a spot's bit ends at
  pub end_of : (s : Spot) → is_spot d s ≡ true → end_in (nets_of items).sources (Net (bit (net_wires items) s)) ≡ src s
  end_of s spot =
      ends_at_once (net_wires items) (drives (net_wires items) items) (length (kept_cells items)) are_once (Net (bit (net_wires items) s))
      (end_in (nets_of items).sources (Net (bit (net_wires items) s))) (src s)
      (bit_ends (net_wires items) (drives (net_wires items) items) (nets_of items).sources are_sources (Net (bit (net_wires items) s)) (bit_within s spot))
      (ends_at d ss items is s spot)

  -- ---- cells

  abbrev pub pin : ℕ → Spot → Pin
  pin line s = record { line = line; source = src s }

  abbrev pub net_cell_for : Step → NetDress → NetCell
  net_cell_for (gate a b y) x = record { line = x.line; kind = Gate (gate_kind x.kind); pins = pin x.one a ∷ pin x.two b ∷ []; output = x.output }
  net_cell_for (register a y) x = record { line = x.line; kind = Flop plain_flop; pins = pin x.two a ∷ pin x.one clock ∷ []; output = x.output }

  abbrev pub IsNetCell : Step → NetCell → Type 0
  IsNetCell s c = (x : NetDress) × (c ≡ net_cell_for s x)

  abbrev pin_on : ℕ → Source → Pin
  pin_on line s = record { line = line; source = s }

  step_pins : (k : ℕ) (s : Step) (x : Dress) (y : NetDress) → IsStep d k s → y.one ≡ x.one → y.two ≡ x.two
      → map (pin_of (nets_of items).sources) (step_reads d is.few (net_wires items) is.spots s x) ≡ (net_cell_for s y).pins
  step_pins k (gate a b z) x y st e f =
      ap (λ v. pin_on x.one v ∷ pin_on x.two (end_in (nets_of items).sources (Net (bit (net_wires items) b))) ∷ []) (end_of a st.0.spot)
      ∙ (ap (λ v. pin_on x.one (src a) ∷ pin_on x.two v ∷ []) (end_of b st.1.spot)
      ∙ (ap (λ v. pin_on v (src a) ∷ pin_on x.two (src b) ∷ []) (sym e) ∙ ap (λ v. pin_on y.one (src a) ∷ pin_on v (src b) ∷ []) (sym f)))
  step_pins k (register a z) x y st e f =
      ap (λ v. pin_on x.two v ∷ pin_on x.one (end_in (nets_of items).sources (Net (bit (net_wires items) clock))) ∷ []) (end_of a st.0.spot)
      ∙ (ap (λ v. pin_on x.two (src a) ∷ pin_on x.one v ∷ []) (end_of clock refl)
      ∙ (ap (λ v. pin_on v (src a) ∷ pin_on x.one (src clock) ∷ []) (sym f) ∙ ap (λ v. pin_on y.two (src a) ∷ pin_on v (src clock) ∷ []) (sym e)))

  abbrev output_of : Step → Dress → CellKind → ℕ
  output_of s x kind = output_net (net_wires items) (output_connect (cell_of d s x) (Some kind))

  gate_cell : (k : ℕ) (a b z : Spot) (x : Dress) → IsStep d k (gate a b z)
      → net_cell (net_wires items) (nets_of items).sources (cell_of d (gate a b z) x)
      ≡ net_cell_for (gate a b z) (record { line = x.line; kind = x.kind; one = x.one; two = x.two; output = output_of (gate a b z) x (Gate (gate_kind x.kind)) }) ∷ []
  unfolding net_cell
  gate_cell k a b z x st =
      let c = cell_of d (gate a b z) x in
      let y : NetDress = record { line = x.line; kind = x.kind; one = x.one; two = x.two; output = output_of (gate a b z) x (Gate (gate_kind x.kind)) } in
      ap (net_cell_of (net_wires items) (nets_of items).sources c) (gate_named x.kind)
      ∙ (ap (λ rs. record { line = x.line; kind = Gate (gate_kind x.kind); pins = map (pin_of (nets_of items).sources) rs; output = y.output } ∷ [])
      (reads_are d is.few (net_wires items) is.spots k (gate a b z) x st)
      ∙ ap (λ ps. record { line = x.line; kind = Gate (gate_kind x.kind); pins = ps; output = y.output } ∷ []) (step_pins k (gate a b z) x y st refl refl))

  flop_cell : (k : ℕ) (a z : Spot) (x : Dress) → IsStep d k (register a z)
      → net_cell (net_wires items) (nets_of items).sources (cell_of d (register a z) x)
      ≡ net_cell_for (register a z) (record { line = x.line; kind = x.kind; one = x.one; two = x.two; output = output_of (register a z) x (Flop plain_flop) }) ∷ []
  unfolding net_cell
  flop_cell k a z x st =
      let c = cell_of d (register a z) x in
      let y : NetDress = record { line = x.line; kind = x.kind; one = x.one; two = x.two; output = output_of (register a z) x (Flop plain_flop) } in
      ap (net_cell_of (net_wires items) (nets_of items).sources c) flop_named
      ∙ (ap (λ rs. record { line = x.line; kind = Flop plain_flop; pins = map (pin_of (nets_of items).sources) rs; output = y.output } ∷ [])
      (reads_are d is.few (net_wires items) is.spots k (register a z) x st)
      ∙ ap (λ ps. record { line = x.line; kind = Flop plain_flop; pins = ps; output = y.output } ∷ []) (step_pins k (register a z) x y st refl refl))

  some_cell : (k : ℕ) (s : Step) (x : Dress) → IsStep d k s
      → (y : NetDress) × (net_cell (net_wires items) (nets_of items).sources (cell_of d s x) ≡ net_cell_for s y ∷ [])
  some_cell k (gate a b z) x st =
      (record { line = x.line; kind = x.kind; one = x.one; two = x.two; output = output_of (gate a b z) x (Gate (gate_kind x.kind)) }, gate_cell k a b z x st)
  some_cell k (register a z) x st =
      (record { line = x.line; kind = x.kind; one = x.one; two = x.two; output = output_of (register a z) x (Flop plain_flop) }, flop_cell k a z x st)

  cells_along : (k : ℕ) (ts : List Step) (cs : List Cell) → AreCells d ts cs → AreSteps d k ts
      → Along IsNetCell ts (flat_map (net_cell (net_wires items) (nets_of items).sources) cs)
  cells_along k [] [] h st = tt
  cells_along k [] (c ∷ cs) h st = absurd h
  cells_along k (t ∷ ts) [] h st = absurd h
  cells_along k (t ∷ ts) (c ∷ cs) h st =
      let one = some_cell k t h.0.0 st.0 in
      let rest = flat_map (net_cell (net_wires items) (nets_of items).sources) cs in
      subst (λ v. Along IsNetCell (t ∷ ts) (net_cell (net_wires items) (nets_of items).sources v ++ rest)) (sym h.0.1)
      (subst (λ v. Along IsNetCell (t ∷ ts) (v ++ rest)) (sym one.1) ((one.0, refl), cells_along (k + 1) ts cs h.1 st.1))

  pub net_cells : Along IsNetCell ss (nets_of items).cells
  unfolding nets_of
  net_cells = cells_along 0 ss (kept_cells items) (all_cells d ss items is) is.ordered

  pub cell_count : length (nets_of items).cells ≡ length ss
  cell_count = along_length IsNetCell ss (nets_of items).cells net_cells

  pub at_number : (k : ℕ) → k < length (nets_of items).cells → StepAt d k IsNetCell (cell_at (nets_of items) k)
  at_number k low =
      let z : 0 + k ≡ k = omega arith in
      subst (λ v. StepAt d v IsNetCell (cell_at (nets_of items) k)) z (step_at d 0 k IsNetCell ss (nets_of items).cells _ is.ordered net_cells low)

  -- ---- order

  data_of : (c : NetCell) (a y : Spot) (x : NetDress) → c ≡ net_cell_for (register a y) x → settled_sources c ≡ src a ∷ []
  data_of c a y x e =
      ap settled_sources e
      ∙ ap (λ ls. option_map_or (λ place. get_or (src a ∷ src clock ∷ []) place source.Missing) (position (λ l. l == 68) ls) source.Missing ∷ []) flop_letters

  ready : (holds : ℕ → Bool) (k : ℕ) (s : Spot) → IsRead d k s → ((j : ℕ) → j < k → holds j ≡ true) → is_ready holds (src s) ≡ true
  ready holds k s r below =
      ⊎_elim
      (λ yes. ap (is_ready holds) (cond-true (is_given s) (source.Input (bit (net_wires items) s)) (source.Cell (index d s)) yes))
      (λ no. ap (is_ready holds) (cond-false (is_given s) (source.Input (bit (net_wires items) s)) (source.Cell (index d s)) no)
      ∙ ⊎_elim (λ yes. absurd (both_ways (is_given s) no yes)) (λ low. below (index d s) low) r.before)
      (cases_Bool (is_given s))

  all_ready : (holds : ℕ → Bool) (k : ℕ) (c : NetCell) (s : Step) (x : NetDress) → IsStep d k s → c ≡ net_cell_for s x → ((j : ℕ) → j < k → holds j ≡ true)
      → list_all (is_ready holds) (settled_sources c) ≡ true
  all_ready holds k c (gate a b y) x st e below =
      ap (λ v. list_all (is_ready holds) (settled_sources v)) e
      ∙ (ap (λ v. v && (is_ready holds (src b) && true)) (ready holds k a st.0 below) ∙ ap (λ v. v && true) (ready holds k b st.1 below))
  all_ready holds k c (register a y) x st e below =
      ap (list_all (is_ready holds)) (data_of c a y x e) ∙ ap (λ v. v && true) (ready holds k a st.0 below)

  settled_below : (m k : ℕ) → k < m → k < length (nets_of items).cells → has (order Settled (nets_of items)) k ≡ true
  settled_below zero k less low = absurd (omega (arith, less))
  settled_below (suc m) k less low =
      let at = at_number k low in
      (order_is_least settled_sources (nets_of items)).closed k low
      (all_ready (has (order Settled (nets_of items))) k (cell_at (nets_of items) k) at.step at.cell.0 at.is at.cell.1
      (λ j before. settled_below m j (omega (arith, less, before)) (omega (arith, low, before))))

  pub all_settled : AllSettled Settled (nets_of items)
  all_settled k low = settled_below (suc k) k (omega arith) low

  pub all_levelled : AllLevelled (nets_of items)
  all_levelled = settled_are_levelled (nets_of items) Settled all_settled

  no_reset : (roles : Roles) (c : NetCell) (s : Step) (x : NetDress) → c ≡ net_cell_for s x → has_open_reset (held_value roles (nets_of items)) c c.kind ≡ false
  no_reset roles c (gate a b y) x e = ap (λ (v : NetCell). has_open_reset (held_value roles (nets_of items)) v v.kind) e
  no_reset roles c (register a y) x e = ap (λ (v : NetCell). has_open_reset (held_value roles (nets_of items)) v v.kind) e

  no_enable : (roles : Roles) (c : NetCell) (s : Step) (x : NetDress) → c ≡ net_cell_for s x → has_open_enable (held_value roles (nets_of items)) c c.kind ≡ false
  no_enable roles c (gate a b y) x e = ap (λ (v : NetCell). has_open_enable (held_value roles (nets_of items)) v v.kind) e
  no_enable roles c (register a y) x e = ap (λ (v : NetCell). has_open_enable (held_value roles (nets_of items)) v v.kind) e

  none_at : (test : ℕ → Bool) → ((k : ℕ) → k < length (nets_of items).cells → test k ≡ false) → (line : ℕ) → AtCell (nets_of items) test line → ⊥
  none_at test f line a = both_ways (test a.0) (f a.0 a.1) a.2

  pub levels_clear : (roles : Roles) → IsClear (level_causes roles Settled (nets_of items))
  unfolding level_causes
  levels_clear roles = (
    none_at (λ k. not (is_levelled (nets_of items) k)) (λ k low. ap not (all_levelled k low)),
    (
      none_at (λ k. not (is_settled Settled (nets_of items) k)) (λ k low. ap not (all_settled k low)),
      (
        none_at (λ k. has_open_reset (held_value roles (nets_of items)) (cell_at (nets_of items) k) (cell_at (nets_of items) k).kind)
            (λ k low. let at = at_number k low in no_reset roles (cell_at (nets_of items) k) at.step at.cell.0 at.cell.1),
        (
          none_at (λ k. has_open_enable (held_value roles (nets_of items)) (cell_at (nets_of items) k) (cell_at (nets_of items) k).kind)
              (λ k low. let at = at_number k low in no_enable roles (cell_at (nets_of items) k) at.step at.cell.0 at.cell.1),
          tt,
        ),
      ),
    ),
  )
