-- No refusal of the notes of a gadget is due.
use Rattle.std.proofs.Common.{◌≡◌, ℕ, zero, suc, ◌+◌, ◌≤◌, ◌==◌, ◌&&◌, ◌||◌, ⊎_elim, cond, Bool, true, false, not, List, [], ◌∷◌, ◌++◌, map, filter, get_or, refl, sym, ap, subst, ◌∙◌, arith}
use Rattle.std.specs.Prelude.{Contains}
use Rattle.std.specs.List.{flat_map, list_any, zip, range_with_len}
use Rattle.std.proofs.lemmas.Bool.{cases_Bool, cond-true, cond-false, cond_both, eqb-true, both_ways, lt-ltb}
use Rattle.circuit_types.specs.Drives.{is_input}
use Rattle.circuit_types.specs.Due.{IsClear, Cause, at_lines}
use Rattle.circuit_types.specs.Items.{net_wires}
use Rattle.circuit_types.specs.Reads.{is_output}
use Rattle.circuit_types.specs.declared.nets.NetCell.{NetCell}
use Rattle.circuit_types.specs.declared.nets.NetWire.{NetWire}
use Rattle.circuit_types.specs.declared.nets.Nets.{Nets}
use Rattle.circuit_types.specs.declared.nets.Pin.{Pin}
use Rattle.circuit_types.specs.declared.nets.Source.{Source}
use Rattle.circuit_types.specs.declared.nets.Source.TheVariants as source
use Rattle.circuit_types.specs.declared.refusal.Refusal.TheVariants.{NoteForm, NoteMissing}
use Rattle.circuit_types.specs.declared.tree.Item.{Item}
use Rattle.share_notes.specs.declared.direction.Direction.TheVariants as direction
use Rattle.share_notes.specs.declared.mark.MarkedWire.{MarkedWire}
use Rattle.share_notes.specs.Causes.{is_wrong, is_absent, form_lines, missing_lines, gap_lines, double_lines, share_causes, role_causes}
use Rattle.share_notes.specs.Clocks.{is_clock, is_clock_mark, clock_bits, is_clock_source, is_misread, misread_pins, misread_wires, misuses, clock_lines}
use Rattle.share_notes.specs.Lines.{wire_lines}
use Rattle.share_notes.specs.PortOrder.{in_port_order}
use Rattle.share_notes.specs.Shares.{share_count, numbered_shares, has_share_note, single_lines}
use Rattle.gadget_maker.specs.Gadget.{all_items}
use Rattle.gadget_maker.specs.Listed.{placed}
use Rattle.gadget_maker.proofs.Each.{Each}
use Rattle.accepted_gadget.proofs.Spots.{Spot, clock, at_port, is_spot, is_given, Step, gate, register, index, IsRead, IsStep, AreSteps, steps}
use Rattle.accepted_gadget.proofs.Spots as spots
use Rattle.accepted_gadget.proofs.Wires.{bit, apart, first_of}
use Rattle.accepted_gadget.proofs.Driving.{gate_letters, flop_letters}
use Rattle.accepted_gadget.proofs.Building.{IsGadget, nets_of, no_lines, none_pass}
use Rattle.accepted_gadget.proofs.Shaped.{is_gadget}
use Rattle.accepted_gadget.proofs.Levelled.{NetDress, Along, src, end_of, net_cell_for, IsNetCell, net_cells}
use Rattle.accepted_gadget.proofs.Noted.{IsBare, with_ports, inner_marks, all_bare, marked, port_order, numbered_alike, share_count_is, in_shares, out_shares, AreShared, shared}

-- ---- the clock

-- a test and another, one after the other
filter_both : {X : Type 0} (p q : X → Bool) (xs : List X) → filter (λ x. p x && q x) xs ≡ filter q (filter p xs)
filter_both p q [] = refl
filter_both p q (x ∷ xs) =
    ⊎_elim
    (λ t. ap (λ b. cond (b && q x) (x ∷ filter (λ x. p x && q x) xs) (filter (λ x. p x && q x) xs)) t
    ∙ (ap (λ v. cond (q x) (x ∷ v) v) (filter_both p q xs)
    ∙ sym (ap (filter q) (cond-true (p x) (x ∷ filter p xs) (filter p xs) t))))
    (λ f. ap (λ b. cond (b && q x) (x ∷ filter (λ x. p x && q x) xs) (filter (λ x. p x && q x) xs)) f
    ∙ (filter_both p q xs ∙ sym (ap (filter q) (cond-false (p x) (x ∷ filter p xs) (filter p xs) f))))
    (cases_Bool (p x))

none_of : {X : Type 0} (p : X → Bool) (xs : List X) → Each (λ x. p x ≡ false) xs → list_any p xs ≡ false
none_of p [] h = refl
none_of p (x ∷ xs) h = ap (λ b. b || list_any p xs) h.0 ∙ none_of p xs h.1

module _ (d : ℕ) (ss : List Step) (items : List Item) (is : IsGadget d ss items) where
  abbrev at_clock : Source → Bool
  at_clock s = is_clock_source (0 ∷ []) s

  -- the clock is at the clock, and no other spot is
  clock_at : at_clock (src d ss items is clock) ≡ true
  clock_at = ap (λ b. (0 == b) || false) is.clock_first

  same_clock : (s : Spot) → s ≡ clock → spots.is_clock s ≡ true
  same_clock s e = ap spots.is_clock e

  other_bit : (s : Spot) → is_spot d s ≡ true → spots.is_clock s ≡ false → (0 == bit (net_wires items) s) ≡ false
  other_bit s spot other =
      ⊎_elim
      (λ t. absurd (both_ways (spots.is_clock s) other
      (same_clock s (apart d is.few (net_wires items) is.spots s clock spot refl (sym (eqb-true 0 (bit (net_wires items) s) t) ∙ sym is.clock_first)))))
      (λ f. f)
      (cases_Bool (0 == bit (net_wires items) s))

  other_at : (s : Spot) → is_spot d s ≡ true → spots.is_clock s ≡ false → at_clock (src d ss items is s) ≡ false
  other_at s spot other =
      cond_both (is_given s) (source.Input (bit (net_wires items) s)) (source.Cell (index d s)) (λ v. at_clock v ≡ false)
      (λ yes. ap (λ b. b || false) (other_bit s spot other)) (λ inner. refl)

  abbrev misread : NetCell → List (ℕ × Pin) → List ℕ
  misread c pins = map (λ (pin : ℕ × Pin). pin.1.line) (filter (is_misread at_clock c.kind) pins)

  no_misread : (k : ℕ) (s : Step) (c : NetCell) (x : NetDress) → IsStep d k s → c ≡ net_cell_for d ss items is s x → misread_pins at_clock c ≡ []
  no_misread k (gate a b y) c x st e =
      let lit = net_cell_for d ss items is (gate a b y) x in
      let pa : Pin = record { line = x.one; source = src d ss items is a } in
      let pb : Pin = record { line = x.two; source = src d ss items is b } in
      ap (misread_pins at_clock) e
      ∙ (ap (λ ls. misread lit (zip ls (pa ∷ pb ∷ []))) (gate_letters x.kind)
      ∙ (ap (λ v. map (λ (pin : ℕ × Pin). pin.1.line) (cond v ((65, pa) ∷ filter (is_misread at_clock lit.kind) ((66, pb) ∷ [])) (filter (is_misread at_clock lit.kind) ((66, pb) ∷ []))))
      (other_at a st.0.spot st.0.no_clock)
      ∙ ap (λ v. map (λ (pin : ℕ × Pin). pin.1.line) (cond v ((66, pb) ∷ []) [])) (other_at b st.1.spot st.1.no_clock)))
  no_misread k (register a y) c x st e =
      let lit = net_cell_for d ss items is (register a y) x in
      let pa : Pin = record { line = x.two; source = src d ss items is a } in
      let pc : Pin = record { line = x.one; source = src d ss items is clock } in
      ap (misread_pins at_clock) e
      ∙ (ap (λ ls. misread lit (zip ls (pa ∷ pc ∷ []))) flop_letters
      ∙ (ap (λ v. map (λ (pin : ℕ × Pin). pin.1.line) (cond v ((68, pa) ∷ filter (is_misread at_clock lit.kind) ((67, pc) ∷ [])) (filter (is_misread at_clock lit.kind) ((67, pc) ∷ []))))
      (other_at a st.0.spot st.0.no_clock)
      ∙ ap (λ v. map (λ (pin : ℕ × Pin). pin.1.line) (cond (not v) ((67, pc) ∷ []) [])) clock_at))

  cells_read_well : (k : ℕ) (ts : List Step) (cs : List NetCell) → Along (IsNetCell d ss items is) ts cs → AreSteps d k ts
      → flat_map (misread_pins at_clock) cs ≡ []
  cells_read_well k [] [] h st = refl
  cells_read_well k [] (c ∷ cs) h st = absurd h
  cells_read_well k (t ∷ ts) [] h st = absurd h
  cells_read_well k (t ∷ ts) (c ∷ cs) h st =
      ap (λ v. v ++ flat_map (misread_pins at_clock) cs) (no_misread k t c h.0.0 st.0 h.0.1) ∙ cells_read_well (k + 1) ts cs h.1 st.1

  share_ends : (p n : ℕ) → p + n ≤ d
      → Each (λ k. at_clock (get_or (nets_of items).sources (is.last.first + k) source.Missing) ≡ false) (range_with_len p n)
  share_ends p zero low = tt
  share_ends p (suc n) low =
      let spot : is_spot d (at_port 99 p) ≡ true = lt-ltb p d (omega (arith, low)) in
      let at : bit (net_wires items) (at_port 99 p) ≡ is.last.first + p = ap (λ o. first_of o + p) is.last_is.named in (
        subst (λ k. at_clock (get_or (nets_of items).sources k source.Missing) ≡ false) at
            (ap at_clock (end_of d ss items is (at_port 99 p) spot) ∙ other_at (at_port 99 p) spot refl),
        share_ends (p + 1) n (omega (arith, low)),
      )

  last_ends : list_any (λ k. at_clock (get_or (nets_of items).sources (is.last.first + k) source.Missing)) (range_with_len 0 is.last.width) ≡ false
  last_ends =
      none_of (λ k. at_clock (get_or (nets_of items).sources (is.last.first + k) source.Missing)) (range_with_len 0 is.last.width)
      (share_ends 0 is.last.width (omega (arith, is.last_is.width)))

  abbrev reaches_clock : NetWire → Bool
  reaches_clock w = list_any (λ k. at_clock (get_or (nets_of items).sources (w.first + k) source.Missing)) (range_with_len 0 w.width)

  wires_read_well : misread_wires at_clock (nets_of items).sources (net_wires items) ≡ []
  wires_read_well =
      ap (map (λ (w : NetWire). w.line))
      (filter_both (λ (w : NetWire). is_output w.port) reaches_clock (net_wires items)
      ∙ (ap (filter reaches_clock) is.last_is.only ∙ ap (λ b. cond b (is.last ∷ []) []) last_ends))

  pub no_misuses : misuses at_clock (nets_of items) ≡ []
  unfolding nets_of
  no_misuses =
      ap (λ v. v ++ misread_wires at_clock (nets_of items).sources (net_wires items)) (cells_read_well 0 ss (nets_of items).cells (net_cells d ss items is) is.ordered)
      ∙ wires_read_well

-- ---- no refusal

no_clocks : (ws : List MarkedWire) → Each IsBare ws → filter is_clock ws ≡ []
no_clocks ws h = none_pass IsBare is_clock (λ w b. ap is_clock_mark b.mark) ws h

clocks_clear : (d : ℕ) (ws : List MarkedWire) (nets : Nets) → Each IsBare ws → misuses (is_clock_source (0 ∷ [])) nets ≡ [] → clock_lines (with_ports d ws) nets ≡ []
unfolding clock_lines
clocks_clear d ws nets h well =
    ap (λ v. map (λ (w : MarkedWire). w.line) v ++ misuses (is_clock_source (clock_bits (with_ports d ws))) nets) (no_clocks ws h)
    ∙ (ap (λ v. misuses (is_clock_source (0 ∷ map (λ (w : MarkedWire). w.first) v)) nets) (no_clocks ws h) ∙ well)

abbrev causes_by : List MarkedWire → Nets → List Cause
causes_by ws nets =
    at_lines (λ l. NoteForm l) (Contains (form_lines ws))
    ∷ at_lines (λ l. NoteMissing l) (Contains (missing_lines ws))
    ∷ share_causes (share_count ws) (single_lines (share_count ws) ws) (clock_lines ws nets)
    (numbered_shares direction.Input (in_port_order ws)) (numbered_shares direction.Output (in_port_order ws))

shares_clear : (d n : ℕ) (single clocks : List ℕ) (ws : List MarkedWire) → Each IsBare ws → AreShared d → n ≡ d → single ≡ [] → clocks ≡ []
    → IsClear (share_causes n single clocks (numbered_shares direction.Input (in_port_order (with_ports d ws))) (numbered_shares direction.Output (in_port_order (with_ports d ws))))
shares_clear d n single clocks ws h sharing e s c =
    let input = ap (numbered_shares direction.Input) (port_order d ws h) ∙ (numbered_alike direction.Input ws (with_ports d []) h ∙ sharing.ins) in
    let output = ap (numbered_shares direction.Output) (port_order d ws h) ∙ (numbered_alike direction.Output ws (with_ports d []) h ∙ sharing.outs) in
    subst (λ v. IsClear (share_causes v single clocks (numbered_shares direction.Input (in_port_order (with_ports d ws))) (numbered_shares direction.Output (in_port_order (with_ports d ws))))) (sym e)
    (subst (λ v. IsClear (share_causes d single clocks v (numbered_shares direction.Output (in_port_order (with_ports d ws))))) (sym input)
    (subst (λ v. IsClear (share_causes d single clocks (in_shares d) v)) (sym output)
    (subst (λ v. IsClear (share_causes d v clocks (in_shares d) (out_shares d))) (sym s)
    (no_lines (gap_lines d [] (in_shares d) (out_shares d)) sharing.gaps, (no_lines (double_lines (in_shares d) (out_shares d)) sharing.doubles, (no_lines clocks c, tt))))))

ports_clear : (d : ℕ) (ws : List MarkedWire) (nets : Nets) → Each IsBare ws → AreShared d → misuses (is_clock_source (0 ∷ [])) nets ≡ []
    → IsClear (causes_by (with_ports d ws) nets)
ports_clear d ws nets h sharing well = (
  no_lines (form_lines (with_ports d ws)) (ap (map (λ (w : MarkedWire). w.line)) (none_pass IsBare (λ (w : MarkedWire). is_wrong w.mark) (λ w b. ap is_wrong b.mark) ws h)),
  (
    no_lines (missing_lines (with_ports d ws))
        (ap (map (λ (w : MarkedWire). w.line))
        (none_pass IsBare (λ (w : MarkedWire). is_input w.port && is_absent w.mark) (λ w b. ap (λ p. is_input p && is_absent w.mark) b.inner) ws h)),
    shares_clear d (share_count (with_ports d ws)) (single_lines (share_count (with_ports d ws)) (with_ports d ws)) (clock_lines (with_ports d ws) nets) ws h sharing
        (share_count_is d ws h ∙ sharing.count)
        (ap (λ n. single_lines n (with_ports d ws)) (share_count_is d ws h ∙ sharing.count)
        ∙ cond-false (d == 1) (wire_lines has_share_note (with_ports d ws)) [] sharing.several)
        (clocks_clear d ws nets h well),
  ),
)

pub notes_clear : (seed d : ℕ) → 2 ≤ d → d ≤ 16 → IsClear (role_causes (placed 3 0 (all_items seed d)) (nets_of (placed 3 0 (all_items seed d))))
unfolding role_causes
notes_clear seed d some few =
    let items = placed 3 0 (all_items seed d) in
    subst (λ ws. IsClear (causes_by ws (nets_of items))) (sym (marked seed d few))
    (ports_clear d (inner_marks seed d) (nets_of items) (all_bare seed d) (shared d some few) (no_misuses d (steps d) items (is_gadget seed d some few)))
