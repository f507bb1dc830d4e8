-- The nets of a module: which refusal is due, what accepted nets are, and that there are no others.
use Rattle.std.proofs.Common.{◌≡◌, ℕ, zero, suc, true, false, inl, inr, ⊎_elim, List, [], ◌∷◌, ◌++◌, length, take, drop, map, filter, get_or, Option, Some, None, Result, Ok, Err, refl, sym, ap, ◌∙◌, subst, arith, length-append}
use Rattle.std.specs.Prelude.{Contains, is_none, IfOk, IfErr}
use Rattle.std.specs.List.{All, Any, flat_map}
use Rattle.std.proofs.lemmas.List.Elements.{All-from_recursion, All-from_get_or}
use Rattle.cell_kinds.specs.declared.kind.CellKind.{CellKind}
use Rattle.cell_kinds.specs.Names.{kind_named}
use Rattle.circuit_types.proofs.DueOnce.{due_once, clear_or_due}
use Rattle.circuit_types.specs.DataSources.{IsWithin, IsWired, pin_sources}
use Rattle.circuit_types.specs.Due.{Cause, Never, IsClear, IsDue}
use Rattle.circuit_types.specs.Items.{kept_cells, net_wires, bit_count}
use Rattle.circuit_types.specs.Drives.{Drive, drives, redriven, Ends, EndsNowhere, EndsAt}
use Rattle.circuit_types.specs.Nets.{net_causes, AreNets, end_in, pin_of, net_cell, net_cell_of}
use Rattle.circuit_types.specs.Reads.{Read, cell_reads, is_output, wire_reads, reads}
use Rattle.circuit_types.specs.declared.nets.NetCell.{NetCell}
use Rattle.circuit_types.specs.declared.nets.NetWire.{NetWire}
use Rattle.circuit_types.specs.declared.nets.Nets.{Nets}
use Rattle.circuit_types.specs.declared.nets.Pin.{Pin}
use Rattle.circuit_types.specs.declared.nets.SignalBit.{SignalBit}
use Rattle.circuit_types.specs.declared.nets.SignalBit.TheVariants as bit
use Rattle.circuit_types.specs.declared.nets.Source.{Source}
use Rattle.circuit_types.specs.declared.nets.Source.TheVariants as source
use Rattle.circuit_types.specs.declared.refusal.Refusal.{Refusal}
use Rattle.circuit_types.specs.declared.refusal.Refusal.TheVariants.{Undriven, UnknownBit}
use Rattle.circuit_types.specs.declared.refusal.Stop.{Stop}
use Rattle.circuit_types.specs.declared.refusal.Stop.TheVariants.{Refused, NoMemory}
use Rattle.circuit_types.specs.declared.tree.Cell.{Cell}
use Rattle.circuit_types.specs.declared.tree.Item.{Item}
use Rattle.net_build.specs.Built.{IsAccepted, IsEnd, AreReadEnds, AnswersNets, AnswersRefusal}
use Rattle.net_build.specs.Drives.{IsTwice}
use Rattle.net_build.specs.Drivers as drivers
use Rattle.net_build.specs.Form.{form_causes, Decides}
use Rattle.net_build.specs.Reading.{is_missing, is_unknown, AreReadFaults, read_refusal}
use Rattle.net_build.specs.Sources.{AreSources}
use Rattle.net_build.specs.Stops.{IfRefused}
use Rattle.net_build.specs.declared.reads.ReadFaults.{ReadFaults}
use Rattle.net_build.proofs.DriveLemmas.{kept_fewer}
use Rattle.net_build.proofs.EachLemmas.{Each, each_flat, each_weaker, any_first, any_later}
use Rattle.net_build.proofs.GoodLemmas.{known_kinds, few_bits, few_cells}
use Rattle.net_build.proofs.ReadLemmas.{reads_decide, missing_is, unknown_is, pins_are_reads}
use Rattle.net_build.proofs.SourceLemmas.{AreOnce, at_cases, ends_at_once, sources_once, bit_ends, IsSourceWithin, source_within}
use Rattle.net_build.proofs.WithinLemmas.{EachWithin, each_within, wires_within, drives_within, reads_within}

-- the first causes, and the others
due_first : (n : ℕ) (cs : List Cause) (r : Refusal) → IsDue (take n cs) r → IsDue cs r
due_first zero cs r d = absurd d
due_first (suc n) [] r d = absurd d
due_first (suc n) (c ∷ cs) r d = ⊎_elim (λ g. inl g) (λ k. inr (k.0, due_first n cs r k.1)) d

due_later : (n : ℕ) (cs : List Cause) (r : Refusal) → IsClear (take n cs) → IsDue (drop n cs) r → IsDue cs r
due_later zero cs r h d = d
due_later (suc n) [] r h d = absurd d
due_later (suc n) (c ∷ cs) r h d = inr (h.0, due_later n cs r h.1 d)

clear_both : (n : ℕ) (cs : List Cause) → IsClear (take n cs) → IsClear (drop n cs) → IsClear cs
clear_both zero cs h k = k
clear_both (suc n) [] h k = tt
clear_both (suc n) (c ∷ cs) h k = (h.0, clear_both n cs h.1 k)

clear_first : (n : ℕ) (cs : List Cause) → IsClear cs → IsClear (take n cs)
clear_first zero cs h = tt
clear_first (suc n) [] h = tt
clear_first (suc n) (c ∷ cs) h = (h.0, clear_first n cs h.1)

pub form_due : (items : List Item) (s : Stop) → IfRefused s (λ r. IsDue (form_causes items) r) → IfRefused s (IsDue (net_causes items))
form_due items (Refused r) d = due_first 9 (net_causes items) r d
form_due items NoMemory d = tt

twice_first : (items : List Item) (ws : List NetWire) (r : Refusal) → ws ≡ net_wires items → IsTwice ws (drives ws items) r → IsDue (drop 9 (net_causes items)) r
unfolding net_causes
twice_first items ws r e t = inl (subst (λ v. IsTwice v (drives v items) r) e t)

pub twice_due : (items : List Item) (ws : List NetWire) (s : Stop) → ws ≡ net_wires items → IsClear (form_causes items) → IfRefused s (IsTwice ws (drives ws items))
    → IfRefused s (IsDue (net_causes items))
twice_due items ws (Refused r) e h t = due_later 9 (net_causes items) r h (twice_first items ws r e t)
twice_due items ws NoMemory e h t = tt

-- the ends of what is read
items_within : (items : List Item) → EachWithin (net_wires items)
items_within items = each_within (net_wires items) (wires_within (net_wires items) items refl)

once_of : (items : List Item) → Never (Contains (redriven (net_wires items) [] (drives (net_wires items) items)))
    → AreOnce (net_wires items) (drives (net_wires items) items) (length (kept_cells items))
once_of items n = record { once = n; wires = items_within items; drives = drives_within (net_wires items) items (items_within items) }

read_ends : (items : List Item) (sources : List Source) → AreSources (net_wires items) (drives (net_wires items) items) sources
    → Each (λ r. EndsAt (net_wires items) (drives (net_wires items) items) r.bit (end_in sources r.bit)) (reads (net_wires items) items)
read_ends items sources a =
    each_weaker (λ (r : Read). drivers.IsWithin (bit_count (net_wires items)) r.bit) (λ r. EndsAt (net_wires items) (drives (net_wires items) items) r.bit (end_in sources r.bit))
    (λ r w. bit_ends (net_wires items) (drives (net_wires items) items) sources a r.bit w) (reads (net_wires items) items)
    (reads_within (net_wires items) items (items_within items))

is_missing_of : (s : Source) → s ≡ source.Missing → is_missing s ≡ true
is_missing_of s e = ap is_missing e

is_unknown_of : (s : Source) → s ≡ source.Unknown → is_unknown s ≡ true
is_unknown_of s e = ap is_unknown e

missing_to : (ws : List NetWire) (ds : List Drive) (b : SignalBit) (e : Source) → EndsAt ws ds b e → EndsNowhere ws ds b → is_missing e ≡ true
missing_to ws ds b e h n = ⊎_elim (λ y. absurd (n e y)) (λ q. is_missing_of e q.0) (at_cases ws ds b e h)

missing_from : (ws : List NetWire) (ds : List Drive) (b : SignalBit) (e : Source) → EndsAt ws ds b e → is_missing e ≡ true → EndsNowhere ws ds b
missing_from ws ds b e h t = subst (EndsAt ws ds b) (missing_is e t) h

unknown_to : (ws : List NetWire) (ds : List Drive) (m : ℕ) → AreOnce ws ds m → (b : SignalBit) (e : Source) → EndsAt ws ds b e → Ends ws ds b source.Unknown → is_unknown e ≡ true
unknown_to ws ds m o b e h y = is_unknown_of e (ends_at_once ws ds m o b e source.Unknown h y)

unknown_from : (ws : List NetWire) (ds : List Drive) (b : SignalBit) (e : Source) → EndsAt ws ds b e → is_unknown e ≡ true → Ends ws ds b source.Unknown
unknown_from ws ds b e h t = subst (EndsAt ws ds b) (unknown_is e t) h

last_decide : (items : List Item) (sources : List Source) (f : ReadFaults) → AreSources (net_wires items) (drives (net_wires items) items) sources
    → Never (Contains (redriven (net_wires items) [] (drives (net_wires items) items)))
    → AreReadFaults (map (pin_of sources) (reads (net_wires items) items)) f → Decides (read_refusal f) (drop 10 (net_causes items))
unfolding net_causes
last_decide items sources f a n h =
    let ws = net_wires items in
    let ds = drives ws items in
    let rs = reads ws items in
    let at = read_ends items sources a in
    let E = λ (r : Read). EndsAt ws ds r.bit (end_in sources r.bit) in
    reads_decide (λ l. Undriven l) sources is_missing (λ r. EndsNowhere ws ds r.bit) rs f.undriven
    (each_weaker E (λ r. EndsNowhere ws ds r.bit → is_missing (end_in sources r.bit) ≡ true) (λ r e. missing_to ws ds r.bit (end_in sources r.bit) e) rs at)
    (each_weaker E (λ r. is_missing (end_in sources r.bit) ≡ true → EndsNowhere ws ds r.bit) (λ r e. missing_from ws ds r.bit (end_in sources r.bit) e) rs at)
    h.undriven _ _
    (reads_decide (λ l. UnknownBit l) sources is_unknown (λ r. Ends ws ds r.bit source.Unknown) rs f.unknown
    (each_weaker E (λ r. Ends ws ds r.bit source.Unknown → is_unknown (end_in sources r.bit) ≡ true)
    (λ r e. unknown_to ws ds (length (kept_cells items)) (once_of items n) r.bit (end_in sources r.bit) e) rs at)
    (each_weaker E (λ r. is_unknown (end_in sources r.bit) ≡ true → Ends ws ds r.bit source.Unknown) (λ r e. unknown_from ws ds r.bit (end_in sources r.bit) e) rs at)
    h.unknown None [] tt)

first_ten : (items : List Item) → IsClear (form_causes items) → Never (Contains (redriven (net_wires items) [] (drives (net_wires items) items))) → IsClear (take 10 (net_causes items))
unfolding net_causes
first_ten items h n = (h.0, (h.1.0, (h.1.1.0, (h.1.1.1.0, (h.1.1.1.1.0, (h.1.1.1.1.1.0, (h.1.1.1.1.1.1.0, (h.1.1.1.1.1.1.1.0, (h.1.1.1.1.1.1.1.1.0, (n, tt))))))))))

decided : (items : List Item) (o : Option Refusal) → IsClear (take 10 (net_causes items)) → Decides o (drop 10 (net_causes items)) → Decides o (net_causes items)
decided items None h d = clear_both 10 (net_causes items) h d
decided items (Some r) h d = due_later 10 (net_causes items) r h d

pub all_decided : (items : List Item) (ws : List NetWire) (sources : List Source) (f : ReadFaults) (o : Option Refusal) → ws ≡ net_wires items → IsClear (form_causes items)
    → AreSources ws (drives ws items) sources → Never (Contains (redriven ws [] (drives ws items)))
    → AreReadFaults (map (pin_of sources) (reads ws items)) f → o ≡ read_refusal f → Decides o (net_causes items)
all_decided items ws sources f o e h a n r q =
    let once = subst (λ v. Never (Contains (redriven v [] (drives v items)))) e n in
    subst (λ v. Decides v (net_causes items)) (sym q)
    (decided items (read_refusal f) (first_ten items h once)
    (last_decide items sources f (subst (λ v. AreSources v (drives v items) sources) e a) once (subst (λ v. AreReadFaults (map (pin_of sources) (reads v items)) f) e r)))

pub are_nets : (items : List Item) (ws : List NetWire) (sources : List Source) (cs : List NetCell) → ws ≡ net_wires items → AreSources ws (drives ws items) sources
    → cs ≡ flat_map (net_cell ws sources) (kept_cells items) → AreNets items (record { wires = ws; sources = sources; cells = cs })
are_nets items ws sources cs e a c =
    let b = subst (λ v. AreSources v (drives v items) sources) e a in
    record { each_wire = e; each_bit = b.each_bit; ends = b.ends; each_cell = c ∙ ap (λ v. flat_map (net_cell v sources) (kept_cells items)) e }

-- no other nets
net_once : (items : List Item) → IsClear (net_causes items) → Never (Contains (redriven (net_wires items) [] (drives (net_wires items) items)))
unfolding net_causes
net_once items h = h.1.1.1.1.1.1.1.1.1.0

sources_of : (items : List Item) (n : Nets) → AreNets items n → AreSources (net_wires items) (drives (net_wires items) items) n.sources
sources_of items n a = record { each_bit = a.each_bit; ends = a.ends }

same_nets : (n m : Nets) → n.wires ≡ m.wires → n.sources ≡ m.sources → n.cells ≡ m.cells → n ≡ m
same_nets n m p q r =
    let made : List NetWire → List Source → List NetCell → Nets = λ w s c. record { wires = w; sources = s; cells = c } in
    ap (λ w. made w n.sources n.cells) p ∙ (ap (λ s. made m.wires s n.cells) q ∙ ap (λ c. made m.wires m.sources c) r)

nets_once : (items : List Item) (n m : Nets) → IsClear (net_causes items) → AreNets items n → AreNets items m → n ≡ m
nets_once items n m h a b =
    let s = sources_once (net_wires items) (drives (net_wires items) items) (length (kept_cells items)) (once_of items (net_once items h)) n.sources m.sources (sources_of items n a) (sources_of items m b) in
    same_nets n m (a.each_wire ∙ sym b.each_wire) s
    (a.each_cell ∙ (ap (λ v. flat_map (net_cell (net_wires items) v) (kept_cells items)) s ∙ sym b.each_cell))

pub answers_nets : (items : List Item) (r : Result Nets Stop) (n : Nets) → IfOk r (IsAccepted items) → IfErr r (λ stop. IfRefused stop (IsDue (net_causes items)))
    → AreNets items n → IsClear (net_causes items) → AnswersNets r n
answers_nets items (Ok m) n ok err a h = nets_once items m n h ok.nets a
answers_nets items (Err (Refused s)) n ok err a h = clear_or_due (net_causes items) s h err
answers_nets items (Err NoMemory) n ok err a h = tt

pub answers_refusal : (items : List Item) (r : Result Nets Stop) (s : Refusal) → IfOk r (IsAccepted items) → IfErr r (λ stop. IfRefused stop (IsDue (net_causes items)))
    → IsDue (net_causes items) s → AnswersRefusal r s
answers_refusal items (Ok m) s ok err d = clear_or_due (net_causes items) s ok.clear d
answers_refusal items (Err (Refused t)) s ok err d = due_once (net_causes items) t s err d
answers_refusal items (Err NoMemory) s ok err d = tt

-- accepted nets are wired
one_cell : (ws : List NetWire) (sources : List Source) (c : Cell) (o : Option CellKind) → is_none o ≡ false → length (net_cell_of ws sources c o) ≡ 1
one_cell ws sources c None e = cc
one_cell ws sources c (Some kind) e = refl

cell_length : (ws : List NetWire) (sources : List Source) (c : Cell) → is_none (kind_named c.kind) ≡ false → length (net_cell ws sources c) ≡ 1
unfolding net_cell
cell_length ws sources c e = one_cell ws sources c (kind_named c.kind) e

cells_length : (ws : List NetWire) (sources : List Source) (cs : List Cell) → Each (λ c. is_none (kind_named c.kind) ≡ false) cs → length (flat_map (net_cell ws sources) cs) ≡ length cs
cells_length ws sources [] h = refl
cells_length ws sources (c ∷ cs) h =
    let one = cell_length ws sources c h.0 in
    let rest = cells_length ws sources cs h.1 in
    omega (arith, one, rest, length-append (net_cell ws sources c) (flat_map (net_cell ws sources) cs))

within_nets : (n : Nets) (a b : ℕ) (s : Source) → length n.sources ≡ a → length n.cells ≡ b → IsSourceWithin a b s → IsWithin n s
within_nets n a b (source.Input k) p q h = omega (arith, p, h)
within_nets n a b (source.Cell k) p q h = omega (arith, q, h)
within_nets n a b source.Zero p q h = tt
within_nets n a b source.One p q h = tt
within_nets n a b source.Unknown p q h = tt
within_nets n a b source.Missing p q h = tt

end_in_within : (n : Nets) (sources : List Source) → ((k : ℕ) → IsWithin n (get_or sources k source.Missing)) → (b : SignalBit) → IsWithin n (end_in sources b)
end_in_within n sources h (bit.Net k) = h k
end_in_within n sources h bit.Zero = tt
end_in_within n sources h bit.One = tt
end_in_within n sources h bit.Unknown = tt

pins_within : (n : Nets) (sources : List Source) → ((k : ℕ) → IsWithin n (get_or sources k source.Missing)) → (rs : List Read)
    → Each (IsWithin n) (map (λ (p : Pin). p.source) (map (pin_of sources) rs))
pins_within n sources h [] = tt
pins_within n sources h (r ∷ rs) = (end_in_within n sources h r.bit, pins_within n sources h rs)

kind_within : (n : Nets) (ws : List NetWire) (sources : List Source) (c : Cell) (o : Option CellKind) → ((k : ℕ) → IsWithin n (get_or sources k source.Missing))
    → Each (λ of. All (IsWithin n) (pin_sources of)) (net_cell_of ws sources c o)
kind_within n ws sources c None h = tt
kind_within n ws sources c (Some kind) h =
    (All-from_recursion (IsWithin n) (map (λ (p : Pin). p.source) (map (pin_of sources) (cell_reads ws c))) (pins_within n sources h (cell_reads ws c)), tt)

cell_within : (n : Nets) (ws : List NetWire) (sources : List Source) → ((k : ℕ) → IsWithin n (get_or sources k source.Missing)) → (c : Cell)
    → Each (λ of. All (IsWithin n) (pin_sources of)) (net_cell ws sources c)
unfolding net_cell
cell_within n ws sources h c = kind_within n ws sources c (kind_named c.kind) h

form_clear : (items : List Item) → IsClear (net_causes items) → IsClear (form_causes items)
form_clear items h = clear_first 9 (net_causes items) h

pub nets_wired : (items : List Item) (n : Nets) → IsAccepted items n → IsWired n
nets_wired items n a =
    let ws = net_wires items in
    let form = form_clear items a.clear in
    let count : length n.cells ≡ length (kept_cells items) = ap length a.nets.each_cell ∙ cells_length ws n.sources (kept_cells items) (known_kinds items form) in
    let inside : (k : ℕ) → IsWithin n (get_or n.sources k source.Missing)
    = λ k. within_nets n (bit_count ws) (length (kept_cells items)) (get_or n.sources k source.Missing) a.nets.each_bit count
    (source_within ws (drives ws items) (length (kept_cells items)) (items_within items) (drives_within ws items (items_within items)) n.sources (sources_of items n a.nets) k) in
    record {
      pins = subst (λ cs. All (λ of. All (IsWithin n) (pin_sources of)) cs) (sym a.nets.each_cell)
          (All-from_recursion (λ (of : NetCell). All (IsWithin n) (pin_sources of)) (flat_map (net_cell ws n.sources) (kept_cells items))
          (each_flat (λ (of : NetCell). All (IsWithin n) (pin_sources of)) (net_cell ws n.sources) (kept_cells items) (cell_within n ws n.sources inside)));
      ends = All-from_get_or (IsWithin n) n.sources source.Missing (λ k lt. inside k);
      few_bits = omega (arith, a.nets.each_bit, few_bits ws items refl form);
      few_cells = omega (arith, count, kept_fewer items, few_cells items form);
    }

-- whatever is read has an end
end_ok : (ws : List NetWire) (ds : List Drive) (b : SignalBit) (e : Source) → EndsAt ws ds b e → (EndsNowhere ws ds b → ⊥) → (Ends ws ds b source.Unknown → ⊥) → IsEnd e
end_ok ws ds b (source.Input k) h n u = tt
end_ok ws ds b (source.Cell k) h n u = tt
end_ok ws ds b source.Zero h n u = tt
end_ok ws ds b source.One h n u = tt
end_ok ws ds b source.Unknown h n u = u h
end_ok ws ds b source.Missing h n u = n h

ends_ok : (ws : List NetWire) (ds : List Drive) (sources : List Source) (rs : List Read) → Each (λ r. EndsAt ws ds r.bit (end_in sources r.bit)) rs
    → Never (λ l. Any (λ r. (r.line ≡ l) × EndsNowhere ws ds r.bit) rs) → Never (λ l. Any (λ r. (r.line ≡ l) × Ends ws ds r.bit source.Unknown) rs)
    → Each (λ r. IsEnd (end_in sources r.bit)) rs
ends_ok ws ds sources [] h n u = tt
ends_ok ws ds sources (r ∷ rs) h n u = (
  end_ok ws ds r.bit (end_in sources r.bit) h.0
      (λ x. n r.line (any_first (λ (v : Read). (v.line ≡ r.line) × EndsNowhere ws ds v.bit) r rs (refl, x)))
      (λ x. u r.line (any_first (λ (v : Read). (v.line ≡ r.line) × Ends ws ds v.bit source.Unknown) r rs (refl, x))),
  ends_ok ws ds sources rs h.1
      (λ l x. n l (any_later (λ (v : Read). (v.line ≡ l) × EndsNowhere ws ds v.bit) r rs x))
      (λ l x. u l (any_later (λ (v : Read). (v.line ≡ l) × Ends ws ds v.bit source.Unknown) r rs x)),
)

reads_ok : (items : List Item) (sources : List Source) → IsClear (net_causes items) → AreSources (net_wires items) (drives (net_wires items) items) sources
    → Each (λ r. IsEnd (end_in sources r.bit)) (reads (net_wires items) items)
unfolding net_causes
reads_ok items sources h a =
    ends_ok (net_wires items) (drives (net_wires items) items) sources (reads (net_wires items) items) (read_ends items sources a)
    h.1.1.1.1.1.1.1.1.1.1.0 h.1.1.1.1.1.1.1.1.1.1.1.0

pub reads_end : (items : List Item) (n : Nets) → IsAccepted items n → AreReadEnds items n
reads_end items n a =
    subst (λ ws. All (λ r. IsEnd (end_in n.sources r.bit)) (reads ws items)) (sym a.nets.each_wire)
    (All-from_recursion (λ (r : Read). IsEnd (end_in n.sources r.bit)) (reads (net_wires items) items) (reads_ok items n.sources a.clear (sources_of items n a.nets)))

-- what the cells and output wires read
pub faults_of_reads : (items : List Item) (ws list : List NetWire) (s one two : List Source) (cs ds : List NetCell) (f : ReadFaults) → list ≡ ws → one ≡ s → two ≡ s → ds ≡ cs
    → cs ≡ flat_map (net_cell ws one) (kept_cells items)
    → AreReadFaults (flat_map (λ c. c.pins) ds ++ map (pin_of two) (flat_map wire_reads (filter (λ w. is_output w.port) list))) f
    → AreReadFaults (map (pin_of s) (reads ws items)) f
faults_of_reads items ws list s one two cs ds f e p q r h a =
    let outs = λ (vs : List NetWire). flat_map wire_reads (filter (λ w. is_output w.port) vs) in
    let made : ds ≡ flat_map (net_cell ws s) (kept_cells items) = r ∙ (h ∙ ap (λ v. flat_map (net_cell ws v) (kept_cells items)) p) in
    subst (λ v. AreReadFaults v f) (pins_are_reads ws s items ds made)
    (subst (λ v. AreReadFaults (flat_map (λ (c : NetCell). c.pins) ds ++ map (pin_of v) (outs ws)) f) q
    (subst (λ v. AreReadFaults (flat_map (λ (c : NetCell). c.pins) ds ++ map (pin_of two) (outs v)) f) e a))

pub accepted : (items : List Item) (ws list : List NetWire) (s one : List Source) (cs : List NetCell) → ws ≡ list → list ≡ net_wires items → one ≡ s
    → AreSources ws (drives ws items) s → cs ≡ flat_map (net_cell ws one) (kept_cells items) → IsClear (net_causes items)
    → IsAccepted items (record { wires = list; sources = s; cells = cs })
accepted items ws list s one cs e h p a c k = record {
  nets = are_nets items list s cs h (subst (λ v. AreSources v (drives v items) s) e a)
      (c ∙ (ap (λ v. flat_map (net_cell v one) (kept_cells items)) e ∙ ap (λ v. flat_map (net_cell list v) (kept_cells items)) p));
  clear = k;
}
