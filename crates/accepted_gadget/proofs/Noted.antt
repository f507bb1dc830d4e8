-- What the notes of a gadget say, and that no refusal of notes is due.
use Rattle.std.proofs.Common.{◌≡◌, ℕ, ◌+◌, ◌≤◌, ◌==◌, max, nat_le, false, List, [], ◌∷◌, ◌++◌, length, map, filter, Some, codes, refl, ap, ◌∙◌, arith}
use Rattle.std.specs.Prelude.{fold}
use Rattle.std.specs.List.{flat_map, range_with_len}
use Rattle.std.proofs.lemmas.Bool.{cond-true, cond-false, cond_both, le-leb}
use Rattle.circuit_types.specs.Items.{wires}
use Rattle.circuit_types.specs.declared.roles.InputRole.{InputRole}
use Rattle.circuit_types.specs.declared.roles.Roles.{Roles}
use Rattle.circuit_types.specs.declared.roles.Secret.{Secret}
use Rattle.circuit_types.specs.declared.tree.Item.{Item}
use Rattle.circuit_types.specs.declared.tree.Item.TheVariants as item
use Rattle.circuit_types.specs.declared.tree.Port.{Port}
use Rattle.circuit_types.specs.declared.tree.Port.TheVariants as port
use Rattle.circuit_types.specs.declared.tree.Wire.{Wire}
use Rattle.share_notes.specs.declared.direction.Direction.{Direction}
use Rattle.share_notes.specs.declared.direction.Direction.TheVariants as direction
use Rattle.share_notes.specs.declared.note.Note.TheVariants as kind
use Rattle.share_notes.specs.declared.mark.Mark.{Mark}
use Rattle.share_notes.specs.declared.mark.Mark.TheVariants.{Absent, Wrong, Noted}
use Rattle.share_notes.specs.declared.mark.MarkedWire.{MarkedWire}
use Rattle.share_notes.specs.declared.shares.NumberedShare.{NumberedShare}
use Rattle.share_notes.specs.Causes.{gap_lines, double_lines}
use Rattle.share_notes.specs.Marks.{masks, mark_by, mark_in, mark_of, marked_from, marked_wires}
use Rattle.share_notes.specs.PortOrder.{port_number, numbered_wires, in_port_order}
use Rattle.share_notes.specs.Reading.{note_named, plain_note, share_of, shares_of, name_of, index_of}
use Rattle.share_notes.specs.Roles.{roles_of, roles_by, noted_roles, input_roles, output_share}
use Rattle.share_notes.specs.Shares.{GivenBit, top_share, share_count, has_direction, wire_shares, given, distinct, secrets, place_of, numbered_share, numbered_shares}
use Rattle.rtlil_print.specs.PrintedLines.{item_height, items_at}
use Rattle.gadget_maker.specs.Gadget.{pairs, pair_count, crossings, masked_name, kept_name, sum_name, wire_on, note, inner_wire, product_wires, crossing_wires, sum_wires, inner_wires, product_cells, masking_cells, register_cells, sum_cells, all_cells, named_from, all_items}
use Rattle.gadget_maker.specs.Listed.{placed}
use Rattle.gadget_maker.proofs.Each.{Each, each-append}
use Rattle.net_build.proofs.EachLemmas.{each_flat}
use Rattle.accepted_gadget.proofs.Spots.{for_each_shares}
use Rattle.accepted_gadget.proofs.Building.{none_pass}

-- ---- the notes

clock_note : note_named (codes "clock") ≡ Some kind.Clock
unfolding note_named plain_note
clock_note = refl

random_note : note_named (codes "random") ≡ Some kind.Random
unfolding note_named plain_note
random_note = refl

a_note : note_named (codes "shares a") ≡ Some (kind.Shares (codes "a"))
unfolding note_named plain_note share_of shares_of name_of index_of
a_note = refl

b_note : note_named (codes "shares b") ≡ Some (kind.Shares (codes "b"))
unfolding note_named plain_note share_of shares_of name_of index_of
b_note = refl

c_note : note_named (codes "shares c") ≡ Some (kind.Shares (codes "c"))
unfolding note_named plain_note share_of shares_of name_of index_of
c_note = refl

abbrev port_on : ℕ → List ℕ → ℕ → Port → List ℕ → Wire
port_on line name width way text = wire_on line name (note text ∷ []) width way

clock_mark : (line : ℕ) → mark_of (port_on line (codes "\\clk") 1 (port.Input 1) (codes "clock")) ≡ Noted kind.Clock
unfolding mark_of
clock_mark line = ap (mark_by (port.Input 1) 1) clock_note

random_mark : (line width : ℕ) → mark_of (port_on line (codes "\\r") width (port.Input 4) (codes "random")) ≡ Noted kind.Random
unfolding mark_of
random_mark line width = ap (mark_by (port.Input 4) width) random_note

a_mark : (line d : ℕ) → d ≤ 16 → mark_of (port_on line (codes "\\a") d (port.Input 2) (codes "shares a")) ≡ Noted (kind.Shares (codes "a"))
unfolding mark_of
a_mark line d few = ap (mark_by (port.Input 2) d) a_note ∙ cond-true (nat_le d 16) (Noted (kind.Shares (codes "a"))) Wrong (le-leb d 16 few)

b_mark : (line d : ℕ) → d ≤ 16 → mark_of (port_on line (codes "\\b") d (port.Input 3) (codes "shares b")) ≡ Noted (kind.Shares (codes "b"))
unfolding mark_of
b_mark line d few = ap (mark_by (port.Input 3) d) b_note ∙ cond-true (nat_le d 16) (Noted (kind.Shares (codes "b"))) Wrong (le-leb d 16 few)

c_mark : (line d : ℕ) → d ≤ 16 → mark_of (port_on line (codes "\\c") d (port.Output 5) (codes "shares c")) ≡ Noted (kind.Shares (codes "c"))
unfolding mark_of
c_mark line d few = ap (mark_by (port.Output 5) d) c_note ∙ cond-true (nat_le d 16) (Noted (kind.Shares (codes "c"))) Wrong (le-leb d 16 few)

-- ---- the wires with their notes

abbrev five : ℕ → Mark → Mark → Mark → Mark → Mark → List MarkedWire → List MarkedWire
five d m1 m2 m3 m4 m5 more =
    record { line = 4; first = 0; width = 1; port = port.Input 1; mark = m1 }
    ∷ record { line = 6; first = 1; width = d; port = port.Input 2; mark = m2 }
    ∷ record { line = 8; first = 1 + d; width = d; port = port.Input 3; mark = m3 }
    ∷ record { line = 10; first = 1 + d + d; width = pair_count d; port = port.Input 4; mark = m4 }
    ∷ record { line = 12; first = 1 + d + d + pair_count d; width = d; port = port.Output 5; mark = m5 }
    ∷ more

-- the ports, before other wires
abbrev pub with_ports : ℕ → List MarkedWire → List MarkedWire
with_ports d more =
    five d (Noted kind.Clock) (Noted (kind.Shares (codes "a"))) (Noted (kind.Shares (codes "b"))) (Noted kind.Random) (Noted (kind.Shares (codes "c"))) more

-- a wire without a note that is no port
pub record IsBare (w : MarkedWire) : Type 0 where
  pub mark : w.mark ≡ Absent
  pub inner : w.port ≡ port.Inner

abbrev IsBareItem : Item → Type 0
IsBareItem (item.Wire w) = (w.attributes ≡ []) × (w.port ≡ port.Inner)
IsBareItem other = Unit {0}

bare_mark : (line : ℕ) (w : Wire) → w.attributes ≡ [] → mark_of (record w { line = line }) ≡ Absent
unfolding mark_of
bare_mark line w e = ap (λ ts. mark_in w.port w.width (masks ts)) e

bare_wires : (first l n : ℕ) (xs : List Item) → Each IsBareItem xs → Each IsBare (marked_from first (wires (items_at l (named_from n xs))))
bare_wires first l n [] h = tt
bare_wires first l n (item.Wire w ∷ xs) h =
    (record { mark = bare_mark (l + length w.attributes) w h.0.0; inner = h.0.1 }, bare_wires (first + w.width) (l + item_height (item.Wire w)) n xs h.1)
bare_wires first l n (item.Cell c ∷ xs) h = bare_wires first _ (n + 1) xs h.1
bare_wires first l n (item.Parameter p ∷ xs) h = bare_wires first (l + 1) n xs h.1
bare_wires first l n (item.Connect c ∷ xs) h = bare_wires first (l + 1) n xs h.1

bare_inner : (d : ℕ) → Each IsBareItem (inner_wires d (pairs d) (crossings d))
bare_inner d =
    let products = flat_map product_wires (pairs d) in
    let masked = flat_map (crossing_wires masked_name) (crossings d) in
    let kept = flat_map (crossing_wires kept_name) (crossings d) in
    let sums = flat_map (sum_wires d) (pairs d) in
    each-append IsBareItem products (masked ++ (kept ++ sums)) (each_flat IsBareItem product_wires (pairs d) (λ p. ((refl, refl), tt)))
    (each-append IsBareItem masked (kept ++ sums) (each_flat IsBareItem (crossing_wires masked_name) (crossings d) (λ x. ((refl, refl), tt)))
    (each-append IsBareItem kept sums (each_flat IsBareItem (crossing_wires kept_name) (crossings d) (λ x. ((refl, refl), tt)))
    (each_flat IsBareItem (sum_wires d) (pairs d)
    (λ p. cond_both _ (inner_wire (sum_name p.first p.second) ∷ []) [] (Each IsBareItem) (λ e. ((refl, refl), tt)) (λ e. tt)))))

bare_cells : (seed d : ℕ) → Each IsBareItem (all_cells seed d (pairs d) (crossings d))
bare_cells seed d =
    let xs = crossings d in
    let maskings = flat_map (masking_cells seed d) xs in
    let registers = flat_map register_cells xs in
    let sums = flat_map (sum_cells d) xs in
    each-append IsBareItem (flat_map product_cells (pairs d)) (maskings ++ (registers ++ sums)) (each_flat IsBareItem product_cells (pairs d) (λ p. (tt, tt)))
    (each-append IsBareItem maskings (registers ++ sums) (each_flat IsBareItem (masking_cells seed d) xs (λ x. (tt, tt)))
    (each-append IsBareItem registers sums (each_flat IsBareItem register_cells xs (λ x. (tt, tt))) (each_flat IsBareItem (sum_cells d) xs (λ x. (tt, tt)))))

abbrev pub inner_items : ℕ → ℕ → List Item
inner_items seed d = inner_wires d (pairs d) (crossings d) ++ all_cells seed d (pairs d) (crossings d)

abbrev pub inner_marks : ℕ → ℕ → List MarkedWire
inner_marks seed d = marked_from (1 + d + d + pair_count d + d) (wires (items_at 13 (named_from 0 (inner_items seed d))))

pub all_bare : (seed d : ℕ) → Each IsBare (inner_marks seed d)
all_bare seed d =
    bare_wires (1 + d + d + pair_count d + d) 13 0 (inner_items seed d)
    (each-append IsBareItem (inner_wires d (pairs d) (crossings d)) (all_cells seed d (pairs d) (crossings d)) (bare_inner d) (bare_cells seed d))

pub marked : (seed d : ℕ) → d ≤ 16 → marked_wires (placed 3 0 (all_items seed d)) ≡ with_ports d (inner_marks seed d)
marked seed d few =
    let more = inner_marks seed d in
    let m1 = mark_of (port_on 4 (codes "\\clk") 1 (port.Input 1) (codes "clock")) in
    let m2 = mark_of (port_on 6 (codes "\\a") d (port.Input 2) (codes "shares a")) in
    let m3 = mark_of (port_on 8 (codes "\\b") d (port.Input 3) (codes "shares b")) in
    let m4 = mark_of (port_on 10 (codes "\\r") (pair_count d) (port.Input 4) (codes "random")) in
    let m5 = mark_of (port_on 12 (codes "\\c") d (port.Output 5) (codes "shares c")) in
    let start : marked_wires (placed 3 0 (all_items seed d)) ≡ five d m1 m2 m3 m4 m5 more = refl in
    start
    ∙ (ap (λ v. five d v m2 m3 m4 m5 more) (clock_mark 4)
    ∙ (ap (λ v. five d (Noted kind.Clock) v m3 m4 m5 more) (a_mark 6 d few)
    ∙ (ap (λ v. five d (Noted kind.Clock) (Noted (kind.Shares (codes "a"))) v m4 m5 more) (b_mark 8 d few)
    ∙ (ap (λ v. five d (Noted kind.Clock) (Noted (kind.Shares (codes "a"))) (Noted (kind.Shares (codes "b"))) v m5 more) (random_mark 10 (pair_count d))
    ∙ ap (λ v. five d (Noted kind.Clock) (Noted (kind.Shares (codes "a"))) (Noted (kind.Shares (codes "b"))) (Noted kind.Random) v more) (c_mark 12 d few)))))

-- ---- in port order

still_six : (ws : List MarkedWire) → Each IsBare ws → fold (λ n (w : MarkedWire). max n (port_number w.port + 1)) 6 ws ≡ 6
still_six [] h = refl
still_six (w ∷ ws) h = ap (λ p. fold (λ n (w : MarkedWire). max n (port_number w.port + 1)) (max 6 (port_number p + 1)) ws) h.0.inner ∙ still_six ws h.1

all_zero : (ws : List MarkedWire) → Each IsBare ws → filter (λ (w : MarkedWire). port_number w.port == 0) ws ≡ ws
all_zero [] h = refl
all_zero (w ∷ ws) h =
    cond-true (port_number w.port == 0) (w ∷ filter (λ (w : MarkedWire). port_number w.port == 0) ws) (filter (λ (w : MarkedWire). port_number w.port == 0) ws)
    (ap (λ p. port_number p == 0) h.0.inner)
    ∙ ap (λ v. w ∷ v) (all_zero ws h.1)

no_other : (n : ℕ) → (0 == n) ≡ false → (ws : List MarkedWire) → Each IsBare ws → filter (λ (w : MarkedWire). port_number w.port == n) ws ≡ []
no_other n e ws h = none_pass IsBare (λ (w : MarkedWire). port_number w.port == n) (λ w b. ap (λ p. port_number p == n) b.inner ∙ e) ws h

abbrev port_at : ℕ → ℕ → ℕ → ℕ → Port → Mark → List MarkedWire → List MarkedWire
port_at d line first width way m more = record { line = line; first = first; width = width; port = way; mark = m } ∷ more

abbrev row : ℕ → List MarkedWire → List MarkedWire → List MarkedWire → List MarkedWire → List MarkedWire → List MarkedWire → List MarkedWire
row d i0 i1 i2 i3 i4 i5 =
    i0
    ++ (port_at d 4 0 1 (port.Input 1) (Noted kind.Clock) i1
    ++ (port_at d 6 1 d (port.Input 2) (Noted (kind.Shares (codes "a"))) i2
    ++ (port_at d 8 (1 + d) d (port.Input 3) (Noted (kind.Shares (codes "b"))) i3
    ++ (port_at d 10 (1 + d + d) (pair_count d) (port.Input 4) (Noted kind.Random) i4
    ++ (port_at d 12 (1 + d + d + pair_count d) d (port.Output 5) (Noted (kind.Shares (codes "c"))) i5 ++ [])))))

abbrev at_number : ℕ → List MarkedWire → List MarkedWire
at_number n ws = filter (λ (w : MarkedWire). port_number w.port == n) ws

pub port_order : (d : ℕ) (ws : List MarkedWire) → Each IsBare ws → in_port_order (with_ports d ws) ≡ ws ++ with_ports d []
unfolding in_port_order
port_order d ws h =
    let start : flat_map (numbered_wires (with_ports d ws)) (range_with_len 0 6)
    ≡ row d (at_number 0 ws) (at_number 1 ws) (at_number 2 ws) (at_number 3 ws) (at_number 4 ws) (at_number 5 ws) = refl in
    ap (λ n. flat_map (numbered_wires (with_ports d ws)) (range_with_len 0 n)) (still_six ws h)
    ∙ (start
    ∙ (ap (λ v. row d v (at_number 1 ws) (at_number 2 ws) (at_number 3 ws) (at_number 4 ws) (at_number 5 ws)) (all_zero ws h)
    ∙ (ap (λ v. row d ws v (at_number 2 ws) (at_number 3 ws) (at_number 4 ws) (at_number 5 ws)) (no_other 1 refl ws h)
    ∙ (ap (λ v. row d ws [] v (at_number 3 ws) (at_number 4 ws) (at_number 5 ws)) (no_other 2 refl ws h)
    ∙ (ap (λ v. row d ws [] [] v (at_number 4 ws) (at_number 5 ws)) (no_other 3 refl ws h)
    ∙ (ap (λ v. row d ws [] [] [] v (at_number 5 ws)) (no_other 4 refl ws h)
    ∙ ap (λ v. row d ws [] [] [] [] v) (no_other 5 refl ws h)))))))

-- ---- the roles

none_given : (dir : Direction) (p : Port) → p ≡ port.Inner → has_direction dir p ≡ false
none_given direction.Input p e = ap (has_direction direction.Input) e
none_given direction.Output p e = ap (has_direction direction.Output) e

given_alike : (dir : Direction) (ws ps : List MarkedWire) → Each IsBare ws → given dir (ws ++ ps) ≡ given dir ps
unfolding given
given_alike dir [] ps h = refl
given_alike dir (w ∷ ws) ps h =
    ap (λ v. v ++ given dir (ws ++ ps)) (cond-false (has_direction dir w.port) (wire_shares w) [] (none_given dir w.port h.0.inner)) ∙ given_alike dir ws ps h.1

roles_alike : (ss : List Secret) (ws ps : List MarkedWire) → Each IsBare ws → input_roles ss (ws ++ ps) ≡ input_roles ss ps
roles_alike ss [] ps h = refl
roles_alike ss (w ∷ ws) ps h =
    ap (λ v. v ++ input_roles ss (ws ++ ps)) (cond-false (has_direction direction.Input w.port) (noted_roles ss w w.mark) [] (none_given direction.Input w.port h.0.inner))
    ∙ roles_alike ss ws ps h.1

pub numbered_alike : (dir : Direction) (ws ps : List MarkedWire) → Each IsBare ws → numbered_shares dir (ws ++ ps) ≡ numbered_shares dir ps
unfolding numbered_shares
numbered_alike dir ws ps h = ap (λ gs. map (numbered_share (secrets gs)) gs) (given_alike dir ws ps h)

max_zero : (n : ℕ) → max n 0 ≡ n
max_zero n = omega arith

counted : (n : ℕ) (ws : List MarkedWire) → Each IsBare ws → fold (λ n (w : MarkedWire). max n (top_share w.width w.mark)) n ws ≡ n
counted n [] h = refl
counted n (w ∷ ws) h =
    ap (λ v. fold (λ n (w : MarkedWire). max n (top_share w.width w.mark)) v ws) (ap (λ m. max n (top_share w.width m)) h.0.mark ∙ max_zero n) ∙ counted n ws h.1

pub share_count_is : (d : ℕ) (ws : List MarkedWire) → Each IsBare ws → share_count (with_ports d ws) ≡ share_count (with_ports d [])
unfolding share_count
share_count_is d ws h = counted (max (max (max (max (max 0 0) d) d) 0) d) ws h

-- the roles of the ports alone
abbrev pub port_roles : ℕ → Roles
port_roles d = roles_by (share_count (with_ports d [])) (with_ports d [])

abbrev roles_from : ℕ → List GivenBit → List GivenBit → List InputRole → List MarkedWire → Roles
roles_from n ins outs roles ws = record {
  shares = n;
  secrets = secrets ins;
  inputs = roles;
  output_secrets = secrets outs;
  outputs = map output_share (map (numbered_share (secrets outs)) outs);
}

by_ports : (n m : ℕ) (ws ps : List MarkedWire) → Each IsBare ws → n ≡ m → roles_by n (ws ++ ps) ≡ roles_by m ps
unfolding numbered_shares
by_ports n m ws ps h e =
    let i = given direction.Input (ws ++ ps) in
    let o = given direction.Output (ws ++ ps) in
    ap (λ v. roles_from v i o (input_roles (secrets i) (ws ++ ps)) ps) e
    ∙ (ap (λ v. roles_from m v o (input_roles (secrets v) (ws ++ ps)) ps) (given_alike direction.Input ws ps h)
    ∙ (ap (λ v. roles_from m (given direction.Input ps) v (input_roles (secrets (given direction.Input ps)) (ws ++ ps)) ps) (given_alike direction.Output ws ps h)
    ∙ ap (λ v. roles_from m (given direction.Input ps) (given direction.Output ps) v ps) (roles_alike (secrets (given direction.Input ps)) ws ps h)))

pub roles_are : (seed d : ℕ) → d ≤ 16 → roles_of (placed 3 0 (all_items seed d)) ≡ port_roles d
unfolding roles_of
roles_are seed d few =
    let more = inner_marks seed d in
    let bare = all_bare seed d in
    ap (λ ws. roles_by (share_count ws) (in_port_order ws)) (marked seed d few)
    ∙ (ap (roles_by (share_count (with_ports d more))) (port_order d more bare)
    ∙ by_ports (share_count (with_ports d more)) (share_count (with_ports d [])) more (with_ports d []) bare (share_count_is d more bare))

-- ---- for each number of shares

-- the shares of a and b, and those of c
abbrev pub in_shares : ℕ → List NumberedShare
in_shares d =
    map (λ i. record { line = 6; bit = 1 + i; secret = 0; share = i }) (range_with_len 0 d)
    ++ map (λ i. record { line = 8; bit = 1 + d + i; secret = 1; share = i }) (range_with_len 0 d)

abbrev pub out_shares : ℕ → List NumberedShare
out_shares d = map (λ i. record { line = 12; bit = 1 + d + d + pair_count d + i; secret = 0; share = i }) (range_with_len 0 d)

-- the shares are there, each once
pub record AreShared (d : ℕ) : Type 0 where
  pub several : (d == 1) ≡ false
  pub count : share_count (with_ports d []) ≡ d
  pub ins : numbered_shares direction.Input (with_ports d []) ≡ in_shares d
  pub outs : numbered_shares direction.Output (with_ports d []) ≡ out_shares d
  pub gaps : gap_lines d [] (in_shares d) (out_shares d) ≡ []
  pub doubles : double_lines (in_shares d) (out_shares d) ≡ []

pub shared : (d : ℕ) → 2 ≤ d → d ≤ 16 → AreShared d
unfolding share_count numbered_shares given secrets distinct place_of
shared =
    for_each_shares AreShared
    (record { several = refl; count = refl; ins = refl; outs = refl; gaps = refl; doubles = refl })
    (record { several = refl; count = refl; ins = refl; outs = refl; gaps = refl; doubles = refl })
    (record { several = refl; count = refl; ins = refl; outs = refl; gaps = refl; doubles = refl })
    (record { several = refl; count = refl; ins = refl; outs = refl; gaps = refl; doubles = refl })
    (record { several = refl; count = refl; ins = refl; outs = refl; gaps = refl; doubles = refl })
    (record { several = refl; count = refl; ins = refl; outs = refl; gaps = refl; doubles = refl })
    (record { several = refl; count = refl; ins = refl; outs = refl; gaps = refl; doubles = refl })
    (record { several = refl; count = refl; ins = refl; outs = refl; gaps = refl; doubles = refl })
    (record { several = refl; count = refl; ins = refl; outs = refl; gaps = refl; doubles = refl })
    (record { several = refl; count = refl; ins = refl; outs = refl; gaps = refl; doubles = refl })
    (record { several = refl; count = refl; ins = refl; outs = refl; gaps = refl; doubles = refl })
    (record { several = refl; count = refl; ins = refl; outs = refl; gaps = refl; doubles = refl })
    (record { several = refl; count = refl; ins = refl; outs = refl; gaps = refl; doubles = refl })
    (record { several = refl; count = refl; ins = refl; outs = refl; gaps = refl; doubles = refl })
    (record { several = refl; count = refl; ins = refl; outs = refl; gaps = refl; doubles = refl })
