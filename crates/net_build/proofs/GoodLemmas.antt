-- Where no limit, name, width or port is refused, the signals of all statements can be written out.
use Rattle.std.proofs.Common.{◌≡◌, ℕ, ◌<◌, ◌≤◌, Bool, true, false, ◌&&◌, ◌==◌, not, cond, List, [], ◌∷◌, length, map, filter, Option, Some, None, ⊎_elim, refl, sym, ap, ◌∙◌, subst, arith}
use Rattle.std.specs.Prelude.{Contains, IsTrue, is_none}
use Rattle.std.specs.List.{All, list_any}
use Rattle.std.specs.Option.{option_copied, IfSome}
use Rattle.std.specs.Borrow.{Bor}
use Rattle.std.specs.Str.{bytes_eq}
use Rattle.std.proofs.lemmas.Bool.{not-false, or_parts, cases_lt, eqb-true}
use Rattle.std.proofs.lemmas.List.Elements.{All-from_recursion, recursion_from_All}
use Rattle.cell_kinds.specs.declared.kind.CellKind.{CellKind}
use Rattle.cell_kinds.specs.Names.{kind_named}
use Rattle.cell_kinds.specs.Cells.{output_letter}
use Rattle.circuit_types.specs.Due.{Never, IsClear}
use Rattle.circuit_types.specs.Items.{is_kept, kept_cells, cells, net_wires, bit_count}
use Rattle.circuit_types.specs.Signals.{shape, signal_bits}
use Rattle.circuit_types.specs.Drives.{port_name, connect_of, output_connect}
use Rattle.circuit_types.specs.Nets.{Link, port_link, item_links, links, is_too_wide, is_unnamed, is_badly_sliced, is_mismatched, is_unsupported, is_module, begins_with_backslash, net_causes, most_bits, most_cells}
use Rattle.circuit_types.specs.declared.nets.NetWire.{NetWire}
use Rattle.circuit_types.specs.declared.nets.SignalBit.{SignalBit}
use Rattle.circuit_types.specs.declared.tree.Cell.{Cell}
use Rattle.circuit_types.specs.declared.tree.Connect.{Connect}
use Rattle.circuit_types.specs.declared.tree.PortConnect.{PortConnect}
use Rattle.circuit_types.specs.declared.tree.Item.{Item}
use Rattle.circuit_types.specs.declared.tree.Item.TheVariants as item
use Rattle.net_build.specs.Form.{form_causes}
use Rattle.net_build.specs.Good.{AreGoodPorts, IsGoodConnect, IsGoodItem}
use Rattle.net_build.specs.Shapes.{IsGood}
use Rattle.net_build.proofs.BitLemmas.{bits_length}
use Rattle.net_build.specs.Faults.{AreFaults, refusal_in}
use Rattle.net_build.specs.declared.faults.Faults.{Faults}
use Rattle.net_build.proofs.DueLemmas.{contains_first, least_none}
use Rattle.net_build.proofs.FaultLemmas.{fine}
use Rattle.net_build.proofs.EachLemmas.{Each, each_parts, each_both, each_weaker, each_found}

pub record IsGoodLink (l : Link) : Type 0 where
  pub narrow : is_too_wide l ≡ false
  pub named : is_unnamed l ≡ false
  pub sliced : is_badly_sliced l ≡ false
  pub fits : is_mismatched l ≡ false

-- none passes the test, since no line of one that does is there
pass_line : {X : Type 0} (f : X → ℕ) (p : X → Bool) (x : X) (xs : List X) (b : Bool) → p x ≡ b → Never (Contains (map f (cond b (x ∷ filter p xs) (filter p xs))))
    → (p x ≡ false) × Never (Contains (map f (filter p xs)))
pass_line f p x xs true e n = absurd (n (f x) (contains_first (f x) (map f (filter p xs))))
pass_line f p x xs false e n = (e, n)

pub none_pass : {X : Type 0} (f : X → ℕ) (p : X → Bool) (xs : List X) → Never (Contains (map f (filter p xs))) → Each (λ x. p x ≡ false) xs
none_pass f p [] n = tt
none_pass f p (x ∷ xs) n = let r = pass_line f p x xs (p x) refl n in (r.0, none_pass f p xs r.1)

any_false : {X : Type 0} (p : X → Bool) (xs : List X) → list_any p xs ≡ false → Each (λ x. p x ≡ false) xs
any_false p [] e = tt
any_false p (x ∷ xs) e = let r = or_parts (p x) (list_any p xs) e in (r.0, any_false p xs r.1)

not_true : (b : Bool) → (IsTrue b → ⊥) → b ≡ false
not_true true h = absurd (h refl)
not_true false h = refl

good_links : (ls : List Link) → Each (λ l. is_too_wide l ≡ false) ls → Each (λ l. is_unnamed l ≡ false) ls → Each (λ l. is_badly_sliced l ≡ false) ls
    → Each (λ l. is_mismatched l ≡ false) ls → Each IsGoodLink ls
good_links [] a b c d = tt
good_links (l ∷ ls) a b c d = (record { narrow = a.0; named = b.0; sliced = c.0; fits = d.0 }, good_links ls a.1 b.1 c.1 d.1)

one_side : (b : Bool) → not (b && true) ≡ false → b ≡ true
one_side true e = refl
one_side false e = cc

two_sides : (a b : Bool) → not (a && (b && true)) ≡ false → (a ≡ true) × (b ≡ true)
two_sides true true e = (refl, refl)
two_sides true false e = cc
two_sides false b e = cc

good_port : (ws : List NetWire) (kind : Option CellKind) (ps : List PortConnect) → Each IsGoodLink (map (port_link ws kind) ps) → Each (λ p. IsGood (shape ws p.signal)) ps
good_port ws kind [] h = tt
good_port ws kind (p ∷ ps) h = (
  record {
    narrow = one_side (shape ws p.signal).narrow h.0.narrow;
    named = one_side (shape ws p.signal).named h.0.named;
    sliced = one_side (shape ws p.signal).sliced h.0.sliced;
  },
  good_port ws kind ps h.1,
)

kept_links : (ws : List NetWire) (c : Cell) (b : Bool) → Each IsGoodLink (cond b (map (port_link ws (kind_named c.kind)) c.connects) []) → b ≡ true → AreGoodPorts ws c.connects
kept_links ws c true h e = All-from_recursion (λ (p : PortConnect). IsGood (shape ws p.signal)) c.connects (good_port ws (kind_named c.kind) c.connects h)
kept_links ws c false h e = cc

good_sides : (ws : List NetWire) (c : Connect) → IsGoodLink (record {
  line = c.line;
  sides = shape ws c.left ∷ shape ws c.right ∷ [];
  fits = (shape ws c.left).width == (shape ws c.right).width;
}) → IsGoodConnect ws c
good_sides ws c h =
    let n = two_sides (shape ws c.left).narrow (shape ws c.right).narrow h.narrow in
    let m = two_sides (shape ws c.left).named (shape ws c.right).named h.named in
    let s = two_sides (shape ws c.left).sliced (shape ws c.right).sliced h.sliced in
    record {
      left = record { narrow = n.0; named = m.0; sliced = s.0 };
      right = record { narrow = n.1; named = m.1; sliced = s.1 };
      fits = eqb-true (shape ws c.left).width (shape ws c.right).width (not-false _ h.fits);
    }

good_item : (ws : List NetWire) (x : Item) → Each IsGoodLink (item_links ws x) → IsGoodItem ws x
unfolding item_links
good_item ws (item.Cell c) h = kept_links ws c (is_kept c) h
good_item ws (item.Connect c) h = good_sides ws c h.0
good_item ws (item.Wire w) h = tt
good_item ws (item.Parameter p) h = tt

good_all : (ws : List NetWire) (items : List Item) → Each IsGoodLink (links ws items) → Each (IsGoodItem ws) items
good_all ws [] h = tt
good_all ws (x ∷ xs) h =
    let r = each_parts IsGoodLink (item_links ws x) (links ws xs) h in (good_item ws x r.0, good_all ws xs r.1)

-- what the first refusals leave
pub good_items : (ws : List NetWire) (items : List Item) → ws ≡ net_wires items → IsClear (form_causes items) → All (IsGoodItem ws) items
unfolding net_causes
good_items ws items e h =
    let vs = net_wires items in
    subst (λ v. All (IsGoodItem v) items) (sym e)
    (All-from_recursion (IsGoodItem vs) items (good_all vs items
    (good_links (links vs items) (any_false is_too_wide (links vs items) (not_true _ h.1.1.0))
    (none_pass (λ (l : Link). l.line) is_unnamed (links vs items) h.1.1.1.1.1.0)
    (none_pass (λ (l : Link). l.line) is_badly_sliced (links vs items) h.1.1.1.1.1.1.0)
    (none_pass (λ (l : Link). l.line) is_mismatched (links vs items) h.1.1.1.1.1.1.1.0))))

pub few_bits : (ws : List NetWire) (items : List Item) → ws ≡ net_wires items → IsClear (form_causes items) → bit_count ws ≤ most_bits
unfolding net_causes
few_bits ws items e h = let same : bit_count ws ≡ bit_count (net_wires items) = ap bit_count e in
    ⊎_elim (λ l. absurd (h.0 (let z : most_bits < bit_count (net_wires items) = omega (arith, l, same) in z))) (λ g. g)
    (cases_lt most_bits (bit_count ws))

pub few_cells : (items : List Item) → IsClear (form_causes items) → length (cells items) ≤ most_cells
unfolding net_causes
few_cells items h =
    ⊎_elim (λ l. absurd (h.1.0 l)) (λ g. g) (cases_lt most_cells (length (cells items)))

-- each kept cell has a known kind
known : (a b : Bool) → a && not b ≡ false → a && b ≡ false → a ≡ false
known true true e h = h
known true false e h = e
known false b e h = refl

pub known_kinds : (items : List Item) → IsClear (form_causes items) → Each (λ c. is_none (kind_named c.kind) ≡ false) (kept_cells items)
unfolding net_causes
known_kinds items h =
    each_weaker (λ (c : Cell). (is_unsupported c ≡ false) × (is_module c ≡ false)) (λ (c : Cell). is_none (kind_named c.kind) ≡ false)
    (λ c k. known (is_none (kind_named c.kind)) (begins_with_backslash c.kind) k.0 k.1) (kept_cells items)
    (each_both (λ (c : Cell). is_unsupported c ≡ false) (λ (c : Cell). is_module c ≡ false) (kept_cells items)
    (none_pass (λ (c : Cell). c.line) is_unsupported (kept_cells items) h.1.1.1.0) (none_pass (λ (c : Cell). c.line) is_module (kept_cells items) h.1.1.1.1.0))

-- the parts of an item
pub good_cell : (ws : List NetWire) (x : Item) (c : Cell) → x ≡ item.Cell c → IsGoodItem ws x → is_kept c ≡ true → AreGoodPorts ws c.connects
good_cell ws x c e h = subst (IsGoodItem ws) e h

pub good_connect : (ws : List NetWire) (x : Item) (c : Connect) → x ≡ item.Connect c → IsGoodItem ws x → IsGoodConnect ws c
good_connect ws x c e h = subst (IsGoodItem ws) e h

-- the connect of a port is one of them
found_good : (ws : List NetWire) (c : Cell) (letter : ℕ) → AreGoodPorts ws c.connects → IfSome (connect_of c letter) (λ p. IsGood (shape ws p.signal))
unfolding connect_of
found_good ws c letter h =
    each_found (λ (p : PortConnect). IsGood (shape ws p.signal)) (λ p. bytes_eq p.port (port_name letter)) c.connects
    (recursion_from_All (λ (p : PortConnect). IsGood (shape ws p.signal)) c.connects h)

pub good_port_of : (ws : List NetWire) (c : Cell) (letter : ℕ) (r : Option (Bor PortConnect)) (p : Bor PortConnect) → AreGoodPorts ws c.connects
    → option_copied r ≡ connect_of c letter → r ≡ Some p → IsGood (shape ws p.now.signal)
good_port_of ws c letter r p h e q =
    subst (λ o. IfSome o (λ (x : PortConnect). IsGood (shape ws x.signal))) (sym e ∙ ap option_copied q) (found_good ws c letter h)

found_output : (ws : List NetWire) (c : Cell) (o : Option CellKind) → AreGoodPorts ws c.connects → IfSome (output_connect c o) (λ p. IsGood (shape ws p.signal))
found_output ws c None h = tt
found_output ws c (Some kind) h = found_good ws c (output_letter kind) h

pub good_output : (ws : List NetWire) (c : Cell) (r : Option (Bor PortConnect)) (p : Bor PortConnect) → AreGoodPorts ws c.connects
    → option_copied r ≡ output_connect c (kind_named c.kind) → r ≡ Some p → IsGood (shape ws p.now.signal)
good_output ws c r p h e q =
    subst (λ o. IfSome o (λ (x : PortConnect). IsGood (shape ws x.signal))) (sym e ∙ ap option_copied q) (found_output ws c (kind_named c.kind) h)

-- the sides of a connect have as many bits as one another
pub sides_fit : (ws : List NetWire) (c : Connect) (left right : List SignalBit) → IsGoodConnect ws c → left ≡ signal_bits ws c.left → right ≡ signal_bits ws c.right → length left ≡ length right
sides_fit ws c left right g e h =
    ap length e ∙ (bits_length ws c.left g.left ∙ (g.fits ∙ (sym (bits_length ws c.right g.right) ∙ sym (ap length h))))

-- nothing is wrong with one item
pub fine_item : (ws : List NetWire) (x : Item) (cs : List Cell) (f : Faults) → AreFaults (item_links ws x) cs f → refusal_in f ≡ None → IsGoodItem ws x
fine_item ws x cs f a h =
    let ls = item_links ws x in
    let n = fine f h in
    let line : Link → ℕ = λ l. l.line in
    good_item ws x
    (good_links ls (any_false is_too_wide ls (sym a.too_wide ∙ n.too_wide))
    (none_pass line is_unnamed ls (least_none (map line (filter is_unnamed ls)) (sym a.no_wire ∙ n.no_wire)))
    (none_pass line is_badly_sliced ls (least_none (map line (filter is_badly_sliced ls)) (sym a.bad_slice ∙ n.bad_slice)))
    (none_pass line is_mismatched ls (least_none (map line (filter is_mismatched ls)) (sym (a.mismatch n.too_wide) ∙ n.mismatch))))
