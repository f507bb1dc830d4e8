-- Faults of two lists together.
use Rattle.std.proofs.Common.{◌≡◌, ℕ, ◌+◌, ◌<◌, ◌≤◌, Bool, true, false, ◌&&◌, ◌||◌, not, cond, min, List, [], ◌∷◌, ◌++◌, length, take, map, filter, get_or, Option, Some, None, refl, sym, ap, ◌∙◌, subst, arith, append_assoc, zero, suc, nat_eq, ◌==◌}
use Rattle.std.specs.List.{list_any, flat_map}
use Rattle.std.specs.Option.{is_some, is_none}
use Rattle.std.proofs.lemmas.Bool.{and_parts, not-true}
use Rattle.std.proofs.lemmas.List.{take_more, append-nil}
use Rattle.circuit_types.specs.Items.{cells, is_kept, kept_cells}
use Rattle.circuit_types.specs.Nets.{Link, port_link, item_links, links, is_too_wide, is_unnamed, is_badly_sliced, is_mismatched, is_unsupported, is_module, lacks_port}
use Rattle.circuit_types.specs.declared.tree.Item.{Item}
use Rattle.circuit_types.specs.declared.tree.Item.TheVariants as item
use Rattle.circuit_types.specs.declared.tree.Cell.{Cell}
use Rattle.circuit_types.specs.declared.tree.PortConnect.{PortConnect}
use Rattle.circuit_types.specs.declared.tree.Connect.{Connect}
use Rattle.cell_kinds.specs.Names.{kind_named}
use Rattle.net_build.specs.Shapes.{cap, capped}
use Rattle.net_build.specs.declared.shape.Shape.{Shape as Code}
use Rattle.circuit_types.specs.Signals.{shape}
use Rattle.net_build.proofs.BitLemmas.{narrow_width}
use Rattle.circuit_types.specs.declared.nets.NetWire.{NetWire}
use Rattle.cell_kinds.specs.declared.kind.CellKind.{CellKind}
use Rattle.circuit_types.specs.declared.refusal.Refusal.{Refusal}
use Rattle.net_build.specs.Faults.{earlier_of, least_of, nothing, is_nothing, together, AreFaults, else_all, else_line, refusal_in}
use Rattle.net_build.specs.declared.faults.Faults.{Faults}

earlier_assoc : (a b c : Option ℕ) → earlier_of (earlier_of a b) c ≡ earlier_of a (earlier_of b c)
earlier_assoc None b c = refl
earlier_assoc (Some x) None c = refl
earlier_assoc (Some x) (Some y) None = refl
earlier_assoc (Some x) (Some y) (Some z) = ap (λ n. Some n) (omega arith)

pub least-append : (xs ys : List ℕ) → least_of (xs ++ ys) ≡ earlier_of (least_of xs) (least_of ys)
unfolding least_of
least-append [] ys = refl
least-append (x ∷ xs) ys = ap (earlier_of (Some x)) (least-append xs ys) ∙ sym (earlier_assoc (Some x) (least_of xs) (least_of ys))

cond_cons : {X : Type 0} (b : Bool) (x : X) (xs ys zs : List X) → xs ≡ ys ++ zs → cond b (x ∷ xs) xs ≡ cond b (x ∷ ys) ys ++ zs
cond_cons true x xs ys zs e = ap (λ v. x ∷ v) e
cond_cons false x xs ys zs e = e

filter-append' : {X : Type 0} (p : X → Bool) (xs ys : List X) → filter p (xs ++ ys) ≡ filter p xs ++ filter p ys
filter-append' p [] ys = refl
filter-append' p (x ∷ xs) ys = cond_cons (p x) x (filter p (xs ++ ys)) (filter p xs) (filter p ys) (filter-append' p xs ys)

map-append' : {X Y : Type 0} (f : X → Y) (xs ys : List X) → map f (xs ++ ys) ≡ map f xs ++ map f ys
map-append' f [] ys = refl
map-append' f (x ∷ xs) ys = ap (λ v. f x ∷ v) (map-append' f xs ys)

least_both : {X : Type 0} (f : X → ℕ) (p : X → Bool) (xs ys : List X)
    → least_of (map f (filter p (xs ++ ys))) ≡ earlier_of (least_of (map f (filter p xs))) (least_of (map f (filter p ys)))
least_both f p xs ys =
    ap (λ v. least_of (map f v)) (filter-append' p xs ys)
    ∙ (ap least_of (map-append' f (filter p xs) (filter p ys)) ∙ least-append (map f (filter p xs)) (map f (filter p ys)))

or_assoc : (a b c : Bool) → (a || b) || c ≡ a || (b || c)
or_assoc true b c = refl
or_assoc false b c = refl

any-append' : {X : Type 0} (p : X → Bool) (xs ys : List X) → list_any p (xs ++ ys) ≡ list_any p xs || list_any p ys
any-append' p [] ys = refl
any-append' p (x ∷ xs) ys = ap (λ b. p x || b) (any-append' p xs ys) ∙ sym (or_assoc (p x) (list_any p xs) (list_any p ys))

pub or_none : (a b : Bool) → a || b ≡ false → (a ≡ false) × (b ≡ false)
or_none true b h = cc
or_none false b h = (refl, h)

both_lines : (a a' b b' : Option ℕ) → a ≡ a' → b ≡ b' → earlier_of a b ≡ earlier_of a' b'
both_lines a a' b b' p q = ap (λ v. earlier_of v b) p ∙ ap (earlier_of a') q

both_bools : (a a' b b' : Bool) → a ≡ a' → b ≡ b' → a || b ≡ a' || b'
both_bools a a' b b' p q = ap (λ v. v || b) p ∙ ap (λ v. a' || v) q

-- faults that are the same in each field
same_faults : (f g : Faults) → f.too_wide ≡ g.too_wide → f.unsupported ≡ g.unsupported → f.hierarchy ≡ g.hierarchy → f.no_wire ≡ g.no_wire → f.bad_slice ≡ g.bad_slice
    → f.mismatch ≡ g.mismatch → f.missing ≡ g.missing → f ≡ g
same_faults f g a b c d e m p =
    subst (λ v. f ≡ record { too_wide = v; unsupported = g.unsupported; hierarchy = g.hierarchy; no_wire = g.no_wire; bad_slice = g.bad_slice; mismatch = g.mismatch; missing = g.missing }) a
    (subst (λ v. f ≡ record { too_wide = f.too_wide; unsupported = v; hierarchy = g.hierarchy; no_wire = g.no_wire; bad_slice = g.bad_slice; mismatch = g.mismatch; missing = g.missing }) b
    (subst (λ v. f ≡ record { too_wide = f.too_wide; unsupported = f.unsupported; hierarchy = v; no_wire = g.no_wire; bad_slice = g.bad_slice; mismatch = g.mismatch; missing = g.missing }) c
    (subst (λ v. f ≡ record { too_wide = f.too_wide; unsupported = f.unsupported; hierarchy = f.hierarchy; no_wire = v; bad_slice = g.bad_slice; mismatch = g.mismatch; missing = g.missing }) d
    (subst (λ v. f ≡ record { too_wide = f.too_wide; unsupported = f.unsupported; hierarchy = f.hierarchy; no_wire = f.no_wire; bad_slice = v; mismatch = g.mismatch; missing = g.missing }) e
    (subst (λ v. f ≡ record { too_wide = f.too_wide; unsupported = f.unsupported; hierarchy = f.hierarchy; no_wire = f.no_wire; bad_slice = f.bad_slice; mismatch = v; missing = g.missing }) m
    (subst (λ v. f ≡ record { too_wide = f.too_wide; unsupported = f.unsupported; hierarchy = f.hierarchy; no_wire = f.no_wire; bad_slice = f.bad_slice; mismatch = f.mismatch; missing = v }) p
    refl))))))

earlier_alone : (o : Option ℕ) → o ≡ earlier_of o None
earlier_alone None = refl
earlier_alone (Some x) = refl

or_alone : (b : Bool) → b ≡ b || false
or_alone true = refl
or_alone false = refl

-- one part where nothing is wrong with the other
pub alone : (f : Faults) → f ≡ together f nothing
alone f =
    same_faults f (together f nothing) (or_alone f.too_wide) (earlier_alone f.unsupported) (earlier_alone f.hierarchy) (earlier_alone f.no_wire)
    (earlier_alone f.bad_slice) (earlier_alone f.mismatch) (earlier_alone f.missing)

no_line : (o : Option ℕ) → is_none o ≡ true → None ≡ o
no_line None h = refl
no_line (Some x) h = cc

-- nothing is wrong where no field says so
pub nothing_wrong : (f : Faults) → is_nothing f ≡ true → nothing ≡ f
nothing_wrong f h =
    let two = not f.too_wide && is_none f.unsupported in
    let three = two && is_none f.hierarchy in
    let four = three && is_none f.no_wire in
    let five = four && is_none f.bad_slice in
    let a = and_parts (five && is_none f.mismatch) (is_none f.missing) h in
    let b = and_parts five (is_none f.mismatch) a.0 in
    let c = and_parts four (is_none f.bad_slice) b.0 in
    let d = and_parts three (is_none f.no_wire) c.0 in
    let e = and_parts two (is_none f.hierarchy) d.0 in
    let g = and_parts (not f.too_wide) (is_none f.unsupported) e.0 in
    same_faults nothing f (sym (not-true f.too_wide g.0)) (no_line f.unsupported g.1) (no_line f.hierarchy e.1) (no_line f.no_wire d.1)
    (no_line f.bad_slice c.1) (no_line f.mismatch b.1) (no_line f.missing a.1)

-- what is found of some faults
pub as_found : (ls : List Link) (cs : List Cell) (f r : Faults) → r ≡ f → AreFaults ls cs f → AreFaults ls cs r
as_found ls cs f r e a = subst (λ (v : Faults). AreFaults ls cs v) (sym e) a

-- the faults of both are the faults of all
pub join_faults : (ls ms : List Link) (cs ds : List Cell) (f g r : Faults) → AreFaults ls cs f → AreFaults ms ds g
    → r ≡ together f g → AreFaults (ls ++ ms) (cs ++ ds) r
join_faults ls ms cs ds f g r a b e = subst (λ (v : Faults). AreFaults (ls ++ ms) (cs ++ ds) v) (sym e) (record {
  too_wide = both_bools f.too_wide (list_any is_too_wide ls) g.too_wide (list_any is_too_wide ms) a.too_wide b.too_wide ∙ sym (any-append' is_too_wide ls ms);
  unsupported = both_lines f.unsupported _ g.unsupported _ a.unsupported b.unsupported ∙ sym (least_both (λ (c : Cell). c.line) is_unsupported cs ds);
  hierarchy = both_lines f.hierarchy _ g.hierarchy _ a.hierarchy b.hierarchy ∙ sym (least_both (λ (c : Cell). c.line) is_module cs ds);
  no_wire = both_lines f.no_wire _ g.no_wire _ a.no_wire b.no_wire ∙ sym (least_both (λ (l : Link). l.line) is_unnamed ls ms);
  bad_slice = both_lines f.bad_slice _ g.bad_slice _ a.bad_slice b.bad_slice ∙ sym (least_both (λ (l : Link). l.line) is_badly_sliced ls ms);
  mismatch = λ h. let n = or_none f.too_wide g.too_wide h in
      both_lines f.mismatch _ g.mismatch _ (a.mismatch n.0) (b.mismatch n.1) ∙ sym (least_both (λ (l : Link). l.line) is_mismatched ls ms);
  missing = both_lines f.missing _ g.missing _ a.missing b.missing ∙ sym (least_both (λ (c : Cell). c.line) lacks_port cs ds);
})

one_cond : {X : Type 0} (f : X → ℕ) (b : Bool) (x : X) → cond b (Some (f x)) None ≡ least_of (map f (cond b (x ∷ []) []))
unfolding least_of
one_cond f true x = refl
one_cond f false x = refl

-- one connect, or one cell
pub one_line : {X : Type 0} (f : X → ℕ) (p : X → Bool) (x : X) (r : Option ℕ) (b : Bool) → r ≡ cond b (Some (f x)) None → b ≡ p x → r ≡ least_of (map f (filter p (x ∷ [])))
one_line f p x r b h e = h ∙ (ap (λ v. cond v (Some (f x)) None) e ∙ one_cond f (p x) x)

pub none_line : {X : Type 0} (f : X → ℕ) (p : X → Bool) → None ≡ least_of (map f (filter p []))
unfolding least_of
none_line f p = refl

-- one part more
pub next_port : (ws : List NetWire) (kind : Option CellKind) (xs : List PortConnect) (i : ℕ) (x : PortConnect) (cs : List Cell) (f g r : Faults) → i < length xs → x ≡ get_or xs i x
    → AreFaults (map (port_link ws kind) (take i xs)) cs f → AreFaults (port_link ws kind x ∷ []) [] g
    → r ≡ together f g → AreFaults (map (port_link ws kind) (take (i + 1) xs)) cs r
next_port ws kind xs i x cs f g r h e a b q =
    let all = join_faults (map (port_link ws kind) (take i xs)) (port_link ws kind x ∷ []) cs [] f g r a b q in
    let t : map (port_link ws kind) (take (i + 1) xs) ≡ map (port_link ws kind) (take i xs) ++ port_link ws kind x ∷ []
    = ap (map (port_link ws kind)) (take_more xs i x h ∙ ap (λ y. take i xs ++ y ∷ []) (sym e)) ∙ map-append' (port_link ws kind) (take i xs) (x ∷ []) in
    subst (λ v. AreFaults v cs r) (sym t) (subst (λ v. AreFaults (map (port_link ws kind) (take i xs) ++ port_link ws kind x ∷ []) v r) (append-nil cs) all)

cells-append : (xs ys : List Item) → cells (xs ++ ys) ≡ cells xs ++ cells ys
cells-append [] ys = refl
cells-append (item.Cell c ∷ xs) ys = ap (λ v. c ∷ v) (cells-append xs ys)
cells-append (item.Wire c ∷ xs) ys = cells-append xs ys
cells-append (item.Connect c ∷ xs) ys = cells-append xs ys
cells-append (item.Parameter c ∷ xs) ys = cells-append xs ys

pub kept-append : (xs ys : List Item) → kept_cells (xs ++ ys) ≡ kept_cells xs ++ kept_cells ys
kept-append xs ys = ap (filter is_kept) (cells-append xs ys) ∙ filter-append' is_kept (cells xs) (cells ys)

flat-append : {X Y : Type 0} (f : X → List Y) (xs ys : List X) → flat_map f (xs ++ ys) ≡ flat_map f xs ++ flat_map f ys
flat-append f [] ys = refl
flat-append f (x ∷ xs) ys = ap (λ v. f x ++ v) (flat-append f xs ys) ∙ sym (append_assoc (f x) (flat_map f xs) (flat_map f ys))

pub no_faults : AreFaults [] [] nothing
no_faults = record {
  too_wide = refl;
  unsupported = none_line (λ (c : Cell). c.line) is_unsupported;
  hierarchy = none_line (λ (c : Cell). c.line) is_module;
  no_wire = none_line (λ (l : Link). l.line) is_unnamed;
  bad_slice = none_line (λ (l : Link). l.line) is_badly_sliced;
  mismatch = λ h. none_line (λ (l : Link). l.line) is_mismatched;
  missing = none_line (λ (c : Cell). c.line) lacks_port;
}

pub other_faults : (ws : List NetWire) (x : Item) → ((c : Cell) → x ≡ item.Cell c → ⊥) → ((c : Connect) → x ≡ item.Connect c → ⊥)
    → AreFaults (item_links ws x) (kept_cells (x ∷ [])) nothing
unfolding item_links
other_faults ws (item.Cell c) n m = absurd (n c refl)
other_faults ws (item.Connect c) n m = absurd (m c refl)
other_faults ws (item.Wire w) n m = no_faults
other_faults ws (item.Parameter p) n m = no_faults

dropped_cell : (ws : List NetWire) (c : Cell) (b : Bool) → b ≡ false
    → AreFaults (cond b (map (port_link ws (kind_named c.kind)) c.connects) []) (cond b (c ∷ []) []) nothing
dropped_cell ws c true h = cc
dropped_cell ws c false h = no_faults

pub scope_faults : (ws : List NetWire) (x : Item) (c : Cell) → x ≡ item.Cell c → is_kept c ≡ false → AreFaults (item_links ws x) (kept_cells (x ∷ [])) nothing
unfolding item_links
scope_faults ws x c e h = subst (λ v. AreFaults (item_links ws v) (kept_cells (v ∷ [])) nothing) (sym e) (dropped_cell ws c (is_kept c) h)

kept_links : (ws : List NetWire) (c : Cell) (b : Bool) → b ≡ true → cond b (map (port_link ws (kind_named c.kind)) c.connects) [] ≡ map (port_link ws (kind_named c.kind)) c.connects
kept_links ws c true h = refl
kept_links ws c false h = cc

take_past : (i : ℕ) (xs : List PortConnect) → length xs ≤ i → take i xs ≡ xs
take_past zero [] h = refl
take_past zero (x ∷ xs) h = absurd (omega arith)
take_past (suc i) [] h = refl
take_past (suc i) (x ∷ xs) h = ap (λ v. x ∷ v) (take_past i xs (omega arith))

pub all_ports : (ws : List NetWire) (c : Cell) (kind : Option CellKind) (xs : List PortConnect) (i : ℕ) (f : Faults) → is_kept c ≡ true → kind ≡ kind_named c.kind → xs ≡ c.connects
    → length xs ≤ i → AreFaults (map (port_link ws kind) (take i xs)) (c ∷ []) f → AreFaults (item_links ws (item.Cell c)) (c ∷ []) f
unfolding item_links
all_ports ws c kind xs i f k e p h a =
    let t : map (port_link ws kind) (take i xs) ≡ map (port_link ws (kind_named c.kind)) c.connects
    = ap (map (port_link ws kind)) (take_past i xs h ∙ p) ∙ ap (λ (v : Option CellKind). map (port_link ws v) c.connects) e in
    subst (λ v. AreFaults v (c ∷ []) f) (t ∙ sym (kept_links ws c (is_kept c) k)) a

kept_alone : (c : Cell) (b : Bool) → b ≡ true → cond b (c ∷ []) [] ≡ c ∷ []
kept_alone c true h = refl
kept_alone c false h = cc

pub kept_faults : (ws : List NetWire) (x : Item) (c : Cell) (f : Faults) → x ≡ item.Cell c → is_kept c ≡ true
    → AreFaults (item_links ws (item.Cell c)) (c ∷ []) f → AreFaults (item_links ws x) (kept_cells (x ∷ [])) f
kept_faults ws x c f e h a =
    subst (λ v. AreFaults (item_links ws v) (kept_cells (v ∷ [])) f) (sym e)
    (subst (λ v. AreFaults (item_links ws (item.Cell c)) v f) (sym (kept_alone c (is_kept c) h)) a)

pub joined_faults : (ws : List NetWire) (x : Item) (c : Connect) (f : Faults) → x ≡ item.Connect c
    → AreFaults (item_links ws (item.Connect c)) [] f → AreFaults (item_links ws x) (kept_cells (x ∷ [])) f
joined_faults ws x c f e a = subst (λ v. AreFaults (item_links ws v) (kept_cells (v ∷ [])) f) (sym e) a

-- tests of one side, and of two
pub not_one : (b' b : Bool) → b' ≡ b → not b' ≡ not (b && true)
not_one b' true e = ap not e
not_one b' false e = ap not e

pub any_one : (b' b : Bool) → b' ≡ b → not b' ≡ not (b && true) || false
any_one b' true e = ap not e
any_one b' false e = ap not e

pub not_two : (l' l r' r : Bool) → l' ≡ l → r' ≡ r → not (l' && r') ≡ not (l && (r && true))
not_two l' true r' true e h = ap (λ v. not (v && r')) e ∙ ap not h
not_two l' true r' false e h = ap (λ v. not (v && r')) e ∙ ap not h
not_two l' false r' r e h = ap (λ v. not (v && r')) e

pub any_two : (l' l r' r : Bool) → l' ≡ l → r' ≡ r → not (l' && r') ≡ not (l && (r && true)) || false
any_two l' true r' true e h = ap (λ v. not (v && r')) e ∙ ap not h
any_two l' true r' false e h = ap (λ v. not (v && r')) e ∙ ap not h
any_two l' false r' r e h = ap (λ v. not (v && r')) e

pub capped_one : (w : ℕ) → nat_eq (min w cap) 1 ≡ nat_eq w 1
capped_one w = grind arith

pub port_fits : (p' p : Bool) (w' w : ℕ) → p' ≡ p → w' ≡ min w cap → not (not p' || nat_eq w' 1) ≡ not (not p || nat_eq w 1)
port_fits p' p w' w e h =
    ap (λ v. not (not v || nat_eq w' 1)) e
    ∙ (ap (λ v. not (not p || nat_eq v 1)) h ∙ ap (λ v. not (not p || v)) (capped_one w))

-- a connect with which nothing is wrong
pub fine_link : (l : Link) → list_any is_too_wide (l ∷ []) ≡ false → is_unnamed l ≡ false → is_badly_sliced l ≡ false → is_mismatched l ≡ false → AreFaults (l ∷ []) [] nothing
fine_link l wide unnamed badly mismatched = record {
  too_wide = sym wide;
  unsupported = none_line (λ (c : Cell). c.line) is_unsupported;
  hierarchy = none_line (λ (c : Cell). c.line) is_module;
  no_wire = one_line (λ (l : Link). l.line) is_unnamed l None false refl (sym unnamed);
  bad_slice = one_line (λ (l : Link). l.line) is_badly_sliced l None false refl (sym badly);
  mismatch = λ h. one_line (λ (l : Link). l.line) is_mismatched l None false refl (sym mismatched);
  missing = none_line (λ (c : Cell). c.line) lacks_port;
}

abbrev pub connect_link : List NetWire → Connect → Link
connect_link ws c = let l = shape ws c.left in let r = shape ws c.right in
    record { line = c.line; sides = l ∷ r ∷ []; fits = l.width == r.width }

not_and : (a b : Bool) → not (a && b) ≡ false → (a ≡ true) × (b ≡ true)
not_and true true h = (refl, refl)
not_and true false h = cc
not_and false b h = cc

pub sides_fit : (ws : List NetWire) (c : Connect) (l r : Code) → l ≡ capped (shape ws c.left) → r ≡ capped (shape ws c.right)
    → not (l.narrow && r.narrow) ≡ false → not (nat_eq l.width r.width) ≡ not (connect_link ws c).fits
sides_fit ws c l r e h k =
    let n = not_and l.narrow r.narrow k in
    let a = narrow_width ws c.left (sym (ap (λ (v : Code). v.narrow) e) ∙ n.0) in
    let b = narrow_width ws c.right (sym (ap (λ (v : Code). v.narrow) h) ∙ n.1) in
    let x : l.width ≡ (shape ws c.left).width = omega (arith, a, ap (λ (v : Code). v.width) e) in
    let y : r.width ≡ (shape ws c.right).width = omega (arith, b, ap (λ (v : Code). v.width) h) in
    ap (λ v. not (nat_eq v r.width)) x ∙ ap (λ v. not (nat_eq (shape ws c.left).width v)) y

-- no fault of two parts, and of neither

earlier_none : (a b : Option ℕ) → earlier_of a b ≡ None → (a ≡ None) × (b ≡ None)
earlier_none None b h = (refl, h)
earlier_none (Some x) None h = cc
earlier_none (Some x) (Some y) h = cc

all_none : (b : Bool) (r : Refusal) (rest : Option Refusal) → else_all b r rest ≡ None → (b ≡ false) × (rest ≡ None)
all_none true r rest h = cc
all_none false r rest h = (refl, h)

line_none : (k : ℕ → Refusal) (o : Option ℕ) (rest : Option Refusal) → else_line k o rest ≡ None → (o ≡ None) × (rest ≡ None)
line_none k None rest h = (refl, h)
line_none k (Some l) rest h = cc

-- nothing is wrong
pub record IsFine (f : Faults) : Type 0 where
  pub too_wide : f.too_wide ≡ false
  pub unsupported : f.unsupported ≡ None
  pub hierarchy : f.hierarchy ≡ None
  pub no_wire : f.no_wire ≡ None
  pub bad_slice : f.bad_slice ≡ None
  pub mismatch : f.mismatch ≡ None
  pub missing : f.missing ≡ None

pub fine : (f : Faults) → refusal_in f ≡ None → IsFine f
fine f h =
    let a = all_none f.too_wide _ _ h in
    let b = line_none _ f.unsupported _ a.1 in
    let c = line_none _ f.hierarchy _ b.1 in
    let d = line_none _ f.no_wire _ c.1 in
    let e = line_none _ f.bad_slice _ d.1 in
    let g = line_none _ f.mismatch _ e.1 in
    let k = line_none _ f.missing _ g.1 in
    record { too_wide = a.0; unsupported = b.0; hierarchy = c.0; no_wire = d.0; bad_slice = e.0; mismatch = g.0; missing = k.0 }

all_unrefused : (b : Bool) (r : Refusal) (rest : Option Refusal) → b ≡ false → rest ≡ None → else_all b r rest ≡ None
all_unrefused true r rest h k = cc
all_unrefused false r rest h k = k

line_unrefused : (k : ℕ → Refusal) (o : Option ℕ) (rest : Option Refusal) → o ≡ None → rest ≡ None → else_line k o rest ≡ None
line_unrefused k None rest h e = e
line_unrefused k (Some l) rest h e = cc

unrefused : (f : Faults) → IsFine f → refusal_in f ≡ None
unrefused f h =
    all_unrefused f.too_wide _ _ h.too_wide
    (line_unrefused _ f.unsupported _ h.unsupported
    (line_unrefused _ f.hierarchy _ h.hierarchy
    (line_unrefused _ f.no_wire _ h.no_wire
    (line_unrefused _ f.bad_slice _ h.bad_slice
    (line_unrefused _ f.mismatch _ h.mismatch
    (line_unrefused _ f.missing None h.missing refl))))))

pub parts_fine : (f g r : Faults) → r ≡ together f g → refusal_in r ≡ None → (refusal_in f ≡ None) × (refusal_in g ≡ None)
parts_fine f g r e h =
    let k = fine (together f g) (ap refusal_in (sym e) ∙ h) in
    let a = or_none f.too_wide g.too_wide k.too_wide in
    let b = earlier_none f.unsupported g.unsupported k.unsupported in
    let c = earlier_none f.hierarchy g.hierarchy k.hierarchy in
    let d = earlier_none f.no_wire g.no_wire k.no_wire in
    let s = earlier_none f.bad_slice g.bad_slice k.bad_slice in
    let m = earlier_none f.mismatch g.mismatch k.mismatch in
    let p = earlier_none f.missing g.missing k.missing in (
      unrefused f (record { too_wide = a.0; unsupported = b.0; hierarchy = c.0; no_wire = d.0; bad_slice = s.0; mismatch = m.0; missing = p.0 }),
      unrefused g (record { too_wide = a.1; unsupported = b.1; hierarchy = c.1; no_wire = d.1; bad_slice = s.1; mismatch = m.1; missing = p.1 }),
    )

pub unrefused_of : (o : Option Refusal) → is_some o ≡ false → o ≡ None
unrefused_of None h = refl
unrefused_of (Some r) h = cc

pub refused_none : (o : Option Refusal) → is_some o ≡ true → o ≡ None → ⊥
refused_none None h e = cc
refused_none (Some r) h e = cc

-- one item behind others
pub item_joins : (ws : List NetWire) (xs : List Item) (x : Item) (f g r : Faults) → AreFaults (links ws xs) (kept_cells xs) f → AreFaults (item_links ws x) (kept_cells (x ∷ [])) g
    → r ≡ together f g → AreFaults (links ws (xs ++ x ∷ [])) (kept_cells (xs ++ x ∷ [])) r
item_joins ws xs x f g r a b q =
    let all = join_faults (links ws xs) (item_links ws x) (kept_cells xs) (kept_cells (x ∷ [])) f g r a b q in
    let ls = flat-append (item_links ws) xs (x ∷ []) ∙ ap (λ v. links ws xs ++ v) (append-nil (item_links ws x)) in
    let cs = kept-append xs (x ∷ []) in
    subst (λ v. AreFaults v (kept_cells (xs ++ x ∷ [])) r) (sym ls) (subst (λ v. AreFaults (links ws xs ++ item_links ws x) v r) (sym cs) all)
