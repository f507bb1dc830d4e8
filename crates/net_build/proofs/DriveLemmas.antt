-- One drive after another: what drives each bit, and which drives are refused.
use Rattle.std.proofs.Common.{◌≡◌, ℕ, ◌+◌, ◌<◌, ◌≤◌, Bool, true, false, ◌||◌, not, cond, min, nat_le, List, [], ◌∷◌, ◌++◌, length, take, drop, map, filter, get_or, set, Option, Some, None, ⊎_elim, refl, sym, ap, ◌∙◌, subst, arith, append_assoc, length-append, get_or-set_same, get_or-set_other}
use Rattle.std.specs.List.{All, list_any, list_all, find, zip}
use Rattle.std.specs.Borrow.{Bor}
use Rattle.std.specs.Option.{option_or, option_copied, is_some, IfSome}
use Rattle.std.specs.Str.{bytes_eq}
use Rattle.std.proofs.lemmas.Option.{same_Some}
use Rattle.std.proofs.Math.ListN.{length-set}
use Rattle.std.proofs.lemmas.Bool.{cond_both, cases_eq, leb-true, eq-eqb, ne_eqb}
use Rattle.std.proofs.lemmas.List.{take_more, take-append-drop, append-nil, take_all, map_more}
use Rattle.std.proofs.lemmas.List.Folds.{find-append}
use Rattle.std.proofs.lemmas.Slice.Zip.{get_or-zip, length-zip}
use Rattle.cell_kinds.specs.Names.{kind_named}
use Rattle.cell_kinds.specs.Cells.{output_letter}
use Rattle.cell_kinds.specs.declared.kind.CellKind.{CellKind}
use Rattle.circuit_types.specs.Items.{is_kept, kept_cells, cells}
use Rattle.circuit_types.specs.Signals.{signal_bits}
use Rattle.circuit_types.specs.Drives.{Drive, by_cell, by_bit, port_name, connect_of, output_connect, connect_drives, cell_drives, drives_from, drives, is_input_bit, is_net, is_taken, redriven}
use Rattle.circuit_types.specs.Drives as drives
use Rattle.circuit_types.specs.declared.nets.NetWire.{NetWire}
use Rattle.circuit_types.specs.declared.nets.SignalBit.{SignalBit}
use Rattle.circuit_types.specs.declared.nets.SignalBit.TheVariants as bit
use Rattle.circuit_types.specs.declared.tree.Cell.{Cell}
use Rattle.circuit_types.specs.declared.tree.Connect.{Connect}
use Rattle.circuit_types.specs.declared.tree.PortConnect.{PortConnect}
use Rattle.circuit_types.specs.declared.tree.Item.{Item}
use Rattle.circuit_types.specs.declared.tree.Item.TheVariants as item
use Rattle.net_build.specs.Drivers.{IsWithin, KnowsDrivers, code_of, driver_or, first_driver, is_nothing, is_driven, driven, tied, joined}
use Rattle.net_build.specs.Drives.{HasDriven, joined_bits, is_from, NoneBefore}
use Rattle.net_build.specs.Faults.{earlier_of, least_of}
use Rattle.net_build.specs.declared.drivers.Driver.{Driver}
use Rattle.net_build.specs.declared.drivers.Driver.TheVariants as driver
use Rattle.net_build.specs.declared.drives.Drivers.{Drivers}
use Rattle.net_build.proofs.EachLemmas.{Each, each-append, each_passes, each_found}
use Rattle.net_build.proofs.FaultLemmas.{least-append, kept-append}

-- what a drive does to what is known: the bit k before and after
code_kept : (x : drives.Driver) → is_nothing (code_of x) ≡ false
code_kept (by_cell c) = refl
code_kept (by_bit b) = refl

first_kept : (b : Bool) (o : Option Drive) → is_nothing (cond b driver.Input (driver_or o)) ≡ false → (o' : Option Drive)
    → cond b driver.Input (driver_or (option_or o o')) ≡ cond b driver.Input (driver_or o)
first_kept true o h o' = refl
first_kept false None h o' = cc
first_kept false (Some d) h o' = refl

first_free : (b : Bool) (o : Option Drive) → is_nothing (cond b driver.Input (driver_or o)) ≡ true → (b ≡ false) × (o ≡ None)
first_free true o h = cc
first_free false None h = (refl, refl)
first_free false (Some d) h = absurd (let z : true ≡ false = sym h ∙ code_kept d.driver in cc)

-- the first driver with one drive more
first_more : (ws : List NetWire) (ds : List Drive) (d : Drive) (k : ℕ)
    → first_driver ws (ds ++ d ∷ []) k ≡ cond (is_input_bit ws k) driver.Input (driver_or (option_or (find (λ x. is_net k x.target) ds) (cond (is_net k d.target) (Some d) None)))
unfolding first_driver
first_more ws ds d k =
    ap (λ o. cond (is_input_bit ws k) driver.Input (driver_or o)) (find-append (λ (x : Drive). is_net k x.target) ds (d ∷ []))

first_is : (ws : List NetWire) (ds : List Drive) (k : ℕ) → first_driver ws ds k ≡ cond (is_input_bit ws k) driver.Input (driver_or (find (λ x. is_net k x.target) ds))
unfolding first_driver
first_is ws ds k = refl

some_free : (b : Bool) (o : Option Drive) (d : Drive) → (b ≡ false) × (o ≡ None) → cond b driver.Input (driver_or (option_or o (Some d))) ≡ code_of d.driver
some_free b o d f = ap (λ v. cond v driver.Input (driver_or (option_or o (Some d)))) f.0 ∙ ap (λ v. driver_or (option_or v (Some d))) f.1

or_none_same : (o : Option Drive) → option_or o None ≡ o
or_none_same None = refl
or_none_same (Some d) = refl

-- a bit that is not the target keeps its driver
other_kept : (ws : List NetWire) (ds : List Drive) (d : Drive) (k : ℕ) → is_net k d.target ≡ false → first_driver ws (ds ++ d ∷ []) k ≡ first_driver ws ds k
other_kept ws ds d k h =
    first_more ws ds d k
    ∙ (ap (λ b. cond (is_input_bit ws k) driver.Input (driver_or (option_or (find (λ x. is_net k x.target) ds) (cond b (Some d) None)))) h
    ∙ (ap (λ o. cond (is_input_bit ws k) driver.Input (driver_or o)) (or_none_same (find (λ x. is_net k x.target) ds)) ∙ sym (first_is ws ds k)))

-- a bit that has a driver keeps it
driven_kept : (ws : List NetWire) (ds : List Drive) (d : Drive) (k : ℕ) → is_nothing (first_driver ws ds k) ≡ false → first_driver ws (ds ++ d ∷ []) k ≡ first_driver ws ds k
driven_kept ws ds d k h =
    first_more ws ds d k
    ∙ (first_kept (is_input_bit ws k) (find (λ x. is_net k x.target) ds) (sym (ap is_nothing (first_is ws ds k)) ∙ h) (cond (is_net k d.target) (Some d) None)
    ∙ sym (first_is ws ds k))

-- a bit that has none gets it
free_driven : (ws : List NetWire) (ds : List Drive) (d : Drive) (k : ℕ) → is_nothing (first_driver ws ds k) ≡ true → is_net k d.target ≡ true
    → first_driver ws (ds ++ d ∷ []) k ≡ code_of d.driver
free_driven ws ds d k h t =
    first_more ws ds d k
    ∙ (ap (λ b. cond (is_input_bit ws k) driver.Input (driver_or (option_or (find (λ x. is_net k x.target) ds) (cond b (Some d) None)))) t
    ∙ some_free (is_input_bit ws k) (find (λ x. is_net k x.target) ds) d (first_free (is_input_bit ws k) (find (λ x. is_net k x.target) ds) (sym (ap is_nothing (first_is ws ds k)) ∙ h)))

is_net_same : (k : ℕ) → is_net k (bit.Net k) ≡ true
is_net_same k = eq-eqb k k refl

is_net_other : (k j : ℕ) → (k ≡ j → ⊥) → is_net k (bit.Net j) ≡ false
is_net_other k j n = ne_eqb j k (λ e. n (sym e))

-- whether a bit is taken is known
taken_by : (b c : Bool) (o : Option Drive) → (c ≡ is_some o) → not (is_nothing (cond b driver.Input (driver_or o))) ≡ b || c
taken_by true c o e = refl
taken_by false c None e = sym e
taken_by false c (Some d) e = ap not (code_kept d.driver) ∙ sym e

found_case : (b : Bool) (d : Drive) (c : Bool) (o : Option Drive) → c ≡ is_some o → b || c ≡ is_some (cond b (Some d) o)
found_case true d c o e = refl
found_case false d c o e = e

any_found : (p : Drive → Bool) (ds : List Drive) → list_any p ds ≡ is_some (find p ds)
any_found p [] = refl
any_found p (d ∷ ds) = found_case (p d) d (list_any p ds) (find p ds) (any_found p ds)

taken_known : (ws : List NetWire) (ds : List Drive) (drs : List Driver) (b : SignalBit) → KnowsDrivers ws ds drs → IsWithin (length drs) b → is_driven drs b ≡ is_taken ws ds b
taken_known ws ds drs (bit.Net k) h w =
    ap (λ x. not (is_nothing x)) (h.each k w ∙ first_is ws ds k)
    ∙ taken_by (is_input_bit ws k) (list_any (λ d. is_net k d.target) ds) (find (λ d. is_net k d.target) ds) (any_found (λ d. is_net k d.target) ds)
taken_known ws ds drs bit.Zero h w = refl
taken_known ws ds drs bit.One h w = refl
taken_known ws ds drs bit.Unknown h w = refl

-- all drivers with one drive more
set_known : (ws : List NetWire) (ds : List Drive) (drs : List Driver) (d : Drive) (k : ℕ) → KnowsDrivers ws ds drs → k < length drs → d.target ≡ bit.Net k
    → (b : Bool) → is_nothing (get_or drs k driver.Nothing) ≡ b → KnowsDrivers ws (ds ++ d ∷ []) (cond b (set drs k (code_of d.driver)) drs)
set_known ws ds drs d k h w t true free = record {
  size = length-set drs k (code_of d.driver) ∙ h.size;
  each = λ j lt. ⊎_elim
      (λ e. subst (λ i. get_or (set drs k (code_of d.driver)) i driver.Nothing ≡ first_driver ws (ds ++ d ∷ []) i) (sym e)
      (get_or-set_same drs k (code_of d.driver) driver.Nothing w
      ∙ sym (free_driven ws ds d k (sym (ap is_nothing (h.each k w)) ∙ free) (ap (is_net k) t ∙ is_net_same k))))
      (λ n. get_or-set_other drs k j (code_of d.driver) driver.Nothing n
      ∙ (h.each j (omega (arith, lt, length-set drs k (code_of d.driver))) ∙ sym (other_kept ws ds d j (ap (is_net j) t ∙ is_net_other j k n))))
      (cases_eq j k);
}
set_known ws ds drs d k h w t false taken = record {
  size = h.size;
  each = λ j lt. ⊎_elim
      (λ e. subst (λ i. get_or drs i driver.Nothing ≡ first_driver ws (ds ++ d ∷ []) i) (sym e)
      (h.each k w ∙ sym (driven_kept ws ds d k (sym (ap is_nothing (h.each k w)) ∙ taken))))
      (λ n. h.each j lt ∙ sym (other_kept ws ds d j (ap (is_net j) t ∙ is_net_other j k n)))
      (cases_eq j k);
}

const_known : (ws : List NetWire) (ds : List Drive) (drs : List Driver) (d : Drive) → KnowsDrivers ws ds drs → ((k : ℕ) → is_net k d.target ≡ false) → KnowsDrivers ws (ds ++ d ∷ []) drs
const_known ws ds drs d h n = record { size = h.size; each = λ j lt. h.each j lt ∙ sym (other_kept ws ds d j (n j)) }

drive_known : (ws : List NetWire) (ds : List Drive) (drs : List Driver) (d : Drive) (b : SignalBit) → d.target ≡ b → KnowsDrivers ws ds drs → IsWithin (length drs) b
    → KnowsDrivers ws (ds ++ d ∷ []) (driven drs b (code_of d.driver))
drive_known ws ds drs d (bit.Net k) t h w = set_known ws ds drs d k h w t (is_nothing (get_or drs k driver.Nothing)) refl
drive_known ws ds drs d bit.Zero t h w = const_known ws ds drs d h (λ k. ap (is_net k) t)
drive_known ws ds drs d bit.One t h w = const_known ws ds drs d h (λ k. ap (is_net k) t)
drive_known ws ds drs d bit.Unknown t h w = const_known ws ds drs d h (λ k. ap (is_net k) t)

-- refused drives of two lists, one after the other
redriven-append : (ws : List NetWire) (es xs ys : List Drive) → redriven ws es (xs ++ ys) ≡ redriven ws es xs ++ redriven ws (es ++ xs) ys
unfolding redriven
redriven-append ws es [] ys = ap (λ v. redriven ws v ys) (sym (append-nil es))
redriven-append ws es (x ∷ xs) ys =
    let first = cond (is_taken ws es x.target) (x.line ∷ []) [] in
    ap (λ v. first ++ v) (redriven-append ws (es ++ x ∷ []) xs ys)
    ∙ (sym (append_assoc first (redriven ws (es ++ x ∷ []) xs) (redriven ws ((es ++ x ∷ []) ++ xs) ys))
    ∙ ap (λ v. (first ++ redriven ws (es ++ x ∷ []) xs) ++ redriven ws v ys) (append_assoc es (x ∷ []) xs))

redriven_one : (ws : List NetWire) (es : List Drive) (d : Drive) → redriven ws es (d ∷ []) ≡ cond (is_taken ws es d.target) (d.line ∷ []) []
unfolding redriven
redriven_one ws es d = append-nil (cond (is_taken ws es d.target) (d.line ∷ []) [])

earlier_none : (o : Option ℕ) → earlier_of o None ≡ o
earlier_none None = refl
earlier_none (Some x) = refl

least_one : (b : Bool) (o : Option ℕ) (line : ℕ) → cond b (earlier_of o (Some line)) o ≡ earlier_of o (least_of (cond b (line ∷ []) []))
unfolding least_of
least_one true o line = refl
least_one false o line = sym (earlier_none o)

drive_least : (ws : List NetWire) (ds : List Drive) (d : Drive) (o : Option ℕ) → o ≡ least_of (redriven ws [] ds)
    → cond (is_taken ws ds d.target) (earlier_of o (Some d.line)) o ≡ least_of (redriven ws [] (ds ++ d ∷ []))
drive_least ws ds d o e =
    least_one (is_taken ws ds d.target) o d.line
    ∙ (ap (λ v. earlier_of v (least_of (cond (is_taken ws ds d.target) (d.line ∷ []) []))) e
    ∙ (sym (least-append (redriven ws [] ds) (cond (is_taken ws ds d.target) (d.line ∷ []) []))
    ∙ ap least_of (ap (λ v. redriven ws [] ds ++ v) (sym (redriven_one ws ds d)) ∙ sym (redriven-append ws [] ds (d ∷ [])))))

-- one drive
pub drive_step : (ws : List NetWire) (ds : List Drive) (d : Drive) (old new : Drivers) → IsWithin (length old.list.items) d.target
    → new.list.items ≡ driven old.list.items d.target (code_of d.driver)
    → new.refused ≡ cond (is_driven old.list.items d.target) (earlier_of old.refused (Some d.line)) old.refused
    → HasDriven ws ds old → HasDriven ws (ds ++ d ∷ []) new
drive_step ws ds d old new w l r h = record {
  knows = subst (λ v. KnowsDrivers ws (ds ++ d ∷ []) v) (sym l) (drive_known ws ds old.list.items d d.target refl h.knows w);
  least = r ∙ (ap (λ b. cond b (earlier_of old.refused (Some d.line)) old.refused) (taken_known ws ds old.list.items d.target h.knows w) ∙ drive_least ws ds d old.refused h.least);
}

-- a drive keeps the number of bits
driven_size : (drs : List Driver) (b : SignalBit) (x : Driver) → length (driven drs b x) ≡ length drs
driven_size drs (bit.Net k) x = cond_both (is_nothing (get_or drs k driver.Nothing)) (set drs k x) drs (λ v. length v ≡ length drs) (λ e. length-set drs k x) (λ e. refl)
driven_size drs bit.Zero x = refl
driven_size drs bit.One x = refl
driven_size drs bit.Unknown x = refl

pub drive_size : (n : ℕ) (old new : List Driver) (b : SignalBit) (x : Driver) → new ≡ driven old b x → length old ≡ n → length new ≡ n
drive_size n old new b x e h = ap length e ∙ (driven_size old b x ∙ h)

-- a bit of a list of bits that are within
pub bit_within : (n m : ℕ) (bits : List SignalBit) (i : ℕ) (b : SignalBit) → All (IsWithin n) bits → i < length bits → b ≡ get_or bits i b → m ≡ n → IsWithin m b
bit_within n m bits i b h lt e p = subst (λ v. IsWithin m v) (sym e) (subst (λ v. IsWithin v (get_or bits i b)) (sym p) (h i b lt))

-- one bit more is tied
pub tied_more : (line number : ℕ) (bits : List SignalBit) (i : ℕ) (b : SignalBit) (old : Drivers) (now new : Drivers) → i < length bits → b ≡ get_or bits i b
    → IsWithin (length now.list.items) b
    → new.list.items ≡ driven now.list.items b (driver.Cell number)
    → new.refused ≡ cond (is_driven now.list.items b) (earlier_of now.refused (Some line)) now.refused
    → ((ws : List NetWire) (ds : List Drive) → HasDriven ws ds old → HasDriven ws (ds ++ map (tied line number) (take i bits)) now)
    → (ws : List NetWire) (ds : List Drive) → HasDriven ws ds old → HasDriven ws (ds ++ map (tied line number) (take (i + 1) bits)) new
tied_more line number bits i b old now new lt e w l r f ws ds h =
    let more : map (tied line number) (take (i + 1) bits) ≡ map (tied line number) (take i bits) ++ tied line number b ∷ []
    = map_more (tied line number) bits i b lt ∙ ap (λ x. map (tied line number) (take i bits) ++ tied line number x ∷ []) (sym e) in
    subst (λ v. HasDriven ws v new) (append_assoc ds (map (tied line number) (take i bits)) (tied line number b ∷ []) ∙ ap (λ v. ds ++ v) (sym more))
    (drive_step ws (ds ++ map (tied line number) (take i bits)) (tied line number b) now new w l r (f ws ds h))

-- one bit more is joined
pub joined_more : (line : ℕ) (left right : List SignalBit) (i : ℕ) (b a : SignalBit) (old : Drivers) (now new : Drivers) → i < length left → length left ≡ length right
    → b ≡ get_or left i b → a ≡ get_or right i a
    → IsWithin (length now.list.items) b
    → new.list.items ≡ driven now.list.items b (driver.Bit a)
    → new.refused ≡ cond (is_driven now.list.items b) (earlier_of now.refused (Some line)) now.refused
    → ((ws : List NetWire) (ds : List Drive) → HasDriven ws ds old → HasDriven ws (ds ++ map (joined line) (take i (zip left right))) now)
    → (ws : List NetWire) (ds : List Drive) → HasDriven ws ds old → HasDriven ws (ds ++ map (joined line) (take (i + 1) (zip left right))) new
joined_more line left right i b a old now new lt fit e q w l r f ws ds h =
    let pairs = zip left right in
    let size = length-zip left right in
    let inside : i < length pairs = omega (arith, size, lt, fit) in
    let at : get_or pairs i (b, a) ≡ (b, a) = get_or-zip left right i (b, a) lt (omega (arith, lt, fit)) ∙ (ap (λ x. (x, get_or right i a)) (sym e) ∙ ap (λ x. (b, x)) (sym q)) in
    let more : map (joined line) (take (i + 1) pairs) ≡ map (joined line) (take i pairs) ++ joined line (b, a) ∷ []
    = map_more (joined line) pairs i (b, a) inside ∙ ap (λ x. map (joined line) (take i pairs) ++ joined line x ∷ []) at in
    subst (λ v. HasDriven ws v new) (append_assoc ds (map (joined line) (take i pairs)) (joined line (b, a) ∷ []) ∙ ap (λ v. ds ++ v) (sym more))
    (drive_step ws (ds ++ map (joined line) (take i pairs)) (joined line (b, a)) now new w l r (f ws ds h))

-- none so far
pub none_driven : (old : Drivers) (ws : List NetWire) (ds : List Drive) → HasDriven ws ds old → HasDriven ws (ds ++ []) old
none_driven old ws ds h = subst (λ v. HasDriven ws v old) (sym (append-nil ds)) h

-- the drives of two lists of items
kept_append : (ws : List NetWire) (n : ℕ) (c : Cell) (xs ys : List Item) (b : Bool)
    → drives_from ws (n + 1) (xs ++ ys) ≡ drives_from ws (n + 1) xs ++ drives_from ws (n + 1 + length (kept_cells xs)) ys
    → drives_from ws n (xs ++ ys) ≡ drives_from ws n xs ++ drives_from ws (n + length (kept_cells xs)) ys
    → cond b (cell_drives ws n c ++ drives_from ws (n + 1) (xs ++ ys)) (drives_from ws n (xs ++ ys))
    ≡ cond b (cell_drives ws n c ++ drives_from ws (n + 1) xs) (drives_from ws n xs) ++ drives_from ws (n + length (cond b (c ∷ kept_cells xs) (kept_cells xs))) ys
kept_append ws n c xs ys true e h =
    let same : n + 1 + length (kept_cells xs) ≡ n + length (c ∷ kept_cells xs) = omega arith in
    ap (λ v. cell_drives ws n c ++ v) e
    ∙ (sym (append_assoc (cell_drives ws n c) (drives_from ws (n + 1) xs) (drives_from ws (n + 1 + length (kept_cells xs)) ys))
    ∙ ap (λ m. (cell_drives ws n c ++ drives_from ws (n + 1) xs) ++ drives_from ws m ys) same)
kept_append ws n c xs ys false e h = h

drives-append : (ws : List NetWire) (n : ℕ) (xs ys : List Item) → drives_from ws n (xs ++ ys) ≡ drives_from ws n xs ++ drives_from ws (n + length (kept_cells xs)) ys
drives-append ws n [] ys = ap (λ m. drives_from ws m ys) (let z : n ≡ n + 0 = omega arith in z)
drives-append ws n (item.Cell c ∷ xs) ys = kept_append ws n c xs ys (is_kept c) (drives-append ws (n + 1) xs ys) (drives-append ws n xs ys)
drives-append ws n (item.Connect c ∷ xs) ys =
    ap (λ v. joined_bits ws c ++ v) (drives-append ws n xs ys) ∙ sym (append_assoc (joined_bits ws c) (drives_from ws n xs) (drives_from ws (n + length (kept_cells xs)) ys))
drives-append ws n (item.Wire w ∷ xs) ys = drives-append ws n xs ys
drives-append ws n (item.Parameter p ∷ xs) ys = drives-append ws n xs ys

pub next_drives : (ws : List NetWire) (items : List Item) (i n : ℕ) (x : Item) → i < length items → x ≡ get_or items i x → n ≡ length (kept_cells (take i items))
    → drives ws (take (i + 1) items) ≡ drives ws (take i items) ++ drives_from ws n (x ∷ [])
unfolding drives
next_drives ws items i n x lt e h =
    ap (drives_from ws 0) (take_more items i x lt ∙ ap (λ y. take i items ++ y ∷ []) (sym e))
    ∙ (drives-append ws 0 (take i items) (x ∷ []) ∙ ap (λ m. drives_from ws 0 (take i items) ++ drives_from ws m (x ∷ [])) (let z : 0 + length (kept_cells (take i items)) ≡ n = omega (arith, h) in z))

pub next_kept : (items : List Item) (i n m : ℕ) (x : Item) → i < length items → x ≡ get_or items i x → n ≡ length (kept_cells (take i items)) → m ≡ n + length (kept_cells (x ∷ []))
    → m ≡ length (kept_cells (take (i + 1) items))
next_kept items i n m x lt e h p =
    let t : kept_cells (take (i + 1) items) ≡ kept_cells (take i items) ++ kept_cells (x ∷ [])
    = ap kept_cells (take_more items i x lt ∙ ap (λ y. take i items ++ y ∷ []) (sym e)) ∙ kept-append (take i items) (x ∷ []) in
    let l = ap length t in
    omega (arith, l, h, p, length-append (kept_cells (take i items)) (kept_cells (x ∷ [])))

-- no more cells are kept than there are
filter_fewer : (p : Cell → Bool) (cs : List Cell) → length (filter p cs) ≤ length cs
filter_fewer p [] = omega arith
filter_fewer p (c ∷ cs) = let r = filter_fewer p cs in
    cond_both (p c) (c ∷ filter p cs) (filter p cs) (λ v. length v ≤ length (c ∷ cs)) (λ e. omega (arith, r)) (λ e. omega (arith, r))

pub kept_fewer : (items : List Item) → length (kept_cells items) ≤ length (cells items)
kept_fewer items = filter_fewer is_kept (cells items)

pub next_few : (items : List Item) (i n most : ℕ) (x : Item) → i < length items → x ≡ get_or items i x → n ≡ length (kept_cells (take i items))
    → length (cells items) ≤ most → n + length (kept_cells (x ∷ [])) ≤ most
next_few items i n most x lt e h few =
    let now = next_kept items i n (n + length (kept_cells (x ∷ []))) x lt e h refl in
    let all = ap (λ v. length (kept_cells v)) (take-append-drop (i + 1) items) in
    let parts = ap length (kept-append (take (i + 1) items) (drop (i + 1) items)) in
    omega (arith, now, all, parts, length-append (kept_cells (take (i + 1) items)) (kept_cells (drop (i + 1) items)), kept_fewer items, few)

-- lines of later statements
abbrev LaterThan : ℕ → List Drive → Type 0
LaterThan line ds = Each (λ d. line ≤ d.line) ds

tied_later : (line at number : ℕ) (bs : List SignalBit) → line ≤ at → LaterThan line (map (tied at number) bs)
tied_later line at number [] h = tt
tied_later line at number (b ∷ bs) h = (h, tied_later line at number bs h)

joined_later : (line at : ℕ) (ps : List (SignalBit × SignalBit)) → line ≤ at → LaterThan line (map (joined at) ps)
joined_later line at [] h = tt
joined_later line at (p ∷ ps) h = (h, joined_later line at ps h)

port_later : (ws : List NetWire) (number line : ℕ) (o : Option PortConnect) → IfSome o (λ p. nat_le line p.line ≡ true) → LaterThan line (connect_drives ws number o)
port_later ws number line None h = tt
port_later ws number line (Some p) h = tied_later line p.line number (signal_bits ws p.signal) (leb-true line p.line h)

output_later : (c : Cell) (line : ℕ) (o : Option CellKind) → list_all (λ p. nat_le line p.line) c.connects ≡ true
    → IfSome (output_connect c o) (λ p. nat_le line p.line ≡ true)
unfolding connect_of
output_later c line None h = tt
output_later c line (Some kind) h =
    each_found (λ (p : PortConnect). nat_le line p.line ≡ true) (λ p. bytes_eq p.port (port_name (output_letter kind))) c.connects (each_passes (λ p. nat_le line p.line) c.connects h)

cell_later : (ws : List NetWire) (number line : ℕ) (c : Cell) → list_all (λ p. nat_le line p.line) c.connects ≡ true → LaterThan line (cell_drives ws number c)
unfolding cell_drives
cell_later ws number line c h = port_later ws number line (output_connect c (kind_named c.kind)) (output_later c line (kind_named c.kind) h)

items_later : (ws : List NetWire) (number line : ℕ) (items : List Item) → Each (λ x. is_from line x ≡ true) items → LaterThan line (drives_from ws number items)
items_later ws number line [] h = tt
items_later ws number line (item.Cell c ∷ items) h =
    cond_both (is_kept c) (cell_drives ws number c ++ drives_from ws (number + 1) items) (drives_from ws number items) (LaterThan line)
    (λ e. each-append (λ (d : Drive). line ≤ d.line) (cell_drives ws number c) (drives_from ws (number + 1) items) (cell_later ws number line c h.0) (items_later ws (number + 1) line items h.1))
    (λ e. items_later ws number line items h.1)
items_later ws number line (item.Connect c ∷ items) h =
    each-append (λ (d : Drive). line ≤ d.line) (joined_bits ws c) (drives_from ws number items)
    (joined_later line c.line (zip (signal_bits ws c.left) (signal_bits ws c.right)) (leb-true line c.line h.0)) (items_later ws number line items h.1)
items_later ws number line (item.Wire w ∷ items) h = items_later ws number line items h.1
items_later ws number line (item.Parameter p ∷ items) h = items_later ws number line items h.1

redriven_later : (ws : List NetWire) (es ds : List Drive) (line : ℕ) → LaterThan line ds → Each (λ l. line ≤ l) (redriven ws es ds)
unfolding redriven
redriven_later ws es [] line h = tt
redriven_later ws es (d ∷ ds) line h =
    each-append (λ l. line ≤ l) (cond (is_taken ws es d.target) (d.line ∷ []) []) (redriven ws (es ++ d ∷ []) ds)
    (cond_both (is_taken ws es d.target) (d.line ∷ []) [] (λ v. Each (λ l. line ≤ l) v) (λ e. (h.0, tt)) (λ e. tt)) (redriven_later ws (es ++ d ∷ []) ds line h.1)

stays_with : (line x : ℕ) (o : Option ℕ) → line ≤ x → earlier_of (Some line) o ≡ Some line → earlier_of (Some line) (earlier_of (Some x) o) ≡ Some line
stays_with line x None h e = ap (λ n. Some n) (let z : min line x ≡ line = omega (arith, h) in z)
stays_with line x (Some y) h e =
    let q = same_Some (min line y) line e in ap (λ n. Some n) (let z : min line (min x y) ≡ line = omega (arith, h, q) in z)

least_stays : (line : ℕ) (ls : List ℕ) → Each (λ l. line ≤ l) ls → earlier_of (Some line) (least_of ls) ≡ Some line
unfolding least_of
least_stays line [] h = refl
least_stays line (l ∷ ls) h = stays_with line l (least_of ls) h.0 (least_stays line ls h.1)

before_all : (ws : List NetWire) (es ds : List Drive) (n : ℕ) (o : Option ℕ) (items : List Item) → NoneBefore o items → o ≡ earlier_of o (least_of (redriven ws es (drives_from ws n items)))
before_all ws es ds n None items h = absurd h
before_all ws es ds n (Some line) items h =
    sym (least_stays line (redriven ws es (drives_from ws n items)) (redriven_later ws es (drives_from ws n items) line (items_later ws n line items (each_passes (is_from line) items h))))

-- where no later item has an earlier line, the least line so far is the least of all
pub least_of_all : (ws : List NetWire) (items : List Item) (i : ℕ) (d : Drivers) → HasDriven ws (drives ws (take i items)) d → NoneBefore d.refused (drop i items)
    → d.refused ≡ least_of (redriven ws [] (drives ws items))
unfolding drives
least_of_all ws items i d h n =
    let done = drives_from ws 0 (take i items) in
    let m = 0 + length (kept_cells (take i items)) in
    let rest = drives_from ws m (drop i items) in
    let all : drives_from ws 0 items ≡ done ++ rest = ap (drives_from ws 0) (sym (take-append-drop i items)) ∙ drives-append ws 0 (take i items) (drop i items) in
    before_all ws done rest m d.refused (drop i items) n
    ∙ (ap (λ o. earlier_of o (least_of (redriven ws done rest))) h.least
    ∙ (sym (least-append (redriven ws [] done) (redriven ws done rest))
    ∙ ap least_of (sym (redriven-append ws [] done rest) ∙ ap (redriven ws []) (sym all))))

pub none_before_none : (o : Option ℕ) (items : List Item) → NoneBefore o items → o ≡ None → ⊥
none_before_none None items n e = n
none_before_none (Some l) items n e = cc

-- all items are gone over
pub all_driven : (ws : List NetWire) (items : List Item) (i : ℕ) (d : Drivers) → length items ≤ i → HasDriven ws (drives ws (take i items)) d → HasDriven ws (drives ws items) d
all_driven ws items i d h k = subst (λ v. HasDriven ws (drives ws v) d) (take_all i items h) k

pub none_yet : (ws : List NetWire) (items : List Item) (d : Drivers) → HasDriven ws [] d → HasDriven ws (drives ws (take 0 items)) d
unfolding drives
none_yet ws items d h = h

-- the drives of one item
cell_only : (ws : List NetWire) (n : ℕ) (c : Cell) (b : Bool) → b ≡ true → cond b (cell_drives ws n c ++ []) [] ≡ cell_drives ws n c
cell_only ws n c true e = append-nil (cell_drives ws n c)
cell_only ws n c false e = cc

pub cell_item : (ws : List NetWire) (n : ℕ) (x : Item) (c : Cell) → x ≡ item.Cell c → is_kept c ≡ true → cell_drives ws n c ≡ drives_from ws n (x ∷ [])
cell_item ws n x c e k = sym (ap (λ v. drives_from ws n (v ∷ [])) e ∙ cell_only ws n c (is_kept c) k)

pub connect_item : (ws : List NetWire) (n : ℕ) (x : Item) (c : Connect) → x ≡ item.Connect c → joined_bits ws c ≡ drives_from ws n (x ∷ [])
connect_item ws n x c e = sym (ap (λ v. drives_from ws n (v ∷ [])) e ∙ append-nil (joined_bits ws c))

passed_cell : (ws : List NetWire) (n : ℕ) (c : Cell) (b : Bool) → b ≡ false → cond b (cell_drives ws n c ++ []) [] ≡ []
passed_cell ws n c true e = cc
passed_cell ws n c false e = refl

pub passed_item : (ws : List NetWire) (n : ℕ) (x : Item) (c : Cell) → x ≡ item.Cell c → is_kept c ≡ false → drives_from ws n (x ∷ []) ≡ []
passed_item ws n x c e k = ap (λ v. drives_from ws n (v ∷ [])) e ∙ passed_cell ws n c (is_kept c) k

pub other_item : (ws : List NetWire) (n : ℕ) (x : Item) → ((c : Cell) → x ≡ item.Cell c → ⊥) → ((c : Connect) → x ≡ item.Connect c → ⊥) → drives_from ws n (x ∷ []) ≡ []
other_item ws n (item.Cell c) p q = absurd (p c refl)
other_item ws n (item.Connect c) p q = absurd (q c refl)
other_item ws n (item.Wire w) p q = refl
other_item ws n (item.Parameter w) p q = refl

kept_count : (c : Cell) (b v : Bool) → b ≡ v → length (cond b (c ∷ []) []) ≡ cond v 1 0
kept_count c true true e = refl
kept_count c true false e = cc
kept_count c false true e = cc
kept_count c false false e = refl

pub cell_count_of : (x : Item) (c : Cell) (v : Bool) → x ≡ item.Cell c → is_kept c ≡ v → length (kept_cells (x ∷ [])) ≡ cond v 1 0
cell_count_of x c v e k = ap (λ y. length (kept_cells (y ∷ []))) e ∙ kept_count c (is_kept c) v k

pub other_count : (x : Item) → ((c : Cell) → x ≡ item.Cell c → ⊥) → length (kept_cells (x ∷ [])) ≡ 0
other_count (item.Cell c) p = absurd (p c refl)
other_count (item.Connect c) p = refl
other_count (item.Wire w) p = refl
other_count (item.Parameter w) p = refl

-- what an item without drives comes to
pub undriven_item : (ws : List NetWire) (ds xs : List Drive) (d : Drivers) → xs ≡ [] → HasDriven ws ds d → HasDriven ws (ds ++ xs) d
undriven_item ws ds xs d e h = subst (λ v. HasDriven ws (ds ++ v) d) (sym e) (none_driven d ws ds h)

pub none_before : (o : Option ℕ) (line : ℕ) (items : List Item) (b : Bool) → o ≡ Some line → b ≡ list_all (is_from line) items → b ≡ true → NoneBefore o items
none_before o line items b e h t = subst (λ v. NoneBefore v items) (sym e) (sym h ∙ t)

-- the drives of a cell, by the connect of its output
pub output_drives : (ws : List NetWire) (n : ℕ) (c : Cell) (r : Option (Bor PortConnect)) (p : Bor PortConnect) (bits items : List SignalBit)
    → option_copied r ≡ output_connect c (kind_named c.kind) → r ≡ Some p → items ≡ bits → bits ≡ signal_bits ws p.now.signal → map (tied p.now.line n) items ≡ cell_drives ws n c
unfolding cell_drives
output_drives ws n c r p bits items e q h b =
    ap (map (tied p.now.line n)) (h ∙ b) ∙ ap (connect_drives ws n) (sym (ap option_copied q) ∙ e)

pub no_output_drives : (ws : List NetWire) (n : ℕ) (c : Cell) (r : Option (Bor PortConnect)) → option_copied r ≡ output_connect c (kind_named c.kind) → r ≡ None → cell_drives ws n c ≡ []
unfolding cell_drives
no_output_drives ws n c r e q = ap (connect_drives ws n) (sym e ∙ ap option_copied q)

pub same_drives : (ws : List NetWire) (ds xs ys : List Drive) (d : Drivers) → xs ≡ ys → HasDriven ws (ds ++ xs) d → HasDriven ws (ds ++ ys) d
same_drives ws ds xs ys d e h = subst (λ v. HasDriven ws (ds ++ v) d) e h

pub start_driven : (ws : List NetWire) (d : Drivers) → KnowsDrivers ws [] d.list.items → d.refused ≡ None → HasDriven ws [] d
unfolding least_of redriven
start_driven ws d k e = record { knows = k; least = e }

-- one item more
pub item_driven : (ws : List NetWire) (items : List Item) (i n : ℕ) (x : Item) (now new : Drivers) → i < length items → x ≡ get_or items i x → n ≡ length (kept_cells (take i items))
    → HasDriven ws (drives ws (take i items)) now → ((ds : List Drive) → HasDriven ws ds now → HasDriven ws (ds ++ drives_from ws n (x ∷ [])) new)
    → HasDriven ws (drives ws (take (i + 1) items)) new
item_driven ws items i n x now new lt e h k f =
    subst (λ v. HasDriven ws v new) (sym (next_drives ws items i n x lt e h)) (f (drives ws (take i items)) k)
