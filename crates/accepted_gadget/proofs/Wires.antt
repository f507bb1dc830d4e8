-- The wires of a gadget, by the names of spots: what is found under a name, and that bits are apart.
use Rattle.std.proofs.Common.{◌≡◌, ℕ, zero, suc, ◌+◌, ◌-◌, ◌<◌, ◌≤◌, ◌==◌, ◌&&◌, ◌||◌, ◌⊎◌, inl, inr, ⊎_elim, if◌then◌else◌, nat_lt, nat_le, Bool, true, false, List, [], ◌∷◌, ◌++◌, length, map, take, drop, Option, Some, None, codes, is_some, refl, sym, ap, subst, ◌∙◌, arith, ltb-true}
use Rattle.std.specs.List.{find, list_any}
use Rattle.std.specs.Str.{bytes_eq}
use Rattle.std.proofs.lemmas.Bool.{and_parts, and_from, or_left, or_right, cases_Bool, cond-true, cond-false, cond_both, leb-true, le-leb, lt-ltb, eqb-true, both_ways}
use Rattle.std.proofs.lemmas.Slice.Eq.{bytes_eq-Decides}
use Rattle.circuit_types.specs.Bits.{numbers}
use Rattle.circuit_types.specs.Drives.{is_input, is_input_bit}
use Rattle.circuit_types.specs.Items.{wires, numbered, wire_named}
use Rattle.circuit_types.specs.Signals.{Shape, shape, signal_bits, wire_bits, wire_width, slice_width, most_width}
use Rattle.circuit_types.specs.declared.nets.NetWire.{NetWire}
use Rattle.circuit_types.specs.declared.nets.SignalBit.TheVariants.{Net}
use Rattle.circuit_types.specs.declared.signal.Signal.{Signal}
use Rattle.circuit_types.specs.declared.signal.Signal.TheVariants as signal
use Rattle.circuit_types.specs.declared.tree.Item.{Item}
use Rattle.circuit_types.specs.declared.tree.Item.TheVariants as item
use Rattle.circuit_types.specs.declared.tree.Port.{Port}
use Rattle.circuit_types.specs.declared.tree.Wire.{Wire}
use Rattle.circuit_types.proofs.Folds.{shape_wire, shape_slice, bits_wire, bits_slice}
use Rattle.rtlil_print.specs.PrintedLines.{item_height, items_at}
use Rattle.rtlil_tree.specs.Names.{wire_names}
use Rattle.gadget_maker.specs.Gadget.{pair_count, name_of, bit_of, random_bit, named_from}
use Rattle.gadget_maker.proofs.Each.{Each}
use Rattle.gadget_maker.proofs.Fitting.{few_randoms}
use Rattle.gadget_maker.proofs.Names.{inner_tells, second_byte, third_byte}
use Rattle.accepted_gadget.proofs.Spots.{Spot, clock, at_port, inside, port_width, is_spot, is_given, spot_name, spot_place, spot_width, signal_of, has_inside}

-- ---- lists

-- it is one of the list
abbrev pub In : {X : Type 0} → X → List X → Type 0
In x [] = ⊥
In x (y ∷ ys) = (x ≡ y) ⊎ In x ys

pub in_left : {X : Type 0} (x : X) (xs ys : List X) → In x xs → In x (xs ++ ys)
in_left x [] ys h = absurd h
in_left x (y ∷ xs) ys (inl e) = inl e
in_left x (y ∷ xs) ys (inr h) = inr (in_left x xs ys h)

pub in_right : {X : Type 0} (x : X) (xs ys : List X) → In x ys → In x (xs ++ ys)
in_right x [] ys h = h
in_right x (y ∷ xs) ys h = inr (in_right x xs ys h)

pub each_in : {X : Type 0} (P : X → Type 0) (x : X) (xs : List X) → Each P xs → In x xs → P x
each_in P x [] e h = absurd h
each_in P x (y ∷ xs) e (inl h) = subst P (sym h) e.0
each_in P x (y ∷ xs) e (inr h) = each_in P x xs e.1 h

any_in : {X : Type 0} (p : X → Bool) (x : X) (xs : List X) → In x xs → p x ≡ true → list_any p xs ≡ true
any_in p x [] h t = absurd h
any_in p x (y ∷ xs) (inl h) t = or_left (p y) (list_any p xs) (subst (λ v. p v ≡ true) h t)
any_in p x (y ∷ xs) (inr h) t = or_right (p y) (list_any p xs) (any_in p x xs h t)

not_true : (b : Bool) → (b ≡ true → ⊥) → b ≡ false
not_true true h = absurd (h refl)
not_true false h = refl

none_in : {X : Type 0} (p : X → Bool) (xs : List X) → ((x : X) → In x xs → p x ≡ true → ⊥) → list_any p xs ≡ false
none_in p [] h = refl
none_in p (x ∷ xs) h =
    ap (λ b. b || list_any p xs) (not_true (p x) (h x (inl refl))) ∙ none_in p xs (λ y i. h y (inr i))

-- ---- wires that are numbered

-- the wire that has a name
pub record Found (ws : List NetWire) (name : List ℕ) : Type 0 where
  pub found : NetWire
  pub is : wire_named ws name ≡ Some found
  pub named : found.name ≡ name
  pub within : In found ws

head_found : (w : NetWire) (ws : List NetWire) (name : List ℕ) → bytes_eq w.name name ≡ true → Found (w ∷ ws) name
unfolding wire_named
head_found w ws name h = record {
  found = w;
  is = cond-true (bytes_eq w.name name) (Some w) (find (λ v. bytes_eq v.name name) ws) h;
  named = (bytes_eq-Decides w.name name).0 h;
  within = inl refl;
}

tail_found : (w : NetWire) (ws : List NetWire) (name : List ℕ) → bytes_eq w.name name ≡ false → Found ws name → Found (w ∷ ws) name
unfolding wire_named
tail_found w ws name h f = record {
  found = f.found;
  is = cond-false (bytes_eq w.name name) (Some w) (find (λ v. bytes_eq v.name name) ws) h ∙ f.is;
  named = f.named;
  within = inr f.within;
}

pub found_wire : (first : ℕ) (xs : List Item) (name : List ℕ) → In name (wire_names xs) → Found (numbered first (wires xs)) name
found_wire first [] name h = absurd h
found_wire first (item.Wire w ∷ xs) name h =
    let v : NetWire = record { line = w.line; name = w.name; first = first; width = w.width; port = w.port } in
    let rest = numbered (first + w.width) (wires xs) in
    ⊎_elim
    (λ t. head_found v rest name t)
    (λ f. tail_found v rest name f
    (found_wire (first + w.width) xs name
    (⊎_elim (λ e. absurd (both_ways (bytes_eq w.name name) f ((bytes_eq-Decides w.name name).1 (sym e)))) (λ i. i) h)))
    (cases_Bool (bytes_eq w.name name))
found_wire first (item.Cell c ∷ xs) name h = found_wire first xs name h
found_wire first (item.Parameter p ∷ xs) name h = found_wire first xs name h
found_wire first (item.Connect c ∷ xs) name h = found_wire first xs name h

pub record HasBit (w : NetWire) (k : ℕ) : Type 0 where
  pub low : w.first ≤ k
  pub high : k < w.first + w.width

from_first : (first : ℕ) (xs : List Wire) (w : NetWire) → In w (numbered first xs) → first ≤ w.first
from_first first [] w h = absurd h
from_first first (x ∷ xs) w (inl e) = subst (λ (v : NetWire). first ≤ v.first) (sym e) (omega arith)
from_first first (x ∷ xs) w (inr h) = omega (arith, from_first (first + x.width) xs w h)

-- a bit is of one wire
pub one_wire : (first : ℕ) (xs : List Wire) (w v : NetWire) (k : ℕ) → In w (numbered first xs) → In v (numbered first xs) → HasBit w k → HasBit v k → w ≡ v
one_wire first [] w v k h i a b = absurd h
one_wire first (x ∷ xs) w v k (inl e) (inl f) a b = e ∙ sym f
one_wire first (x ∷ xs) w v k (inl e) (inr f) a b =
    let high = (subst (λ u. HasBit u k) e a).high in
    let low = from_first (first + x.width) xs v f in
    absurd (omega (arith, high, low, b.low))
one_wire first (x ∷ xs) w v k (inr e) (inl f) a b =
    let high = (subst (λ u. HasBit u k) f b).high in
    let low = from_first (first + x.width) xs w e in
    absurd (omega (arith, high, low, a.low))
one_wire first (x ∷ xs) w v k (inr e) (inr f) a b = one_wire (first + x.width) xs w v k e f a b

-- ---- wires of spots

-- Where the name is a spot's, the width and the direction are the spot's. No wire is wide.
abbrev pub Fits : ℕ → List ℕ → ℕ → Port → Type 0
Fits d name width port = (s : Spot) → is_spot d s ≡ true → name ≡ spot_name s → (width ≡ spot_width d s) × (is_input port ≡ is_given s)

abbrev pub FitsItem : ℕ → Item → Type 0
FitsItem d (item.Wire w) = (w.width ≤ 128) × Fits d w.name w.width w.port
FitsItem d other = Unit {0}

abbrev pub FitsWire : ℕ → NetWire → Type 0
FitsWire d w = Fits d w.name w.width w.port

pub fits_placed : (d l n : ℕ) (xs : List Item) → Each (FitsItem d) xs → Each (FitsItem d) (items_at l (named_from n xs))
fits_placed d l n [] h = tt
fits_placed d l n (item.Wire w ∷ xs) h = (h.0, fits_placed d (l + item_height (item.Wire w)) n xs h.1)
fits_placed d l n (item.Cell c ∷ xs) h = (tt, fits_placed d _ (n + 1) xs h.1)
fits_placed d l n (item.Parameter p ∷ xs) h = (tt, fits_placed d (l + 1) n xs h.1)
fits_placed d l n (item.Connect c ∷ xs) h = (tt, fits_placed d (l + 1) n xs h.1)

pub fits_numbered : (d first : ℕ) (xs : List Item) → Each (FitsItem d) xs → Each (FitsWire d) (numbered first (wires xs))
fits_numbered d first [] h = tt
fits_numbered d first (item.Wire w ∷ xs) h = (h.0.1, fits_numbered d (first + w.width) xs h.1)
fits_numbered d first (item.Cell c ∷ xs) h = fits_numbered d first xs h.1
fits_numbered d first (item.Parameter p ∷ xs) h = fits_numbered d first xs h.1
fits_numbered d first (item.Connect c ∷ xs) h = fits_numbered d first xs h.1

pub names_placed : (l n : ℕ) (xs : List Item) → wire_names (items_at l (named_from n xs)) ≡ wire_names xs
names_placed l n [] = refl
names_placed l n (item.Wire w ∷ xs) = ap (λ v. w.name ∷ v) (names_placed (l + item_height (item.Wire w)) n xs)
names_placed l n (item.Cell c ∷ xs) = names_placed _ (n + 1) xs
names_placed l n (item.Parameter p ∷ xs) = names_placed (l + 1) n xs
names_placed l n (item.Connect c ∷ xs) = names_placed (l + 1) n xs

-- ---- the bit of a spot

abbrev pub first_of : Option NetWire → ℕ
first_of None = 0
first_of (Some w) = w.first

abbrev pub bit : List NetWire → Spot → ℕ
bit ws s = first_of (wire_named ws (spot_name s)) + spot_place s

-- wires on which each spot has its bit
pub record AreSpotWires (d : ℕ) (ws : List NetWire) : Type 0 where
  pub found : (s : Spot) → is_spot d s ≡ true → Found ws (spot_name s)
  pub fits : Each (FitsWire d) ws
  pub one : (w v : NetWire) (k : ℕ) → In w ws → In v ws → HasBit w k → HasBit v k → w ≡ v

-- the names and places of two spots tell them apart
pub record IsNumbered (d i j : ℕ) : Type 0 where
  pub first : i < d
  pub second : j < d

inside_within : (d letter i j : ℕ) → is_spot d (inside letter i j) ≡ true → IsNumbered d i j
inside_within d letter i j h =
    let a = and_parts (nat_lt i d) (nat_lt j d && has_inside d letter i j) h in
    let b = and_parts (nat_lt j d) (has_inside d letter i j) a.1 in
    record { first = ltb-true i d a.0; second = ltb-true j d b.0 }

same_letter : (l m p q : ℕ) → l ≡ m → p ≡ q → at_port l p ≡ at_port m q
same_letter l m p q e f = ap (λ v. at_port v p) e ∙ ap (at_port m) f

same_inside : (l m i j u v : ℕ) → l ≡ m → i ≡ u → j ≡ v → inside l i j ≡ inside m u v
same_inside l m i j u v e f g = ap (λ x. inside x i j) e ∙ (ap (λ x. inside m x j) f ∙ ap (inside m u) g)

same_spot : (d : ℕ) → d ≤ 16 → (s t : Spot) → is_spot d s ≡ true → is_spot d t ≡ true → spot_name s ≡ spot_name t → spot_place s ≡ spot_place t → s ≡ t
same_spot d few clock clock hs ht e f = refl
same_spot d few clock (at_port l p) hs ht e f = let wrong : 4 ≡ 2 = ap length e in absurd (omega (arith, wrong))
same_spot d few clock (inside l i j) hs ht e f = let wrong : 108 ≡ 95 = ap third_byte e in absurd (omega (arith, wrong))
same_spot d few (at_port l p) clock hs ht e f = let wrong : 2 ≡ 4 = ap length e in absurd (omega (arith, wrong))
same_spot d few (at_port l p) (at_port m q) hs ht e f = same_letter l m p q (ap second_byte e) f
same_spot d few (at_port l p) (inside m i j) hs ht e f = let wrong : 0 ≡ 95 = ap third_byte e in absurd (omega (arith, wrong))
same_spot d few (inside l i j) clock hs ht e f = let wrong : 95 ≡ 108 = ap third_byte e in absurd (omega (arith, wrong))
same_spot d few (inside l i j) (at_port m q) hs ht e f = let wrong : 95 ≡ 0 = ap third_byte e in absurd (omega (arith, wrong))
same_spot d few (inside l i j) (inside m u v) hs ht e f =
    let letter : l ≡ m = ap second_byte e in
    let a = inside_within d l i j hs in
    let b = inside_within d m u v ht in
    let parts = inner_tells m i j u v (omega (arith, a.first)) (omega (arith, a.second)) (omega (arith, b.first)) (omega (arith, b.second))
    (subst (λ x. name_of x i j ≡ name_of m u v) letter e) in
    same_inside l m i j u v letter parts.0 parts.1

place_within : (d : ℕ) (s : Spot) → is_spot d s ≡ true → spot_place s < spot_width d s
place_within d clock h = omega arith
place_within d (at_port l p) h = ltb-true p (port_width d l) h
place_within d (inside l i j) h = omega arith

few_wide : (d : ℕ) → d ≤ 16 → (s : Spot) → spot_width d s ≤ 128
few_wide d few clock = omega arith
few_wide d few (inside l i j) = omega arith
few_wide d few (at_port l p) =
    cond_both (l == 114) (pair_count d) (if l == 97 || (l == 98 || l == 99) then d else 0) (λ v. v ≤ 128) (λ e. few_randoms d few)
    (λ e. cond_both (l == 97 || (l == 98 || l == 99)) d 0 (λ v. v ≤ 128) (λ f. omega arith) (λ f. omega arith))

-- ---- bits and shapes

one_place : (k n first : ℕ) → k < n → take 1 (drop k (map (λ v. Net v) (numbers first n))) ≡ Net (first + k) ∷ []
one_place k zero first h = absurd (omega (arith, h))
one_place zero (suc n) first h = let e : first ≡ first + 0 = omega arith in ap (λ v. Net v ∷ []) e
one_place (suc k) (suc n) first h =
    let e : first + 1 + k ≡ first + suc k = omega arith in
    one_place k n (first + 1) (omega (arith, h)) ∙ ap (λ v. Net v ∷ []) e

one_wide : (k : ℕ) → slice_width k k ≡ 1
one_wide k = cond-false (nat_lt k k) 0 (k - k + 1) (not_true (nat_lt k k) (λ e. absurd (omega (arith, ltb-true k k e)))) ∙ (let e : k - k + 1 ≡ 1 = omega arith in e)

abbrev pub good : Shape
good = record { width = 1; narrow = true; named = true; sliced = true }

module _ (ws : List NetWire) (name : List ℕ) (w : NetWire) (is : wire_named ws name ≡ Some w) where
  whole_bits : w.width ≡ 1 → signal_bits ws (signal.Wire name) ≡ Net (w.first + 0) ∷ []
  whole_bits one =
      let e : w.first ≡ w.first + 0 = omega arith in
      bits_wire ws name ∙ (ap wire_bits is ∙ (ap (λ n. map (λ v. Net v) (numbers w.first n)) one ∙ ap (λ v. Net v ∷ []) e))

  abbrev wire_shape : Option NetWire → Shape
  wire_shape o = record { width = wire_width o; narrow = nat_le (wire_width o) most_width; named = is_some o; sliced = true }

  shape_found : shape ws (signal.Wire name) ≡ record { width = w.width; narrow = nat_le w.width most_width; named = true; sliced = true }
  shape_found = shape_wire ws name ∙ ap wire_shape is

  whole_good : w.width ≡ 1 → shape ws (signal.Wire name) ≡ good
  whole_good one = shape_found ∙ ap (λ n. record { width = n; narrow = nat_le n most_width; named = true; sliced = true }) one

  slice_bits : (k : ℕ) → k < w.width → signal_bits ws (bit_of name k) ≡ Net (w.first + k) ∷ []
  slice_bits k low =
      bits_slice ws (signal.Wire name) k k
      ∙ (ap (λ bs. take (slice_width k k) (drop k bs)) (bits_wire ws name ∙ ap wire_bits is)
      ∙ (ap (λ n. take n (drop k (map (λ v. Net v) (numbers w.first w.width)))) (one_wide k) ∙ one_place k w.width w.first low))

  abbrev slice_shape : ℕ → Shape → Shape
  slice_shape k of = record {
    width = slice_width k k;
    narrow = of.narrow && nat_le (slice_width k k) most_width;
    named = of.named;
    sliced = of.sliced && (nat_lt k of.width && nat_le k k);
  }

  slice_good : (k : ℕ) → k < w.width → w.width ≤ 128 → shape ws (bit_of name k) ≡ good
  slice_good k low narrow =
      shape_slice ws (signal.Wire name) k k
      ∙ (ap (slice_shape k) shape_found
      ∙ (ap (λ n. record { width = n; narrow = nat_le w.width most_width && nat_le n most_width; named = true; sliced = nat_lt k w.width && nat_le k k }) (one_wide k)
      ∙ (ap (λ b. record { width = 1; narrow = b && true; named = true; sliced = nat_lt k w.width && nat_le k k }) (le-leb w.width most_width (omega arith))
      ∙ (ap (λ b. record { width = 1; narrow = true; named = true; sliced = b && nat_le k k }) (lt-ltb k w.width low)
      ∙ ap (λ b. record { width = 1; narrow = true; named = true; sliced = b }) (le-leb k k (omega arith))))))

-- a signal that is one bit
pub record IsBit (ws : List NetWire) (x : Signal) (k : ℕ) : Type 0 where
  pub bits : signal_bits ws x ≡ Net k ∷ []
  pub fits : shape ws x ≡ good

module _ (d : ℕ) (few : d ≤ 16) (ws : List NetWire) (are : AreSpotWires d ws) where
  fit : (s : Spot) (is : is_spot d s ≡ true) → ((are.found s is).found.width ≡ spot_width d s) × (is_input (are.found s is).found.port ≡ is_given s)
  fit s is = let f = are.found s is in each_in (FitsWire d) f.found ws are.fits f.within s is f.named

  bit_is : (s : Spot) (is : is_spot d s ≡ true) → bit ws s ≡ (are.found s is).found.first + spot_place s
  bit_is s is = ap (λ o. first_of o + spot_place s) (are.found s is).is

  has_its_bit : (s : Spot) (is : is_spot d s ≡ true) → HasBit (are.found s is).found (bit ws s)
  has_its_bit s is =
      let e = bit_is s is in
      let w = (fit s is).0 in
      let p = place_within d s is in
      record { low = omega (arith, e); high = omega (arith, e, w, p) }

  -- two spots have two bits
  pub apart : (s t : Spot) → is_spot d s ≡ true → is_spot d t ≡ true → bit ws s ≡ bit ws t → s ≡ t
  apart s t hs ht e =
      let f = are.found s hs in
      let g = are.found t ht in
      let same : f.found ≡ g.found = are.one f.found g.found (bit ws s) f.within g.within (has_its_bit s hs) (subst (HasBit g.found) (sym e) (has_its_bit t ht)) in
      let name : spot_name s ≡ spot_name t = sym f.named ∙ (ap (λ (w : NetWire). w.name) same ∙ g.named) in
      let first : f.found.first ≡ g.found.first = ap (λ (w : NetWire). w.first) same in
      same_spot d few s t hs ht name (omega (arith, e, bit_is s hs, bit_is t ht, first))

  in_range : (w : NetWire) (k : ℕ) → is_input w.port ≡ true → HasBit w k → (is_input w.port && (nat_le w.first k && nat_lt k (w.first + w.width))) ≡ true
  in_range w k i h =
      and_from (is_input w.port) (nat_le w.first k && nat_lt k (w.first + w.width)) i
      (and_from (nat_le w.first k) (nat_lt k (w.first + w.width)) (le-leb w.first k h.low) (lt-ltb k (w.first + w.width) h.high))

  never_in_range : (s : Spot) (is : is_spot d s ≡ true) → is_given s ≡ false → (w : NetWire) → In w ws
      → (is_input w.port && (nat_le w.first (bit ws s) && nat_lt (bit ws s) (w.first + w.width))) ≡ true → ⊥
  never_in_range s is inner w within h =
      let f = are.found s is in
      let k = bit ws s in
      let a = and_parts (is_input w.port) (nat_le w.first k && nat_lt k (w.first + w.width)) h in
      let b = and_parts (nat_le w.first k) (nat_lt k (w.first + w.width)) a.1 in
      let same : w ≡ f.found = are.one w f.found k within f.within (record { low = leb-true w.first k b.0; high = ltb-true k (w.first + w.width) b.1 }) (has_its_bit s is) in
      both_ways (is_given s) inner (sym (fit s is).1 ∙ subst (λ (v : NetWire). is_input v.port ≡ true) same a.0)

  -- it is an input's bit where the spot is an input's
  pub given_bit : (s : Spot) → is_spot d s ≡ true → is_input_bit ws (bit ws s) ≡ is_given s
  unfolding is_input_bit
  given_bit s is =
      let f = are.found s is in
      let k = bit ws s in
      ⊎_elim
      (λ yes. any_in (λ (w : NetWire). is_input w.port && (nat_le w.first k && nat_lt k (w.first + w.width))) f.found ws f.within
      (in_range f.found k ((fit s is).1 ∙ yes) (has_its_bit s is)) ∙ sym yes)
      (λ inner. none_in (λ (w : NetWire). is_input w.port && (nat_le w.first k && nat_lt k (w.first + w.width))) ws (never_in_range s is inner) ∙ sym inner)
      (cases_Bool (is_given s))

  whole_bit : (name : List ℕ) (s : Spot) (is : is_spot d s ≡ true) → spot_name s ≡ name → spot_place s ≡ 0 → spot_width d s ≡ 1
      → IsBit ws (signal.Wire name) (bit ws s)
  whole_bit name s is e start one =
      let f = are.found s is in
      let named : wire_named ws name ≡ Some f.found = subst (λ v. wire_named ws v ≡ Some f.found) e f.is in
      let width = (fit s is).0 ∙ one in
      let at : f.found.first + 0 ≡ bit ws s = omega (arith, bit_is s is, start) in
      record { bits = whole_bits ws name f.found named width ∙ ap (λ v. Net v ∷ []) at; fits = whole_good ws name f.found named width }

  slice_bit : (name : List ℕ) (s : Spot) (is : is_spot d s ≡ true) → spot_name s ≡ name → IsBit ws (bit_of name (spot_place s)) (bit ws s)
  slice_bit name s is e =
      let f = are.found s is in
      let named : wire_named ws name ≡ Some f.found = subst (λ v. wire_named ws v ≡ Some f.found) e f.is in
      let width = (fit s is).0 in
      let low : spot_place s < f.found.width = omega (arith, width, place_within d s is) in
      let narrow : f.found.width ≤ 128 = omega (arith, width, few_wide d few s) in
      record {
        bits = slice_bits ws name f.found named (spot_place s) low ∙ ap (λ v. Net v ∷ []) (sym (bit_is s is));
        fits = slice_good ws name f.found named (spot_place s) low narrow;
      }

  random_signal : (l p : ℕ) → is_spot d (at_port l p) ≡ true → l ≡ 114 → IsBit ws (random_bit d p) (bit ws (at_port l p))
  random_signal l p is e =
      let name : spot_name (at_port l p) ≡ codes "\\r" = ap (λ v. 92 ∷ v ∷ []) e in
      let width : port_width d l ≡ pair_count d = ap (port_width d) e in
      let low = place_within d (at_port l p) is in
      cond_both (pair_count d == 1) (signal.Wire (codes "\\r")) (bit_of (codes "\\r") p) (λ x. IsBit ws x (bit ws (at_port l p)))
      (λ one. let w : pair_count d ≡ 1 = eqb-true (pair_count d) 1 one in
      whole_bit (codes "\\r") (at_port l p) is name (omega (arith, low, width, w)) (width ∙ w))
      (λ more. slice_bit (codes "\\r") (at_port l p) is name)

  -- the signal of a spot is its bit
  pub spot_bit : (s : Spot) → is_spot d s ≡ true → IsBit ws (signal_of d s) (bit ws s)
  spot_bit clock is = whole_bit (codes "\\clk") clock is refl refl refl
  spot_bit (inside l i j) is = whole_bit (name_of l i j) (inside l i j) is refl refl refl
  spot_bit (at_port l p) is =
      cond_both (l == 114) (random_bit d p) (bit_of (92 ∷ l ∷ []) p) (λ x. IsBit ws x (bit ws (at_port l p)))
      (λ e. random_signal l p is (eqb-true l 114 e)) (λ e. slice_bit (92 ∷ l ∷ []) (at_port l p) is refl)
