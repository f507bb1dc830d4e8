-- The roles fit the nets: each bit is one of the netlist's, and no input bit has two roles.
use Rattle.std.proofs.Common.{◌≡◌, ◌≢◌, ℕ, zero, suc, ◌+◌, ◌<◌, ◌≤◌, ◌⊎◌, inl, inr, Bool, true, false, cond, eqb, List, [], ◌∷◌, ◌++◌, length, map, Option, Some, None, refl, sym, ◌∙◌, arith, ⊎_elim}
use Rattle.std.specs.Prelude.{filter, sum_by}
use Rattle.std.specs.List.{flat_map, filter_map, cons_option, range_with_len, AllByRecursion, AllPairs}
use Rattle.std.specs.Option.{option_map_or}
use Rattle.std.proofs.lemmas.Bool.{cases_Bool, eqb-true}
use Rattle.std.proofs.lemmas.List.Elements.{All-from_recursion}
use Rattle.std.proofs.lemmas.List.Kept.{AllPairs-cons}
use Rattle.std.proofs.lemmas.List.Sums.{sum_by-cons}
use Rattle.circuit_types.specs.InputBits.{FitsNets}
use Rattle.circuit_types.specs.Items.{wires}
use Rattle.circuit_types.specs.Nets.{AreNets}
use Rattle.circuit_types.specs.declared.nets.Nets.{Nets}
use Rattle.circuit_types.specs.declared.roles.InputRole.{InputRole}
use Rattle.circuit_types.specs.declared.roles.OutputShare.{OutputShare}
use Rattle.circuit_types.specs.declared.roles.Secret.{Secret}
use Rattle.circuit_types.specs.declared.tree.Item.{Item}
use Rattle.circuit_types.specs.declared.tree.Wire.{Wire}
use Rattle.share_notes.specs.declared.direction.Direction.{Direction}
use Rattle.share_notes.specs.declared.direction.Direction.TheVariants.{Input, Output}
use Rattle.share_notes.specs.declared.mark.Mark.{Mark}
use Rattle.share_notes.specs.declared.mark.Mark.TheVariants.{Absent, Wrong, Noted}
use Rattle.share_notes.specs.declared.mark.MarkedWire.{MarkedWire}
use Rattle.share_notes.specs.Marks.{marked_from, marked_wires}
use Rattle.share_notes.specs.PortOrder.{port_number, numbers_end, numbered_wires, in_port_order}
use Rattle.share_notes.specs.Roles.{role_at, noted_roles, wire_roles, input_roles, output_share, roles_of}
use Rattle.share_notes.specs.Shares.{Given, GivenBit, given_at, given_bit, wire_shares, given_by, given, has_direction, secrets, numbered_share, numbered_shares}
use Rattle.share_notes.proofs.FewShares.{numbered_sum}
use Rattle.share_notes.proofs.PortOrders.{number}

-- ---- facts of each element, and of each two

module _ {X : Type 0} where
  rec_map : (P Q : X → Type 0) → ((x : X) → P x → Q x) → (xs : List X) → AllByRecursion P xs → AllByRecursion Q xs
  rec_map P Q f [] h = tt
  rec_map P Q f (x ∷ xs) h = (f x h.0, rec_map P Q f xs h.1)

  rec_both : (P Q R : X → Type 0) → ((x : X) → P x → Q x → R x) → (xs : List X) → AllByRecursion P xs → AllByRecursion Q xs → AllByRecursion R xs
  rec_both P Q R f [] h k = tt
  rec_both P Q R f (x ∷ xs) h k = (f x h.0 k.0, rec_both P Q R f xs h.1 k.1)

  rec_append : (P : X → Type 0) (xs ys : List X) → AllByRecursion P xs → AllByRecursion P ys → AllByRecursion P (xs ++ ys)
  rec_append P [] ys h k = k
  rec_append P (x ∷ xs) ys h k = (h.0, rec_append P xs ys h.1 k)

  rec_flat : {Y : Type 0} (P : X → Type 0) (Q : Y → Type 0) (f : Y → List X) → ((y : Y) → Q y → AllByRecursion P (f y)) → (ys : List Y) → AllByRecursion Q ys → AllByRecursion P (flat_map f ys)
  rec_flat P Q f h [] k = tt
  rec_flat P Q f h (y ∷ ys) k = rec_append P (f y) (flat_map f ys) (h y k.0) (rec_flat P Q f h ys k.1)

  rec_range : (P : X → Type 0) (f : ℕ → List X) (n a : ℕ) → ((k : ℕ) → a ≤ k → AllByRecursion P (f k)) → AllByRecursion P (flat_map f (range_with_len a n))
  rec_range P f zero a h = tt
  rec_range P f (suc n) a h = rec_append P (f a) (flat_map f (range_with_len (a + 1) n)) (h a (omega arith)) (rec_range P f n (a + 1) (λ k le. h k (omega arith)))

  rec_places : (P : X → Type 0) (f : ℕ → X) (n a : ℕ) → ((k : ℕ) → a ≤ k → k < a + n → P (f k)) → AllByRecursion P (map f (range_with_len a n))
  rec_places P f zero a h = tt
  rec_places P f (suc n) a h = (h a (omega arith) (omega arith), rec_places P f n (a + 1) (λ k le lt. h k (omega arith) (omega arith)))

  abbrev Pairs : (X → X → Type 0) → List X → Type 0
  Pairs R [] = Unit {0}
  Pairs R (x ∷ xs) = AllByRecursion (R x) xs × Pairs R xs

  pairs_append : (R : X → X → Type 0) (xs ys : List X) → Pairs R xs → Pairs R ys → AllByRecursion (λ x. AllByRecursion (R x) ys) xs → Pairs R (xs ++ ys)
  pairs_append R [] ys h k c = k
  pairs_append R (x ∷ xs) ys h k c = (rec_append (R x) xs ys h.0 c.0, pairs_append R xs ys h.1 k c.1)

  pairs_places : (R : X → X → Type 0) (f : ℕ → X) → ((j k : ℕ) → j < k → R (f j) (f k)) → (n a : ℕ) → Pairs R (map f (range_with_len a n))
  pairs_places R f h zero a = tt
  pairs_places R f h (suc n) a = (rec_places (R (f a)) f n (a + 1) (λ k le lt. h a k (omega arith)), pairs_places R f h n (a + 1))

  pairs_are : (R : X → X → Type 0) (xs : List X) → Pairs R xs → AllPairs R xs
  pairs_are R [] h = λ i j d lt le. absurd (omega arith)
  pairs_are R (x ∷ xs) h = AllPairs-cons R x xs (All-from_recursion (R x) xs h.0) (pairs_are R xs h.1)

-- ---- wires that have no bit in common

abbrev Apart : MarkedWire → MarkedWire → Type 0
Apart w v = (w.first + w.width ≤ v.first) ⊎ (v.first + v.width ≤ w.first)

swap : (w v : MarkedWire) → Apart w v → Apart v w
swap w v (inl h) = inr h
swap w v (inr h) = inl h

from_above : (lo k : ℕ) (vs : List Wire) → lo ≤ k → AllByRecursion (λ (m : MarkedWire). lo ≤ m.first) (marked_from k vs)
from_above lo k [] le = tt
from_above lo k (v ∷ vs) le = (le, from_above lo (k + v.width) vs (omega arith))

all_apart : (k : ℕ) (vs : List Wire) → Pairs Apart (marked_from k vs)
all_apart k [] = tt
all_apart k (v ∷ vs) = (
  rec_map (λ (m : MarkedWire). k + v.width ≤ m.first) _ (λ m le. inl le) (marked_from (k + v.width) vs) (from_above (k + v.width) (k + v.width) vs (omega arith)),
  all_apart (k + v.width) vs,
)

abbrev Within : ℕ → MarkedWire → Type 0
Within n w = w.first + w.width ≤ n

all_within : (n k : ℕ) (vs : List Wire) → k + sum_by (λ (v : Wire). v.width) vs ≤ n → AllByRecursion (Within n) (marked_from k vs)
all_within n k [] le = tt
all_within n k (v ∷ vs) le = let sum = sum_by-cons (λ (u : Wire). u.width) v vs in (omega arith, all_within n (k + v.width) vs (omega arith))

-- the same in port order
abbrev Good : List MarkedWire → MarkedWire → Type 0
Good ws x = AllByRecursion (λ (y : MarkedWire). (number y ≡ number x) ⊎ Apart x y) ws

all_good : (ws : List MarkedWire) → Pairs Apart ws → AllByRecursion (Good ws) ws
all_good [] h = tt
all_good (w ∷ ws) h = (
  (inl refl, rec_map (Apart w) (λ (y : MarkedWire). (number y ≡ number w) ⊎ Apart w y) (λ y a. inr a) ws h.0),
  rec_both (Apart w) (Good ws) (Good (w ∷ ws)) (λ x a g. (inr (swap w x a), g)) ws h.0 (all_good ws h.1),
)

good_group : (x : MarkedWire) (n : ℕ) (vs : List MarkedWire) → (number x ≡ n → ⊥) → Good vs x → AllByRecursion (Apart x) (numbered_wires vs n)
good_group x n [] ne h = tt
good_group x n (v ∷ vs) ne h =
    ⊎_elim
    (λ (t : eqb (number v) n ≡ true).
    let e = eqb-true (number v) n t in
    rw t (⊎_elim (λ same. absurd (ne (sym same ∙ e))) (λ a. a) h.0, good_group x n vs ne h.1))
    (λ (f : eqb (number v) n ≡ false). rw f (good_group x n vs ne h.1))
    (cases_Bool (eqb (number v) n))

good_later : (ws : List MarkedWire) (m lo : ℕ) (vs : List MarkedWire) → AllByRecursion (Good ws) vs
    → AllByRecursion (λ x. AllByRecursion (Apart x) (flat_map (numbered_wires ws) (range_with_len (lo + 1) m))) (numbered_wires vs lo)
good_later ws m lo [] h = tt
good_later ws m lo (v ∷ vs) h =
    ⊎_elim
    (λ (t : eqb (number v) lo ≡ true).
    let e = eqb-true (number v) lo t in
    rw t (rec_range (Apart v) (numbered_wires ws) m (lo + 1) (λ n le. good_group v n ws (λ same. omega (arith, e, same, le)) h.0), good_later ws m lo vs h.1))
    (λ (f : eqb (number v) lo ≡ false). rw f (good_later ws m lo vs h.1))
    (cases_Bool (eqb (number v) lo))

rec_filter : (P : MarkedWire → Type 0) (p : MarkedWire → Bool) (vs : List MarkedWire) → AllByRecursion P vs → AllByRecursion P (filter p vs)
rec_filter P p [] h = tt
rec_filter P p (v ∷ vs) h = ⊎_elim (λ (t : p v ≡ true). rw t (h.0, rec_filter P p vs h.1)) (λ (f : p v ≡ false). rw f (rec_filter P p vs h.1)) (cases_Bool (p v))

pairs_filter : (p : MarkedWire → Bool) (vs : List MarkedWire) → Pairs Apart vs → Pairs Apart (filter p vs)
pairs_filter p [] h = tt
pairs_filter p (v ∷ vs) h =
    ⊎_elim (λ (t : p v ≡ true). rw t (rec_filter (Apart v) p vs h.0, pairs_filter p vs h.1)) (λ (f : p v ≡ false). rw f (pairs_filter p vs h.1)) (cases_Bool (p v))

groups_apart : (ws : List MarkedWire) → Pairs Apart ws → (m lo : ℕ) → Pairs Apart (flat_map (numbered_wires ws) (range_with_len lo m))
groups_apart ws h zero lo = tt
groups_apart ws h (suc m) lo =
    pairs_append Apart (numbered_wires ws lo) (flat_map (numbered_wires ws) (range_with_len (lo + 1) m)) (pairs_filter (λ (w : MarkedWire). eqb (port_number w.port) lo) ws h) (groups_apart ws h m (lo + 1))
    (good_later ws m lo ws (all_good ws h))

ordered_apart : (ws : List MarkedWire) → Pairs Apart ws → Pairs Apart (in_port_order ws)
unfolding in_port_order
ordered_apart ws h = groups_apart ws h (numbers_end ws) 0

ordered_within : (n : ℕ) (ws : List MarkedWire) → AllByRecursion (Within n) ws → AllByRecursion (Within n) (in_port_order ws)
unfolding in_port_order
ordered_within n ws h = rec_range (Within n) (numbered_wires ws) (numbers_end ws) 0 (λ k le. rec_filter (Within n) (λ (w : MarkedWire). eqb (port_number w.port) k) ws h)

-- ---- the roles of wires

abbrev Spans : MarkedWire → ℕ → Type 0
Spans w b = (w.first ≤ b) × (b < w.first + w.width)

spanned_noted : (ss : List Secret) (w : MarkedWire) (m : Mark) → AllByRecursion (λ (i : InputRole). Spans w i.bit) (noted_roles ss w m)
spanned_noted ss w (Noted n) = rec_places (λ (i : InputRole). Spans w i.bit) (λ place. record { bit = w.first + place; role = role_at ss n place }) w.width 0 (λ k le lt. (omega arith, omega arith))
spanned_noted ss w Absent = tt
spanned_noted ss w Wrong = tt

spanned : (ss : List Secret) (w : MarkedWire) → AllByRecursion (λ (i : InputRole). Spans w i.bit) (wire_roles ss w)
spanned ss w = go (has_direction Input w.port)
  where
    go : (b : Bool) → AllByRecursion (λ (i : InputRole). Spans w i.bit) (cond b (noted_roles ss w w.mark) [])
    go true = spanned_noted ss w w.mark
    go false = tt

abbrev Differ : InputRole → InputRole → Type 0
Differ i j = i.bit ≢ j.bit

once_noted : (ss : List Secret) (w : MarkedWire) (m : Mark) → Pairs Differ (noted_roles ss w m)
once_noted ss w (Noted n) = pairs_places Differ (λ place. record { bit = w.first + place; role = role_at ss n place }) (λ j k lt e. omega arith) w.width 0
once_noted ss w Absent = tt
once_noted ss w Wrong = tt

once : (ss : List Secret) (w : MarkedWire) → Pairs Differ (wire_roles ss w)
once ss w = go (has_direction Input w.port)
  where
    go : (b : Bool) → Pairs Differ (cond b (noted_roles ss w w.mark) [])
    go true = once_noted ss w w.mark
    go false = tt

differ : (w v : MarkedWire) (b c : ℕ) → Apart w v → Spans w b → Spans v c → b ≡ c → ⊥
differ w v b c (inl h) s t e = omega (arith, h, s.0, s.1, t.0, t.1, e)
differ w v b c (inr h) s t e = omega (arith, h, s.0, s.1, t.0, t.1, e)

roles_once : (ss : List Secret) (ws : List MarkedWire) → Pairs Apart ws → Pairs Differ (input_roles ss ws)
roles_once ss [] h = tt
roles_once ss (w ∷ ws) h =
    let later : AllByRecursion (λ (j : InputRole). (b : ℕ) → Spans w b → b ≡ j.bit → ⊥) (input_roles ss ws) =
    rec_flat (λ (j : InputRole). (b : ℕ) → Spans w b → b ≡ j.bit → ⊥) (Apart w) (wire_roles ss)
    (λ v a. rec_map (λ (j : InputRole). Spans v j.bit) (λ (j : InputRole). (b : ℕ) → Spans w b → b ≡ j.bit → ⊥) (λ j t b s. differ w v b j.bit a s t) (wire_roles ss v) (spanned ss v)) ws h.0 in
    pairs_append Differ (wire_roles ss w) (input_roles ss ws) (once ss w) (roles_once ss ws h.1)
    (rec_map (λ (i : InputRole). Spans w i.bit) (λ (i : InputRole). AllByRecursion (Differ i) (input_roles ss ws))
    (λ i s. rec_map (λ (j : InputRole). (b : ℕ) → Spans w b → b ≡ j.bit → ⊥) (Differ i) (λ j d. d i.bit s) (input_roles ss ws) later) (wire_roles ss w) (spanned ss w))

roles_within : (n : ℕ) (ss : List Secret) (ws : List MarkedWire) → AllByRecursion (Within n) ws → AllByRecursion (λ (i : InputRole). i.bit < n) (input_roles ss ws)
roles_within n ss ws h =
    rec_flat (λ (i : InputRole). i.bit < n) (Within n) (wire_roles ss)
    (λ w le. rec_map (λ (i : InputRole). Spans w i.bit) (λ (i : InputRole). i.bit < n) (λ i s. omega (arith, s.1, le)) (wire_roles ss w) (spanned ss w)) ws h

-- ---- the shares of outputs

share_within : (n : ℕ) (w : MarkedWire) (place : ℕ) (o : Option Given) → w.first + place < n
    → AllByRecursion (λ (g : GivenBit). g.bit < n) (cons_option (option_map_or (λ g. Some (record { line = w.line; bit = w.first + place; given = g })) o None) [])
share_within n w place None lt = tt
share_within n w place (Some g) lt = (lt, tt)

places_within : (n : ℕ) (w : MarkedWire) (m a : ℕ) → w.first + (a + m) ≤ n → AllByRecursion (λ (g : GivenBit). g.bit < n) (filter_map (given_bit w) (range_with_len a m))
places_within n w zero a le = tt
places_within n w (suc m) a le = consed (given_bit w a) (filter_map (given_bit w) (range_with_len (a + 1) m)) (share_within n w a (given_at w.mark a) (omega arith)) (places_within n w m (a + 1) (omega arith))
  where
    consed : (o : Option GivenBit) (gs : List GivenBit) → AllByRecursion (λ (g : GivenBit). g.bit < n) (cons_option o []) → AllByRecursion (λ (g : GivenBit). g.bit < n) gs → AllByRecursion (λ (g : GivenBit). g.bit < n) (cons_option o gs)
    consed None gs h k = k
    consed (Some g) gs h k = (h.0, k)

wire_within : (n : ℕ) (d : Direction) (w : MarkedWire) → Within n w → AllByRecursion (λ (g : GivenBit). g.bit < n) (given_by d w)
wire_within n d w le = go (has_direction d w.port)
  where
    go : (b : Bool) → AllByRecursion (λ (g : GivenBit). g.bit < n) (cond b (wire_shares w) [])
    go true = places_within n w w.width 0 (omega arith)
    go false = tt

given_within : (n : ℕ) (d : Direction) (ws : List MarkedWire) → AllByRecursion (Within n) ws → AllByRecursion (λ (g : GivenBit). g.bit < n) (given d ws)
unfolding given
given_within n d ws h = rec_flat (λ (g : GivenBit). g.bit < n) (Within n) (given_by d) (λ w le. wire_within n d w le) ws h

outputs_within : (n : ℕ) (ss : List Secret) (gs : List GivenBit) → AllByRecursion (λ (g : GivenBit). g.bit < n) gs → AllByRecursion (λ (o : OutputShare). o.bit < n) (map output_share (map (numbered_share ss) gs))
outputs_within n ss [] h = tt
outputs_within n ss (g ∷ gs) h = (h.0, outputs_within n ss gs h.1)

pub roles_fit : (items : List Item) (nets : Nets) → AreNets items nets → FitsNets (roles_of items) nets
unfolding roles_of numbered_shares
roles_fit items nets are =
    let n = length nets.sources in
    let sum = numbered_sum 0 (wires items) in
    let bound : 0 + sum_by (λ (v : Wire). v.width) (wires items) ≤ n = omega (arith, sum, are.each_bit) in
    let ordered = in_port_order (marked_wires items) in
    let within = ordered_within n (marked_wires items) (all_within n 0 (wires items) bound) in
    let apart = ordered_apart (marked_wires items) (all_apart 0 (wires items)) in
    record {
      inputs = All-from_recursion (λ (i : InputRole). i.bit < n) _ (roles_within n (secrets (given Input ordered)) ordered within);
      one_role = pairs_are Differ _ (roles_once (secrets (given Input ordered)) ordered apart);
      outputs = All-from_recursion (λ (o : OutputShare). o.bit < n) _ (outputs_within n (secrets (given Output ordered)) (given Output ordered) (given_within n Output ordered within));
    }
