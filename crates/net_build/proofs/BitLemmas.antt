-- Bits written one after another, and how many a signal has.
use Rattle.std.proofs.Common.{◌≡◌, ℕ, zero, suc, ◌+◌, ◌-◌, ◌<◌, ◌≤◌, Bool, true, false, ◌&&◌, nat_lt, nat_le, min, List, [], ◌∷◌, ◌++◌, length, take, drop, map, get_or, Option, Some, None, option_map, is_some, refl, sym, ap, ◌∙◌, subst, arith, append_assoc, length-append, length-take, length-drop, zero-add, ltb-true, leb-true, sum, drop-cons}
use Rattle.std.specs.List.{list_all, sum_by}
use Rattle.std.proofs.lemmas.List.Sums.{sum_by-cons}
use Rattle.std.proofs.lemmas.List.Folds.{list_all_at, list_all-map}
use Rattle.std.proofs.lemmas.List.{drop-take, drop-drop, take_more, append-nil}
use Rattle.net_build.specs.Spans.{span_of, span_named}
use Rattle.net_build.specs.declared.wires.Span.{Span}
use Rattle.circuit_types.specs.Bits.{numbers, value_bit, value_width}
use Rattle.circuit_types.specs.Items.{wire_named}
use Rattle.circuit_types.specs.Signals.{Shape, shape, shape_step, signal_bits, bits_step, joined_from_last, slice_width, wire_width, wire_bits, most_width}
use Rattle.circuit_types.proofs.Folds.{shape_value, shape_wire, shape_slice, shape_join, bits_value, bits_wire, bits_slice, bits_join}
use Rattle.circuit_types.specs.declared.signal.Signal.{Signal}
use Rattle.circuit_types.specs.declared.signal.Value.{Value}
use Rattle.circuit_types.specs.declared.signal.Signal.TheVariants as variant
use Rattle.circuit_types.specs.declared.signal.Signal.TheOpen.{Signal-F}
use Rattle.circuit_types.specs.declared.signal.Signal.{roll-Signal, map-Signal}
use Rattle.circuit_types.specs.declared.signal.Signal.TheFolds.{ind-Signal, fold-roll-Signal}
use Rattle.circuit_types.specs.declared.nets.NetWire.{NetWire}
use Rattle.circuit_types.specs.declared.nets.SignalBit.{SignalBit}
use Rattle.circuit_types.specs.declared.nets.SignalBit.TheVariants.{Net}
use Rattle.net_build.specs.Shapes.{IsGood, cap}

numbers_at : (a n n' : ℕ) → n ≡ suc n' → numbers a n ≡ a ∷ numbers (a + 1) n'
numbers_at a n n' e = ap (numbers a) e

numbers_more : (a b : ℕ) → a < b → numbers a (b - a) ≡ a ∷ numbers (a + 1) (b - (a + 1))
numbers_more a b h = numbers_at a (b - a) (b - (a + 1)) (omega arith)

-- one more of a run of bits is written
pub pushed : (f : ℕ → SignalBit) (xs xs' ys : List SignalBit) (a b : ℕ) (x : SignalBit) → a < b → x ≡ f a → xs' ≡ xs ++ x ∷ []
    → xs ++ map f (numbers a (b - a)) ≡ ys → xs' ++ map f (numbers (a + 1) (b - (a + 1))) ≡ ys
pushed f xs xs' ys a b x h e p q =
    ap (λ zs. zs ++ map f (numbers (a + 1) (b - (a + 1)))) p
    ∙ (append_assoc xs (x ∷ []) (map f (numbers (a + 1) (b - (a + 1))))
    ∙ (ap (λ y. xs ++ y ∷ map f (numbers (a + 1) (b - (a + 1)))) e
    ∙ (ap (λ ns. xs ++ map f ns) (sym (numbers_more a b h)) ∙ q)))

pub length-numbers : (a n : ℕ) → length (numbers a n) ≡ n
length-numbers a zero = refl
length-numbers a (suc n) = ap suc (length-numbers (a + 1) n)

length-map : {X Y : Type 0} (f : X → Y) (xs : List X) → length (map f xs) ≡ length xs
length-map f [] = refl
length-map f (x ∷ xs) = ap suc (length-map f xs)

numbers_same : (a b m n : ℕ) → a ≡ b → m ≡ n → numbers a m ≡ numbers b n
numbers_same a b m n p q = cc

take-drop-numbers : (low count a n : ℕ) → low + count ≤ n → take count (drop low (numbers a n)) ≡ numbers (a + low) count
take-drop-numbers zero zero a n h = refl
take-drop-numbers zero (suc count) a zero h = absurd (omega arith)
take-drop-numbers zero (suc count) a (suc n) h =
    ap (λ xs. a ∷ xs) (take-drop-numbers zero count (a + 1) n (omega arith) ∙ numbers_same (a + 1 + 0) (a + 1) count count (omega arith) refl)
    ∙ sym (numbers_same (a + 0) a (suc count) (suc count) (omega arith) refl)
take-drop-numbers (suc low) count a zero h = absurd (omega arith)
take-drop-numbers (suc low) count a (suc n) h =
    take-drop-numbers low count (a + 1) n (omega arith) ∙ numbers_same (a + 1 + low) (a + suc low) count count (omega arith) refl

take-map : {X Y : Type 0} (f : X → Y) (n : ℕ) (xs : List X) → take n (map f xs) ≡ map f (take n xs)
take-map f zero xs = refl
take-map f (suc n) [] = refl
take-map f (suc n) (x ∷ xs) = ap (λ ys. f x ∷ ys) (take-map f n xs)

drop-map : {X Y : Type 0} (f : X → Y) (n : ℕ) (xs : List X) → drop n (map f xs) ≡ map f (drop n xs)
drop-map f zero xs = refl
drop-map f (suc n) [] = refl
drop-map f (suc n) (x ∷ xs) = drop-map f n xs

-- a part of a run
pub part_of_run : (f : ℕ → SignalBit) (low count a n : ℕ) → low + count ≤ n
    → take count (drop low (map f (numbers a n))) ≡ map f (numbers (a + low) count)
part_of_run f low count a n h =
    ap (take count) (drop-map f low (numbers a n))
    ∙ (take-map f count (drop low (numbers a n)) ∙ ap (map f) (take-drop-numbers low count a n h))

pub and_both : (a b : Bool) → a && b ≡ true → (a ≡ true) × (b ≡ true)
and_both true b h = (refl, h)
and_both false b h = cc

-- as many bits as it is wide, where it is good
abbrev HasWidth : List NetWire → Signal → Type 0
HasWidth ws s = IsGood (shape ws s) → length (signal_bits ws s) ≡ (shape ws s).width

wire_has_width : (o : Option NetWire) → length (wire_bits o) ≡ wire_width o
wire_has_width None = refl
wire_has_width (Some w) = length-map (λ k. Net k) (numbers w.first w.width) ∙ length-numbers w.first w.width

-- the parts that all are good have the bits of them together
parts_have_width : (ws : List NetWire) {E : Type 0} (p : E → Signal) → ((e : E) → HasWidth ws (p e)) → (es : List E)
    → list_all (λ s. s.narrow) (map (λ e. shape ws (p e)) es) ≡ true → list_all (λ s. s.named) (map (λ e. shape ws (p e)) es) ≡ true
    → list_all (λ s. s.sliced) (map (λ e. shape ws (p e)) es) ≡ true
    → length (joined_from_last (map (λ e. signal_bits ws (p e)) es)) ≡ sum_by (λ s. s.width) (map (λ e. shape ws (p e)) es)
parts_have_width ws p each [] n m k = refl
parts_have_width ws p each (e ∷ es) n m k =
    let n' = and_both (shape ws (p e)).narrow (list_all (λ s. s.narrow) (map (λ e. shape ws (p e)) es)) n in
    let m' = and_both (shape ws (p e)).named (list_all (λ s. s.named) (map (λ e. shape ws (p e)) es)) m in
    let k' = and_both (shape ws (p e)).sliced (list_all (λ s. s.sliced) (map (λ e. shape ws (p e)) es)) k in
    let rest = parts_have_width ws p each es n'.1 m'.1 k'.1 in
    let first = each e (record { narrow = n'.0; named = m'.0; sliced = k'.0 }) in
    let all = length-append (joined_from_last (map (λ e. signal_bits ws (p e)) es)) (signal_bits ws (p e)) in
    let total = sum_by-cons (λ (s : Shape). s.width) (shape ws (p e)) (map (λ e. shape ws (p e)) es) in
    omega (arith, all, total, rest, first)

map_map : {X Y Z : Type 0} (f : Y → Z) (g : X → Y) (xs : List X) → map f (map g xs) ≡ map (λ x. f (g x)) xs
map_map f g [] = refl
map_map f g (x ∷ xs) = ap (λ ys. f (g x) ∷ ys) (map_map f g xs)

-- a slice of a good signal takes as many bits as it is wide
facts_of_slice : (n high low : ℕ) → nat_lt high n && nat_le low high ≡ true → (high < n) × (low ≤ high)
facts_of_slice n high low h =
    let p = and_both (nat_lt high n) (nat_le low high) h in
    (ltb-true high n p.0, leb-true low high p.1)

slice_width_is : (high low : ℕ) → low ≤ high → slice_width high low ≡ high - low + 1
slice_width_is high low h = grind arith

pub slice_has_width : (n high low : ℕ) (xs : List SignalBit) → length xs ≡ n → nat_lt high n && nat_le low high ≡ true
    → length (take (slice_width high low) (drop low xs)) ≡ slice_width high low
slice_has_width n high low xs e h =
    let f = facts_of_slice n high low h in
    let w = slice_width_is high low f.1 in
    simp (length-take, length-drop) (omega (arith, w))

-- by one level
step_has_width : (ws : List NetWire) {E : Type 0} (p : E → Signal) → ((e : E) → HasWidth ws (p e)) → (y : Signal-F E)
    → IsGood (shape_step ws (map-Signal E Shape (λ e. shape ws (p e)) y))
    → length (bits_step ws (map-Signal E (List SignalBit) (λ e. signal_bits ws (p e)) y)) ≡ (shape_step ws (map-Signal E Shape (λ e. shape ws (p e)) y)).width
step_has_width ws p each (Signal-F.Value v) g = length-map (value_bit v) (numbers 0 (value_width v)) ∙ length-numbers 0 (value_width v)
step_has_width ws p each (Signal-F.Wire name) g = wire_has_width (wire_named ws name)
step_has_width ws p each (Signal-F.Slice of high low) g =
    let n = and_both (shape ws (p of)).narrow (nat_le (slice_width high low) most_width) g.narrow in
    let k = and_both (shape ws (p of)).sliced (nat_lt high (shape ws (p of)).width && nat_le low high) g.sliced in
    slice_has_width (shape ws (p of)).width high low (signal_bits ws (p of))
    (each of (record { narrow = n.0; named = g.named; sliced = k.0 })) k.1
step_has_width ws p each (Signal-F.Join es) g =
    let n = and_both (list_all (λ (s : Shape). s.narrow) (map (λ e. shape ws (p e)) es)) (nat_le (sum_by (λ (s : Shape). s.width) (map (λ e. shape ws (p e)) es)) most_width) g.narrow in
    parts_have_width ws p each es n.0 g.named g.sliced

shape_rolled : (ws : List NetWire) {E : Type 0} (p : E → Signal) (y : Signal-F E)
    → shape ws (roll-Signal (map-Signal E Signal p y)) ≡ shape_step ws (map-Signal E Shape (λ e. shape ws (p e)) y)
shape_rolled ws p (Signal-F.Value v) = fold-roll-Signal Shape (shape_step ws) (Signal-F.Value v)
shape_rolled ws p (Signal-F.Wire name) = fold-roll-Signal Shape (shape_step ws) (Signal-F.Wire name)
shape_rolled ws p (Signal-F.Slice of high low) = fold-roll-Signal Shape (shape_step ws) (Signal-F.Slice (p of) high low)
shape_rolled ws p (Signal-F.Join es) =
    fold-roll-Signal Shape (shape_step ws) (Signal-F.Join (map p es))
    ∙ ap (λ xs. shape_step ws (Signal-F.Join xs)) (map_map (shape ws) p es)

pub bits_rolled : (ws : List NetWire) {E : Type 0} (p : E → Signal) (y : Signal-F E)
    → signal_bits ws (roll-Signal (map-Signal E Signal p y)) ≡ bits_step ws (map-Signal E (List SignalBit) (λ e. signal_bits ws (p e)) y)
bits_rolled ws p (Signal-F.Value v) = fold-roll-Signal (List SignalBit) (bits_step ws) (Signal-F.Value v)
bits_rolled ws p (Signal-F.Wire name) = fold-roll-Signal (List SignalBit) (bits_step ws) (Signal-F.Wire name)
bits_rolled ws p (Signal-F.Slice of high low) = fold-roll-Signal (List SignalBit) (bits_step ws) (Signal-F.Slice (p of) high low)
bits_rolled ws p (Signal-F.Join es) =
    fold-roll-Signal (List SignalBit) (bits_step ws) (Signal-F.Join (map p es))
    ∙ ap (λ xs. bits_step ws (Signal-F.Join xs)) (map_map (signal_bits ws) p es)

rolled_has_width : (ws : List NetWire) {E : Type 0} (p : E → Signal) → ((e : E) → HasWidth ws (p e)) → (y : Signal-F E)
    → HasWidth ws (roll-Signal (map-Signal E Signal p y))
rolled_has_width ws p each y = λ g.
    ap length (bits_rolled ws p y)
    ∙ (step_has_width ws p each y (subst IsGood (shape_rolled ws p y) g)
    ∙ ap (λ (v : Shape). v.width) (sym (shape_rolled ws p y)))

-- the bits of a good signal are as many as it is wide
pub bits_length : (ws : List NetWire) (s : Signal) → HasWidth ws s
bits_length ws s = ind-Signal (HasWidth ws) (λ x y e. subst (λ z. HasWidth ws (roll-Signal z)) e (rolled_has_width ws (λ v. v.0) (λ v. v.1) y)) s

pub bits_length_parts : (ws : List NetWire) (parts : List Signal) → IsGood (shape ws (variant.Join parts))
    → length (joined_from_last (map (signal_bits ws) parts)) ≡ (shape ws (variant.Join parts)).width
bits_length_parts ws parts g = sym (ap length (bits_join ws parts)) ∙ bits_length ws (variant.Join parts) g

-- a part of a good join is good
not_false : (b : Bool) → (b ≡ false → ⊥) → b ≡ true
not_false true h = refl
not_false false h = absurd (h refl)

true_false : (b : Bool) → b ≡ true → b ≡ false → ⊥
true_false b h k = cc

all_at : {X : Type 0} (test : X → Bool) (xs : List X) (i : ℕ) (x : X) → list_all test xs ≡ true → i < length xs → x ≡ get_or xs i x → test x ≡ true
all_at test xs i x h k e =
    not_false (test x) (λ f. true_false (list_all test xs) h (list_all_at test xs i x k (ap test (sym e) ∙ f)))

all_mapped : {X Y : Type 0} (test : Y → Bool) (f : X → Y) (xs : List X) → list_all test (map f xs) ≡ true → list_all (λ x. test (f x)) xs ≡ true
all_mapped test f xs h = sym (list_all-map test f xs) ∙ h

pub good_part : (ws : List NetWire) (parts : List Signal) (i : ℕ) (x : Signal) → IsGood (shape ws (variant.Join parts)) → i < length parts → x ≡ get_or parts i x
    → IsGood (shape ws x)
good_part ws parts i x g h e =
    let k = subst IsGood (shape_join ws parts) g in
    let n = and_both (list_all (λ (s : Shape). s.narrow) (map (shape ws) parts)) (nat_le (sum_by (λ (s : Shape). s.width) (map (shape ws) parts)) most_width) k.narrow in
    record {
      narrow = all_at (λ s. (shape ws s).narrow) parts i x (all_mapped (λ (s : Shape). s.narrow) (shape ws) parts n.0) h e;
      named = all_at (λ s. (shape ws s).named) parts i x (all_mapped (λ (s : Shape). s.named) (shape ws) parts k.named) h e;
      sliced = all_at (λ s. (shape ws s).sliced) parts i x (all_mapped (λ (s : Shape). s.sliced) (shape ws) parts k.sliced) h e;
    }

pub good_of : (ws : List NetWire) (of : Signal) (high low : ℕ) → IsGood (shape ws (variant.Slice of high low))
    → IsGood (shape ws of) × (high < (shape ws of).width) × (low ≤ high) × ((shape ws (variant.Slice of high low)).width ≡ high - low + 1)
good_of ws of high low g =
    let k = subst IsGood (shape_slice ws of high low) g in
    let n = and_both (shape ws of).narrow (nat_le (slice_width high low) most_width) k.narrow in
    let s = and_both (shape ws of).sliced (nat_lt high (shape ws of).width && nat_le low high) k.sliced in
    let f = facts_of_slice (shape ws of).width high low s.1 in (
      record { narrow = n.0; named = k.named; sliced = s.0 },
      f.0,
      f.1,
      ap (λ (v : Shape). v.width) (shape_slice ws of high low) ∙ slice_width_is high low f.1,
    )

-- a narrow signal is no wider than a signal may be
step_narrow : (ws : List NetWire) {E : Type 0} (p : E → Signal) (y : Signal-F E) → (shape_step ws (map-Signal E Shape (λ e. shape ws (p e)) y)).narrow ≡ true
    → (shape_step ws (map-Signal E Shape (λ e. shape ws (p e)) y)).width ≤ most_width
step_narrow ws p (Signal-F.Value v) g = leb-true (value_width v) most_width g
step_narrow ws p (Signal-F.Wire name) g = leb-true (wire_width (wire_named ws name)) most_width g
step_narrow ws p (Signal-F.Slice of high low) g =
    leb-true (slice_width high low) most_width (and_both (shape ws (p of)).narrow (nat_le (slice_width high low) most_width) g).1
step_narrow ws p (Signal-F.Join es) g =
    let t = sum_by (λ (s : Shape). s.width) (map (λ e. shape ws (p e)) es) in
    leb-true t most_width (and_both (list_all (λ (s : Shape). s.narrow) (map (λ e. shape ws (p e)) es)) (nat_le t most_width) g).1

pub narrow_width : (ws : List NetWire) (s : Signal) → (shape ws s).narrow ≡ true → (shape ws s).width ≤ most_width
narrow_width ws s = ind-Signal (λ t. (shape ws t).narrow ≡ true → (shape ws t).width ≤ most_width)
    (λ x y e. subst (λ z. (shape ws (roll-Signal z)).narrow ≡ true → (shape ws (roll-Signal z)).width ≤ most_width) e
    (λ g. subst (λ (v : Shape). v.width ≤ most_width) (sym (shape_rolled ws (λ v. v.0) y))
    (step_narrow ws (λ v. v.0) y (sym (ap (λ (v : Shape). v.narrow) (shape_rolled ws (λ v. v.0) y)) ∙ g)))) s

pub good_narrow : (ws : List NetWire) (s : Signal) → IsGood (shape ws s) → (shape ws s).width ≤ most_width
good_narrow ws s g = narrow_width ws s g.narrow

sums : {X Y : Type 0} (f : Y → ℕ) (g : X → Y) (xs : List X) → sum_by f (map g xs) ≡ sum (map (λ x. f (g x)) xs)
sums f g [] = refl
sums f g (x ∷ xs) = sum_by-cons f (g x) (map g xs) ∙ (ap (λ n. f (g x) + n) (sums f g xs) ∙ sym (sum_by-cons (λ n. n) (f (g x)) (map (λ x. f (g x)) xs)))

-- the width of a join is that of its parts
pub join_width : (ws : List NetWire) (parts : List Signal) → (shape ws (variant.Join parts)).width ≡ sum (map (λ p. (shape ws p).width) parts)
join_width ws parts =
    ap (λ (v : Shape). v.width) (shape_join ws parts)
    ∙ sums (λ (s : Shape). s.width) (shape ws) parts

-- what a name gives
some_once : {T : Type 0} (x y : T) → Some x ≡ Some y → x ≡ y
some_once x y h = cc

option_named : (o : Option NetWire) → None ≡ option_map span_of o → is_some o ≡ true → ⊥
option_named None h k = cc
option_named (Some w) h k = cc

pub none_bad : (ws : List NetWire) (name name' : List ℕ) → name' ≡ name → None ≡ span_named ws name' → IsGood (shape ws (variant.Wire name)) → ⊥
unfolding span_named
none_bad ws name name' e h g =
    option_named (wire_named ws name) (h ∙ ap (λ n. option_map span_of (wire_named ws n)) e) (subst IsGood (shape_wire ws name) g).named

option_width : (o : Option NetWire) (span : Span) → Some span ≡ option_map span_of o
    → (wire_width o ≡ span.width) × (wire_bits o ≡ map (λ k. Net k) (numbers span.first span.width))
option_width None span h = cc
option_width (Some w) span h =
    let s = some_once span (span_of w) h in
    subst (λ (x : Span). (w.width ≡ x.width) × (wire_bits (Some w) ≡ map (λ k. Net k) (numbers x.first x.width))) (sym s) (refl, refl)

pub some_width : (ws : List NetWire) (name name' : List ℕ) (span : Span) → name' ≡ name → Some span ≡ span_named ws name'
    → (shape ws (variant.Wire name)).width ≡ span.width
unfolding span_named
some_width ws name name' span e h =
    ap (λ (v : Shape). v.width) (shape_wire ws name) ∙ (option_width (wire_named ws name) span (h ∙ ap (λ n. option_map span_of (wire_named ws n)) e)).0

pub some_bits : (ws : List NetWire) (name name' : List ℕ) (span : Span) → name' ≡ name → Some span ≡ span_named ws name'
    → signal_bits ws (variant.Wire name) ≡ map (λ k. Net k) (numbers span.first span.width)
unfolding span_named
some_bits ws name name' span e h =
    bits_wire ws name ∙ (option_width (wire_named ws name) span (h ∙ ap (λ n. option_map span_of (wire_named ws n)) e)).1

take_of_take : (m n : ℕ) (xs : List SignalBit) → m ≤ n → take m (take n xs) ≡ take m xs
take_of_take zero n xs h = refl
take_of_take (suc m) zero xs h = absurd (omega arith)
take_of_take (suc m) (suc n) [] h = refl
take_of_take (suc m) (suc n) (x ∷ xs) h = ap (λ ys. x ∷ ys) (take_of_take m n xs (omega arith))

-- some bits of a slice
pub within_slice : (xs : List SignalBit) (low count from width : ℕ) → low + count ≤ width
    → take count (drop (from + low) xs) ≡ take count (drop low (take width (drop from xs)))
within_slice xs low count from width h =
    let a : drop low (take (low + (width - low)) (drop from xs)) ≡ take (width - low) (drop low (drop from xs)) = drop-take low (width - low) (drop from xs) in
    let w : low + (width - low) ≡ width = omega arith in
    sym (ap (take count) (ap (λ n. drop low (take n (drop from xs))) (sym w) ∙ a)
    ∙ (take_of_take count (width - low) (drop low (drop from xs)) (omega arith) ∙ ap (take count) (drop-drop low from xs)))

-- some bits of two lists together: those of the first that are among them, and then those of the second
nil_part : (t s : ℕ) → take t (drop s (let e : List SignalBit = [] in e)) ≡ []
nil_part zero s = refl
nil_part (suc t) zero = refl
nil_part (suc t) (suc s) = refl

three : (a b c d : List SignalBit) → a ≡ [] → b ≡ c → c ≡ d → b ≡ a ++ d
three a b c d p q r = q ∙ (r ∙ sym (ap (λ x. x ++ d) p))

first_of : (t t' s : ℕ) (x : SignalBit) (p : List SignalBit) → s ≡ 0 → t ≡ suc t' → take t (drop s (x ∷ p)) ≡ x ∷ take t' p
first_of t t' s x p e h = ap (λ n. take t (drop n (x ∷ p))) e ∙ ap (λ n. take n (x ∷ p)) h

pub across : (p r : List SignalBit) (low count s t u v : ℕ) → s ≡ min low (length p) → t ≡ min count (length p - s) → u ≡ low - s → v ≡ count - t
    → take count (drop low (p ++ r)) ≡ take t (drop s p) ++ take v (drop u r)
across [] r low count s t u v es et eu ev =
    let nu : low ≡ u = omega arith in let nv : count ≡ v = omega arith in
    three (take t (drop s [])) (take count (drop low r)) (take v (drop low r)) (take v (drop u r)) (nil_part t s)
    (ap (λ n. take n (drop low r)) nv) (ap (λ n. take v (drop n r)) nu)
across (x ∷ p) r zero zero s t u v es et eu ev =
    let nt : t ≡ 0 = omega arith in let nv : v ≡ 0 = omega arith in
    sym (ap (λ n. take n (drop s (x ∷ p)) ++ take v (drop u r)) nt ∙ ap (λ n. take n (drop u r)) nv)
across (x ∷ p) r zero (suc count) s t u v es et eu ev =
    let zs : s ≡ 0 = omega arith in
    let nt : t ≡ suc (min count (length p)) = omega arith in
    ap (λ xs. x ∷ xs) (across p r zero count 0 (min count (length p)) u v (omega arith) (omega arith) (omega arith) (omega arith))
    ∙ ap (λ xs. xs ++ take v (drop u r)) (sym (first_of t (min count (length p)) s x p zs nt))
across (x ∷ p) r (suc low) count s t u v es et eu ev =
    let zs : s ≡ suc (min low (length p)) = omega arith in
    across p r low count (min low (length p)) t u v (omega arith) (omega arith) (omega arith) (omega arith)
    ∙ ap (λ n. take t (drop n (x ∷ p)) ++ take v (drop u r)) (sym zs)

-- the parts up to one: that one comes first
joined_last : (ys : List (List SignalBit)) (y : List SignalBit) → joined_from_last (ys ++ y ∷ []) ≡ y ++ joined_from_last ys
joined_last [] y = sym (append-nil y)
joined_last (z ∷ zs) y = ap (λ xs. xs ++ z) (joined_last zs y) ∙ append_assoc y (joined_from_last zs) z

map-append_one : (f : Signal → List SignalBit) (xs : List Signal) (x : Signal) → map f (xs ++ x ∷ []) ≡ map f xs ++ f x ∷ []
map-append_one f [] x = refl
map-append_one f (y ∷ ys) x = ap (λ zs. f y ∷ zs) (map-append_one f ys x)

pub joined_take : (f : Signal → List SignalBit) (xs : List Signal) (k : ℕ) (x : Signal) → 0 < k → k ≤ length xs → x ≡ get_or xs (k - 1) x
    → joined_from_last (map f (take k xs)) ≡ f x ++ joined_from_last (map f (take (k - 1) xs))
joined_take f xs k x pos h e =
    let n : k ≡ k - 1 + 1 = omega arith in
    ap (λ i. joined_from_last (map f (take i xs))) n
    ∙ (ap (λ ys. joined_from_last (map f ys)) (take_more xs (k - 1) x (omega arith))
    ∙ (ap (λ y. joined_from_last (map f (take (k - 1) xs ++ y ∷ []))) (sym e)
    ∙ (ap joined_from_last (map-append_one f (take (k - 1) xs) x)
    ∙ joined_last (map f (take (k - 1) xs)) (f x))))

-- the same for a signal that is a join
pub good_part_of : (ws : List NetWire) (s : Signal) (parts xs : List Signal) (i : ℕ) (x : Signal) → s ≡ variant.Join parts → xs ≡ parts
    → IsGood (shape ws s) → i < length xs → x ≡ get_or xs i x → IsGood (shape ws x)
good_part_of ws s parts xs i x e p g h k =
    good_part ws xs i x (subst (λ v. IsGood (shape ws v)) (e ∙ ap variant.Join (sym p)) g) h k

pub part_narrow : (ws : List NetWire) (s : Signal) (xs : List Signal) (i w : ℕ) (x : Signal) → IsGood (shape ws s)
    → i < length xs → x ≡ get_or xs i x → w + sum (map (λ p. (shape ws p).width) (drop i xs)) ≡ (shape ws s).width
    → w + (shape ws x).width ≤ most_width
part_narrow ws s xs i w x g h e k =
    let front : sum (map (λ p. (shape ws p).width) (drop i xs)) ≡ (shape ws x).width + sum (map (λ p. (shape ws p).width) (drop (suc i) xs))
    = ap (λ ys. sum (map (λ p. (shape ws p).width) ys)) (drop-cons xs i x h)
    ∙ (sum_by-cons (λ n. n) (shape ws (get_or xs i x)).width (map (λ p. (shape ws p).width) (drop (suc i) xs))
    ∙ ap (λ y. (shape ws y).width + sum (map (λ p. (shape ws p).width) (drop (suc i) xs))) (sym e)) in
    omega (arith, front, k, good_narrow ws s g)

take_all : (xs : List Signal) → take (length xs) xs ≡ xs
take_all [] = refl
take_all (x ∷ xs) = ap (λ ys. x ∷ ys) (take_all xs)

-- the parts of a join, all of them
pub all_parts : (ws : List NetWire) (s : Signal) (parts xs : List Signal) → s ≡ variant.Join parts → xs ≡ parts
    → joined_from_last (map (signal_bits ws) (take (length xs) xs)) ≡ signal_bits ws s
all_parts ws s parts xs e p =
    ap (λ ys. joined_from_last (map (signal_bits ws) ys)) (take_all xs)
    ∙ (ap (λ ys. joined_from_last (map (signal_bits ws) ys)) p
    ∙ sym (ap (signal_bits ws) e ∙ bits_join ws parts))

-- one part more is written
pub part_written : (f : Signal → List SignalBit) (xs : List Signal) (k : ℕ) (x : Signal) (low count s t : ℕ) (bits bits' all : List SignalBit)
    → 0 < k → k ≤ length xs → x ≡ get_or xs (k - 1) x → s ≡ min low (length (f x)) → t ≡ min count (length (f x) - s)
    → bits' ≡ bits ++ take t (drop s (f x))
    → low + count ≤ length (joined_from_last (map f (take k xs)))
    → bits ++ take count (drop low (joined_from_last (map f (take k xs)))) ≡ all
    → (low - s + (count - t) ≤ length (joined_from_last (map f (take (k - 1) xs))))
    × (bits' ++ take (count - t) (drop (low - s) (joined_from_last (map f (take (k - 1) xs)))) ≡ all)
part_written f xs k x low count s t bits bits' all pos h e es et b fits q =
    let j = joined_take f xs k x pos h e in
    let n = length-append (f x) (joined_from_last (map f (take (k - 1) xs))) in
    let m = ap length j in
    let both = across (f x) (joined_from_last (map f (take (k - 1) xs))) low count s t (low - s) (count - t) es et refl refl in (
      omega (arith, n, m, fits),
      ap (λ y. y ++ take (count - t) (drop (low - s) (joined_from_last (map f (take (k - 1) xs))))) b
          ∙ (append_assoc bits (take t (drop s (f x))) (take (count - t) (drop (low - s) (joined_from_last (map f (take (k - 1) xs)))))
          ∙ (ap (λ y. bits ++ y) (sym both)
          ∙ (ap (λ y. bits ++ take count (drop low y)) (sym j) ∙ q))),
    )

-- the capped width of a good signal is its width
pub good_capped : (ws : List NetWire) (s : Signal) (w : ℕ) → IsGood (shape ws s) → w ≡ min (shape ws s).width cap → w ≡ (shape ws s).width
good_capped ws s w g e = omega (arith, good_narrow ws s g, e)

-- the slice of a signal within it
pub slice_parts : (ws : List NetWire) (s of of' : Signal) (high from low count : ℕ) → s ≡ variant.Slice of high from → of' ≡ of → IsGood (shape ws s)
    → low + count ≤ (shape ws s).width
    → IsGood (shape ws of') × (from + low + count ≤ (shape ws of').width)
slice_parts ws s of of' high from low count e p g h =
    let f = good_of ws of high from (subst (λ v. IsGood (shape ws v)) e g) in
    let w = ap (λ v. (shape ws v).width) e in
    subst (λ v. IsGood (shape ws v) × (from + low + count ≤ (shape ws v).width)) (sym p) (f.0, omega (arith, w, f.1, f.2, f.3, h))

pub slice_written : (ws : List NetWire) (s of of' : Signal) (high from low count : ℕ) → s ≡ variant.Slice of high from → of' ≡ of → IsGood (shape ws s)
    → low + count ≤ (shape ws s).width
    → take count (drop (from + low) (signal_bits ws of')) ≡ take count (drop low (signal_bits ws s))
slice_written ws s of of' high from low count e p g h =
    let w = ap (λ (v : Shape). v.width) (shape_slice ws of high from) in
    let v = ap (λ v. (shape ws v).width) e in
    ap (λ x. take count (drop (from + low) (signal_bits ws x))) p
    ∙ (within_slice (signal_bits ws of) low count from (slice_width high from) (omega (arith, w, v, h))
    ∙ ap (λ xs. take count (drop low xs)) (sym (ap (signal_bits ws) e ∙ bits_slice ws of high from)))

pub value_written : (ws : List NetWire) (s : Signal) (v : Value) (low count : ℕ) → s ≡ variant.Value v → low + count ≤ value_width v
    → map (value_bit v) (numbers low count) ≡ take count (drop low (signal_bits ws s))
value_written ws s v low count e h =
    sym (ap (λ x. take count (drop low (signal_bits ws x))) e
    ∙ (ap (λ xs. take count (drop low xs)) (bits_value ws v)
    ∙ (part_of_run (value_bit v) low count 0 (value_width v) h
    ∙ ap (λ n. map (value_bit v) (numbers n count)) (zero-add low))))

pub value_wide : (ws : List NetWire) (s : Signal) (v : Value) → s ≡ variant.Value v → (shape ws s).width ≡ value_width v
value_wide ws s v e = ap (λ x. (shape ws x).width) e ∙ ap (λ (x : Shape). x.width) (shape_value ws v)

pub wire_written : (ws : List NetWire) (s : Signal) (name name' : List ℕ) (span : Span) (low count : ℕ) → s ≡ variant.Wire name → name' ≡ name
    → Some span ≡ span_named ws name' → low + count ≤ (shape ws s).width
    → map (λ k. Net k) (numbers (span.first + low) count) ≡ take count (drop low (signal_bits ws s))
wire_written ws s name name' span low count e p h k =
    let w = ap (λ x. (shape ws x).width) e ∙ some_width ws name name' span p h in
    sym (ap (λ x. take count (drop low (signal_bits ws x))) e
    ∙ (ap (λ xs. take count (drop low xs)) (some_bits ws name name' span p h)
    ∙ part_of_run (λ n. Net n) low count span.first span.width (omega (arith, w, k))))

pub wire_wide : (ws : List NetWire) (s : Signal) (name name' : List ℕ) (span : Span) → s ≡ variant.Wire name → name' ≡ name
    → Some span ≡ span_named ws name' → (shape ws s).width ≡ span.width
wire_wide ws s name name' span e p h = ap (λ x. (shape ws x).width) e ∙ some_width ws name name' span p h

take_all_bits : (xs : List SignalBit) → take (length xs) xs ≡ xs
take_all_bits [] = refl
take_all_bits (x ∷ xs) = ap (λ ys. x ∷ ys) (take_all_bits xs)

-- the whole of a signal
pub wire_whole : (ws : List NetWire) (s : Signal) (name name' : List ℕ) (span : Span) → s ≡ variant.Wire name → name' ≡ name → Some span ≡ span_named ws name'
    → map (λ k. Net k) (numbers span.first span.width) ≡ signal_bits ws s
wire_whole ws s name name' span e p h = sym (ap (signal_bits ws) e ∙ some_bits ws name name' span p h)

pub slice_whole : (ws : List NetWire) (s of of' : Signal) (high low : ℕ) → s ≡ variant.Slice of high low → of' ≡ of → IsGood (shape ws s)
    → IsGood (shape ws of') × (low + (high - low + 1) ≤ (shape ws of').width) × (low ≤ high) × (high < most_width)
    × (take (high - low + 1) (drop low (signal_bits ws of')) ≡ signal_bits ws s)
slice_whole ws s of of' high low e p g =
    let f = good_of ws of high low (subst (λ v. IsGood (shape ws v)) e g) in
    let n = good_narrow ws of f.0 in
    subst (λ v. IsGood (shape ws v) × (low + (high - low + 1) ≤ (shape ws v).width) × (low ≤ high) × (high < most_width) × (take (high - low + 1) (drop low (signal_bits ws v)) ≡ signal_bits ws s)) (sym p) (
      f.0,
      omega (arith, f.1, f.2),
      f.2,
      omega (arith, f.1, n),
      ap (λ k. take k (drop low (signal_bits ws of))) (sym (slice_width_is high low f.2)) ∙ sym (ap (signal_bits ws) e ∙ bits_slice ws of high low),
    )

pub all_taken : (ws : List NetWire) (s : Signal) (n : ℕ) → IsGood (shape ws s) → n ≡ (shape ws s).width → take n (signal_bits ws s) ≡ signal_bits ws s
all_taken ws s n g e = ap (λ k. take k (signal_bits ws s)) (e ∙ sym (bits_length ws s g)) ∙ take_all_bits (signal_bits ws s)
