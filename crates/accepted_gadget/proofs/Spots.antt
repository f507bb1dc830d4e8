-- The bits of a gadget as spots, its cells as steps, and in what order they are driven.
use Rattle.std.proofs.Common.{◌≡◌, ℕ, ◌+◌, ◌-◌, ◌*◌, ◌<◌, ◌≤◌, ◌==◌, ◌&&◌, ◌||◌, ◌⊎◌, inl, inr, if◌then◌else◌, nat_lt, Bool, true, false, not, List, [], ◌∷◌, ◌++◌, codes, sym, subst, arith, ltb-true, ⊎_elim}
use Rattle.std.specs.List.{flat_map}
use Rattle.std.proofs.lemmas.Bool.{and_parts, or_cases, not-true, eqb-true, cases_eq}
use Rattle.circuit_types.specs.declared.signal.Signal.{Signal}
use Rattle.circuit_types.specs.declared.signal.Signal.TheVariants as signal
use Rattle.gadget_maker.specs.Gadget.{pairs, crossings, pair_count, name_of, steps_before, bit_of, random_bit}
use Rattle.gadget_maker.specs.declared.pairs.Pair.{Pair}
use Rattle.gadget_maker.specs.declared.pairs.Crossing.{Crossing}

-- ---- spots

-- a bit of a gadget: the clock, a place of another port's wire, or an inner wire
pub data Spot : Type 0 where
  clock : Spot
  at_port : (letter place : ℕ) → Spot
  inside : (letter first second : ℕ) → Spot

abbrev pub port_width : ℕ → ℕ → ℕ
port_width d letter = if letter == 114 then pair_count d else (if letter == 97 || (letter == 98 || letter == 99) then d else 0)

-- which inner wires there are of this letter
abbrev pub has_inside : ℕ → ℕ → ℕ → ℕ → Bool
has_inside d letter i j =
    if letter == 112 then true
    else (if letter == 113 || letter == 122 then not (i == j) else (letter == 117 && (nat_lt 0 j && nat_lt j (d - 1))))

-- the gadget has it
abbrev pub is_spot : ℕ → Spot → Bool
is_spot d clock = true
is_spot d (at_port letter place) = nat_lt place (port_width d letter)
is_spot d (inside letter i j) = nat_lt i d && (nat_lt j d && has_inside d letter i j)

-- it is an input's
abbrev pub is_given : Spot → Bool
is_given clock = true
is_given (at_port letter place) = not (letter == 99)
is_given (inside letter i j) = false

abbrev pub is_clock : Spot → Bool
is_clock clock = true
is_clock other = false

abbrev pub spot_name : Spot → List ℕ
spot_name clock = codes "\\clk"
spot_name (at_port letter place) = 92 ∷ letter ∷ []
spot_name (inside letter i j) = name_of letter i j

abbrev pub spot_place : Spot → ℕ
spot_place (at_port letter place) = place
spot_place other = 0

abbrev pub spot_width : ℕ → Spot → ℕ
spot_width d (at_port letter place) = port_width d letter
spot_width d other = 1

abbrev pub signal_of : ℕ → Spot → Signal
signal_of d clock = signal.Wire (codes "\\clk")
signal_of d (at_port letter place) = if letter == 114 then random_bit d place else bit_of (92 ∷ letter ∷ []) place
signal_of d (inside letter i j) = signal.Wire (name_of letter i j)

-- ---- steps

-- a gate with its two inputs and its output, or a register with its input and its output
pub data Step : Type 0 where
  gate : (one two out : Spot) → Step
  register : (one out : Spot) → Step

abbrev pub output : Step → Spot
output (gate a b y) = y
output (register a y) = y

abbrev pub outputs : List Step → List Spot
outputs [] = []
outputs (s ∷ ss) = output s ∷ outputs ss

abbrev pub sum_spot : ℕ → ℕ → ℕ → Spot
sum_spot d i k = if k == 0 then inside 112 i i else (if k == d - 1 then at_port 99 i else inside 117 i k)

abbrev pub product_steps : Pair → List Step
product_steps p = gate (at_port 97 p.first) (at_port 98 p.second) (inside 112 p.first p.second) ∷ []

abbrev pub masking_steps : Crossing → List Step
masking_steps x = gate (inside 112 x.first x.second) (at_port 114 x.random) (inside 113 x.first x.second) ∷ []

abbrev pub register_steps : Crossing → List Step
register_steps x = register (inside 113 x.first x.second) (inside 122 x.first x.second) ∷ []

abbrev pub sum_steps : ℕ → Crossing → List Step
sum_steps d x = let k = steps_before x.first x.second in
    gate (sum_spot d x.first k) (inside 122 x.first x.second) (sum_spot d x.first (k + 1)) ∷ []

abbrev pub steps : ℕ → List Step
steps d =
    flat_map product_steps (pairs d)
    ++ (flat_map masking_steps (crossings d) ++ (flat_map register_steps (crossings d) ++ flat_map (sum_steps d) (crossings d)))

-- ---- their order

abbrev pub place_of_crossing : ℕ → ℕ → ℕ → ℕ
place_of_crossing d i j = i * (d - 1) + steps_before i j

-- the number of the cell that drives a spot that is no input's
abbrev pub index : ℕ → Spot → ℕ
index d clock = 0
index d (at_port letter place) = d * d + (2 * (d * (d - 1)) + (place * (d - 1) + (d - 2)))
index d (inside letter i j) =
    if letter == 112 then i * d + j
    else (if letter == 113 then d * d + place_of_crossing d i j
    else (if letter == 122 then d * d + (d * (d - 1) + place_of_crossing d i j)
    else d * d + (2 * (d * (d - 1)) + (i * (d - 1) + (j - 1)))))

abbrev may_read : ℕ → ℕ → Spot → Bool
may_read d k s = is_spot d s && (not (is_clock s) && (is_given s || nat_lt (index d s) k))

abbrev may_drive : ℕ → ℕ → Spot → Bool
may_drive d k s = is_spot d s && (not (is_given s) && index d s == k)

abbrev is_step_at : ℕ → ℕ → Step → Bool
is_step_at d k (gate a b y) = may_read d k a && (may_read d k b && may_drive d k y)
is_step_at d k (register a y) = may_read d k a && may_drive d k y

abbrev pub are_steps : ℕ → ℕ → List Step → Bool
are_steps d k [] = true
are_steps d k (s ∷ ss) = is_step_at d k s && are_steps d (k + 1) ss

-- a spot that cell k may read: an input's other than the clock, or one that an earlier cell drives
pub record IsRead (d k : ℕ) (s : Spot) : Type 0 where
  pub spot : is_spot d s ≡ true
  pub no_clock : is_clock s ≡ false
  pub before : (is_given s ≡ true) ⊎ (index d s < k)

-- the spot that cell k drives
pub record IsDriven (d k : ℕ) (s : Spot) : Type 0 where
  pub spot : is_spot d s ≡ true
  pub inner : is_given s ≡ false
  pub number : index d s ≡ k

abbrev pub IsStep : ℕ → ℕ → Step → Type 0
IsStep d k (gate a b y) = IsRead d k a × IsRead d k b × IsDriven d k y
IsStep d k (register a y) = IsRead d k a × IsDriven d k y

-- the steps from cell k on
abbrev pub AreSteps : ℕ → ℕ → List Step → Type 0
AreSteps d k [] = Unit {0}
AreSteps d k (s ∷ ss) = IsStep d k s × AreSteps d (k + 1) ss

before_or_given : (d k : ℕ) (s : Spot) → (is_given s || nat_lt (index d s) k) ≡ true → (is_given s ≡ true) ⊎ (index d s < k)
before_or_given d k s h = ⊎_elim (λ a. inl a) (λ b. inr (ltb-true (index d s) k b)) (or_cases (is_given s) (nat_lt (index d s) k) h)

read_is : (d k : ℕ) (s : Spot) → may_read d k s ≡ true → IsRead d k s
read_is d k s h =
    let a = and_parts (is_spot d s) (not (is_clock s) && (is_given s || nat_lt (index d s) k)) h in
    let b = and_parts (not (is_clock s)) (is_given s || nat_lt (index d s) k) a.1 in
    record { spot = a.0; no_clock = not-true (is_clock s) b.0; before = before_or_given d k s b.1 }

driven_is : (d k : ℕ) (s : Spot) → may_drive d k s ≡ true → IsDriven d k s
driven_is d k s h =
    let a = and_parts (is_spot d s) (not (is_given s) && index d s == k) h in
    let b = and_parts (not (is_given s)) (index d s == k) a.1 in
    record { spot = a.0; inner = not-true (is_given s) b.0; number = eqb-true (index d s) k b.1 }

step_is : (d k : ℕ) (s : Step) → is_step_at d k s ≡ true → IsStep d k s
step_is d k (gate a b y) h =
    let p = and_parts (may_read d k a) (may_read d k b && may_drive d k y) h in
    let q = and_parts (may_read d k b) (may_drive d k y) p.1 in
    (read_is d k a p.0, read_is d k b q.0, driven_is d k y q.1)
step_is d k (register a y) h =
    let p = and_parts (may_read d k a) (may_drive d k y) h in
    (read_is d k a p.0, driven_is d k y p.1)

pub steps_are : (d k : ℕ) (ss : List Step) → are_steps d k ss ≡ true → AreSteps d k ss
steps_are d k [] h = tt
steps_are d k (s ∷ ss) h = let p = and_parts (is_step_at d k s) (are_steps d (k + 1) ss) h in (step_is d k s p.0, steps_are d (k + 1) ss p.1)

pub driven_of : (d k : ℕ) (s : Step) → IsStep d k s → IsDriven d k (output s)
driven_of d k (gate a b y) h = h.2
driven_of d k (register a y) h = h.1

-- ---- for each number of shares

is_or_else : (P : ℕ → Type 0) (n d : ℕ) → P n → ((d ≡ n → ⊥) → P d) → P d
is_or_else P n d p f = ⊎_elim (λ e. subst P (sym e) p) f (cases_eq d n)

-- what holds for each number of shares, one after another
pub for_each_shares : (P : ℕ → Type 0) → P 2 → P 3 → P 4 → P 5 → P 6 → P 7 → P 8 → P 9 → P 10 → P 11 → P 12 → P 13 → P 14 → P 15 → P 16
    → (d : ℕ) → 2 ≤ d → d ≤ 16 → P d
for_each_shares P p2 p3 p4 p5 p6 p7 p8 p9 p10 p11 p12 p13 p14 p15 p16 d low high =
    is_or_else P 2 d p2 (λ n2.
    is_or_else P 3 d p3 (λ n3.
    is_or_else P 4 d p4 (λ n4.
    is_or_else P 5 d p5 (λ n5.
    is_or_else P 6 d p6 (λ n6.
    is_or_else P 7 d p7 (λ n7.
    is_or_else P 8 d p8 (λ n8.
    is_or_else P 9 d p9 (λ n9.
    is_or_else P 10 d p10 (λ n10.
    is_or_else P 11 d p11 (λ n11.
    is_or_else P 12 d p12 (λ n12.
    is_or_else P 13 d p13 (λ n13.
    is_or_else P 14 d p14 (λ n14.
    is_or_else P 15 d p15 (λ n15.
    is_or_else P 16 d p16 (λ n16.
    absurd (omega arith))))))))))))))))
