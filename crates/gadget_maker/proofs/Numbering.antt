-- How pairs are numbered.
use Rattle.std.proofs.Common.{◌≡◌, ℕ, zero, suc, ◌+◌, ◌-◌, ◌*◌, ◌/◌, ◌<◌, ◌≤◌, cond, nat_lt, List, [], ◌∷◌, refl, sym, ap, subst, ◌∙◌, arith}
use Rattle.std.proofs.lemmas.Bool.{lt-ltb, le-ltb}
use Rattle.std.proofs.Math.Nat.{mul-suc, suc-mul}
use Rattle.gadget_maker.specs.Gadget.{pair_count, pairs_before, pair_number, crossing, crossings_at}
use Rattle.gadget_maker.specs.declared.pairs.Crossing.{Crossing}

pub mirrored : (d i j : ℕ) → i < j → (n : ℕ) × (crossings_at d i j ≡ crossing i j n ∷ []) × (crossings_at d j i ≡ crossing j i n ∷ [])
mirrored d i j lt =
    let one = crossing i j (pair_number d i j) ∷ [] in
    let other = crossing j i (pair_number d i j) ∷ [] in
    let never : List Crossing = crossing j i (pair_number d j i) ∷ [] in
    let above : i ≤ j = omega arith in (
      pair_number d i j,
      ap (λ b. cond b one (cond (nat_lt j i) (crossing i j (pair_number d j i) ∷ []) [])) (lt-ltb i j lt),
      ap (λ b. cond b never (cond (nat_lt i j) other [])) (le-ltb j i above) ∙ ap (λ b. cond b other []) (lt-ltb i j lt),
    )

pub along_row : (d i j : ℕ) → i < j → pair_number d i (j + 1) ≡ pair_number d i j + 1
along_row d i j lt = omega arith

down_step : (d i : ℕ) → i + 2 < d → pairs_before d (suc i) + (i + 2 - (i + 1) - 1) ≡ pairs_before d i + (d - 1 - i - 1) + 1
down_step d i lt =
    let e : pairs_before d (suc i) ≡ pairs_before d i + (d - 1 - i) = refl in
    omega arith

pub next_row : (d i : ℕ) → i + 2 < d → pair_number d (i + 1) (i + 2) ≡ pair_number d i (d - 1) + 1
next_row d i lt =
    let e : i + 1 ≡ suc i = omega arith in
    ap (λ k. pairs_before d k + (i + 2 - (i + 1) - 1)) e ∙ down_step d i lt

-- twice the pairs before share i are i * (2 * d - i - 1)
twice_before : (d i : ℕ) → i ≤ d → 2 * pairs_before d i + i * suc i ≡ 2 * (i * d)
twice_before d zero le = omega arith
twice_before d (suc i) le =
    let before : 2 * pairs_before d i + i * suc i ≡ 2 * (i * d) = twice_before d i (omega arith) in
    let next : pairs_before d (suc i) ≡ pairs_before d i + (d - 1 - i) = refl in
    let a : suc i * suc (suc i) ≡ suc i * suc i + suc i = mul-suc (suc i) (suc i) in
    let b : suc i * suc i ≡ i * suc i + suc i = suc-mul i (suc i) in
    let e : suc i * d ≡ i * d + d = suc-mul i d in
    omega arith

more_before : (d i k : ℕ) → pairs_before d i ≤ pairs_before d (i + k)
more_before d i zero =
    let e : i ≡ i + 0 = omega arith in
    let P : ℕ → Type 0 = λ v. pairs_before d i ≤ pairs_before d v in
    subst P e (omega arith)
more_before d i (suc k) =
    let e : suc (i + k) ≡ i + suc k = omega arith in
    let P : ℕ → Type 0 = λ v. pairs_before d i ≤ pairs_before d v in
    let h : pairs_before d i ≤ pairs_before d (i + k) = more_before d i k in
    let next : pairs_before d (suc (i + k)) ≡ pairs_before d (i + k) + (d - 1 - (i + k)) = refl in
    subst P e (omega arith)

all_before : (d : ℕ) → 2 * pairs_before d d ≡ d * (d - 1)
all_before zero = refl
all_before (suc e) =
    let whole : 2 * pairs_before (suc e) (suc e) + suc e * suc (suc e) ≡ 2 * (suc e * suc e) = twice_before (suc e) (suc e) (omega arith) in
    let a : suc e * suc (suc e) ≡ suc e * suc e + suc e = mul-suc (suc e) (suc e) in
    let b : suc e * suc e ≡ suc e * e + suc e = mul-suc (suc e) e in
    let half : 2 * pairs_before (suc e) (suc e) ≡ suc e * e = omega arith in
    let one : e ≡ suc e - 1 = omega arith in
    half ∙ ap (λ v. suc e * v) one

pub random_within : (d i j : ℕ) → i < j → j < d → pair_number d i j < pair_count d
random_within d i j lt in_d =
    let next : pairs_before d (suc i) ≡ pairs_before d i + (d - 1 - i) = refl in
    let e : suc i + (d - suc i) ≡ d = omega arith in
    let P : ℕ → Type 0 = λ v. pairs_before d (suc i) ≤ pairs_before d v in
    let up : pairs_before d (suc i) ≤ pairs_before d d = subst P e (more_before d (suc i) (d - suc i)) in
    let all : 2 * pairs_before d d ≡ d * (d - 1) = all_before d in
    omega arith
