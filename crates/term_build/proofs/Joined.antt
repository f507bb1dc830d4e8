-- The shares of a secret bit join to it.
use Rattle.std.proofs.Common.{◌≡◌, ℕ, suc, ◌+◌, ◌-◌, ◌<◌, Bool, true, false, not, ◌&&◌, ◌==◌, cond, List, [], ◌∷◌, length, get_or, count_by, Some, All, refl, sym, ap, ◌∙◌, arith, ⊎_elim}
use mathlib.Core.Bool.{xor}
use Rattle.std.specs.Option.{option_map_or}
use Rattle.std.proofs.lemmas.Bool.{cases_Bool, cases_eq, cases_lt, eq-eqb, ne_eqb, lt-ltb, le-ltb}
use Rattle.std.proofs.lemmas.List.Sums.{sum_by-cons}
use Rattle.circuit_types.specs.declared.circuit.Timing.{Timing}
use Rattle.circuit_types.specs.declared.nets.Nets.{Nets}
use Rattle.circuit_types.specs.declared.roles.InputRole.{InputRole}
use Rattle.circuit_types.specs.declared.roles.Role.{Role}
use Rattle.circuit_types.specs.declared.roles.Role.TheVariants.{Share, Random, Public, Clock, Held}
use Rattle.circuit_types.specs.declared.roles.Roles.{Roles}
use Rattle.circuit_types.specs.InputBits.{FitsNets}
use Rattle.circuit_types.specs.Worlds.{secrets, secret, input, is_drawn, input_leaves, random_leaves, bit_of, drawn_sum, role_bit, world}
use Rattle.expr_table.specs.Values.{bit, eval}
use Rattle.term_build.specs.InputTerms.{bit_term, is_share}
use Rattle.term_build.specs.Laws.{shares_sum}
use Rattle.term_build.specs.TermInstance.{HasEachShare, IsKnownShare}
use Rattle.term_build.proofs.InputRoles.{role-at}
use Rattle.term_build.proofs.Numbers.{number-secret}
use Rattle.term_build.proofs.Sums.{xor-false, false-xor, xor-self, xor_assoc, xor_comm, xor_across}
use Rattle.term_build.proofs.TermValues.{bit-value, number-bit}

both : (p q v : Bool) → xor (p && v) (q && v) ≡ (xor p q && v)
unfolding xor
both true true true = refl
both true true false = refl
both true false true = refl
both true false false = refl
both false true true = refl
both false true false = refl
both false false true = refl
both false false false = refl

-- a last share of the secret
abbrev is_last : Roles → ℕ → Role → Bool
is_last roles s (Share t i) = t == s && not (is_drawn roles i)
is_last roles s other = false

-- whether there is an odd number of them
abbrev odd_lasts : Roles → ℕ → List InputRole → Bool
odd_lasts roles s [] = false
odd_lasts roles s (x ∷ xs) = xor (is_last roles s x.role) (odd_lasts roles s xs)

module _ (roles : Roles) (s : ℕ) (drawn_bit : ℕ → Bool) (last_bit : Bool) where
  -- the values of inputs of the secret are as given
  abbrev Valued : (ℕ → Bool) → List InputRole → Type 0
  Valued value [] = Unit {0}
  Valued value (x ∷ xs) = ((t i : ℕ) → x.role ≡ Share t i → t ≡ s → value x.bit ≡ cond (is_drawn roles i) (drawn_bit x.bit) last_bit) × Valued value xs

  part : (t i b : ℕ) (v : Bool) → (t ≡ s → v ≡ cond (is_drawn roles i) (drawn_bit b) last_bit) → (t == s && v) ≡ xor ((t == s && is_drawn roles i) && drawn_bit b) ((t == s && not (is_drawn roles i)) && last_bit)
  part t i b v is = ⊎_elim
      (λ e. ap (λ w. t == s && w) (is e) ∙ by (t == s) (eq-eqb t s e) (is_drawn roles i))
      (λ ne. other (t == s) (ne_eqb t s ne))
      (cases_eq t s)
    where
      by : (m : Bool) → m ≡ true → (d : Bool) → (m && cond d (drawn_bit b) last_bit) ≡ xor ((m && d) && drawn_bit b) ((m && not d) && last_bit)
      by true e true = sym (xor-false (drawn_bit b))
      by true e false = sym (false-xor last_bit)
      by false e d = absurd cc

      other : (m : Bool) → m ≡ false → (m && v) ≡ xor ((m && is_drawn roles i) && drawn_bit b) ((m && not (is_drawn roles i)) && last_bit)
      other true e = absurd cc
      other false e = sym (xor-false false)

  none : (value : ℕ → Bool) (xs : List InputRole) → shares_sum s value xs ≡ xor (drawn_sum roles s drawn_bit xs) (odd_lasts roles s xs && last_bit)
      → xor false (shares_sum s value xs) ≡ xor (xor false (drawn_sum roles s drawn_bit xs)) (xor false (odd_lasts roles s xs) && last_bit)
  none value xs rest =
      false-xor (shares_sum s value xs) ∙ rest
      ∙ (λ j. xor (sym (false-xor (drawn_sum roles s drawn_bit xs)) j) (sym (false-xor (odd_lasts roles s xs)) j && last_bit))

  one : (value : ℕ → Bool) (b : ℕ) (role : Role) (xs : List InputRole) → ((t i : ℕ) → role ≡ Share t i → t ≡ s → value b ≡ cond (is_drawn roles i) (drawn_bit b) last_bit)
      → shares_sum s value xs ≡ xor (drawn_sum roles s drawn_bit xs) (odd_lasts roles s xs && last_bit)
      → shares_sum s value ((record { bit = b; role = role }) ∷ xs) ≡ xor (drawn_sum roles s drawn_bit ((record { bit = b; role = role }) ∷ xs)) (odd_lasts roles s ((record { bit = b; role = role }) ∷ xs) && last_bit)
  one value b (Share t i) xs is rest =
      (λ j. xor (part t i b (value b) (is t i refl) j) (rest j))
      ∙ xor_across ((t == s && is_drawn roles i) && drawn_bit b) ((t == s && not (is_drawn roles i)) && last_bit) (drawn_sum roles s drawn_bit xs) (odd_lasts roles s xs && last_bit)
      ∙ ap (xor (xor ((t == s && is_drawn roles i) && drawn_bit b) (drawn_sum roles s drawn_bit xs))) (both (t == s && not (is_drawn roles i)) (odd_lasts roles s xs) last_bit)
  one value b Random xs is rest = none value xs rest
  one value b Public xs is rest = none value xs rest
  one value b Clock xs is rest = none value xs rest
  one value b (Held v) xs is rest = none value xs rest

  all : (value : ℕ → Bool) (xs : List InputRole) → Valued value xs → shares_sum s value xs ≡ xor (drawn_sum roles s drawn_bit xs) (odd_lasts roles s xs && last_bit)
  all value [] valued = sym (xor-false false)
  all value (x ∷ xs) valued = one value x.bit x.role xs valued.0 (all value xs valued.1)

-- where one input is the last share, there is an odd number of them
last-known : (roles : Roles) (s : ℕ) (role : Role) → IsKnownShare roles role → is_last roles s role ≡ is_share s (roles.shares - 1) role
last-known roles s (Share t i) known = ap (λ b. t == s && b) (⊎_elim
    (λ lt. ap not (lt-ltb (i + 1) roles.shares lt) ∙ sym (ne_eqb i (roles.shares - 1) (λ e. omega arith)))
    (λ ge. ap not (le-ltb (i + 1) roles.shares ge) ∙ sym (eq-eqb i (roles.shares - 1) (omega (arith, known.1))))
    (cases_lt (i + 1) roles.shares))
last-known roles s Random known = refl
last-known roles s Public known = refl
last-known roles s Clock known = refl
last-known roles s (Held v) known = refl

module _ (roles : Roles) (s : ℕ) where
  abbrev test : InputRole → Bool
  test x = is_share s (roles.shares - 1) x.role

  counted : (x : InputRole) (xs : List InputRole) (b : Bool) → test x ≡ b → count_by test (x ∷ xs) ≡ cond b 1 0 + count_by test xs
  counted x xs b e = sum_by-cons (λ y. cond (test y) 1 0) x xs ∙ ap (λ c. cond c 1 0 + count_by test xs) e

  odd-none : (xs : List InputRole) → All (λ (x : InputRole). IsKnownShare roles x.role) xs → count_by test xs ≡ 0 → odd_lasts roles s xs ≡ false
  odd-none [] known none = refl
  odd-none (x ∷ xs) known none = ⊎_elim
      (λ passes. absurd (omega (arith, counted x xs true passes)))
      (λ fails. ap (λ b. xor b (odd_lasts roles s xs)) (last-known roles s x.role (known 0 x (omega arith)) ∙ fails) ∙ false-xor (odd_lasts roles s xs)
      ∙ odd-none xs (λ j d lt. known (suc j) d (omega arith)) (omega (arith, counted x xs false fails)))
      (cases_Bool (test x))

  odd-one : (xs : List InputRole) → All (λ (x : InputRole). IsKnownShare roles x.role) xs → count_by test xs ≡ 1 → odd_lasts roles s xs ≡ true
  odd-one [] known one = absurd cc
  odd-one (x ∷ xs) known one = ⊎_elim
      (λ passes. ap (λ b. xor b (odd_lasts roles s xs)) (last-known roles s x.role (known 0 x (omega arith)) ∙ passes)
      ∙ ap (xor true) (odd-none xs (λ j d lt. known (suc j) d (omega arith)) (omega (arith, counted x xs true passes))) ∙ xor-false true)
      (λ fails. ap (λ b. xor b (odd_lasts roles s xs)) (last-known roles s x.role (known 0 x (omega arith)) ∙ fails) ∙ false-xor (odd_lasts roles s xs)
      ∙ odd-one xs (λ j d lt. known (suc j) d (omega arith)) (omega (arith, counted x xs false fails)))
      (cases_Bool (test x))

valued-from : (roles : Roles) (s : ℕ) (drawn_bit : ℕ → Bool) (last_bit : Bool) (value : ℕ → Bool) (xs : List InputRole)
    → ((k : ℕ) (d : InputRole) → k < length xs → (t i : ℕ) → (get_or xs k d).role ≡ Share t i → t ≡ s → value (get_or xs k d).bit ≡ cond (is_drawn roles i) (drawn_bit (get_or xs k d).bit) last_bit)
    → Valued roles s drawn_bit last_bit value xs
valued-from roles s drawn_bit last_bit value [] each = tt
valued-from roles s drawn_bit last_bit value (x ∷ xs) each = (each 0 x (omega arith), valued-from roles s drawn_bit last_bit value xs (λ k d lt. each (suc k) d (omega arith)))

world-share : (roles : Roles) (nets : Nets) (timing : Timing) (given drawn : List Bool) (cycle s : ℕ) → FitsNets roles nets
    → (k : ℕ) (d : InputRole) → k < length roles.inputs → (t i : ℕ) → (get_or roles.inputs k d).role ≡ Share t i → t ≡ s
    → world secrets roles timing given drawn (get_or roles.inputs k d).bit cycle
    ≡ cond (is_drawn roles i) (bit_of (random_leaves secrets roles timing) drawn (input (get_or roles.inputs k d).bit 0))
    (xor (bit_of (input_leaves secrets roles timing) given (secret s)) (drawn_sum roles s (λ b. bit_of (random_leaves secrets roles timing) drawn (input b 0)) roles.inputs))
unfolding world
world-share roles nets timing given drawn cycle s fits k d inside t i is same =
    let b = (get_or roles.inputs k d).bit in
    let f : Role → Bool = λ r. role_bit secrets roles (bit_of (input_leaves secrets roles timing) given) (bit_of (random_leaves secrets roles timing) drawn) b cycle r in
    ap (λ o. option_map_or f o false) (role-at roles.inputs fits.one_role k d inside ∙ ap (λ r. Some r) is)
    ∙ ap (λ u. cond (is_drawn roles i) (bit_of (random_leaves secrets roles timing) drawn (input b 0)) (xor (bit_of (input_leaves secrets roles timing) given (secret u)) (drawn_sum roles u (λ b. bit_of (random_leaves secrets roles timing) drawn (input b 0)) roles.inputs))) same

pub shares-join : (roles : Roles) (nets : Nets) (timing : Timing) (given drawn : List Bool) (cycle s : ℕ) → FitsNets roles nets → HasEachShare roles → s < length roles.secrets
    → shares_sum s (λ b. eval given drawn (bit_term secrets roles timing b cycle)) roles.inputs ≡ bit given s
shares-join roles nets timing given drawn cycle s fits has lt =
    let drawn_bit : ℕ → Bool = λ b. bit_of (random_leaves secrets roles timing) drawn (input b 0) in
    let sum = drawn_sum roles s drawn_bit roles.inputs in
    let whole = bit_of (input_leaves secrets roles timing) given (secret s) in
    let value : ℕ → Bool = λ b. eval given drawn (bit_term secrets roles timing b cycle) in
    let odd = odd-one roles s roles.inputs has.known (has.once s (roles.shares - 1) lt (omega (arith, has.some s lt))) in
    all roles s drawn_bit (xor whole sum) value roles.inputs
    (valued-from roles s drawn_bit (xor whole sum) value roles.inputs
    (λ k d inside t i is same. bit-value given drawn secrets roles timing (get_or roles.inputs k d).bit cycle ∙ world-share roles nets timing given drawn cycle s fits k d inside t i is same))
    ∙ ap (λ b. xor sum (b && xor whole sum)) odd
    ∙ xor_comm sum (xor whole sum) ∙ xor_assoc whole sum sum ∙ ap (xor whole) (xor-self sum) ∙ xor-false whole
    ∙ sym (number-bit (input_leaves secrets roles timing) given (secret s)) ∙ ap (λ o. option_map_or (bit given) o false) (number-secret roles timing s lt)
