-- The exclusive or of many bits.
use Rattle.std.proofs.Common.{◌≡◌, ℕ, zero, suc, ◌+◌, ◌-◌, ◌<◌, ◌≤◌, Bool, true, false, ◌&&◌, ◌==◌, nat_lt, cond, List, [], ◌∷◌, ◌++◌, map, refl, sym, ap, ◌∙◌, arith, ⊎_elim}
use mathlib.Core.Bool.{xor}
use Rattle.std.specs.List.{flat_map, range_with_len, filter}
use Rattle.std.proofs.lemmas.Bool.{cases_lt, cases_eq, eq-eqb, ne_eqb, lt-ltb, le-ltb}
use Rattle.std.proofs.lemmas.List.{map-append}
use Rattle.circuit_types.specs.declared.roles.InputRole.{InputRole}
use Rattle.circuit_types.specs.declared.roles.Role.{Role}
use Rattle.circuit_types.specs.declared.roles.Role.TheVariants.{Share, Random, Public, Clock, Held}
use Rattle.circuit_types.specs.declared.roles.Roles.{Roles}
use Rattle.circuit_types.specs.Worlds.{is_drawn, drawn_sum}
use Rattle.expr_table.specs.Values as values
use Rattle.term_build.specs.InputTerms.{is_share, share_bits, drawn_bits}

-- the two words for the exclusive or of two bits
pub xor-values : (a b : Bool) → values.xor a b ≡ xor a b
unfolding xor
xor-values true true = refl
xor-values true false = refl
xor-values false true = refl
xor-values false false = refl

pub xor-false : (a : Bool) → xor a false ≡ a
unfolding xor
xor-false true = refl
xor-false false = refl

pub false-xor : (a : Bool) → xor false a ≡ a
unfolding xor
false-xor true = refl
false-xor false = refl

pub xor-self : (a : Bool) → xor a a ≡ false
unfolding xor
xor-self true = refl
xor-self false = refl

pub xor_assoc : (a b c : Bool) → xor (xor a b) c ≡ xor a (xor b c)
unfolding xor
xor_assoc true true true = refl
xor_assoc true true false = refl
xor_assoc true false true = refl
xor_assoc true false false = refl
xor_assoc false true true = refl
xor_assoc false true false = refl
xor_assoc false false true = refl
xor_assoc false false false = refl

pub xor_comm : (a b : Bool) → xor a b ≡ xor b a
unfolding xor
xor_comm true true = refl
xor_comm true false = refl
xor_comm false true = refl
xor_comm false false = refl

-- two pairs, joined the other way
pub xor_across : (a b c d : Bool) → xor (xor a b) (xor c d) ≡ xor (xor a c) (xor b d)
xor_across a b c d =
    xor_assoc a b (xor c d) ∙ ap (xor a) (sym (xor_assoc b c d) ∙ ap (λ x. xor x d) (xor_comm b c) ∙ xor_assoc c b d) ∙ sym (xor_assoc a c (xor b d))

-- the exclusive or of all bits of a list
abbrev pub parity : List Bool → Bool
parity [] = false
parity (b ∷ bs) = xor b (parity bs)

pub parity-append : (cs bs : List Bool) → parity (cs ++ bs) ≡ xor (parity cs) (parity bs)
parity-append [] bs = sym (false-xor (parity bs))
parity-append (c ∷ cs) bs = ap (xor c) (parity-append cs bs) ∙ sym (xor_assoc c (parity cs) (parity bs))

parity-flat_map : {X Y : Type 0} (f : Y → Bool) (g : X → List Y) (xs : List X) → parity (map f (flat_map g xs)) ≡ parity (map (λ x. parity (map f (g x))) xs)
parity-flat_map f g [] = refl
parity-flat_map f g (x ∷ xs) =
    ap parity (map-append f (g x) (flat_map g xs)) ∙ parity-append (map f (g x)) (map f (flat_map g xs)) ∙ ap (xor (parity (map f (g x)))) (parity-flat_map f g xs)

parity-same : {X : Type 0} (f g : X → Bool) → ((x : X) → f x ≡ g x) → (xs : List X) → parity (map f xs) ≡ parity (map g xs)
parity-same f g same [] = refl
parity-same f g same (x ∷ xs) = let a = same x in let b = parity-same f g same xs in λ i. xor (a i) (b i)

parity-none : {X : Type 0} (xs : List X) → parity (map (λ x. false) xs) ≡ false
parity-none [] = refl
parity-none (x ∷ xs) = false-xor (parity (map (λ x. false) xs)) ∙ parity-none xs

parity-xor : {X : Type 0} (f g : X → Bool) (xs : List X) → parity (map (λ x. xor (f x) (g x)) xs) ≡ xor (parity (map f xs)) (parity (map g xs))
parity-xor f g [] = sym (false-xor false)
parity-xor f g (x ∷ xs) = ap (xor (xor (f x) (g x))) (parity-xor f g xs) ∙ xor_across (f x) (g x) (parity (map f xs)) (parity (map g xs))

-- a number below the first of a range, or past it, is not met; any other is met once
below-range : (n a j : ℕ) → j < a → parity (map (λ i. j == i) (range_with_len a n)) ≡ false
below-range zero a j lt = refl
below-range (suc n) a j lt =
    ap (λ b. xor b (parity (map (λ i. j == i) (range_with_len (a + 1) n)))) (ne_eqb j a (λ e. omega arith)) ∙ false-xor (parity (map (λ i. j == i) (range_with_len (a + 1) n))) ∙ below-range n (a + 1) j (omega arith)

past-range : (n a j : ℕ) → a + n ≤ j → parity (map (λ i. j == i) (range_with_len a n)) ≡ false
past-range zero a j le = refl
past-range (suc n) a j le =
    ap (λ b. xor b (parity (map (λ i. j == i) (range_with_len (a + 1) n)))) (ne_eqb j a (λ e. omega arith)) ∙ false-xor (parity (map (λ i. j == i) (range_with_len (a + 1) n))) ∙ past-range n (a + 1) j (omega arith)

in-range : (n a j : ℕ) → a ≤ j → j < a + n → parity (map (λ i. j == i) (range_with_len a n)) ≡ true
in-range zero a j le lt = absurd (omega arith)
in-range (suc n) a j le lt =
    ⊎_elim
    (λ e. ap (λ b. xor b (parity (map (λ i. j == i) (range_with_len (a + 1) n)))) (eq-eqb j a e) ∙ ap (xor true) (below-range n (a + 1) j (omega arith)) ∙ xor-false true)
    (λ ne. ap (λ b. xor b (parity (map (λ i. j == i) (range_with_len (a + 1) n)))) (ne_eqb j a ne) ∙ false-xor (parity (map (λ i. j == i) (range_with_len (a + 1) n))) ∙ in-range n (a + 1) j (omega arith) (omega arith))
    (cases_eq j a)

met-once : (n j shares : ℕ) → n ≡ shares - 1 → parity (map (λ i. j == i) (range_with_len 0 n)) ≡ nat_lt (j + 1) shares
met-once n j shares is =
    ⊎_elim
    (λ lt. in-range n 0 j (omega arith) (omega arith) ∙ sym (lt-ltb (j + 1) shares lt))
    (λ ge. past-range n 0 j (omega arith) ∙ sym (le-ltb (j + 1) shares ge))
    (cases_lt (j + 1) shares)

parity-and : (p v : Bool) (f : ℕ → Bool) (xs : List ℕ) → parity (map (λ i. (p && f i) && v) xs) ≡ ((p && parity (map f xs)) && v)
parity-and true true f xs = parity-same (λ i. f i && true) f (λ i. and-true (f i)) xs ∙ sym (and-true (parity (map f xs)))
  where
    and-true : (b : Bool) → (b && true) ≡ b
    and-true true = refl
    and-true false = refl
parity-and true false f xs = parity-same (λ i. f i && false) (λ i. false) (λ i. and-false (f i)) xs ∙ parity-none xs ∙ sym (and-false (parity (map f xs)))
  where
    and-false : (b : Bool) → (b && false) ≡ false
    and-false true = refl
    and-false false = refl
parity-and false v f xs = parity-none xs

-- the bits that are a share of a secret, from a list of inputs
abbrev bits_in : List InputRole → ℕ → ℕ → List ℕ
bits_in inputs s i = map (λ (x : InputRole). x.bit) (filter (λ (x : InputRole). is_share s i x.role) inputs)

-- what an input adds to the sum, if it has this role and this bit
abbrev role_part : Roles → ℕ → Role → Bool → Bool
role_part roles s (Share t j) v = (t == s && is_drawn roles j) && v
role_part roles s other v = false

module _ (roles : Roles) (s : ℕ) (f : ℕ → Bool) where
  abbrev drawn : List ℕ
  drawn = range_with_len 0 (roles.shares - 1)

  here : (role : Role) (v : Bool) → parity (map (λ i. is_share s i role && v) drawn) ≡ role_part roles s role v
  here (Share t j) v = parity-and (t == s) v (λ i. j == i) drawn ∙ ap (λ b. (t == s && b) && v) (met-once (roles.shares - 1) j roles.shares refl)
  here Random v = parity-none drawn
  here Public v = parity-none drawn
  here Clock v = parity-none drawn
  here (Held b) v = parity-none drawn

  one_more : (x : InputRole) (inputs : List InputRole) (i : ℕ) → parity (map f (bits_in (x ∷ inputs) s i)) ≡ xor (is_share s i x.role && f x.bit) (parity (map f (bits_in inputs s i)))
  one_more x inputs i = by (is_share s i x.role)
    where
      by : (b : Bool) → parity (map f (map (λ (y : InputRole). y.bit) (cond b (x ∷ filter (λ (y : InputRole). is_share s i y.role) inputs) (filter (λ (y : InputRole). is_share s i y.role) inputs)))) ≡ xor (b && f x.bit) (parity (map f (bits_in inputs s i)))
      by true = refl
      by false = sym (false-xor (parity (map f (bits_in inputs s i))))

  first : (bit : ℕ) (role : Role) (inputs : List InputRole) → xor (role_part roles s role (f bit)) (drawn_sum roles s f inputs) ≡ drawn_sum roles s f ((record { bit = bit; role = role }) ∷ inputs)
  first bit (Share t j) inputs = refl
  first bit Random inputs = refl
  first bit Public inputs = refl
  first bit Clock inputs = refl
  first bit (Held b) inputs = refl

  over : (inputs : List InputRole) → parity (map (λ i. parity (map f (bits_in inputs s i))) drawn) ≡ drawn_sum roles s f inputs
  over [] = parity-none drawn
  over (x ∷ inputs) =
      parity-same (λ i. parity (map f (bits_in (x ∷ inputs) s i))) (λ i. xor (is_share s i x.role && f x.bit) (parity (map f (bits_in inputs s i)))) (one_more x inputs) drawn
      ∙ parity-xor (λ i. is_share s i x.role && f x.bit) (λ i. parity (map f (bits_in inputs s i))) drawn
      ∙ ap (λ b. xor b (parity (map (λ i. parity (map f (bits_in inputs s i))) drawn))) (here x.role (f x.bit))
      ∙ ap (xor (role_part roles s x.role (f x.bit))) (over inputs)
      ∙ first x.bit x.role inputs

  -- in the order of the shares or of the ports: the drawn shares have one sum
  pub drawn_parity : parity (map f (drawn_bits roles s)) ≡ drawn_sum roles s f roles.inputs
  drawn_parity = parity-flat_map f (share_bits roles s) drawn ∙ over roles.inputs
