-- The structural order of terms.
use Rattle.std.proofs.Common.{◌≡◌, ℕ, Bool, true, false, Ordering, Less, Equal, Greater, refl, sym, ap, ◌∙◌, arith, ◌<◌, ◌≤◌, ⊎_elim}
use Rattle.std.proofs.lemmas.Bool.{cases_eq, cases_lt}
use Rattle.std.proofs.lemmas.Map.Lookups.{exact_unsigned}
use Rattle.std.proofs.lemmas.Bool.Decides.{nat_tests}
use Rattle.std.specs.Ordering.{nat_cmp, ordering_then, ordering_reverse, is_eq}
use Rattle.std.specs.Cmp.{IsTotalOrder}
use Rattle.std.proofs.lemmas.Cmp.{nat_cmp_total}
use Rattle.expr_table.specs.Term.{Term, Zero, One, Input, Random, And, Xor, kind, term_cmp, is_same}

nat_cmp-self : (n : ℕ) → nat_cmp n n ≡ Equal
nat_cmp-self n = grind (arith, nat_tests)

-- a term is the same as itself
pub cmp_self : (t : Term) → term_cmp t t ≡ Equal
cmp_self Zero = refl
cmp_self One = refl
cmp_self (Input i) = nat_cmp-self i
cmp_self (Random i) = nat_cmp-self i
cmp_self (And a b) = ap (λ o. ordering_then o (term_cmp b b)) (cmp_self a) ∙ cmp_self b
cmp_self (Xor a b) = ap (λ o. ordering_then o (term_cmp b b)) (cmp_self a) ∙ cmp_self b

then_parts : (o p : Ordering) → ordering_then o p ≡ Equal → (o ≡ Equal) × (p ≡ Equal)
then_parts Equal p h = (refl, h)
then_parts Less p h = cc
then_parts Greater p h = cc

-- terms that compare equal are one
pub cmp_exact : (s t : Term) → term_cmp s t ≡ Equal → s ≡ t
cmp_exact Zero Zero h = refl
cmp_exact One One h = refl
cmp_exact (Input i) (Input j) h = ap Input (exact_unsigned i j h)
cmp_exact (Random i) (Random j) h = ap Random (exact_unsigned i j h)
cmp_exact (And a b) (And c d) h =
    let p = then_parts (term_cmp a c) (term_cmp b d) h in let x = cmp_exact a c p.0 in let y = cmp_exact b d p.1 in cc
cmp_exact (Xor a b) (Xor c d) h =
    let p = then_parts (term_cmp a c) (term_cmp b d) h in let x = cmp_exact a c p.0 in let y = cmp_exact b d p.1 in cc
cmp_exact _ _ h = cc

Equal-from_eq : (o : Ordering) → is_eq o ≡ true → o ≡ Equal
Equal-from_eq Equal h = refl
Equal-from_eq Less h = cc
Equal-from_eq Greater h = cc

pub is_same-exact : (s t : Term) → is_same s t ≡ true → s ≡ t
is_same-exact s t h = cmp_exact s t (Equal-from_eq (term_cmp s t) h)

pub is_same-equal : (s t : Term) → s ≡ t → is_same s t ≡ true
is_same-equal s t e = ap (is_same s) (sym e) ∙ ap is_eq (cmp_self s)

pub is_same-other : (s t : Term) → (s ≡ t → ⊥) → is_same s t ≡ false
is_same-other s t h = by (is_same s t) refl
  where
    by : (b : Bool) → is_same s t ≡ b → b ≡ false
    by false e = refl
    by true e = absurd (h (is_same-exact s t e))

-- the order of two gates of one kind, by their first sides that differ
pub then_same : (a c : Term) (o : Ordering) → a ≡ c → ordering_then (term_cmp a c) o ≡ o
then_same a c o e = ap (λ p. ordering_then p o) (ap (term_cmp a) (sym e) ∙ cmp_self a)

pub then_other : (a c : Term) (o : Ordering) → (a ≡ c → ⊥) → ordering_then (term_cmp a c) o ≡ term_cmp a c
then_other a c o h = by (term_cmp a c) refl
  where
    by : (p : Ordering) → term_cmp a c ≡ p → ordering_then p o ≡ p
    by Less e = refl
    by Greater e = refl
    by Equal e = absurd (h (cmp_exact a c e))

reverse-then : (o p : Ordering) → ordering_reverse (ordering_then o p) ≡ ordering_then (ordering_reverse o) (ordering_reverse p)
reverse-then Less p = refl
reverse-then Equal p = refl
reverse-then Greater p = refl

turned_pair : (a b c d : Term) → term_cmp a c ≡ ordering_reverse (term_cmp c a) → term_cmp b d ≡ ordering_reverse (term_cmp d b)
    → ordering_then (term_cmp a c) (term_cmp b d) ≡ ordering_reverse (ordering_then (term_cmp c a) (term_cmp d b))
turned_pair a b c d e f = (λ i. ordering_then (e i) (f i)) ∙ sym (reverse-then (term_cmp c a) (term_cmp d b))

-- the order turned round
pub cmp_antisymm : (s t : Term) → term_cmp s t ≡ ordering_reverse (term_cmp t s)
cmp_antisymm Zero Zero = refl
cmp_antisymm One One = refl
cmp_antisymm (Input i) (Input j) = nat_cmp_total.antisymm i j
cmp_antisymm (Random i) (Random j) = nat_cmp_total.antisymm i j
cmp_antisymm (And a b) (And c d) = turned_pair a b c d (cmp_antisymm a c) (cmp_antisymm b d)
cmp_antisymm (Xor a b) (Xor c d) = turned_pair a b c d (cmp_antisymm a c) (cmp_antisymm b d)
cmp_antisymm _ _ = refl

pub Less-from_Greater : (s t : Term) → term_cmp s t ≡ Greater → term_cmp t s ≡ Less
Less-from_Greater s t e = cmp_antisymm t s ∙ ap ordering_reverse e

-- two pairs by their first parts that differ
pairs_trans : (a b c d e f : Term) → (term_cmp a c ≡ Less → term_cmp c e ≡ Less → term_cmp a e ≡ Less) → (term_cmp b d ≡ Less → term_cmp d f ≡ Less → term_cmp b f ≡ Less)
    → ordering_then (term_cmp a c) (term_cmp b d) ≡ Less → ordering_then (term_cmp c e) (term_cmp d f) ≡ Less → ordering_then (term_cmp a e) (term_cmp b f) ≡ Less
pairs_trans a b c d e f first second h k = by (term_cmp a c) (term_cmp c e) refl refl
  where
    last : (o : Ordering) → term_cmp a e ≡ o → ordering_then o (term_cmp b f) ≡ Less → ordering_then (term_cmp a e) (term_cmp b f) ≡ Less
    last o is l = ap (λ q. ordering_then q (term_cmp b f)) is ∙ l

    by : (o p : Ordering) → term_cmp a c ≡ o → term_cmp c e ≡ p → ordering_then (term_cmp a e) (term_cmp b f) ≡ Less
    by Less Less x y = last Less (first x y) refl
    by Less Equal x y = last Less (ap (term_cmp a) (sym (cmp_exact c e y)) ∙ x) refl
    by Equal Less x y = last Less (ap (λ r. term_cmp r e) (cmp_exact a c x) ∙ y) refl
    by Equal Equal x y =
        last Equal (ap (λ r. term_cmp r e) (cmp_exact a c x) ∙ y)
        (second (sym (ap (λ q. ordering_then q (term_cmp b d)) x) ∙ h) (sym (ap (λ q. ordering_then q (term_cmp d f)) y) ∙ k))
    by Less Greater x y = let wrong : Greater ≡ Less = sym (ap (λ q. ordering_then q (term_cmp d f)) y) ∙ k in cc
    by Equal Greater x y = let wrong : Greater ≡ Less = sym (ap (λ q. ordering_then q (term_cmp d f)) y) ∙ k in cc
    by Greater p x y = let wrong : Greater ≡ Less = sym (ap (λ q. ordering_then q (term_cmp b d)) x) ∙ h in cc

-- terms of two kinds
by_kind : (s t : Term) → (kind s ≡ kind t → ⊥) → term_cmp s t ≡ nat_cmp (kind s) (kind t)
by_kind Zero Zero h = refl
by_kind One One h = refl
by_kind (Input i) (Input j) h = absurd (h refl)
by_kind (Random i) (Random j) h = absurd (h refl)
by_kind (And a b) (And c d) h = absurd (h refl)
by_kind (Xor a b) (Xor c d) h = absurd (h refl)
by_kind _ _ h = refl

Less-kinds : (s t : Term) → kind s < kind t → term_cmp s t ≡ Less
Less-kinds s t lt = by_kind s t (λ e. omega arith) ∙ before (kind s) (kind t) lt
  where
    before : (m n : ℕ) → m < n → nat_cmp m n ≡ Less
    before m n lt = grind (arith, nat_tests)

kinds-Less : (s t : Term) → term_cmp s t ≡ Less → kind s ≤ kind t
kinds-Less s t e = ⊎_elim (λ same. omega arith) (λ other. before (kind s) (kind t) (sym (by_kind s t other) ∙ e)) (cases_eq (kind s) (kind t))
  where
    before : (m n : ℕ) → nat_cmp m n ≡ Less → m ≤ n
    before m n e = grind (arith, nat_tests)

kinds_trans : (s t u : Term) → (kind s ≡ kind t → kind t ≡ kind u → ⊥) → term_cmp s t ≡ Less → term_cmp t u ≡ Less → term_cmp s u ≡ Less
kinds_trans s t u apart h l =
    let first = kinds-Less s t h in
    let second = kinds-Less t u l in
    Less-kinds s u (⊎_elim (λ lt. lt) (λ le. absurd (apart (omega arith) (omega arith))) (cases_lt (kind s) (kind u)))

cmp_trans : (s t u : Term) → term_cmp s t ≡ Less → term_cmp t u ≡ Less → term_cmp s u ≡ Less
cmp_trans Zero Zero u h l = cc
cmp_trans One One u h l = cc
cmp_trans (Input i) (Input j) (Input k) h l = nat_cmp_total.trans i j k h l
cmp_trans (Random i) (Random j) (Random k) h l = nat_cmp_total.trans i j k h l
cmp_trans (And a b) (And c d) (And e f) h l = pairs_trans a b c d e f (cmp_trans a c e) (cmp_trans b d f) h l
cmp_trans (Xor a b) (Xor c d) (Xor e f) h l = pairs_trans a b c d e f (cmp_trans a c e) (cmp_trans b d f) h l
cmp_trans s t u h l = kinds_trans s t u (λ e f. omega arith) h l

pub term_cmp_total : IsTotalOrder term_cmp
term_cmp_total = record {
  antisymm = cmp_antisymm;
  trans = cmp_trans;
  congr = λ x y z e. ap (λ w. term_cmp w z) (cmp_exact x y e);
}
